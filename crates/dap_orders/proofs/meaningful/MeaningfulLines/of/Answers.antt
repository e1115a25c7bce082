use Rattle.dap_orders.proofs.SaidLemmas.{said_few}
use Rattle.dap_orders.proofs.meaningful.MeaningfulLines.of.Goals as goal

pub returns-clause-short : goal.returns-clause-short
returns-clause-short c = said_few c.args.input.now
