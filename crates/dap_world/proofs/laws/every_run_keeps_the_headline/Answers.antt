use Rattle.dap_world.proofs.Headline.Kept.{headline}
use Rattle.dap_world.proofs.laws.every_run_keeps_the_headline.Goals as goal

pub returns : goal.returns
returns c = λ s reached. headline reached.0 reached.1 s reached.2 reached.3
