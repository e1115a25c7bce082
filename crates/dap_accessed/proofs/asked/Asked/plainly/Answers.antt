use Rattle.rec_file.proofs.ForCallers.{plain-look}
use Rattle.std.proofs.Common.{sym, subst}
use Rattle.rec_file.specs.Looks.{IsLook}
use Rattle.dap_accessed.proofs.asked.Asked.plainly.Goals as goal

pub returns-clause-good : goal.returns-clause-good
returns-clause-good c = λ good. record { shape = good; look = subst (IsLook c.args.shape) (sym c.plain.ensures) (plain-look c.args.shape) }
