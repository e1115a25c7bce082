use Rattle.std.proofs.Common.{ap}
use Rattle.std.specs.Prelude.{Result, Ok, Err, OnOk}
use Rattle.dap_accessed.specs.declared.fault.AddFault.{AddFault}
use Rattle.dap_accessed.specs.Present.{Present}
use Rattle.dap_accessed.proofs.Lateness.{stands_given}
use Rattle.dap_accessed.proofs.accessed.Accessed.add_record.Goals as goal

anyway : {A : Type 0} (r : Result (Unit {0}) AddFault) → A → OnOk r A
anyway (Ok u) a = a
anyway (Err f) a = tt

pub returns-clause-stands : goal.returns-clause-stands
returns-clause-stands c =
    anyway c.add_record.result
    (stands_given c.args.self.now _ (c.is_fresh.ensures.yes c.if-not-is_fresh.false) (ap (λ (p : Present). record p { files = c.add_record.new.self }) c.self.view_is))
