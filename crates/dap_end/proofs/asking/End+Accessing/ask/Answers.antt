use Rattle.std.proofs.Common.{◌≡◌, ℕ, false, sym, subst}
use Rattle.std.specs.Prelude.{Result, Ok, Err, IfErr}
use Rattle.dap_accessing.specs.Request.{Request}
use Rattle.dap_accessing.specs.declared.fault.AskFault.{AskFault}
use Rattle.dap_accessing.specs.declared.fault.AskFault.TheVariants.{NoMemory}
use Rattle.dap_accessing.specs.Calls.{AskRefused, IsAdmittedBy}
use Rattle.dap_end.specs.Done.{AskingValue}
use Rattle.dap_end.proofs.asking.End+Accessing.ask.Goals as goal

refused : (request : Request) (old new : AskingValue) (r : Result ℕ AskFault) → old.present.failed ≡ false → IsAdmittedBy old.present request
    → IfErr r (λ f. (new ≡ old) × (f ≡ NoMemory)) → IfErr r (λ f. (new ≡ old) × AskRefused request old.present f)
refused request old new (Ok n) works may wanting = wanting
refused request old new (Err f) works may wanting = (wanting.0, subst (λ (g : AskFault). AskRefused request old.present g) (sym wanting.1) (works, may))

pub returns-clause-err : goal.returns-clause-err
returns-clause-err c = refused c.args.request.now c.args.self.now c.ask_prepared.new.self c.ask_prepared.result c.in_ok-prepared.ensures.works c.in_ok-prepared.ensures.admissible c.ask_prepared.ensures.err
