use Rattle.std.proofs.Common.{refl, subst}
use Rattle.dap_msg.specs.Fitting.{FieldsFit}
use Rattle.dap_msg.proofs.ForCallers.{fields_fit}
use Rattle.dap_accessed.proofs.step.ready.Goals as goal

pub returns-in-Attrib : goal.returns-in-Attrib
returns-in-Attrib c =
    rw c.in-Attrib.is (record {
      moves = λ p. refl;
      can = λ files there. subst FieldsFit c.in-Attrib.is (fields_fit c.args.message c.requires);
      quiet = refl;
    })
