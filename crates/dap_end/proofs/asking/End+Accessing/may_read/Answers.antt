use Rattle.std.proofs.Common.{◌≡◌, ℕ, List, [], ◌∷◌, Some, subst}
use Rattle.std.specs.Prelude.{slice_get}
use Rattle.dap_fields.specs.Spelling.{AreBytes}
use Rattle.dap_accessing.specs.Present.{ClientState}
use Rattle.dap_end.specs.declared.end.End.TheInside.{Inside}
use Rattle.dap_end.specs.Going.{oldest_message}
use Rattle.dap_end.proofs.asking.End+Accessing.may_read.Goals as goal

oldest_is : (inbox : List (List ℕ)) (bytes : List ℕ) → Some bytes ≡ slice_get inbox 0 → AreBytes bytes → AreBytes (oldest_message inbox)
oldest_is [] bytes e fits = let none : ⊥ = cc in absurd none
oldest_is (x ∷ inbox) bytes e fits = let same : bytes ≡ x = cc in subst AreBytes same fits

pub returns-in-Some-clause-bytes : goal.returns-in-Some-clause-bytes
returns-in-Some-clause-bytes c =
    rw (← c.self.view_is) (subst (λ (x : Inside ClientState). AreBytes (oldest_message x.port.link.coming.inbox)) c.self-inside.view_is (oldest_is _ _ c.in-Some.ensures c.is_left.ensures.bytes))
