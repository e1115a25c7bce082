-- A message that is handed out.
use Rattle.std.proofs.Common.{◌≡◌, ℕ, List, [], ◌∷◌, ◌++◌, Option, Some, None, ap, ◌∙◌}
use Rattle.std.specs.Prelude.{MatchOption}
use Rattle.std.specs.Option.{option_to_list}
use Rattle.std.specs.declared.vec.Vec.{Vec}
use Rattle.std.specs.declared.alloc.Global.{Global}
use Rattle.nsp_link.specs.Link.{LinkValue, Stands, with_inbox}
use Rattle.nsp_link.specs.Inner.Pieces.{vec_bodies}
use Rattle.nsp_link.proofs.Taken.{taken_given}
use Rattle.nsp_link.proofs.Growing.{stands_given}

pub stands_popped : (v : LinkValue) (size : ℕ) (messages given : List (List ℕ)) (items rest : List (Vec ℕ Global)) (r : Option (Vec ℕ Global)) → v.coming.inbox ≡ vec_bodies items → items ≡ option_to_list r ++ rest → Stands v size messages given
    → MatchOption r (Stands (with_inbox v (vec_bodies rest)) size messages given) (λ m. Stands (with_inbox v (vec_bodies rest)) size messages (given ++ m.items ∷ []))
stands_popped v size messages given items rest None inbox e st = record {
  taken = taken_given v.coming size messages given given (vec_bodies rest) (ap (λ (ms : List (List ℕ)). given ++ ms) (inbox ∙ ap vec_bodies e)) st.taken;
  held = st.held;
}
stands_popped v size messages given items rest (Some m) inbox e st = stands_given v m.items (vec_bodies rest) size messages given (inbox ∙ ap vec_bodies e) st
