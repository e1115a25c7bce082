-- What an admissible request finds: every answer was read.
use Rattle.std.proofs.Common.{◌≡◌, ℕ, List, [], ◌∷◌, ◌++◌, length, map}
use Rattle.dap_msg.specs.declared.message.Message.{Message}
use Rattle.dap_msg.specs.declared.items.Item.{Item}
use Rattle.dap_msg.specs.declared.items.Item.TheVariants.{Whole}
use Rattle.dap_world.specs.Plain.{Answers, IsAdmissible}
use Rattle.dap_msg.specs.BothEnds.{plain_identity}
use Rattle.dap_accessed.specs.Setup.{plain_setup}
use Rattle.dap_accessing.specs.Request.{Request}
use Rattle.dap_accessing.specs.Told.{Told}
use Rattle.dap_accessing.specs.Phase.{IsNoneDue}
use Rattle.dap_end.proofs.ForCallers as of_any
use Rattle.dap_world.specs.Agreement.{request_answers, AreAdmissible}
use Rattle.dap_world.specs.Inner.Agreement.{NothingUnexpected}

pub all_told : (own_a own_b : ℕ) (rs : List Request) (front back : List Item) → NothingUnexpected own_a own_b rs → front ++ back ≡ map Whole (request_answers own_a own_b rs)
    → length (Told rs front) ≡ length rs → front ≡ map Whole (request_answers own_a own_b rs)
all_told own_a own_b rs front back expected e told = of_any.all_told (plain_identity own_a) (plain_setup own_b) [] rs front back expected e told

pub all_read : (own_a own_b : ℕ) (rs : List Request) (front back : List Item) → NothingUnexpected own_a own_b rs → front ++ back ≡ map Whole (request_answers own_a own_b rs)
    → IsNoneDue rs front → front ≡ map Whole (request_answers own_a own_b rs)
all_read own_a own_b rs front back expected e none = of_any.all_read (plain_identity own_a) (plain_setup own_b) [] rs front back expected e none

-- the answers to a front of items are a front of the answers
pub answers-prefix : (own : ℕ) (items more : List Item) → (rest : List Message) × (Answers own [] items ++ rest ≡ Answers own [] (items ++ more))
answers-prefix own items more = of_any.answers-prefix (plain_setup own) [] items more

-- one request more that was admissible
pub admissible-more : (own_a own_b : ℕ) (before rs : List Request) (r : Request) → AreAdmissible own_a own_b before rs
    → IsAdmissible own_a (before ++ rs) (map Whole (request_answers own_a own_b (before ++ rs))) r → AreAdmissible own_a own_b before (rs ++ r ∷ [])
admissible-more own_a own_b before rs r all m = of_any.admissible-more (plain_identity own_a) (plain_setup own_b) [] before rs r all m
