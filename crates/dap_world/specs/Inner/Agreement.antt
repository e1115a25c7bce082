-- How the two ends of an exchange without a network agree.
use Rattle.std.specs.Prelude.{ℕ, ◌≡◌, ◌≢◌, List, [], ◌∷◌, ◌++◌, map, None, true}
use Rattle.dap_msg.specs.Blocked.{Blocked, all_joined}
use Rattle.dap_msg.specs.BothEnds.{min_buffer, plain_identity}
use Rattle.dap_accessed.specs.Setup.{plain_setup}
use Rattle.dap_msg.specs.declared.items.Item.{Item}
use Rattle.dap_msg.specs.declared.items.Item.TheVariants.{Whole}
use Rattle.dap_accessed.specs.Standing as at
use Rattle.dap_accessed.specs.Standing.{ServerState}
use Rattle.dap_world.specs.Plain.{answers_added, limit_for, stands_after, messages_of, IsAdmissible}
use Rattle.dap_accessed.specs.Served.{AllAtMost}
use Rattle.dap_accessing.specs.Request.{Request}
use Rattle.dap_accessing.specs.declared.phase.Phase.{Phase}
use Rattle.dap_accessing.specs.declared.phase.Phase.TheVariants.{Fresh, Ready, Opened, Connected, Stopped}
use Rattle.dap_accessing.specs.Told.{is_unexpected}
use Rattle.dap_accessing.specs.Phase.{phase_after, limit_after}
use Rattle.dap_end.specs.Agreement.{AreAgreed, AreExpected}
use Rattle.dap_world.specs.Agreement.{request_answers, items_of, reports_of}

-- a request is admissible after these and the answers to them
abbrev pub IsNext : (own_a own_b : ℕ) → List Request → Request → Type 0
IsNext own_a own_b requests request = IsAdmissible own_a requests (map Whole (request_answers own_a own_b requests)) request

-- the two ends agree after these requests, and the server is not inside a group
abbrev pub Agree : (own_a own_b : ℕ) → List Request → Type 0
Agree own_a own_b requests = AreAgreed (plain_identity own_a) (plain_setup own_b) [] requests

-- no answer so far, and not the next one, is unexpected
abbrev pub NothingUnexpected : (own_a own_b : ℕ) → List Request → Type 0
NothingUnexpected own_a own_b requests = AreExpected (plain_identity own_a) (plain_setup own_b) [] requests

-- none of the NSP messages of one more request that is admissible is longer than the server takes
abbrev pub NextWithin : (own_a own_b : ℕ) → List Request → Type 0
NextWithin own_a own_b requests =
    (request : Request) → IsNext own_a own_b requests request
    → AllAtMost own_b (all_joined (Blocked (limit_after (reports_of own_a own_b requests)) (messages_of own_a request)))

-- whatever prefix of these requests' messages the server has served, none of the NSP messages of its answers to the
-- message after it is longer than the client takes
abbrev pub AnswersWithin : (own_a own_b : ℕ) → List Request → Type 0
AnswersWithin own_a own_b requests =
    (front back : List Item) (item : Item) → front ++ item ∷ back ≡ items_of own_a requests
    → AllAtMost own_a (all_joined (Blocked (limit_for own_b [] front) (answers_added own_b [] front item)))
