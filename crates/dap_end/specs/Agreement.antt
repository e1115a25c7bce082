-- Two ends without a network: what requests ask, what is answered, and which requests are admissible.
use Rattle.std.specs.Prelude.{ℕ, ◌≤◌, List, [], ◌∷◌, ◌++◌, map, ◌≡◌, ◌≢◌, None, true}
use Rattle.dap_msg.specs.declared.message.Configuration.{Configuration}
use Rattle.dap_msg.specs.declared.message.Message.{Message}
use Rattle.dap_accessed.specs.declared.setup.ServerSetup.{ServerSetup}
use Rattle.dap_msg.specs.BothEnds.{max_nsp_message, min_buffer}
use Rattle.dap_msg.specs.declared.items.Item.{Item}
use Rattle.dap_msg.specs.declared.items.Item.TheVariants.{Whole}
use Rattle.dap_accessed.specs.Standing.{Files, ServerState}
use Rattle.dap_accessed.specs.Groups.{Answers, stands_after}
use Rattle.dap_accessing.specs.Request.{Request}
use Rattle.dap_accessing.specs.declared.report.Report.{Report}
use Rattle.dap_accessing.specs.Asked.{Asked}
use Rattle.dap_accessing.specs.Told.{Told, is_unexpected}
use Rattle.dap_accessing.specs.Phase.{IsAdmissible, phase_after, limit_after}
use Rattle.dap_accessing.specs.declared.phase.Phase.{Phase}
use Rattle.dap_accessing.specs.declared.phase.Phase.TheVariants.{Fresh, Ready, Opened, Connected, Stopped}
use Rattle.dap_accessed.specs.Standing as at

-- A BUFSIZ that an end may have.
pub record IsBufsiz (n : ℕ) : Type 0 where
  pub least : min_buffer ≤ n
  pub most : n ≤ max_nsp_message

-- what the server is sent for these requests
abbrev pub asked_items : (own_a : Configuration) → List Request → List Item
asked_items own_a requests = map Whole (Asked own_a requests)

-- what it answers, with these files at first
abbrev pub asked_answers : (own_a : Configuration) (own_b : ServerSetup) → Files → List Request → List Message
asked_answers own_a own_b first requests = Answers own_b first (asked_items own_a requests)

-- what these answers report
abbrev pub asked_reports : (own_a : Configuration) (own_b : ServerSetup) → Files → List Request → List Report
asked_reports own_a own_b first requests = Told requests (map Whole (asked_answers own_a own_b first requests))

-- each request is admissible after those before it and the answers to these
abbrev pub AreAllAdmissible : (own_a : Configuration) (own_b : ServerSetup) → Files → (before requests : List Request) → Type 0
AreAllAdmissible own_a own_b first before [] = Unit {0}
AreAllAdmissible own_a own_b first before (request ∷ requests) =
    IsAdmissible own_a before (map Whole (asked_answers own_a own_b first before)) request
    × AreAllAdmissible own_a own_b first (before ++ request ∷ []) requests

-- after Hello each end takes for the other's limit the other's BUFSIZ
abbrev pub AreLimits : (own_a : Configuration) (own_b : ServerSetup) → (limit_b limit_a : ℕ) → Type 0
AreLimits own_a own_b limit_b limit_a = (limit_b ≡ own_a.bufsiz) × (limit_a ≡ own_b.identity.bufsiz)

-- the client's phase is that of the server
abbrev pub AgreeAt : (own_a : Configuration) (own_b : ServerSetup) → Phase → ServerState → (limit_b limit_a : ℕ) → Type 0
AgreeAt own_a own_b Fresh at.Fresh limit_b limit_a = limit_b ≡ min_buffer
AgreeAt own_a own_b Ready at.Ready limit_b limit_a = AreLimits own_a own_b limit_b limit_a
AgreeAt own_a own_b Opened (at.Opened _) limit_b limit_a = AreLimits own_a own_b limit_b limit_a
AgreeAt own_a own_b Connected (at.Connected _ _) limit_b limit_a = AreLimits own_a own_b limit_b limit_a
AgreeAt own_a own_b Stopped (at.Stopped _ _) limit_b limit_a = AreLimits own_a own_b limit_b limit_a
AgreeAt own_a own_b _ _ limit_b limit_a = ⊥

-- The two ends agree after these requests, and the server isn't inside a group.
pub record AreAgreed (own_a : Configuration) (own_b : ServerSetup) (first : Files) (requests : List Request) : Type 0 where
  pub whole : (stands_after own_b first (asked_items own_a requests)).begun ≡ None
  pub states :
      let s = (stands_after own_b first (asked_items own_a requests)).standing in
      let reports = asked_reports own_a own_b first requests in
      AgreeAt own_a own_b (phase_after reports) s.state s.scene.limit (limit_after reports)

-- no answer so far, and not the next one, is unexpected
abbrev pub AreExpected : (own_a : Configuration) (own_b : ServerSetup) → Files → List Request → Type 0
AreExpected own_a own_b first requests =
    (front back : List Item) (answer : Item) → front ++ answer ∷ back ≡ map Whole (asked_answers own_a own_b first requests)
    → is_unexpected requests front answer ≢ true
