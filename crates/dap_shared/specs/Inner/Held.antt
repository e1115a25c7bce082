-- What is true of all that a node keeps.
use Rattle.std.specs.Prelude.{ℕ, ◌≡◌, ◌≤◌, List, get_or, set}
use Rattle.std.specs.Global.{Vec}
use Rattle.dap_accessed.specs.declared.setup.ServerSetup.{ServerSetup}
use Rattle.dap_msg.specs.declared.items.Item.{Item}
use Rattle.rec_file.specs.Limits.{max_record_number}
use Rattle.dap_accessed.specs.declared.phase.Phase.{Phase}
use Rattle.dap_accessed.specs.declared.phase.Phase.TheVariants as phases
use Rattle.dap_accessed.specs.Setup.{IsServerSetup}
use Rattle.dap_accessed.specs.Standing.{Files}
use Rattle.dap_accessed.specs.Sessions.{SessionValue, asked_in}
use Rattle.dap_shared.specs.Nodes.{Event}
use Rattle.dap_shared.specs.Shared.{SharedValue, SharedAfter, no_session}
use Rattle.dap_shared.specs.Inner.Beside.{IsSilentBeside, MovesBeside, is_barred}

abbrev pub session_at : (own : ServerSetup) (link : ℕ) → List SessionValue → SessionValue
session_at own link sessions = get_or sessions link (no_session own)

-- so it is on this link, among all
abbrev pub IsSilentAmong : (own : ServerSetup) → (link : ℕ) → Item → Files → List SessionValue → Type 0
IsSilentAmong own link item files sessions =
    let s = session_at own link sessions in
    IsSilentBeside (is_barred (set sessions link (no_session own)) (asked_in s.setup files s.phase item)) item files s

-- a fetch stops at a record's number
abbrev pub HasNumber : Phase → Type 0
HasNumber (phases.Stopped opened stream) = stream.next ≤ max_record_number
HasNumber phase = Unit {0}

-- some history leaves this
pub record IsHeld (v : SharedValue) : Type 0 where
  pub setup : IsServerSetup v.setup
  pub first : Files
  pub events : List Event
  pub after : SharedAfter first events v
  pub numbers : (link : ℕ) → HasNumber (session_at v.setup link v.sessions).phase

-- one link's session was served, beside those of the others
pub record MovesOn (own : ServerSetup) (link : ℕ) (item : Item) (files : Files) (sessions : List SessionValue) (files' : Files) (sessions' : List SessionValue) (answers : Vec (Vec ℕ)) : Type 0 where
  pub others : List SessionValue
  pub session : SessionValue
  pub moves : MovesBeside item files (set sessions link (no_session own)) (session_at own link sessions) files' others session answers
  pub back : sessions' ≡ set others link session
