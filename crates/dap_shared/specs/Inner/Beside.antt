-- What one link's session does beside those of the others.
use Rattle.std.specs.Prelude.{ℕ, ◌≡◌, ◌≤◌, Bool, true, false, ◌||◌, if◌then◌else◌, List, [], ◌∷◌, map, Option, Some, None}
use Rattle.std.specs.List.{list_any}
use Rattle.std.specs.Option.{option_or}
use Rattle.std.specs.Global.{Vec}
use Rattle.dap_msg.specs.BothEnds.{max_nsp_message}
use Rattle.dap_msg.specs.declared.items.Item.{Item}
use Rattle.dap_accessed.specs.declared.phase.OpenFile.{OpenFile}
use Rattle.dap_accessed.specs.declared.phase.Phase.{Phase}
use Rattle.dap_accessed.specs.Groups.{GroupedItems}
use Rattle.dap_accessed.specs.Standing.{Files}
use Rattle.dap_accessed.specs.Replies.{bare_status}
use Rattle.dap_accessed.specs.Served.{AreAnswers}
use Rattle.dap_accessed.specs.Sessions.{SessionValue, IsIn, IsOpenIn, IsSilentIn, ServesItem, asked_in, with_files, open_at, refused_session}
use Rattle.dap_shared.specs.Sharing.{bars, file_locked, has_made, is_fewer}
use Rattle.dap_shared.specs.Shared.{session_without}

-- one of the others has something open that bars what is asked for
abbrev pub is_barred : (others : List SessionValue) → Option OpenFile → Bool
is_barred others None = false
is_barred others (Some asked) = list_any (λ s. bars asked (open_at s.phase)) others

-- what is kept of another link, where a file was removed
abbrev pub session_moved_up : (removed : Option OpenFile) → SessionValue → SessionValue
session_moved_up None s = s
session_moved_up (Some removed) s = session_without removed.at s

-- what was open, or asked for, is gone from the table, if there are fewer files
abbrev pub gone_by : (asked : Option OpenFile) → (before after : Files) → (phase later : Phase) → Option OpenFile
gone_by asked before after phase later =
    if is_fewer (has_made (open_at phase) (open_at later)) before after then option_or (open_at phase) asked else None

-- refused as the file is locked, or served
abbrev pub ServesOrRefuses : (locked : Bool) → Item → Files → SessionValue → Files → SessionValue → Vec (Vec ℕ) → Type 0
ServesOrRefuses true item files s files' s' answers =
    (files' ≡ files) × (s' ≡ refused_session s) × AreAnswers s.limit (bare_status file_locked ∷ []) answers
    × (s.limit ≤ max_nsp_message)
ServesOrRefuses false item files s files' s' answers = ServesItem item (with_files files s) (with_files files' s') answers

-- an item of a link beside these others isn't barred, and has no answer, nor is it a Data message which is stored
abbrev pub IsSilentBeside : (locked : Bool) → Item → Files → SessionValue → Type 0
IsSilentBeside locked item files s =
    (locked ≡ false) × ((c : GroupedItems) × IsIn c (with_files files s) × IsSilentIn s.setup c item)

-- so it is between the links before it and those after it
abbrev pub IsSilentBetween : Item → Files → (before : List SessionValue) → SessionValue → (after : List SessionValue) → Type 0
IsSilentBetween item files before s after =
    let asked = asked_in s.setup files s.phase item in
    IsSilentBeside (is_barred before asked || is_barred after asked) item files s

-- one link's session moved beside others, which are moved up where a file was removed
pub record MovesBeside (item : Item) (files : Files) (others : List SessionValue) (s : SessionValue) (files' : Files) (others' : List SessionValue) (s' : SessionValue) (answers : Vec (Vec ℕ)) : Type 0 where
  pub does : ServesOrRefuses (is_barred others (asked_in s.setup files s.phase item)) item files s files' s' answers
  pub moved : others' ≡ map (session_moved_up (gone_by (asked_in s.setup files s.phase item) files files' s.phase s'.phase)) others
  pub there : IsOpenIn files' s'.phase

-- one link's session moved, beside those of the links before it and of the links after it
pub record MovesAmong (item : Item) (files : Files) (before : List SessionValue) (s : SessionValue)
    (after : List SessionValue) (files' : Files) (before' : List SessionValue) (s' : SessionValue)
    (after' : List SessionValue) (answers : Vec (Vec ℕ)) : Type 0 where
  pub does : ServesOrRefuses
      (is_barred before (asked_in s.setup files s.phase item)
      || is_barred after (asked_in s.setup files s.phase item))
      item files s files' s' answers
  pub first : before' ≡ map (session_moved_up (gone_by (asked_in s.setup files s.phase item) files files' s.phase s'.phase)) before
  pub rest : after' ≡ map (session_moved_up (gone_by (asked_in s.setup files s.phase item) files files' s.phase s'.phase)) after
  pub there : IsOpenIn files' s'.phase
