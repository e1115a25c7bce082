-- What a server keeps of one link, but for the files: several links may have one table of files.
use Rattle.std.specs.Prelude.{ℕ, ◌≡◌, ◌<◌, ◌≤◌, ◌==◌, ◌-◌, ◌&&◌, nat_lt, if◌then◌else◌, true, false, [], length, Option, Some, None, option_map}
use Rattle.std.specs.Global.{Vec}
use Rattle.dap_msg.specs.BothEnds.{max_nsp_message, min_buffer, no_attributes}
use Rattle.dap_msg.specs.Blocked.{bodies}
use Rattle.dap_msg.specs.Codes as codes
use Rattle.dap_msg.specs.declared.message.Message.TheVariants.{Access}
use Rattle.dap_msg.specs.declared.message.AccessFields.{AccessFields}
use Rattle.dap_msg.specs.declared.items.Item.{Item}
use Rattle.dap_msg.specs.declared.items.Item.TheVariants.{Whole}
use Rattle.rec_file.specs.Limits.{max_record_number}
use Rattle.dap_accessed.specs.declared.asked.Asked.{Asked}
use Rattle.dap_accessed.specs.declared.setup.ServerSetup.{ServerSetup}
use Rattle.dap_accessed.specs.declared.phase.OpenFile.{OpenFile}
use Rattle.dap_accessed.specs.declared.phase.Phase.{Phase}
use Rattle.dap_accessed.specs.declared.phase.Phase.TheVariants as phases
use Rattle.dap_accessed.specs.Asked.{plainly}
use Rattle.dap_accessed.specs.Setup.{lacks, plain_setup}
use Rattle.dap_accessed.specs.Standing.{Files, plain_shape}
use Rattle.dap_accessed.specs.Naming.{index_by, index_to_erase, index_to_replace}
use Rattle.dap_accessed.specs.Past.{asked_file, is_filedata, is_dropping}
use Rattle.dap_accessed.specs.Accesses.{rights_to_create, rights_to_erase, rights_to_open}
use Rattle.dap_accessed.specs.Groups.{GroupedItems, after_item, answers_of}
use Rattle.dap_accessed.specs.Present.{Present, present_of}
use Rattle.dap_accessed.specs.Served.{AllAtMost, AreAnswers}

-- what a server keeps of a link, but for the files
pub record SessionValue : Type 0 where
  pub own : ℕ
  pub setup : ServerSetup
  pub limit : ℕ
  pub kept : Option Asked
  pub phase : Phase

-- with these files
abbrev pub with_files : Files → SessionValue → Present
with_files files s = record { own = s.own; setup = s.setup; limit = s.limit; files = files; kept = s.kept; phase = s.phase }

-- without the files
abbrev pub session_of : Present → SessionValue
session_of p = record { own = p.own; setup = p.setup; limit = p.limit; kept = p.kept; phase = p.phase }

-- no Configuration was served, and no Attributes
abbrev pub session_with : (own : ServerSetup) → SessionValue
session_with own =
    record { own = own.identity.bufsiz; setup = own; limit = min_buffer; kept = asked_file own.full no_attributes; phase = phases.Fresh }

-- no Configuration was served, of a server with this BUFSIZ and the usual setup
abbrev pub new_session : (own : ℕ) → SessionValue
new_session own = session_with (plain_setup own)

-- after an Access that was refused
abbrev pub refused_session : SessionValue → SessionValue
refused_session s = record s { kept = Some (plainly plain_shape); phase = phases.Ready }

-- ---- The open file.

-- the open file of a phase is in the table, and a fetch stops at a record's number
abbrev pub IsOpenIn : Files → Phase → Type 0
IsOpenIn files phases.Fresh = Unit {0}
IsOpenIn files phases.Ready = Unit {0}
IsOpenIn files (phases.Opened opened) = opened.at < length files
IsOpenIn files (phases.Connected opened stream) = opened.at < length files
IsOpenIn files (phases.PutDue opened stream key) = opened.at < length files
IsOpenIn files (phases.UpdateDue opened stream) = opened.at < length files
IsOpenIn files (phases.Storing opened stream ordinal) = opened.at < length files
IsOpenIn files (phases.Dropping opened stream ordinal) = opened.at < length files
IsOpenIn files (phases.Stopped opened stream) = (opened.at < length files) × (stream.next ≤ max_record_number)

-- the file that is open in a phase
abbrev pub open_at : Phase → Option OpenFile
open_at phases.Fresh = None
open_at phases.Ready = None
open_at (phases.Opened o) = Some o
open_at (phases.Connected o s) = Some o
open_at (phases.PutDue o s key) = Some o
open_at (phases.UpdateDue o s) = Some o
open_at (phases.Storing o s n) = Some o
open_at (phases.Dropping o s n) = Some o
open_at (phases.Stopped o s) = Some o

-- a file is gone from the table: those after it move up
abbrev pub moved_up : (removed : ℕ) → OpenFile → OpenFile
moved_up removed opened = record opened { at = if nat_lt removed opened.at then opened.at - 1 else opened.at }

-- a phase after a file that isn't open is gone from the table
abbrev pub phase_moved_up : (removed : ℕ) → Phase → Phase
phase_moved_up r phases.Fresh = phases.Fresh
phase_moved_up r phases.Ready = phases.Ready
phase_moved_up r (phases.Opened o) = phases.Opened (moved_up r o)
phase_moved_up r (phases.Connected o s) = phases.Connected (moved_up r o) s
phase_moved_up r (phases.PutDue o s key) = phases.PutDue (moved_up r o) s key
phase_moved_up r (phases.UpdateDue o s) = phases.UpdateDue (moved_up r o) s
phase_moved_up r (phases.Storing o s n) = phases.Storing (moved_up r o) s n
phase_moved_up r (phases.Dropping o s n) = phases.Dropping (moved_up r o) s n
phase_moved_up r (phases.Stopped o s) = phases.Stopped (moved_up r o) s

-- a file that is there, as an Access with this FAC opens it
abbrev pub there_at : (fac at : ℕ) → OpenFile
there_at fac at = record { at = at; is_new = false; rights = rights_to_open fac }

-- what such an Access opens: none where it asks for a right that the server doesn't give
abbrev pub there_if : (own : ServerSetup) → (fac : ℕ) → Option ℕ → Option OpenFile
there_if own fac found = if lacks own.most (rights_to_open fac) then None else option_map (there_at fac) found

-- a file that is there, as an Access that would remove it asks for it: alone
abbrev pub erased_at : (at : ℕ) → OpenFile
erased_at at = record { at = at; is_new = false; rights = rights_to_erase }

-- what an Access to erase asks for: none where it asks for a right that the server doesn't give
abbrev pub erased_if : (own : ServerSetup) → Option ℕ → Option OpenFile
erased_if own found = if lacks own.most rights_to_erase then None else option_map erased_at found

-- what an Access to create asks for: the file that the new one replaces, unless it asks for a right too many
abbrev pub replaced_if : (own : ServerSetup) → (fac : ℕ) → Option ℕ → Option OpenFile
replaced_if own fac found = if lacks own.most (rights_to_create fac) then None else option_map erased_at found

-- what an Access would open, replace or erase, where that is there, and it asks for no right too many
abbrev pub would_open : (own : ServerSetup) → Files → AccessFields → Option OpenFile
would_open own files access =
    if access.func == codes.accfunc.opening then there_if own access.fac (index_by own.names access.name files)
    else if access.func == codes.accfunc.creating then replaced_if own access.fac (index_to_replace own.names access.name files)
    else if own.full && access.func == codes.accfunc.erasing then erased_if own (index_to_erase own.names access.name files)
    else None

-- what an item asks to open, to replace or to erase: only an Access in Ready does
abbrev pub asked_in : (own : ServerSetup) → Files → Phase → Item → Option OpenFile
asked_in own files phases.Ready (Whole (Access access)) = would_open own files access
asked_in own files phase item = None

-- ---- One item.

-- it is what a server keeps in this state
abbrev pub IsIn : GroupedItems → Present → Type 0
IsIn c present = present ≡ present_of present.setup c

-- an item without an answer in this state, that is no Data message which is stored: it is never out of memory
abbrev pub IsSilentIn : (own : ServerSetup) → GroupedItems → Item → Type 0
IsSilentIn own c item =
    (answers_of own c item ≡ []) × (is_filedata item ≡ true → is_dropping c.standing.past ≡ true)

-- An item was served. In whatever state the server was, it is in the state after that and this item, and gives the
-- answers that the item has there, joined within the peer's limit.
pub record ServesItem (item : Item) (old new : Present) (answers : Vec (Vec ℕ)) : Type 0 where
  pub stands : (c : GroupedItems) → IsIn c old → IsIn (after_item old.setup c item) new
  pub answered : (c : GroupedItems) → IsIn c old → AreAnswers old.limit (answers_of old.setup c item) answers
  pub within : AllAtMost old.limit (bodies answers.items)
  pub most : old.limit ≤ max_nsp_message
  pub same_own : new.own ≡ old.own
  pub same_setup : new.setup ≡ old.setup
