-- Who may open a file while other links have it open. The rule is a choice of this implementation, in the manner of RMS
-- where SHR is left out: links that only read share a file, and one that may change it, or made it, has it alone.
use Rattle.std.specs.Prelude.{ℕ, Bool, false, ◌||◌, ◌&&◌, ◌==◌, nat_le, nat_lt, if◌then◌else◌, List, length, Option, Some, None}
use Rattle.std.specs.List.{list_any}
use Rattle.dap_msg.specs.declared.message.Message.TheVariants.{Access}
use Rattle.dap_msg.specs.declared.items.Item.{Item}
use Rattle.dap_msg.specs.declared.items.Item.TheVariants.{Whole}
use Rattle.dap_accessed.specs.declared.setup.ServerSetup.{ServerSetup}
use Rattle.dap_accessed.specs.declared.phase.OpenFile.{OpenFile}
use Rattle.dap_accessed.specs.Standing.{Files, ServerState, Fresh, Ready, Opened, Connected, Store, Stopped}
use Rattle.dap_accessed.specs.Sessions.{moved_up, would_open}

-- MACCODE 4, MICCODE octal 60: the file is locked by another user. The number is from memory of DAP 5.6.0, Status
-- message.
abbrev pub file_locked : ℕ
file_locked = 0x4030

-- the file that is open in a phase
abbrev pub open_in : ServerState → Option OpenFile
open_in Fresh = None
open_in Ready = None
open_in (Opened opened) = Some opened
open_in (Connected opened stream) = Some opened
open_in (Store opened stream) = Some opened
open_in (Stopped opened stream) = Some opened

-- the link made the file, or may change it
abbrev pub has_alone : OpenFile → Bool
has_alone opened = opened.is_new || (opened.rights.put || (opened.rights.upd || opened.rights.del))

-- two links can't have these open at once
abbrev pub are_apart : OpenFile → OpenFile → Bool
are_apart one two = (one.at == two.at) && (has_alone one || has_alone two)

-- it is the file at this index that is open
abbrev pub is_file : (at : ℕ) → Option OpenFile → Bool
is_file at None = false
is_file at (Some opened) = opened.at == at

-- what an item asks to open, to replace or to erase: only an Access in Ready does
abbrev pub asks_to_open : (own : ServerSetup) → Files → ServerState → Item → Option OpenFile
asks_to_open own files Ready (Whole (Access access)) = would_open own files access
asks_to_open own files state item = None

-- what is asked for can't be opened beside this
abbrev pub bars : OpenFile → Option OpenFile → Bool
bars asked None = false
bars asked (Some other) = are_apart asked other

-- of what the other links have open, something bars what is asked for
abbrev pub is_locked : (others : List (Option OpenFile)) → Option OpenFile → Bool
is_locked others None = false
is_locked others (Some asked) = list_any (bars asked) others

-- something is asked for, and it can't be opened beside this
abbrev pub barred_by : (asked held : Option OpenFile) → Bool
barred_by None held = false
barred_by (Some asked) held = bars asked held

-- ---- A file that is removed: those after it move up.

-- an item made a file: its link has a new one open, and had none
abbrev pub has_made : (before after : Option OpenFile) → Bool
has_made None (Some opened) = opened.is_new
has_made before after = false

-- a file is gone: there are fewer, or no more although one was made
abbrev pub is_fewer : (made : Bool) → (before after : Files) → Bool
is_fewer made before after = if made then nat_le (length after) (length before) else nat_lt (length after) (length before)

-- the phase of another link then
abbrev pub state_moved_up : (removed : ℕ) → ServerState → ServerState
state_moved_up removed Fresh = Fresh
state_moved_up removed Ready = Ready
state_moved_up removed (Opened opened) = Opened (moved_up removed opened)
state_moved_up removed (Connected opened stream) = Connected (moved_up removed opened) stream
state_moved_up removed (Store opened stream) = Store (moved_up removed opened) stream
state_moved_up removed (Stopped opened stream) = Stopped (moved_up removed opened) stream
