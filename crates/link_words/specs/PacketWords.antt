-- What packets say in words: of those that set up or close a link, who asks for which object, and why a link ends (NSP 4.0.0,
-- connect initiate, disconnect initiate and disconnect confirm messages; Session Control 1.0.0, connect data). Passwords and
-- accounts aren't told.
use Rattle.std.specs.Prelude.{ℕ, ◌==◌, nat_lt, List, [], ◌∷◌, ◌++◌, codes, length, map, if◌then◌else◌, Option, Some, None, Result, Ok, Err}
use Rattle.std.specs.Option.{option_map_or}
use Rattle.std.specs.Fmt.{decimal}
use Rattle.nsp_seg.specs.declared.packet.Packet.{Packet}
use Rattle.nsp_seg.specs.declared.packet.SegFault.{SegFault}
use Rattle.nsp_seg.specs.declared.packet.SegFault.TheVariants.{NotHere}
use Rattle.nsp_control.specs.declared.packet.Control.{Control}
use Rattle.nsp_control.specs.declared.packet.Control.TheVariants.{Connect, Confirm, Disconnect, DisconnectConfirm, ConnectAck}
use Rattle.nsp_control.specs.Reading.{control_in}
use Rattle.nsp_session.specs.declared.session.EndName.{EndName}
use Rattle.nsp_session.specs.declared.session.EndName.TheVariants.{Number, Named, Grouped}
use Rattle.nsp_session.specs.declared.session.Access.{Access}
use Rattle.nsp_session.specs.declared.session.Session.{Session}
use Rattle.nsp_session.specs.Reading.{session_in}
use Rattle.dap_meanings.specs.Meanings.{first_words}
use Rattle.dap_meanings.specs.Quoted.{quoted_bytes}
use Rattle.dap_meanings.specs.Tables.{word_in}
use Rattle.link_words.specs.Tables.{control_packets, disconnect_reasons, objects}

-- words, each led by another
abbrev pub led_by : (before : List ℕ) → List (List ℕ) → List (List ℕ)
led_by before words = map (λ word. before ++ word) words

-- an object by its name, if it has one, or else by its number
abbrev pub object_words : ℕ → List (List ℕ)
object_words object = first_words (word_in objects object) ((codes "object " ++ decimal object) ∷ [])

-- an end that has a name by that, if it is printable, or else by its object
abbrev pub called_words : (object : ℕ) → (name : List ℕ) → List (List ℕ)
called_words object name = first_words (quoted_bytes name) (object_words object)

-- an end of a link
abbrev pub end_words : EndName → List (List ℕ)
end_words (Number object) = object_words object
end_words (Named n) = called_words n.object n.name
end_words (Grouped n) = called_words n.object n.name

-- the user, where one is named
abbrev pub user_words : Option Access → List (List ℕ)
user_words None = []
user_words (Some a) = if length a.user == 0 then [] else led_by (codes "user ") (quoted_bytes a.user)

-- whom a connect initiate asks for, who asks, and as which user
abbrev pub session_words : Session → List (List ℕ)
session_words s = led_by (codes "to ") (end_words s.dst) ++ (led_by (codes "from ") (end_words s.src) ++ user_words s.access)

-- why a link is refused or closed
abbrev pub ending_words : ℕ → List (List ℕ)
ending_words reason = (codes "reason " ++ decimal reason) ∷ word_in disconnect_reasons reason

-- a packet that sets up or closes a link
abbrev pub set_up_words : Control → List (List ℕ)
set_up_words (Connect c) = option_map_or session_words (session_in c.body) []
set_up_words (Confirm c) = []
set_up_words (Disconnect d) = ending_words d.reason
set_up_words (DisconnectConfirm d) = ending_words d.reason
set_up_words (ConnectAck dst) = []

-- bytes that are no packet of this link's data: what they do to a link, and what they say of it where they can be read
abbrev pub fault_words : (bytes : List ℕ) → SegFault → List (List ℕ)
fault_words bytes (NotHere flag) = word_in control_packets flag ++ option_map_or set_up_words (control_in bytes) []
fault_words bytes _ = []

-- a packet or a fault
abbrev pub packet_words : (bytes : List ℕ) → Result Packet SegFault → List (List ℕ)
packet_words bytes (Ok packet) = []
packet_words bytes (Err fault) = fault_words bytes fault

-- what a frame is called, where that is known: else it is empty
abbrev pub frame_words : List ℕ → List (List ℕ)
frame_words frame = if nat_lt 0 (length frame) then frame ∷ [] else []
