-- The lines of bytes that are no packet.
use Rattle.std.specs.Prelude.{ℕ, List, [], ◌∷◌, codes}
use Rattle.std.specs.List.{concat}
use Rattle.std.specs.Fmt.{decimal}
use Rattle.nsp_seg.specs.Flags.{flag_kind_of}
use Rattle.nsp_seg.specs.declared.packet.SegFault.{SegFault}
use Rattle.nsp_seg.specs.declared.packet.SegFault.TheVariants.{Truncated, Trailing, NotHere, BadNumber, NoMemory}
use Rattle.nsp_seg.specs.declared.packet.FlagKind.{FlagKind}
use Rattle.nsp_seg.specs.declared.packet.FlagKind.TheVariants.{LinkService, Interrupt, OtherAck, ConnectAck, Control}
use Rattle.texts.specs.Text.{line_feed}

-- the kind of a packet that isn't decoded, by its first byte
abbrev pub flag_text : FlagKind → List ℕ
flag_text LinkService = codes "link-service"
flag_text Interrupt = codes "interrupt"
flag_text OtherAck = codes "other-ack"
flag_text ConnectAck = codes "connect-ack"
flag_text Control = codes "control"
flag_text _ = codes "unknown"

-- the line of bytes that are no packet: the kind of another packet, or what is wrong and at which offset
abbrev pub fault_line : SegFault → List ℕ
fault_line (NotHere flag) = concat (codes "not-here " ∷ flag_text (flag_kind_of flag) ∷ line_feed ∷ [])
fault_line (Truncated at) = concat (codes "bad truncated at=" ∷ decimal at ∷ line_feed ∷ [])
fault_line (Trailing at) = concat (codes "bad trailing at=" ∷ decimal at ∷ line_feed ∷ [])
fault_line (BadNumber at) = concat (codes "bad number at=" ∷ decimal at ∷ line_feed ∷ [])
fault_line NoMemory = concat (codes "bad memory" ∷ line_feed ∷ [])
