-- What the first byte of a packet says that it is.
use Rattle.std.specs.Prelude.{ℕ, ◌==◌, ◌||◌, if◌then◌else◌}
use Rattle.nsp_seg.specs.declared.packet.FlagKind.{FlagKind}
use Rattle.nsp_seg.specs.declared.packet.FlagKind.TheVariants.{Segment, DataAck, LinkService, Interrupt, OtherAck, ConnectAck, Control, Unknown}

-- The kind of a packet by its first byte (NSP 4.0.0, message formats).
abbrev pub flag_kind_of : ℕ → FlagKind
flag_kind_of flag =
    if flag == 0x00 || flag == 0x20 || flag == 0x40 || flag == 0x60 then Segment else
    (if flag == 0x04 then DataAck else
    (if flag == 0x10 then LinkService else
    (if flag == 0x30 then Interrupt else
    (if flag == 0x14 then OtherAck else
    (if flag == 0x24 then ConnectAck else
    (if flag == 0x08 || flag == 0x18 || flag == 0x28 || flag == 0x38
    || flag == 0x48 || flag == 0x58 || flag == 0x68 || flag == 0x78 then Control else Unknown))))))
