-- Packets that set up and close links (NSP 4.0.0, connect initiate, connect confirm, disconnect initiate, disconnect
-- confirm and connect acknowledgement messages).
use Rattle.std.specs.Prelude.{◌≡◌, ℕ, ◌<◌, ◌^◌, List, [], ◌∷◌, ◌++◌, if◌then◌else◌}
use Rattle.byteorder.specs.Endian.{little_bytes}
use Rattle.nsp_control.specs.declared.packet.Control.{Control}
use Rattle.nsp_control.specs.declared.packet.Control.TheVariants.{Connect, Confirm, Disconnect, DisconnectConfirm, ConnectAck}

-- The bytes of a packet: MSGFLG, the address it goes to, the one it comes from, and its fields. Two-byte numbers stand
-- lowest byte first.
abbrev pub control_spelling : Control → List ℕ
control_spelling (Connect p) =
    (if p.again then 0x68 else 0x18) ∷ 0 ∷ 0 ∷ [] ++ little_bytes 2 p.src ++ p.services ∷ p.info ∷ []
    ++ little_bytes 2 p.seg_size ++ p.body
control_spelling (Confirm p) =
    0x28 ∷ [] ++ little_bytes 2 p.dst ++ little_bytes 2 p.src ++ p.services ∷ p.info ∷ []
    ++ little_bytes 2 p.seg_size ++ p.body
control_spelling (Disconnect p) =
    0x38 ∷ [] ++ little_bytes 2 p.dst ++ little_bytes 2 p.src ++ little_bytes 2 p.reason ++ p.body
control_spelling (DisconnectConfirm p) =
    0x48 ∷ [] ++ little_bytes 2 p.dst ++ little_bytes 2 p.src ++ little_bytes 2 p.reason
control_spelling (ConnectAck dst) = 0x24 ∷ [] ++ little_bytes 2 dst

-- each value fits its field, and the addresses of a link that is asked for or confirmed aren't 0
abbrev pub ControlFits : Control → Type 0
ControlFits (Connect p) = (0 < p.src) × (p.src < 2 ^ 16) × (p.services < 256) × (p.info < 256) × (p.seg_size < 2 ^ 16)
ControlFits (Confirm p) =
    (0 < p.dst) × (p.dst < 2 ^ 16) × (0 < p.src) × (p.src < 2 ^ 16)
    × (p.services < 256) × (p.info < 256) × (p.seg_size < 2 ^ 16)
ControlFits (Disconnect p) = (p.dst < 2 ^ 16) × (p.src < 2 ^ 16) × (p.reason < 2 ^ 16)
ControlFits (DisconnectConfirm p) = (p.dst < 2 ^ 16) × (p.src < 2 ^ 16) × (p.reason < 2 ^ 16)
ControlFits (ConnectAck dst) = dst < 2 ^ 16

-- what a caller has to see to before a packet is written: the other values fit by their types
abbrev pub IsWritableControl : Control → Type 0
IsWritableControl (Connect p) = 0 < p.src
IsWritableControl (Confirm p) = (0 < p.dst) × (0 < p.src)
IsWritableControl (Disconnect p) = Unit {0}
IsWritableControl (DisconnectConfirm p) = Unit {0}
IsWritableControl (ConnectAck dst) = Unit {0}

-- the bytes, all of them, are this packet's
pub record SpellsControl (p : Control) (bytes : List ℕ) : Type 0 where
  pub fits : ControlFits p
  pub spelled : bytes ≡ control_spelling p
