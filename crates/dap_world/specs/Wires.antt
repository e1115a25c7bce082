-- What is on a wire.
use Rattle.std.specs.Prelude.{ℕ, List}
use Rattle.dap_msg.specs.Blocked.{all_joined}
use Rattle.nsp_link.specs.Cutting.{cut}
use Rattle.nsp_link.specs.Link.{IsWrittenPacket}
use Rattle.dap_events.specs.declared.event.End.{End}
use Rattle.dap_events.specs.declared.event.End.TheVariants.{A, B}
use Rattle.dap_world.specs.declared.side.Wired.{Wired}
use Rattle.dap_world.specs.Machine.{State, Sending, end_of, other_end}

-- the address of each end
abbrev pub end_address : End → ℕ
end_address A = 0x0101
end_address B = 0x0202

-- The bytes of a packet of this end: the segment with this number, of what was passed to the link, or none, and an
-- acknowledgement. There are no other such bytes.
unfoldable pub IsOnWire : State → End → Sending → List ℕ → Type 0
IsOnWire s end sending bytes =
    IsWrittenPacket (end_address end) (end_address (other_end end)) (cut s.seg_size (all_joined (end_of s end).handed)) sending.segment sending.acks bytes

-- the numbers of a packet of the program
abbrev pub sending_of : Wired → Sending
sending_of w = record { segment = w.segment; acks = w.acks }
