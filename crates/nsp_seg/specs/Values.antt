-- The value of the program's `Packet`, whose payload is borrowed: the same fields, with a list of numbers.
use Rattle.std.specs.Prelude.{Result, Ok, Err}
use Rattle.nsp_seg.specs.declared.nsp_packet.Packet.{Packet}
use Rattle.nsp_seg.specs.declared.nsp_packet.Packet.TheVariants as packet
use Rattle.nsp_seg.specs.declared.packet.Packet.TheVariants.{Segment, DataAck}
use Rattle.nsp_seg.specs.declared.packet.SegFault.{SegFault}
use Rattle.nsp_seg.specs.Packets.{Packet as PacketValue}

-- the value with the same fields
abbrev pub packet_value : Packet → PacketValue
packet_value (packet.Segment first last dst src ack1 ack2 number payload) = Segment (record {
  first = first;
  last = last;
  dst = dst;
  src = src;
  ack1 = ack1;
  ack2 = ack2;
  number = number;
  payload = payload.now;
})
packet_value (packet.DataAck dst src ack1 ack2) = DataAck (record { dst = dst; src = src; ack1 = ack1; ack2 = ack2 })

-- the answer of `decode_packet`, with the value of its packet
abbrev pub packet_answer_value : Result Packet SegFault → Result PacketValue SegFault
packet_answer_value (Ok packet) = Ok (packet_value packet)
packet_answer_value (Err fault) = Err fault
