-- Reading a packet from left to right, with the first fault that is met. What callers are promised is in Packets.
use Rattle.std.specs.Prelude.{◌≡◌, ℕ, ◌+◌, ◌*◌, ◌/◌, ◌%◌, List, [], ◌∷◌, Option, Some, None, Result, Ok, Err, nat_lt, ◌==◌, ◌||◌, if◌then◌else◌}
use Rattle.nsp_seg.specs.declared.packet.AckField.{AckField}
use Rattle.nsp_seg.specs.declared.packet.SegFault.{SegFault}
use Rattle.nsp_seg.specs.declared.packet.SegFault.TheVariants.{Truncated, Trailing, NotHere, BadNumber}
use Rattle.nsp_seg.specs.Numbers.{residue}
use Rattle.nsp_seg.specs.Packets.{Packet}
use Rattle.nsp_seg.specs.declared.packet.Packet.TheVariants.{Segment, DataAck}

infixl 10 ◌>>=◌
abbrev pub ◌>>=◌ : {A B : Type 0} → Result A SegFault → (A → Result B SegFault) → Result B SegFault
(Ok x) >>= f = f x
(Err e) >>= f = Err e

-- what a function returned, seen without where it lies in memory, is what reading gives
abbrev pub ReadsPacketAs : {X Y : Type 0} → (X → Y) → Result X SegFault → Result Y SegFault → Type 0
ReadsPacketAs view (Ok x) read = read ≡ Ok (view x)
ReadsPacketAs view (Err e) read = read ≡ Err e

-- the two-byte number at this offset, and what follows it
abbrev pub read_word : ℕ → List ℕ → Result (ℕ × List ℕ) SegFault
read_word at [] = Err (Truncated at)
read_word at (low ∷ []) = Err (Truncated at)
read_word at (low ∷ high ∷ rest) = Ok (low + 256 * high, rest)

-- the acknowledgement field that a number with bit 15 set is
abbrev pub ack_of : ℕ → Option AckField
ack_of word = if nat_lt word 0x8000 then None else Some (record { qual = word / 4096 % 8; number = residue word })

-- the acknowledgement fields of a segment, its number with the free bits, and its payload
unfoldable pub tail_of : List ℕ → Result (Option AckField × Option AckField × ℕ × List ℕ) SegFault
tail_of bytes = do
  one ← read_word 5 bytes
  if nat_lt one.0 0x8000 then Ok (None, None, one.0, one.1) else (do
    two ← read_word 7 one.1
    if nat_lt two.0 0x8000 then Ok (ack_of one.0, None, two.0, two.1) else (do
      three ← read_word 9 two.1
      if nat_lt three.0 0x8000 then Ok (ack_of one.0, ack_of two.0, three.0, three.1) else Err (BadNumber 9)))

unfoldable pub read_segment : ℕ → List ℕ → Result Packet SegFault
read_segment flag bytes = do
  dst ← read_word 1 bytes
  src ← read_word 3 dst.1
  tail ← tail_of src.1
  Ok (Segment (record { first = flag == 0x20 || flag == 0x60; last = flag == 0x40 || flag == 0x60; dst = dst.0; src = src.0; ack1 = tail.0; ack2 = tail.1; number = residue tail.2; payload = tail.3 }))

unfoldable pub second_of : List ℕ → Result (Option AckField) SegFault
second_of [] = Ok None
second_of (low ∷ []) = Err (Trailing 7)
second_of (low ∷ high ∷ []) = if nat_lt high 128 then Err (Trailing 7) else Ok (ack_of (low + 256 * high))
second_of (low ∷ high ∷ next ∷ rest) = if nat_lt high 128 then Err (Trailing 7) else Err (Trailing 9)

abbrev pub or_bad : Option AckField → Result AckField SegFault
or_bad None = Err (BadNumber 5)
or_bad (Some a) = Ok a

unfoldable pub data_ack_of : List ℕ → Result Packet SegFault
data_ack_of bytes = do
  dst ← read_word 1 bytes
  src ← read_word 3 dst.1
  one ← read_word 5 src.1
  ack1 ← or_bad (ack_of one.0)
  ack2 ← second_of one.1
  Ok (DataAck (record { dst = dst.0; src = src.0; ack1 = ack1; ack2 = ack2 }))

unfoldable pub read_packet : List ℕ → Result Packet SegFault
read_packet [] = Err (Truncated 0)
read_packet (flag ∷ rest) =
    if flag == 0x00 || flag == 0x20 || flag == 0x40 || flag == 0x60 then read_segment flag rest else
    (if flag == 0x04 then data_ack_of rest else Err (NotHere flag))
