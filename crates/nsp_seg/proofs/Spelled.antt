-- What is spelled is read.
use Rattle.std.proofs.Common.{◌∙◌, ◌≡◌, ℕ, ◌+◌, ◌*◌, ◌<◌, ◌^◌, Bool, true, false, List, [], ◌∷◌, ◌++◌, Option, Some, None, Result, Ok, Err, refl, arith}
use Rattle.std.specs.Prelude.{IfSome, IsOkAnd}
use Rattle.byteorder.specs.Endian.{little_bytes}
use Rattle.std.proofs.lemmas.Bool.{lt-ltb}
use Rattle.nsp_seg.specs.declared.packet.AckField.{AckField}
use Rattle.nsp_seg.specs.declared.packet.SegFault.{SegFault}
use Rattle.nsp_seg.specs.Packets.{Packet, AckFits, Beside, Spells, ack_bytes, optional_ack, marks}
use Rattle.nsp_seg.specs.declared.packet.Packet.TheVariants.{Segment, DataAck}
use Rattle.nsp_seg.specs.Inner.Reading.{ReadsPacketAs, tail_of, read_segment, second_of, data_ack_of, read_packet}
use Rattle.nsp_seg.proofs.Words.{word_back, ack_word-above, ack_word-qual, ack_word-number, ack_word-high, free-number}

pub tail_of-spelled : (a b : Option AckField) (word : ℕ) (payload : List ℕ) → IfSome a AckFits → IfSome b AckFits → Beside a b → word < 0x8000 → tail_of (optional_ack a ++ optional_ack b ++ little_bytes 2 word ++ payload) ≡ Ok (a, b, word, payload)
unfolding tail_of
tail_of-spelled None None word payload fa fb beside lt =
    rw (word_back word (omega arith), lt-ltb word 0x8000 lt) refl
tail_of-spelled (Some a) None word payload fa fb beside lt =
    rw (word_back (0x8000 + 0x1000 * a.qual + a.number) (omega arith), ack_word-above a fa, word_back word (omega arith), lt-ltb word 0x8000 lt, ack_word-qual a fa, ack_word-number a fa) refl
tail_of-spelled (Some a) (Some b) word payload fa fb beside lt =
    rw (word_back (0x8000 + 0x1000 * a.qual + a.number) (omega arith), ack_word-above a fa, word_back (0x8000 + 0x1000 * b.qual + b.number) (omega arith), ack_word-above b fb, word_back word (omega arith), lt-ltb word 0x8000 lt, ack_word-qual a fa, ack_word-number a fa, ack_word-qual b fb, ack_word-number b fb) refl
tail_of-spelled None (Some b) word payload fa fb beside lt = absurd beside

second_of-spelled : (b : Option AckField) → IfSome b AckFits → second_of (optional_ack b) ≡ Ok b
unfolding second_of
second_of-spelled None fb = refl
second_of-spelled (Some b) fb =
    rw (ack_word-high b fb, word_back (0x8000 + 0x1000 * b.qual + b.number) (omega arith), ack_word-above b fb, ack_word-qual b fb, ack_word-number b fb) refl

segment_of-spelled : (first last : Bool) (dst src free number : ℕ) (a b : Option AckField) (payload : List ℕ) → dst < 2 ^ 16 → src < 2 ^ 16 → IfSome a AckFits → IfSome b AckFits → Beside a b → number < 4096 → free < 8
    → read_packet (marks first last ∷ [] ++ little_bytes 2 dst ++ little_bytes 2 src ++ optional_ack a ++ optional_ack b ++ little_bytes 2 (0x1000 * free + number) ++ payload)
    ≡ Ok (Segment (record { first = first; last = last; dst = dst; src = src; ack1 = a; ack2 = b; number = number; payload = payload }))
unfolding read_packet read_segment
segment_of-spelled true true dst src free number a b payload fd fs fa fb beside lt fits =
    rw (word_back dst fd, word_back src fs, tail_of-spelled a b (0x1000 * free + number) payload fa fb beside (omega arith), free-number free number lt) refl
segment_of-spelled true false dst src free number a b payload fd fs fa fb beside lt fits =
    rw (word_back dst fd, word_back src fs, tail_of-spelled a b (0x1000 * free + number) payload fa fb beside (omega arith), free-number free number lt) refl
segment_of-spelled false true dst src free number a b payload fd fs fa fb beside lt fits =
    rw (word_back dst fd, word_back src fs, tail_of-spelled a b (0x1000 * free + number) payload fa fb beside (omega arith), free-number free number lt) refl
segment_of-spelled false false dst src free number a b payload fd fs fa fb beside lt fits =
    rw (word_back dst fd, word_back src fs, tail_of-spelled a b (0x1000 * free + number) payload fa fb beside (omega arith), free-number free number lt) refl

data_ack_of-spelled : (dst src : ℕ) (a : AckField) (b : Option AckField) → dst < 2 ^ 16 → src < 2 ^ 16 → AckFits a → IfSome b AckFits
    → read_packet (0x04 ∷ [] ++ little_bytes 2 dst ++ little_bytes 2 src ++ ack_bytes a ++ optional_ack b)
    ≡ Ok (DataAck (record { dst = dst; src = src; ack1 = a; ack2 = b }))
unfolding read_packet data_ack_of
data_ack_of-spelled dst src a b fd fs fa fb =
    rw (word_back dst fd, word_back src fs, word_back (0x8000 + 0x1000 * a.qual + a.number) (omega arith), ack_word-above a fa, second_of-spelled b fb, ack_word-qual a fa, ack_word-number a fa) refl

pub read-spelled : (p : Packet) (bytes : List ℕ) → Spells p bytes → read_packet bytes ≡ Ok p
read-spelled (Segment p) bytes s =
    let fits = s.fits in
    let free = s.free in
    let small = s.few in
    let same = s.spelled in
    rw same (segment_of-spelled p.first p.last p.dst p.src free p.number p.ack1 p.ack2 p.payload fits.0 fits.1 fits.2 fits.3 fits.4 fits.5 small)
read-spelled (DataAck p) bytes s =
    let fits = s.fits in
    let free = s.free in
    let small = s.few in
    let same = s.spelled in
    rw same (data_ack_of-spelled p.dst p.src p.ack1 p.ack2 fits.0 fits.1 fits.2 fits.3)

-- a result that gives what is spelled is that packet
pub given-spelled : (r : Result Packet SegFault) (p : Packet) (bytes : List ℕ) → r ≡ read_packet bytes → Spells p bytes → r ≡ Ok p
given-spelled r p bytes g s = g ∙ read-spelled p bytes s
