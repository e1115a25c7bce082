-- The packets of frames of bytes.
use Rattle.std.proofs.Common.{◌<◌, ◌≤◌, ◌+◌, ◌-◌, ◌*◌, ◌%◌, ◌^◌, ◌==◌, ◌&&◌, ◌||◌, ℕ, zero, suc, List, [], ◌∷◌, length, length-drop, take, drop, Result, Ok, Err, arith}
use Rattle.std.specs.Prelude.{nat_lt, nat_le}
use Rattle.std.proofs.lemmas.Bool.{cond_both, ltb-false}
use Rattle.byteorder.specs.Numbers.{little_from-lt}
use Rattle.dap_fields.specs.Spelling.{AreBytes}
use Rattle.dap_listing.specs.Listing.{packet_limit}
use Rattle.capture_file.specs.Meanings.{Record}
use Rattle.decnet_frames.specs.Frames.{Packet, and_then, bytes_by_length, data_of, fitting, is_node, is_tag, long_of, routing_message, nsp_packet_of, packet_by_flags, short_of, payload_by_type, packet_after_padding, bytes_after_tags, number_at}
use Rattle.decnet_frames.specs.Founds.{packet_in}
use Rattle.decnet_frames.specs.declared.packet.Passed.{Passed}

no_bytes : AreBytes []
no_bytes i = omega arith

bytes_behind : (x : ℕ) (xs : List ℕ) → AreBytes (x ∷ xs) → AreBytes xs
bytes_behind x xs are i = are (suc i)

bytes_drop : (n : ℕ) (xs : List ℕ) → AreBytes xs → AreBytes (drop n xs)
bytes_drop zero xs are = are
bytes_drop (suc n) [] are = no_bytes
bytes_drop (suc n) (x ∷ xs) are = bytes_drop n xs (bytes_behind x xs are)

bytes_take : (n : ℕ) (xs : List ℕ) → AreBytes xs → AreBytes (take n xs)
bytes_take zero xs are i = omega arith
bytes_take (suc n) [] are i = omega arith
bytes_take (suc n) (x ∷ xs) are zero = are zero
bytes_take (suc n) (x ∷ xs) are (suc i) = bytes_take n xs (bytes_behind x xs are) i

abbrev pub OkBytes : Result (List ℕ) Passed → Type 0
OkBytes (Ok xs) = AreBytes xs
OkBytes (Err e) = Unit {0}

-- a packet between nodes of 16 bits
pub record IsPacket (p : Packet) : Type 0 where
  pub source : p.source < 65536
  pub destination : p.destination < 65536
  pub bytes : AreBytes p.packet
  pub some : 0 < length p.packet

abbrev pub OkPacket : Result Packet Passed → Type 0
OkPacket (Ok p) = IsPacket p
OkPacket (Err e) = Unit {0}

untagged_bytes : (xs : List ℕ) → AreBytes xs → AreBytes (bytes_after_tags xs)
untagged_bytes [] are = are
untagged_bytes (a ∷ []) are = are
untagged_bytes (a ∷ b ∷ []) are = are
untagged_bytes (a ∷ b ∷ c ∷ []) are = are
untagged_bytes (a ∷ b ∷ c ∷ d ∷ rest) are =
    cond_both {A = List ℕ} (is_tag a b) _ _ (λ xs. AreBytes xs) (λ _. untagged_bytes rest (bytes_drop 4 (a ∷ b ∷ c ∷ d ∷ rest) are)) (λ _. are)

counted_bytes : (xs : List ℕ) → AreBytes xs → OkBytes (bytes_by_length xs)
counted_bytes [] are = tt
counted_bytes (a ∷ []) are = tt
counted_bytes (a ∷ b ∷ rest) are =
    cond_both {A = Result (List ℕ) Passed} ((a + 256 * b == 0) || nat_lt (length rest) (a + 256 * b)) _ _ OkBytes (λ _. tt)
    (λ _. bytes_take (a + 256 * b) rest (bytes_drop 2 (a ∷ b ∷ rest) are))

typed_bytes : (xs : List ℕ) → AreBytes xs → OkBytes (payload_by_type xs)
typed_bytes [] are = tt
typed_bytes (a ∷ []) are = tt
typed_bytes (a ∷ b ∷ rest) are =
    cond_both {A = Result (List ℕ) Passed} (a == 0x60 && b == 0x03) _ _ OkBytes (λ _. counted_bytes rest (bytes_drop 2 (a ∷ b ∷ rest) are)) (λ _. tt)

message_bytes : (xs : List ℕ) → AreBytes xs → OkBytes (routing_message xs)
message_bytes xs are =
    cond_both {A = Result (List ℕ) Passed} (nat_lt (length xs) 12) _ _ OkBytes (λ _. tt)
    (λ _. typed_bytes (bytes_after_tags (drop 12 xs)) (untagged_bytes (drop 12 xs) (bytes_drop 12 xs are)))

unpadded_bytes : (xs : List ℕ) → AreBytes xs → OkBytes (packet_after_padding xs)
unpadded_bytes [] are = tt
unpadded_bytes (x ∷ xs) are =
    cond_both {A = Result (List ℕ) Passed} (nat_lt x 0x80) _ _ OkBytes (λ _. are)
    (λ _. cond_both {A = Result (List ℕ) Passed} (nat_le (length (x ∷ xs)) (x - 0x80)) _ _ OkBytes (λ _. tt) (λ _. bytes_drop (x - 0x80) (x ∷ xs) are))

word_small : (at : ℕ) (m : List ℕ) → AreBytes m → number_at at m < 65536
word_small at m are = let fits : number_at at m < 256 ^ 2 = little_from-lt 0 2 (drop at m) (bytes_drop at m are) in omega (arith, fits)

long_packet : (m : List ℕ) → AreBytes m → OkPacket (long_of m)
long_packet m are =
    cond_both {A = Result Packet Passed} (nat_lt (length m) 22) _ _ OkPacket (λ _. tt)
    (λ few. cond_both {A = Result Packet Passed} (is_node 3 m && is_node 11 m) _ _ OkPacket
    (λ _. record { source = word_small 15 m are; destination = word_small 7 m are; bytes = bytes_drop 21 m are; some = omega (arith, length-drop 21 m, ltb-false _ _ few) })
    (λ _. tt))

short_packet : (m : List ℕ) → AreBytes m → OkPacket (short_of m)
short_packet m are =
    cond_both {A = Result Packet Passed} (nat_lt (length m) 7) _ _ OkPacket (λ _. tt)
    (λ few. record { source = word_small 3 m are; destination = word_small 1 m are; bytes = bytes_drop 6 m are; some = omega (arith, length-drop 6 m, ltb-false _ _ few) })

routed_packet : (m : List ℕ) → AreBytes m → OkPacket (packet_by_flags m)
routed_packet [] are = tt
routed_packet (flags ∷ rest) are =
    cond_both {A = Result Packet Passed} (nat_le 0x80 flags) _ _ OkPacket (λ _. tt)
    (λ _. cond_both {A = Result Packet Passed} (flags % 8 == 6) _ _ OkPacket (λ _. long_packet (flags ∷ rest) are)
    (λ _. cond_both {A = Result Packet Passed} (flags % 8 == 2) _ _ OkPacket (λ _. short_packet (flags ∷ rest) are) (λ _. tt)))

fitting_packet : (p : Packet) → IsPacket p → OkPacket (fitting p)
fitting_packet p is =
    cond_both {A = Result Packet Passed} (nat_lt packet_limit (length p.packet)) _ _ OkPacket (λ _. tt)
    (λ _. cond_both {A = Result Packet Passed} (p.source == p.destination) _ _ OkPacket (λ _. tt) (λ _. is))

read_on : (r : Result (List ℕ) Passed) (f : List ℕ → Result Packet Passed) → OkBytes r → ((xs : List ℕ) → AreBytes xs → OkPacket (f xs)) → OkPacket (and_then r f)
read_on (Ok xs) f are next = next xs are
read_on (Err e) f are next = tt

fit_on : (r : Result Packet Passed) → OkPacket r → OkPacket (and_then r fitting)
fit_on (Ok p) is = fitting_packet p is
fit_on (Err e) is = tt

pub packet_bytes : (frame : List ℕ) → AreBytes frame → OkPacket (nsp_packet_of frame)
packet_bytes frame are =
    fit_on (data_of frame) (read_on (routing_message frame) (λ message. and_then (packet_after_padding message) packet_by_flags) (message_bytes frame are)
    (λ message are. read_on (packet_after_padding message) packet_by_flags (unpadded_bytes message are) routed_packet))

pub packet_in_bytes : (r : Record) → AreBytes r.bytes → OkPacket (packet_in r)
packet_in_bytes r are = cond_both {A = Result Packet Passed} r.is_ethernet _ _ OkPacket (λ _. packet_bytes r.bytes are) (λ _. tt)

-- and no longer than a line may have

abbrev pub OkShort : Result Packet Passed → Type 0
OkShort (Ok p) = length p.packet ≤ packet_limit
OkShort (Err e) = Unit {0}

short_fit : (r : Result Packet Passed) → OkShort (and_then r fitting)
short_fit (Ok p) =
    cond_both {A = Result Packet Passed} (nat_lt packet_limit (length p.packet)) _ _ OkShort (λ _. tt)
    (λ few. cond_both {A = Result Packet Passed} (p.source == p.destination) _ _ OkShort (λ _. tt) (λ _. ltb-false _ _ few))
short_fit (Err e) = tt

pub packet_in_short : (r : Record) → OkShort (packet_in r)
packet_in_short r = cond_both {A = Result Packet Passed} r.is_ethernet _ _ OkShort (λ _. short_fit (data_of r.bytes)) (λ _. tt)
