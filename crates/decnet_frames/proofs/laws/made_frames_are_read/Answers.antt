-- What padding and each header say. Where the message is in its frame is in the lemmas.
use Rattle.std.proofs.Common.{◌≡◌, ℕ, suc, ◌+◌, ◌-◌, ◌%◌, ◌^◌, ◌<◌, ◌≤◌, ◌==◌, List, [], ◌∷◌, ◌++◌, drop, length, length-append, Option, Some, None, Result, Ok, Err, arith, refl, ap, ◌∙◌}
use Rattle.std.specs.Prelude.{nat_lt, nat_le}
use Rattle.std.proofs.lemmas.Bool.{cond-false, cond-true, eq-eqb, le-ltb, lt-leb, lt-ltb, ne_eqb}
use Rattle.std.proofs.lemmas.List.{drop_at}
use Rattle.byteorder.specs.Numbers.{little_number-reads_back}
use Rattle.dap_listing.specs.Listing.{packet_limit}
use Rattle.decnet_frames.specs.Frames.{Packet, and_then, data_of, fitting, long_of, number_at, packet_after_padding, packet_by_flags, short_of}
use Rattle.decnet_frames.specs.Made.{Envelope, FitsData, IsControl, IsEnvelope, IsHeader, IsNodeAddress, IsPadding, LongParts, MadeData, NodeAddress, RoutingHeader, bytes_of_frame, bytes_of_header, bytes_of_padding, message_of_control, message_of_data, node_of_address, packet_of_data}
use Rattle.decnet_frames.specs.Made.RoutingHeader.{LongHeader, ShortHeader}
use Rattle.decnet_frames.specs.declared.packet.Passed.{Passed}
use Rattle.decnet_frames.specs.declared.packet.Passed.TheVariants.{OtherMessage}
use Rattle.decnet_frames.proofs.MadeLemmas.{at_other_type, header_long, message_cut, message_found, padding_long}
use Rattle.decnet_frames.proofs.laws.made_frames_are_read.Goals as goal

-- ---- padding

unpadded : (padding : Option (List ℕ)) (flags : ℕ) (rest : List ℕ) → IsPadding padding → flags < 128 → packet_after_padding (bytes_of_padding padding ++ flags ∷ rest) ≡ Ok (flags ∷ rest)
unpadded None flags rest is few = cond-true (nat_lt flags 0x80) _ _ (lt-ltb _ _ few)
unpadded (Some others) flags rest is few =
    let first = 0x80 + (1 + length others) in
    let all = others ++ flags ∷ rest in
    let count : first - 0x80 ≡ suc (length others) = omega arith in
    cond-false (nat_lt first 0x80) _ _ (le-ltb _ _ (omega arith))
    ∙ (cond-false (nat_le (length (first ∷ all)) (first - 0x80)) _ _ (lt-leb _ _ (omega (arith, length-append others (flags ∷ rest))))
    ∙ (ap (λ (n : ℕ). let r : Result (List ℕ) Passed = Ok (drop n (first ∷ all)) in r) count
    ∙ ap (λ (xs : List ℕ). let r : Result (List ℕ) Passed = Ok xs in r) (drop_at others (flags ∷ rest) (length others) refl)))

-- ---- a header

node_small : (a : NodeAddress) → IsNodeAddress a → node_of_address a < 65536
node_small a is =
    let area : a.area < 64 = is.area in
    let number : a.number < 1024 = is.number in
    omega (arith, area, number)

abbrev pub packet_for : (source destination : ℕ) → (packet : List ℕ) → Result Packet Passed
packet_for source destination packet = Ok (record { source = source; destination = destination; packet = packet })

long_read : (p : LongParts) (source destination : NodeAddress) (packet : List ℕ) → IsNodeAddress source → IsNodeAddress destination → 0 < length packet
    → long_of (bytes_of_header (LongHeader p) source destination ++ packet) ≡ packet_for (node_of_address source) (node_of_address destination) packet
long_read p source destination packet from to some =
    let m = bytes_of_header (LongHeader p) source destination ++ packet in
    let sent : number_at 15 m ≡ node_of_address source = little_number-reads_back 2 (node_of_address source) [] (node_small source from) in
    let received : number_at 7 m ≡ node_of_address destination = little_number-reads_back 2 (node_of_address destination) [] (node_small destination to) in
    cond-false (nat_lt (length m) 22) _ _ (le-ltb _ _ (omega (arith, some)))
    ∙ (ap (λ n. packet_for n (number_at 7 m) packet) sent ∙ ap (λ n. packet_for (node_of_address source) n packet) received)

short_read : (flags visits : ℕ) (source destination : NodeAddress) (packet : List ℕ) → IsNodeAddress source → IsNodeAddress destination → 0 < length packet
    → short_of (bytes_of_header (ShortHeader flags visits) source destination ++ packet) ≡ packet_for (node_of_address source) (node_of_address destination) packet
short_read flags visits source destination packet from to some =
    let m = bytes_of_header (ShortHeader flags visits) source destination ++ packet in
    let sent : number_at 3 m ≡ node_of_address source = little_number-reads_back 2 (node_of_address source) [] (node_small source from) in
    let received : number_at 1 m ≡ node_of_address destination = little_number-reads_back 2 (node_of_address destination) [] (node_small destination to) in
    cond-false (nat_lt (length m) 7) _ _ (le-ltb _ _ (omega (arith, some)))
    ∙ (ap (λ n. packet_for n (number_at 1 m) packet) sent ∙ ap (λ n. packet_for (node_of_address source) n packet) received)

header_read : (header : RoutingHeader) (source destination : NodeAddress) (packet : List ℕ) → IsHeader header → IsNodeAddress source → IsNodeAddress destination → 0 < length packet
    → packet_by_flags (bytes_of_header header source destination ++ packet) ≡ packet_for (node_of_address source) (node_of_address destination) packet
header_read (LongHeader p) source destination packet is from to some =
    cond-false (nat_le 0x80 p.flags) _ _ (lt-leb _ _ is.0)
    ∙ (cond-true (p.flags % 8 == 6) _ _ (eq-eqb _ _ is.1) ∙ long_read p source destination packet from to some)
header_read (ShortHeader flags visits) source destination packet is from to some =
    cond-false (nat_le 0x80 flags) _ _ (lt-leb _ _ is.0)
    ∙ (cond-false (flags % 8 == 6) _ _ (ne_eqb _ _ (λ e. omega (arith, e, is.1)))
    ∙ (cond-true (flags % 8 == 2) _ _ (eq-eqb _ _ is.1) ∙ short_read flags visits source destination packet from to some))

-- ---- a message of data

header_unpadded : (padding : Option (List ℕ)) (header : RoutingHeader) (source destination : NodeAddress) (packet : List ℕ) → IsPadding padding → IsHeader header
    → packet_after_padding (bytes_of_padding padding ++ (bytes_of_header header source destination ++ packet)) ≡ Ok (bytes_of_header header source destination ++ packet)
header_unpadded padding (LongHeader p) source destination packet is header = unpadded padding p.flags _ is header.0
header_unpadded padding (ShortHeader flags visits) source destination packet is header = unpadded padding flags _ is header.0

data_read : (e : Envelope) (d : MadeData) → IsEnvelope e → FitsData d → length (message_of_data d) < 2 ^ 16
    → data_of (bytes_of_frame e (message_of_data d)) ≡ Ok (packet_of_data d)
data_read e d is fits few =
    let message = message_of_data d in
    let header = bytes_of_header d.header d.source d.destination in
    let some : 0 < length d.packet = fits.some in
    ap (λ r. and_then r (λ m. and_then (packet_after_padding m) packet_by_flags))
    (message_found e message is (omega (arith, some, length-append (bytes_of_padding d.padding) (header ++ d.packet), length-append header d.packet)) few)
    ∙ (ap (λ r. and_then r packet_by_flags) (header_unpadded d.padding d.header d.source d.destination d.packet fits.padding fits.header)
    ∙ header_read d.header d.source d.destination d.packet fits.header fits.source fits.destination some)

-- a packet that a line may have is in a message that has a length
data_few : (d : MadeData) → FitsData d → length d.packet ≤ packet_limit → length (message_of_data d) < 2 ^ 16
data_few d fits most =
    let header = bytes_of_header d.header d.source d.destination in
    omega (arith, most, padding_long d.padding fits.padding, header_long d.header d.source d.destination, length-append (bytes_of_padding d.padding) (header ++ d.packet), length-append header d.packet)

pub returns-clause-data : goal.returns-clause-data
returns-clause-data c = λ e d is fits most apart.
    ap (λ r. and_then r fitting) (data_read e d is fits (data_few d fits most))
    ∙ (cond-false (nat_lt packet_limit (length d.packet)) _ _ (le-ltb _ _ most)
    ∙ cond-false (node_of_address d.source == node_of_address d.destination) _ _ (ne_eqb _ _ apart))

pub returns-clause-too_long : goal.returns-clause-too_long
returns-clause-too_long c = λ e d is fits long few.
    ap (λ r. and_then r fitting) (data_read e d is fits few) ∙ cond-true (nat_lt packet_limit (length d.packet)) _ _ (lt-ltb _ _ long)

pub returns-clause-to_itself : goal.returns-clause-to_itself
returns-clause-to_itself c = λ e d is fits most same.
    ap (λ r. and_then r fitting) (data_read e d is fits (data_few d fits most))
    ∙ (cond-false (nat_lt packet_limit (length d.packet)) _ _ (le-ltb _ _ most)
    ∙ cond-true (node_of_address d.source == node_of_address d.destination) _ _ (eq-eqb _ _ same))

-- ---- what is passed over

control_read : (flags : ℕ) (rest : List ℕ) → IsControl flags → packet_by_flags (flags ∷ rest) ≡ Err OtherMessage
control_read flags rest is =
    let odd : flags % 2 ≡ 1 = is.1 in
    cond-false (nat_le 0x80 flags) _ _ (lt-leb _ _ is.0)
    ∙ (cond-false (flags % 8 == 6) _ _ (ne_eqb _ _ (λ e. omega (arith, e, odd)))
    ∙ cond-false (flags % 8 == 2) _ _ (ne_eqb _ _ (λ e. omega (arith, e, odd))))

pub returns-clause-control : goal.returns-clause-control
returns-clause-control c = λ e padding flags rest is padded control few.
    let message = message_of_control padding flags rest in
    ap (λ r. and_then (and_then r (λ m. and_then (packet_after_padding m) packet_by_flags)) fitting)
    (message_found e message is (omega (arith, length-append (bytes_of_padding padding) (flags ∷ rest))) few)
    ∙ (ap (λ r. and_then (and_then r packet_by_flags) fitting) (unpadded padding flags rest padded control.0)
    ∙ ap (λ r. and_then r fitting) (control_read flags rest control))

pub returns-clause-other_type : goal.returns-clause-other_type
returns-clause-other_type c = λ e kind rest is other.
    ap (λ r. and_then (and_then r (λ m. and_then (packet_after_padding m) packet_by_flags)) fitting) (at_other_type e kind rest is other)

pub returns-clause-cut_short : goal.returns-clause-cut_short
returns-clause-cut_short c = λ e message count is few some short.
    ap (λ r. and_then (and_then r (λ m. and_then (packet_after_padding m) packet_by_flags)) fitting) (message_cut e message count is few some short)
