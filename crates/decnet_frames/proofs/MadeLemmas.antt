-- The routing message of a frame that is made.
use Rattle.std.proofs.Common.{◌≡◌, ◌≢◌, ℕ, zero, suc, ◌+◌, ◌-◌, ◌*◌, ◌/◌, ◌%◌, ◌^◌, ◌<◌, ◌≤◌, ◌==◌, ◌&&◌, ◌||◌, false, List, [], ◌∷◌, ◌++◌, take, drop, length, length-append, Option, Some, None, Result, Ok, Err, arith, inl, inr, length-take, refl, ap, sym, ◌∙◌, append_assoc}
use Rattle.std.specs.Prelude.{nat_lt}
use Rattle.std.specs.List.{flat_map}
use Rattle.std.proofs.lemmas.Bool.{and_left, and_right, cond-false, cond-true, eqb-true, le-ltb, cases_Bool, lt-ltb, ne_eqb, or_from, or_right}
use Rattle.std.proofs.lemmas.List.{drop_at, take_at}
use Rattle.std.proofs.Math.Seq.{take-append-add}
use Rattle.byteorder.specs.Endian.{big_bytes, little_bytes}
use Rattle.decnet_frames.specs.Frames.{bytes_after_tags, bytes_by_length, is_tag, payload_by_type, routing_message}
use Rattle.decnet_frames.specs.Made.{Envelope, FrameTag, IsEnvelope, IsOtherType, IsPadding, NodeAddress, RoutingHeader, bytes_of_frame, bytes_of_header, bytes_of_padding, bytes_of_tag, bytes_to_type, routing_type}
use Rattle.decnet_frames.specs.Made.FrameTag.{CustomerTag, EarlierTag, ServiceTag}
use Rattle.decnet_frames.specs.Made.RoutingHeader.{LongHeader, ShortHeader}
use Rattle.decnet_frames.specs.declared.packet.Passed.{Passed}
use Rattle.decnet_frames.specs.declared.packet.Passed.TheVariants.{CutShort, OtherFrame}

-- ---- the type

after_stations : (e : Envelope) (kind : ℕ) (rest : List ℕ) → IsEnvelope e
    → drop 12 (bytes_to_type e kind ++ rest) ≡ flat_map bytes_of_tag e.tags ++ (big_bytes 2 kind ++ rest)
after_stations e kind rest is =
    let tags = flat_map bytes_of_tag e.tags in
    let typed = big_bytes 2 kind in
    let receiver : length e.receiver ≡ 6 = is.receiver in
    let sender : length e.sender ≡ 6 = is.sender in
    ap (λ xs. drop 12 xs) (append_assoc e.receiver (e.sender ++ (tags ++ typed)) rest
    ∙ (ap (λ xs. e.receiver ++ xs) (append_assoc e.sender (tags ++ typed) rest ∙ ap (λ xs. e.sender ++ xs) (append_assoc tags typed rest))
    ∙ sym (append_assoc e.receiver e.sender (tags ++ (typed ++ rest)))))
    ∙ drop_at (e.receiver ++ e.sender) (tags ++ (typed ++ rest)) 12 (omega (arith, receiver, sender, length-append e.receiver e.sender))

after_tags : (tags : List FrameTag) (rest : List ℕ) → bytes_after_tags (flat_map bytes_of_tag tags ++ rest) ≡ bytes_after_tags rest
after_tags [] rest = refl
after_tags (CustomerTag first second ∷ others) rest = after_tags others rest
after_tags (ServiceTag first second ∷ others) rest = after_tags others rest
after_tags (EarlierTag first second ∷ others) rest = after_tags others rest

at_type : (e : Envelope) (kind : ℕ) (rest : List ℕ) → IsEnvelope e
    → routing_message (bytes_to_type e kind ++ rest) ≡ payload_by_type (bytes_after_tags (big_bytes 2 kind ++ rest))
at_type e kind rest is =
    let frame = bytes_to_type e kind ++ rest in
    let tags = flat_map bytes_of_tag e.tags in
    let receiver : length e.receiver ≡ 6 = is.receiver in
    let sender : length e.sender ≡ 6 = is.sender in
    let some : 12 ≤ length frame =
    omega (arith, receiver, sender, length-append (bytes_to_type e kind) rest, length-append e.receiver (e.sender ++ (tags ++ big_bytes 2 kind)), length-append e.sender (tags ++ big_bytes 2 kind)) in
    cond-false (nat_lt (length frame) 12) _ _ (le-ltb _ _ some)
    ∙ (ap (λ xs. payload_by_type (bytes_after_tags xs)) (after_stations e kind rest is) ∙ ap payload_by_type (after_tags e.tags (big_bytes 2 kind ++ rest)))

routing_typed : (rest : List ℕ) → payload_by_type (bytes_after_tags (big_bytes 2 routing_type ++ rest)) ≡ bytes_by_length rest
routing_typed [] = refl
routing_typed (a ∷ []) = refl
routing_typed (a ∷ b ∷ rest) = refl

-- a frame of the type of routing messages has what follows the type
pub at_length : (e : Envelope) (rest : List ℕ) → IsEnvelope e → routing_message (bytes_to_type e routing_type ++ rest) ≡ bytes_by_length rest
at_length e rest is = at_type e routing_type rest is ∙ routing_typed rest

-- ---- another type

-- the two bytes of a number that isn't another one's
apart : (kind other : ℕ) → kind < 2 ^ 16 → other < 2 ^ 16 → kind ≢ other → ((kind / 256 % 256 == other / 256) && (kind % 256 == other % 256)) ≡ false
apart kind other small few no_other =
    elim (cases_Bool (kind / 256 % 256 == other / 256)) [
      | inl high ↦
          let same : kind / 256 % 256 ≡ other / 256 = eqb-true (kind / 256 % 256) (other / 256) high in
          and_right _ _ (ne_eqb (kind % 256) (other % 256) (λ low. no_other (omega (arith, same, low))))
      | inr high ↦ and_left _ _ high
    ]

other_after : (kind : ℕ) (rest : List ℕ) → ((kind / 256 % 256 == 0x60) && (kind % 256 == 0x03)) ≡ false → is_tag (kind / 256 % 256) (kind % 256) ≡ false
    → payload_by_type (bytes_after_tags (big_bytes 2 kind ++ rest)) ≡ Err OtherFrame
other_after kind [] none no_tag = cond-false _ _ _ none
other_after kind (a ∷ []) none no_tag = cond-false _ _ _ none
other_after kind (a ∷ b ∷ rest) none no_tag = ap payload_by_type (cond-false _ _ _ no_tag) ∙ cond-false _ _ _ none

other_typed : (kind : ℕ) (rest : List ℕ) → IsOtherType kind → payload_by_type (bytes_after_tags (big_bytes 2 kind ++ rest)) ≡ Err OtherFrame
other_typed kind rest is =
    let none : ((kind / 256 % 256 == 0x60) && (kind % 256 == 0x03)) ≡ false = apart kind routing_type is.small (omega arith) is.no_routing in
    let no_tag : is_tag (kind / 256 % 256) (kind % 256) ≡ false =
    or_from _ _ (or_from _ _ (apart kind 0x8100 is.small (omega arith) is.no_customer) (apart kind 0x88A8 is.small (omega arith) is.no_service)) (apart kind 0x9100 is.small (omega arith) is.no_earlier) in
    other_after kind rest none no_tag

pub at_other_type : (e : Envelope) (kind : ℕ) (rest : List ℕ) → IsEnvelope e → IsOtherType kind → routing_message (bytes_to_type e kind ++ rest) ≡ Err OtherFrame
at_other_type e kind rest is other = at_type e kind rest is ∙ other_typed kind rest other

-- ---- the length

length_back : (n : ℕ) → n < 2 ^ 16 → n % 256 + 256 * (n / 256 % 256) ≡ n
length_back n few = omega arith

-- the message is what the length says
counted : (message filler : List ℕ) → 0 < length message → length message < 2 ^ 16 → bytes_by_length (little_bytes 2 (length message) ++ (message ++ filler)) ≡ Ok message
counted message filler some few =
    let n = length message in
    let rest = message ++ filler in
    let count = n % 256 + 256 * (n / 256 % 256) in
    let is : count ≡ n = length_back n few in
    let enough : count ≤ length rest = omega (arith, is, length-append message filler) in
    cond-false ((count == 0) || nat_lt (length rest) count) _ _ (or_from _ _ (ne_eqb count 0 (λ e. omega (arith, is, some, e))) (le-ltb _ _ enough))
    ∙ (ap (λ (k : ℕ). let r : Result (List ℕ) Passed = Ok (take k rest) in r) is ∙ ap (λ (xs : List ℕ). let r : Result (List ℕ) Passed = Ok xs in r) (take_at message filler n refl))

pub message_found : (e : Envelope) (message : List ℕ) → IsEnvelope e → 0 < length message → length message < 2 ^ 16 → routing_message (bytes_of_frame e message) ≡ Ok message
message_found e message is some few = at_length e (little_bytes 2 (length message) ++ (message ++ e.filler)) is ∙ counted message e.filler some few

-- and where fewer bytes are there, it is cut short
counted_short : (message filler : List ℕ) (k : ℕ) → length message < 2 ^ 16 → k < 2 + length message
    → bytes_by_length (take k (little_bytes 2 (length message) ++ (message ++ filler))) ≡ Err CutShort
counted_short message filler zero few short = refl
counted_short message filler (suc zero) few short = refl
counted_short message filler (suc (suc k)) few short =
    let n = length message in
    let rest = take k (message ++ filler) in
    let count = n % 256 + 256 * (n / 256 % 256) in
    let is : count ≡ n = length_back n few in
    let fewer : length rest < count = omega (arith, is, short, length-take k (message ++ filler)) in
    cond-true ((count == 0) || nat_lt (length rest) count) _ _ (or_right _ _ (lt-ltb _ _ fewer))

pub message_cut : (e : Envelope) (message : List ℕ) (count : ℕ) → IsEnvelope e → length message < 2 ^ 16 → length (bytes_to_type e routing_type) ≤ count
    → count < length (bytes_to_type e routing_type) + 2 + length message → routing_message (take count (bytes_of_frame e message)) ≡ Err CutShort
message_cut e message count is few some short =
    let front = bytes_to_type e routing_type in
    let rest = little_bytes 2 (length message) ++ (message ++ e.filler) in
    let k = count - length front in
    let so : count ≡ length front + k = omega (arith, some) in
    ap (λ n. routing_message (take n (front ++ rest))) so
    ∙ (ap routing_message (take-append-add front rest k)
    ∙ (at_length e (take k rest) is ∙ counted_short message e.filler k few (omega (arith, some, short))))

-- ---- how long a message is

pub padding_long : (padding : Option (List ℕ)) → IsPadding padding → length (bytes_of_padding padding) < 128
padding_long None is = omega arith
padding_long (Some others) is = omega (arith, is)

pub header_long : (header : RoutingHeader) (source destination : NodeAddress) → length (bytes_of_header header source destination) ≤ 21
header_long (LongHeader p) source destination = omega arith
header_long (ShortHeader flags visits) source destination = omega arith
