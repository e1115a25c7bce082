-- Packets have one listing at most.
use Rattle.std.proofs.Common.{◌≡◌, ◌∙◌, refl, sym, ap, subst, ℕ, ◌+◌, ◌<◌, suc, zero, Bool, true, false, List, [], ◌∷◌, ◌++◌, get_or, cond, map, max, not, codes, arith, Some, None, Ok, Err}
use Rattle.std.specs.Prelude.{◌&&◌, ◌==◌, MatchBool, if◌then◌else◌}
use Rattle.std.specs.List.{AllByRecursion, AllZip, concat, filter, flat_map, zip}
use Rattle.nsp_seg.specs.declared.packet.Packet.TheVariants.{Segment, DataAck}
use Rattle.dap_listing.specs.Messages.{IsMessagesText}
use Rattle.dap_listing.specs.Packets.{DecodedPacket, IsSeen}
use Rattle.dap_listing.proofs.OneListing.{one_seen, one_text, payload_of}
use Rattle.decnet_frames.specs.Found.{FoundPacket}
use Rattle.dap_follow.specs.Streams.{AreOrdered, AreSequenced, IsNear, IsOrdered, NumberedSegment, OpenStream, Sequenced, at, continued, first_sequence, is_same_stream, no_more, one_more, stream_of, with_packet}
use Rattle.dap_follow.specs.Room.{EndsForRoom, Needs, NeedsMore, OrderedStream, is_crowded, segment_room}
use Rattle.dap_follow.specs.Segments.{highest_in}
use Rattle.std.specs.Option.{option_map_or}
use Rattle.dap_follow.specs.Joined.{Fragment, fragments_of, joins, payload, with_segment}
use Rattle.dap_follow.specs.Ends.{left_by, streams_ended}
use Rattle.dap_follow.specs.Lines.{IsMessageText, IsOwnText, packet_line, piece_text, rest_lines}
use Rattle.dap_follow.specs.Listed.{ArePacketTexts, AreRestTexts, AreWholeTexts, IsFoundText, IsJoinedText, IsSingleText, PacketsAreListed, is_whole_with, whole_at}
use Rattle.dap_follow.specs.Keeping.Pieces.{Rises}
use Rattle.dap_follow.specs.declared.lister.Chosen.{Chosen}
use Rattle.dap_follow.specs.declared.streams.Stream.{Stream}
use Rattle.dap_follow.proofs.OrderLemmas.{at-here, at-other}
use Rattle.dap_follow.proofs.LaterLemmas.{near_is, none_above, one_order, rises, same_sequenced}

-- ---- segments in order

-- segments have one order
pub one_ordered : (came : List NumberedSegment) (a b : List Sequenced) → IsOrdered came a → IsOrdered came b → a ≡ b
one_ordered came a b x y =
    let same : x.sequenced ≡ y.sequenced = same_sequenced (first_sequence came) came x.sequenced y.sequenced x.are_sequenced y.are_sequenced in
    one_order a b (rises a x.ascending) (rises b y.ascending) (λ p. x.same p ∙ ap (λ (l : List Sequenced). at p l) same ∙ sym (y.same p))

-- streams have one order each
pub all_ordered : (opens : List OpenStream) (a b : List (List Sequenced)) → AllZip AreOrdered opens a → AllZip AreOrdered opens b → a ≡ b
all_ordered [] [] [] are others = refl
all_ordered [] (a ∷ ms) ns are others = absurd are
all_ordered [] [] (b ∷ ns) are others = absurd others
all_ordered (o ∷ opens) [] ns are others = absurd are
all_ordered (o ∷ opens) (a ∷ ms) [] are others = absurd others
all_ordered (o ∷ opens) (a ∷ ms) (b ∷ ns) are others =
    ap (λ (s : List Sequenced). s ∷ ms) (one_ordered o.came a b are.0 others.0) ∙ ap (λ (l : List (List Sequenced)). b ∷ l) (all_ordered opens ms ns are.1 others.1)

-- streams have one text of parts and gaps
pub one_rest : (ended : List OpenStream) (a b : List ℕ) → AreRestTexts ended a → AreRestTexts ended b → a ≡ b
one_rest ended a b x y =
    let same : x.ordered ≡ y.ordered = all_ordered ended x.ordered y.ordered x.are_ordered y.are_ordered in
    x.joined ∙ ap (λ (ordered : List (List Sequenced)). flat_map (λ (o, segments). rest_lines o.name (fragments_of segments)) (zip ended ordered)) same ∙ sym y.joined

-- ---- bytes

-- each is a byte
abbrev pub EachByte : List ℕ → Type 0
EachByte bytes = (i : ℕ) → get_or bytes i 0 < 256

-- what segments that came have
abbrev pub CameBytes : List NumberedSegment → Type 0
CameBytes came = AllByRecursion (λ c. EachByte c.1.payload) came

-- and those of open streams
abbrev pub OpenBytes : List OpenStream → Type 0
OpenBytes opens = AllByRecursion (λ o. CameBytes o.came) opens

abbrev SegmentBytes : List Sequenced → Type 0
SegmentBytes ss = AllByRecursion (λ s. EachByte s.payload) ss

abbrev PieceBytes : List Fragment → Type 0
PieceBytes ps = AllByRecursion (λ p. SegmentBytes (p.head ∷ p.others)) ps

abbrev TextBytes : List Fragment → Type 0
TextBytes ps = AllByRecursion (λ p. EachByte (payload p)) ps

filtered : {X : Type 0} (P : X → Type 0) (test : X → Bool) (xs : List X) → AllByRecursion P xs → AllByRecursion P (filter test xs)
filtered P test [] all = tt
filtered {X = X} P test (x ∷ xs) all = by (test x) (filtered P test xs all.1)
  where
    by : (t : Bool) → AllByRecursion P (filter test xs) → AllByRecursion P (cond t (x ∷ filter test xs) (filter test xs))
    by true rest = (all.0, rest)
    by false rest = rest

both_all : {X : Type 0} (P : X → Type 0) (xs ys : List X) → AllByRecursion P xs → AllByRecursion P ys → AllByRecursion P (xs ++ ys)
both_all P [] ys all more = more
both_all P (x ∷ xs) ys all more = (all.0, both_all P xs ys all.1 more)

-- ---- those of segments in order

sequenced_bytes : (highest : ℕ) (came : List NumberedSegment) (ss : List Sequenced) → CameBytes came → AreSequenced highest came ss → SegmentBytes ss
sequenced_bytes highest [] ss all no_more = tt
sequenced_bytes highest (c ∷ came) ss all (one_more {rest = rest} s low high number more) = (all.0, sequenced_bytes (max highest s) came rest all.1 more)

none_some : (s : Sequenced) → None ≡ Some s → ⊥
none_some s e = cc

found_bytes : (p : ℕ) (ss : List Sequenced) (s : Sequenced) → SegmentBytes ss → at p ss ≡ Some s → EachByte s.payload
found_bytes p [] s all is = absurd (none_some s is)
found_bytes p (x ∷ ss) s all is = by (x.sequence == p) is (found_bytes p ss s all.1)
  where
    by : (t : Bool) → cond t (Some x) (at p ss) ≡ Some s → (at p ss ≡ Some s → EachByte s.payload) → EachByte s.payload
    by true e rest = let same : x ≡ s = cc in subst (λ (y : Sequenced). EachByte y.payload) same all.0
    by false e rest = rest e

each_bytes : (ss : List Sequenced) → Rises ss → ((p : ℕ) (s : Sequenced) → at p ss ≡ Some s → EachByte s.payload) → SegmentBytes ss
each_bytes [] up found = tt
each_bytes (x ∷ ss) up found =
    let others : (p : ℕ) (s : Sequenced) → at p ss ≡ Some s → EachByte s.payload = λ p s is.
    found p s (at-other p x ss (λ e. none_some s (sym (none_above x.sequence ss up.0) ∙ ap (λ q. at q ss) e ∙ is)) ∙ is) in
    (found x.sequence x (at-here x.sequence x ss refl), each_bytes ss up.1 others)

ordered_bytes : (came : List NumberedSegment) (ordered : List Sequenced) → CameBytes came → IsOrdered came ordered → SegmentBytes ordered
ordered_bytes came ordered all is =
    let given : SegmentBytes is.sequenced = sequenced_bytes (first_sequence came) came is.sequenced all is.are_sequenced in
    each_bytes ordered (rises ordered is.ascending) (λ p s e. found_bytes p is.sequenced s given (sym (is.same p) ∙ e))

-- ---- those of messages

with_bytes : (s : Sequenced) (ps : List Fragment) → EachByte s.payload → PieceBytes ps → PieceBytes (with_segment s ps)
with_bytes s [] one all = ((one, tt), tt)
with_bytes s (p ∷ ps) one all = by (joins s p.head)
  where
    by : (t : Bool) → PieceBytes (if t then record { head = s; others = p.head ∷ p.others } ∷ ps else record { head = s; others = [] } ∷ p ∷ ps)
    by true = ((one, all.0), all.1)
    by false = ((one, tt), all)

pieces_bytes : (ss : List Sequenced) → SegmentBytes ss → PieceBytes (fragments_of ss)
pieces_bytes [] all = tt
pieces_bytes (s ∷ ss) all = with_bytes s (fragments_of ss) all.0 (pieces_bytes ss all.1)

each_byte : (xs ys : List ℕ) → EachByte xs → EachByte ys → EachByte (xs ++ ys)
each_byte [] ys are others i = others i
each_byte (x ∷ xs) ys are others zero = are zero
each_byte (x ∷ xs) ys are others (suc i) = each_byte xs ys (λ k. are (suc k)) others i

no_byte : EachByte []
no_byte zero = omega arith
no_byte (suc i) = omega arith

payloads_bytes : (ss : List Sequenced) → SegmentBytes ss → EachByte (flat_map (λ s. s.payload) ss)
payloads_bytes [] all = no_byte
payloads_bytes (s ∷ ss) all = each_byte s.payload (flat_map (λ s. s.payload) ss) all.0 (payloads_bytes ss all.1)

texts_bytes : (ps : List Fragment) → PieceBytes ps → TextBytes ps
texts_bytes [] all = tt
texts_bytes (p ∷ ps) all = (payloads_bytes (p.head ∷ p.others) all.0, texts_bytes ps all.1)

-- the messages of streams are bytes
whole_bytes : (number : ℕ) (opens : List OpenStream) (ordered : List (List Sequenced)) → OpenBytes opens → AllZip AreOrdered opens ordered
    → TextBytes (flat_map (whole_at number) ordered)
whole_bytes number [] [] all are = tt
whole_bytes number [] (o ∷ ordered) all are = absurd are
whole_bytes number (o ∷ opens) [] all are = absurd are
whole_bytes number (o ∷ opens) (ss ∷ ordered) all are =
    let first : TextBytes (whole_at number ss) =
    texts_bytes (whole_at number ss) (filtered _ (is_whole_with number) (fragments_of ss) (pieces_bytes ss (ordered_bytes o.came ss all.0 are.0))) in
    both_all _ (whole_at number ss) (flat_map (whole_at number) ordered) first (whole_bytes number opens ordered all.1 are.1)

-- ---- texts of messages

-- a message has one text
pub one_message_text : (in_words : Bool) (p : Fragment) (a b : List ℕ) → EachByte (payload p) → IsMessageText in_words p a → IsMessageText in_words p b → a ≡ b
one_message_text in_words p a b bytes is other =
    is.2 ∙ ap (λ (lines : List ℕ). piece_text (codes "  message") p ++ lines) (one_text in_words (payload p) is.0 other.0 bytes is.1 other.1) ∙ sym other.2

all_texts : (in_words : Bool) (ps : List Fragment) (ms ns : List (List ℕ)) → TextBytes ps → AllZip (IsMessageText in_words) ps ms → AllZip (IsMessageText in_words) ps ns → ms ≡ ns
all_texts in_words [] [] [] all are others = refl
all_texts in_words [] (a ∷ ms) ns all are others = absurd are
all_texts in_words [] [] (b ∷ ns) all are others = absurd others
all_texts in_words (p ∷ ps) [] ns all are others = absurd are
all_texts in_words (p ∷ ps) (a ∷ ms) [] all are others = absurd others
all_texts in_words (p ∷ ps) (a ∷ ms) (b ∷ ns) all are others =
    ap (λ (t : List ℕ). t ∷ ms) (one_message_text in_words p a b all.0 are.0 others.0) ∙ ap (λ (l : List (List ℕ)). b ∷ l) (all_texts in_words ps ms ns all.1 are.1 others.1)

-- streams have one text of the messages that are whole with a packet
pub one_whole : (in_words : Bool) (number : ℕ) (opens : List OpenStream) (a b : List ℕ) → OpenBytes opens → AreWholeTexts in_words number opens a → AreWholeTexts in_words number opens b → a ≡ b
one_whole in_words number opens a b all x y =
    let same : y.ordered ≡ x.ordered = all_ordered opens y.ordered x.ordered y.are_ordered x.are_ordered in
    let pieces = flat_map (whole_at number) x.ordered in
    let others : AllZip (IsMessageText in_words) pieces y.texts = subst (λ (l : List (List Sequenced)). AllZip (IsMessageText in_words) (flat_map (whole_at number) l) y.texts) same y.are_texts in
    let texts : x.texts ≡ y.texts = all_texts in_words pieces x.texts y.texts (whole_bytes number opens x.ordered all x.are_ordered) x.are_texts others in
    x.joined ∙ ap (λ (l : List (List ℕ)). concat l) texts ∙ sym y.joined

-- a packet has one text of the messages in a segment that is whole by itself
pub one_own : (in_words : Bool) (seen : DecodedPacket) (bytes a b : List ℕ) → EachByte bytes → IsSeen seen bytes → IsOwnText in_words seen a → IsOwnText in_words seen b → a ≡ b
one_own in_words (Ok (Segment s)) bytes a b are is text other = by (s.first && s.last) text other
  where
    by : (t : Bool) → MatchBool t (IsMessagesText in_words s.payload a) (a ≡ []) → MatchBool t (IsMessagesText in_words s.payload b) (b ≡ []) → a ≡ b
    by true x y = one_text in_words s.payload a b (payload_of s bytes are is) x y
    by false x y = x ∙ sym y
one_own in_words (Ok (DataAck v)) bytes a b are is none other = none ∙ sym other
one_own in_words (Err fault) bytes a b are is none other = none ∙ sym other

-- ---- streams after a packet

continued_bytes : (stream : Stream) (c : NumberedSegment) (opens : List OpenStream) → EachByte c.1.payload → OpenBytes opens → OpenBytes (continued stream c opens)
continued_bytes stream c [] one all = ((one, tt), tt)
continued_bytes stream c (o ∷ opens) one all = by (is_same_stream stream o.name) (continued_bytes stream c opens one all.1)
  where
    by : (t : Bool) → OpenBytes (continued stream c opens)
        → OpenBytes (if t then record { name = o.name; came = o.came ++ c ∷ [] } ∷ opens else o ∷ continued stream c opens)
    by true rest = (both_all _ o.came (c ∷ []) all.0 (one, tt), all.1)
    by false rest = (all.0, rest)

with_packet_bytes : (number : ℕ) (packet : FoundPacket) (seen : DecodedPacket) (opens : List OpenStream) → EachByte packet.bytes → IsSeen seen packet.bytes
    → OpenBytes opens → OpenBytes (with_packet number packet seen opens)
with_packet_bytes number packet (Ok (Segment s)) opens are is all = continued_bytes (stream_of packet s) (number, s) opens (payload_of s packet.bytes are is) all
with_packet_bytes number packet (Ok (DataAck v)) opens are is all = all
with_packet_bytes number packet (Err fault) opens are is all = all

-- ---- room

one_need_more : (c : NumberedSegment) (came : List NumberedSegment) (a b : ℕ) → NeedsMore c came a → NeedsMore c came b → a ≡ b
one_need_more c came a b x y =
    let same : x.sequenced ≡ y.sequenced = same_sequenced (first_sequence came) came x.sequenced y.sequenced x.are_sequenced y.are_sequenced in
    let top : IsNear (highest_in (first_sequence came) x.sequenced) c.1.number y.sequence = subst (λ (l : List Sequenced). IsNear (highest_in (first_sequence came) l) c.1.number y.sequence) (sym same) y.near in
    let at_one : x.sequence ≡ y.sequence = near_is (highest_in (first_sequence came) x.sequenced) x.sequence y.sequence x.near.0 x.near.1 top.0 top.1 (x.near.2 ∙ sym top.2) in
    x.needed ∙ ap (λ (p : ℕ). option_map_or (λ other. 0) (at p x.sequenced) (segment_room c.1.payload)) at_one
    ∙ ap (λ (l : List Sequenced). option_map_or (λ other. 0) (at y.sequence l) (segment_room c.1.payload)) same ∙ sym y.needed

one_need : (stream : Stream) (c : NumberedSegment) (opens : List OpenStream) (a b : ℕ) → Needs stream c opens a → Needs stream c opens b → a ≡ b
one_need stream c [] a b x y = x ∙ sym y
one_need stream c (o ∷ opens) a b x y = by (is_same_stream stream o.name) (one_need stream c opens a b) x y
  where
    by : (t : Bool) → (Needs stream c opens a → Needs stream c opens b → a ≡ b) → MatchBool t (NeedsMore c o.came a) (Needs stream c opens a)
        → MatchBool t (NeedsMore c o.came b) (Needs stream c opens b) → a ≡ b
    by true rest x y = one_need_more c o.came a b x y
    by false rest x y = rest x y

-- the same streams end for want of room
one_crowd : (number : ℕ) (packet : FoundPacket) (seen : DecodedPacket) (opens crowd left crowd' left' : List OpenStream) → EndsForRoom number packet seen opens crowd left
    → EndsForRoom number packet seen opens crowd' left' → (crowd ≡ crowd') × (left ≡ left')
one_crowd number packet (Ok (Segment s)) opens crowd left crowd' left' x y =
    let stream = stream_of packet s in
    let ordered : x.ordered ≡ y.ordered = all_ordered opens x.ordered y.ordered x.are_ordered y.are_ordered in
    let need : x.need ≡ y.need = one_need stream (number, s) opens x.need y.need x.needed y.needed in (
      x.are_ended ∙ ap (λ (n : ℕ). map (λ (o : OrderedStream). o.0) (filter (is_crowded number stream n (zip opens x.ordered)) (zip opens x.ordered))) need
          ∙ ap (λ (l : List (List Sequenced)). map (λ (o : OrderedStream). o.0) (filter (is_crowded number stream y.need (zip opens l)) (zip opens l))) ordered ∙ sym y.are_ended,
      x.are_left ∙ ap (λ (n : ℕ). map (λ (o : OrderedStream). o.0) (filter (λ o. not (is_crowded number stream n (zip opens x.ordered) o)) (zip opens x.ordered))) need
          ∙ ap (λ (l : List (List Sequenced)). map (λ (o : OrderedStream). o.0) (filter (λ o. not (is_crowded number stream y.need (zip opens l) o)) (zip opens l))) ordered ∙ sym y.are_left,
    )
one_crowd number packet (Ok (DataAck v)) opens crowd left crowd' left' x y = (x.0 ∙ sym y.0, x.1 ∙ sym y.1)
one_crowd number packet (Err fault) opens crowd left crowd' left' x y = (x.0 ∙ sym y.0, x.1 ∙ sym y.1)

zip_bytes : (test : OrderedStream → Bool) (opens : List OpenStream) (ordered : List (List Sequenced)) → OpenBytes opens → OpenBytes (map (λ (o : OrderedStream). o.0) (filter test (zip opens ordered)))
zip_bytes test [] ordered all = tt
zip_bytes test (o ∷ opens) [] all = tt
zip_bytes test (o ∷ opens) (s ∷ ordered) all = by (test (o, s)) (zip_bytes test opens ordered all.1)
  where
    by : (t : Bool) → OpenBytes (map (λ (p : OrderedStream). p.0) (filter test (zip opens ordered)))
        → OpenBytes (map (λ (p : OrderedStream). p.0) (cond t ((o, s) ∷ filter test (zip opens ordered)) (filter test (zip opens ordered))))
    by true rest = (all.0, rest)
    by false rest = rest

room_bytes : (number : ℕ) (packet : FoundPacket) (seen : DecodedPacket) (opens crowd left : List OpenStream) → EndsForRoom number packet seen opens crowd left → OpenBytes opens → OpenBytes left
room_bytes number packet (Ok (Segment s)) opens crowd left x all =
    subst OpenBytes (sym x.are_left) (zip_bytes (λ o. not (is_crowded number (stream_of packet s) x.need (zip opens x.ordered) o)) opens x.ordered all)
room_bytes number packet (Ok (DataAck v)) opens crowd left x all = subst OpenBytes (sym x.1) all
room_bytes number packet (Err fault) opens crowd left x all = subst OpenBytes (sym x.1) all

-- ---- packets

-- what is listed of a packet, and the streams after it, are one
record OneStep (after other : List OpenStream) (text others : List ℕ) : Type 0 where
  pub streams : after ≡ other
  pub texts : text ≡ others
  pub bytes : OpenBytes after

one_joined : (in_words : Bool) (number : ℕ) (packet : FoundPacket) (opens after other : List OpenStream) (a b : List ℕ) → EachByte packet.bytes → OpenBytes opens
    → IsJoinedText in_words number packet opens after a → IsJoinedText in_words number packet opens other b → OneStep after other a b
one_joined in_words number packet opens after other a b are all x y =
    let same : x.seen ≡ y.seen = one_seen packet.bytes x.seen y.seen are x.is_seen y.is_seen in
    let before = left_by packet opens in
    let crowds = one_crowd number packet x.seen before x.crowd x.left y.crowd y.left x.room (subst (λ (s : DecodedPacket). EndsForRoom number packet s before y.crowd y.left) (sym same) y.room) in
    let streams : after ≡ other = x.is_after ∙ ap (λ (s : DecodedPacket). with_packet number packet s x.left) same ∙ ap (λ (l : List OpenStream). with_packet number packet y.seen l) crowds.1 ∙ sym y.is_after in
    let left : OpenBytes x.left = room_bytes number packet x.seen before x.crowd x.left x.room (filtered _ _ opens all) in
    let bytes : OpenBytes after = subst OpenBytes (sym x.is_after) (with_packet_bytes number packet x.seen x.left are x.is_seen left) in
    let rests : x.rest ≡ y.rest = one_rest (streams_ended packet opens) x.rest y.rest x.are_rest y.are_rest in
    let of_crowd : x.rest_of_crowd ≡ y.rest_of_crowd = one_rest x.crowd x.rest_of_crowd y.rest_of_crowd x.are_rest_of_crowd
    (subst (λ (o : List OpenStream). AreRestTexts o y.rest_of_crowd) (sym crowds.0) y.are_rest_of_crowd) in
    let messages : x.messages ≡ y.messages = one_whole in_words number after x.messages y.messages bytes x.are_messages
    (subst (λ (o : List OpenStream). AreWholeTexts in_words number o y.messages) (sym streams) y.are_messages) in
    record {
      streams = streams;
      texts = x.joined ∙ ap (λ (t : List ℕ). t ++ (x.rest_of_crowd ++ (packet_line in_words number packet x.seen ++ x.messages))) rests
          ∙ ap (λ (t : List ℕ). y.rest ++ (t ++ (packet_line in_words number packet x.seen ++ x.messages))) of_crowd
          ∙ ap (λ (s : DecodedPacket). y.rest ++ (y.rest_of_crowd ++ (packet_line in_words number packet s ++ x.messages))) same
          ∙ ap (λ (t : List ℕ). y.rest ++ (y.rest_of_crowd ++ (packet_line in_words number packet y.seen ++ t))) messages ∙ sym y.joined;
      bytes = bytes;
    }

one_single : (in_words : Bool) (number : ℕ) (packet : FoundPacket) (opens after other : List OpenStream) (a b : List ℕ) → EachByte packet.bytes → OpenBytes opens
    → IsSingleText in_words number packet opens after a → IsSingleText in_words number packet opens other b → OneStep after other a b
one_single in_words number packet opens after other a b are all x y =
    let same : y.seen ≡ x.seen = one_seen packet.bytes y.seen x.seen are y.is_seen x.is_seen in
    let messages : x.messages ≡ y.messages = one_own in_words x.seen packet.bytes x.messages y.messages are x.is_seen x.are_messages
    (subst (λ (s : DecodedPacket). IsOwnText in_words s y.messages) same y.are_messages) in
    record {
      streams = x.is_after ∙ sym y.is_after;
      texts = x.joined ∙ ap (λ (t : List ℕ). packet_line in_words number packet x.seen ++ t) messages
          ∙ ap (λ (s : DecodedPacket). packet_line in_words number packet s ++ y.messages) (sym same) ∙ sym y.joined;
      bytes = subst OpenBytes (sym x.is_after) all;
    }

one_found : (chosen : Chosen) (number : ℕ) (packet : FoundPacket) (opens after other : List OpenStream) (a b : List ℕ) → EachByte packet.bytes → OpenBytes opens
    → IsFoundText chosen number packet opens after a → IsFoundText chosen number packet opens other b → OneStep after other a b
one_found chosen number packet opens after other a b are all = by chosen.is_joined
  where
    by : (t : Bool) → MatchBool t (IsJoinedText chosen.in_words number packet opens after a) (IsSingleText chosen.in_words number packet opens after a)
        → MatchBool t (IsJoinedText chosen.in_words number packet opens other b) (IsSingleText chosen.in_words number packet opens other b) → OneStep after other a b
    by true x y = one_joined chosen.in_words number packet opens after other a b are all x y
    by false x y = one_single chosen.in_words number packet opens after other a b are all x y

one_of_packets : (chosen : Chosen) (number : ℕ) (packets : List FoundPacket) (opens after other : List OpenStream) (a b : List ℕ) → AllByRecursion (λ p. EachByte p.bytes) packets → OpenBytes opens
    → ArePacketTexts chosen number packets opens after a → ArePacketTexts chosen number packets opens other b → (after ≡ other) × (a ≡ b)
one_of_packets chosen number [] opens after other a b are all x y = (x.0 ∙ sym y.0, x.1 ∙ sym y.1)
one_of_packets chosen number (packet ∷ packets) opens after other a b are all (now, first, rest, is, more, joined) (now', first', rest', is', more', joined') =
    let one = one_found chosen number packet opens now now' first first' are.0 all is is' in
    let moved : ArePacketTexts chosen (number + 1) packets now other rest' = subst (λ (o : List OpenStream). ArePacketTexts chosen (number + 1) packets o other rest') (sym one.streams) more' in
    let others = one_of_packets chosen (number + 1) packets now after other rest rest' are.1 one.bytes more moved in
    (others.0, joined ∙ ap (λ (t : List ℕ). t ++ rest) one.texts ∙ ap (λ (t : List ℕ). first' ++ t) others.1 ∙ sym joined')

-- packets have one listing, as they come and at the end
pub one_list : (chosen : Chosen) (packets : List FoundPacket) (written rest written' rest' : List ℕ) → AllByRecursion (λ p. EachByte p.bytes) packets
    → PacketsAreListed chosen packets written rest → PacketsAreListed chosen packets written' rest' → (written ≡ written') × (rest ≡ rest')
one_list chosen packets written rest written' rest' are x y =
    let both = one_of_packets chosen 1 packets [] x.opens y.opens written written' are tt x.are_texts y.are_texts in
    (both.1, one_rest x.opens rest rest' x.are_rest (subst (λ (o : List OpenStream). AreRestTexts o rest') (sym both.0) y.are_rest))
