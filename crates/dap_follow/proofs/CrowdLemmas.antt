-- Which streams end for want of room.
use Rattle.std.proofs.Common.{◌≡◌, ℕ, ◌+◌, ◌*◌, ◌^◌, ◌<◌, ◌≤◌, ◌&&◌, nat_le, nat_lt, not, Bool, true, false, List, [], ◌∷◌, length, map, filter, if◌then◌else◌, Option, Some, None, Ok, is_some, arith, refl, ap, sym, subst, ◌∙◌}
use Rattle.std.specs.Prelude.{MatchBool}
use Rattle.std.specs.List.{AllByRecursion, AllZip, sum_by, zip}
use Rattle.std.specs.Map.{lookup}
use Rattle.std.specs.Option.{option_map_or}
use Rattle.std.proofs.lemmas.List.Sums.{sum_by-cons}
use Rattle.nsp_seg.specs.declared.packet.SegmentFields.{SegmentFields}
use Rattle.nsp_seg.specs.declared.packet.Packet.TheVariants.{Segment}
use Rattle.decnet_frames.specs.Found.{FoundPacket}
use Rattle.dap_follow.specs.Streams.{AreOrdered, AreSequenced, IsNear, NumberedSegment, OpenStream, Sequenced, at, first_sequence, is_same_stream, stream_of}
use Rattle.dap_follow.specs.Segments.{highest_in}
use Rattle.dap_follow.specs.Room.{Needs, NeedsMore, OrderedStream, streams_since, came_with, has_room, is_crowded, last_packet, max_room, max_streams, segment_room, stream_room}
use Rattle.dap_follow.specs.Keeping.Endings.{is_chosen}
use Rattle.dap_follow.specs.Keeping.Kept.{KnowsNumber}
use Rattle.dap_follow.specs.Keeping.Lister.{EndsCrowd}
use Rattle.dap_follow.specs.Keeping.Rest.{rest_of_each}
use Rattle.dap_follow.specs.Keeping.Room.{IsComing, IsCrowd, IsNeed, count_others, entries_leave_room, entries_since, entry_came, held_by, is_crowded_entry}
use Rattle.dap_follow.specs.Keeping.Streams.{Entries, KeepsCame, KeepsOpen}
use Rattle.dap_follow.specs.declared.ending.Ending.TheVariants.{Crowded}
use Rattle.dap_follow.specs.declared.kept.KeptSegments.{KeptSegments}
use Rattle.dap_follow.specs.declared.room.Coming.{Coming}
use Rattle.dap_follow.specs.declared.room.Crowd.{Crowd}
use Rattle.dap_follow.specs.declared.streams.Stream.{Stream}
use Rattle.dap_follow.proofs.GrowLemmas.{is_ordered}
use Rattle.dap_follow.proofs.PlaceLemmas.{has_place, picked_same}
use Rattle.dap_follow.proofs.RestLemmas.{rest_is}

abbrev Entry : Type 0
Entry = Stream × KeptSegments

-- ---- a stream that is open, its segments in order, and what is kept of it

abbrev pub Agrees : ℕ → OrderedStream → Stream × KeptSegments → Type 0
Agrees n x e = (x.0.name ≡ e.0) × KeepsCame n x.0.came x.1 e.1

record InOrder (n : ℕ) (opens : List OpenStream) (es : Entries) : Type 0 where
  pub ordered : List (List Sequenced)
  pub are_ordered : AllZip AreOrdered opens ordered
  pub agree : AllZip (Agrees n) (zip opens ordered) es
  pub all : map (λ (x : OrderedStream). x.0) (zip opens ordered) ≡ opens

in_order : (n : ℕ) (opens : List OpenStream) (es : Entries) → AllZip (KeepsOpen n) opens es → InOrder n opens es
in_order n [] [] all = record { ordered = []; are_ordered = tt; agree = tt; all = refl }
in_order n [] (e ∷ es) all = absurd all
in_order n (o ∷ opens) [] all = absurd all
in_order n (o ∷ opens) (e ∷ es) all =
    let rest = in_order n opens es all.1 in
    let ordered = all.0.1 in
    record {
      ordered = ordered ∷ rest.ordered;
      are_ordered = (is_ordered n o.came ordered e.1 all.0.2, rest.are_ordered);
      agree = ((all.0.0, all.0.2), rest.agree);
      all = ap (λ (l : List OpenStream). o ∷ l) rest.all;
    }

in_pairs : (n : ℕ) (xs : List OrderedStream) (es : Entries) → AllZip (Agrees n) xs es → AllZip (KeepsOpen n) (map (λ (x : OrderedStream). x.0) xs) es
in_pairs n [] [] all = tt
in_pairs n [] (e ∷ es) all = absurd all
in_pairs n (x ∷ xs) [] all = absurd all
in_pairs n (x ∷ xs) (e ∷ es) all = ((all.0.0, x.1, all.0.1), in_pairs n xs es all.1)

both_if : (n : ℕ) (x : OrderedStream) (xs : List OrderedStream) (e : Stream × KeptSegments) (es : Entries) (a b : Bool) → a ≡ b → Agrees n x e → AllZip (Agrees n) xs es
    → AllZip (Agrees n) (if a then x ∷ xs else xs) (if b then e ∷ es else es)
both_if n x xs e es true true same one rest = (one, rest)
both_if n x xs e es false false same one rest = rest
both_if n x xs e es true false same one rest = absurd cc
both_if n x xs e es false true same one rest = absurd cc

filter_both : (n : ℕ) (p : OrderedStream → Bool) (q : Stream × KeptSegments → Bool) → ((x : OrderedStream) (e : Stream × KeptSegments) → Agrees n x e → p x ≡ q e)
    → (xs : List OrderedStream) (es : Entries) → AllZip (Agrees n) xs es → AllZip (Agrees n) (filter p xs) (filter q es)
filter_both n p q same [] [] all = tt
filter_both n p q same [] (e ∷ es) all = absurd all
filter_both n p q same (x ∷ xs) [] all = absurd all
filter_both n p q same (x ∷ xs) (e ∷ es) all =
    both_if n x (filter p xs) e (filter q es) (p x) (q e) (same x e all.0) all.0 (filter_both n p q same xs es all.1)

-- ---- the same numbers

came_same : (n : ℕ) (c : Coming) (stream : Stream) (x : OrderedStream) (e : Stream × KeptSegments) → c.stream ≡ stream → c.packet ≡ n → Agrees n x e
    → came_with n stream x.0 ≡ entry_came c e
came_same n c stream x e stream_is packet_is a =
    ap (λ b. if b then n else last_packet x.0.came) (ap (λ s. is_same_stream stream s) a.0 ∙ ap (λ s. is_same_stream s e.0) (sym stream_is))
    ∙ ap (λ m. if is_same_stream c.stream e.0 then m else last_packet x.0.came) (sym packet_is)
    ∙ ap (λ m. if is_same_stream c.stream e.0 then c.packet else m) (sym a.1.last)

held_same : (n : ℕ) (xs : List OrderedStream) (es : Entries) → AllZip (Agrees n) xs es → sum_by (λ (x : OrderedStream). stream_room x.1) xs ≡ held_by es
held_same n [] [] all = refl
held_same n [] (e ∷ es) all = absurd all
held_same n (x ∷ xs) [] all = absurd all
held_same n (x ∷ xs) (e ∷ es) all =
    sum_by-cons (λ (y : OrderedStream). stream_room y.1) x xs
    ∙ ap (λ m. m + sum_by (λ (y : OrderedStream). stream_room y.1) xs) (sym all.0.1.keeps.held)
    ∙ ap (λ m. e.1.held + m) (held_same n xs es all.1)
    ∙ sym (sum_by-cons (λ (f : Entry). f.1.held) e es)

one_other : (s : Bool) (x : OrderedStream) (xs : List OrderedStream) (m : ℕ) → length xs ≡ m → length (if not s then x ∷ xs else xs) ≡ (if s then 0 else 1) + m
one_other true x xs m same = omega (arith, same)
one_other false x xs m same = omega (arith, same)

others_same : (n : ℕ) (c : Coming) (stream : Stream) (xs : List OrderedStream) (es : Entries) → c.stream ≡ stream → AllZip (Agrees n) xs es
    → length (filter (λ (x : OrderedStream). not (is_same_stream stream x.0.name)) xs) ≡ count_others c es
others_same n c stream [] [] stream_is all = refl
others_same n c stream [] (e ∷ es) stream_is all = absurd all
others_same n c stream (x ∷ xs) [] stream_is all = absurd all
others_same n c stream (x ∷ xs) (e ∷ es) stream_is all =
    one_other (is_same_stream stream x.0.name) x (filter (λ (y : OrderedStream). not (is_same_stream stream y.0.name)) xs) (count_others c es) (others_same n c stream xs es stream_is all.1)
    ∙ ap (λ b. (if b then 0 else 1) + count_others c es) (ap (λ s. is_same_stream stream s) all.0.0 ∙ ap (λ s. is_same_stream s e.0) (sym stream_is))
    ∙ sym (sum_by-cons (λ (f : Entry). if is_same_stream c.stream f.0 then 0 else 1) e es)

room_same : (n : ℕ) (c : Coming) (stream : Stream) (xs : List OrderedStream) (es : Entries) → c.stream ≡ stream → AllZip (Agrees n) xs es
    → has_room stream c.need xs ≡ entries_leave_room c es
room_same n c stream xs es stream_is all =
    ap (λ m. nat_le (m + 1) max_streams && nat_le (sum_by (λ (x : OrderedStream). stream_room x.1) xs + c.need) max_room) (others_same n c stream xs es stream_is all)
    ∙ ap (λ m. nat_le (count_others c es + 1) max_streams && nat_le (m + c.need) max_room) (held_same n xs es all)

crowded_same : (n : ℕ) (c : Coming) (stream : Stream) (xs : List OrderedStream) (es : Entries) → c.stream ≡ stream → c.packet ≡ n → AllZip (Agrees n) xs es
    → (x : OrderedStream) (e : Stream × KeptSegments) → Agrees n x e → is_crowded n stream c.need xs x ≡ is_crowded_entry c es e
crowded_same n c stream xs es stream_is packet_is all x e a =
    ap (λ m. not (has_room stream c.need (streams_since n stream m xs))) (came_same n c stream x e stream_is packet_is a)
    ∙ ap (λ b. not b) (room_same n c stream (streams_since n stream (entry_came c e) xs) (entries_since c (entry_came c e) es) stream_is
    (filter_both n (λ y. nat_le (entry_came c e) (came_with n stream y.0)) (λ f. nat_le (entry_came c e) (entry_came c f))
    (λ y f b. ap (λ m. nat_le (entry_came c e) m) (came_same n c stream y f stream_is packet_is b)) xs es all))

-- ---- the streams that end

each_not : (p q : Stream × KeptSegments → Bool) (es : Entries) → AllByRecursion (λ e. p e ≡ q e) es → AllByRecursion (λ e. not (p e) ≡ not (q e)) es
each_not p q [] all = tt
each_not p q (e ∷ es) all = (ap (λ b. not b) all.0, each_not p q es all.1)

pub ends_crowd : (packet : FoundPacket) (s : SegmentFields) (n : ℕ) (c : Coming) (crowd : Crowd) (old : Entries) → IsComing (stream_of packet s) n s old c → IsCrowd c old crowd
    → EndsCrowd packet (Ok (Segment s)) n old (filter (λ e. not (is_chosen (Crowded crowd) e)) old) (rest_of_each (is_chosen (Crowded crowd)) old)
ends_crowd packet s n c crowd old comes is = λ opens few keeps.
    let stream = stream_of packet s in
    let io = in_order n opens old keeps in
    let xs = zip opens io.ordered in
    let each = subst (λ (d : Coming). AllByRecursion (λ e. nat_lt (entry_came d e) crowd.since ≡ is_crowded_entry c old e) old) (sym is.coming_is) is.each in
    let same = crowded_same n c stream xs old comes.stream_is comes.packet_is io.agree in
    let crowd_are : filter (is_chosen (Crowded crowd)) old ≡ filter (is_crowded_entry c old) old = picked_same (is_chosen (Crowded crowd)) (is_crowded_entry c old) old each in
    let left_are : filter (λ e. not (is_chosen (Crowded crowd) e)) old ≡ filter (λ e. not (is_crowded_entry c old e)) old =
    picked_same (λ e. not (is_chosen (Crowded crowd) e)) (λ e. not (is_crowded_entry c old e)) old (each_not (is_chosen (Crowded crowd)) (is_crowded_entry c old) old each) in
    let ended = map (λ (x : OrderedStream). x.0) (filter (is_crowded n stream c.need xs) xs) in
    let left = map (λ (x : OrderedStream). x.0) (filter (λ x. not (is_crowded n stream c.need xs x)) xs) in
    let ended_keep : AllZip (KeepsOpen n) ended (filter (is_chosen (Crowded crowd)) old) =
    subst (λ (l : Entries). AllZip (KeepsOpen n) ended l) (sym crowd_are)
    (in_pairs n (filter (is_crowded n stream c.need xs) xs) (filter (is_crowded_entry c old) old) (filter_both n (is_crowded n stream c.need xs) (is_crowded_entry c old) same xs old io.agree)) in
    let left_keep : AllZip (KeepsOpen n) left (filter (λ e. not (is_chosen (Crowded crowd) e)) old) =
    subst (λ (l : Entries). AllZip (KeepsOpen n) left l) (sym left_are)
    (in_pairs n (filter (λ x. not (is_crowded n stream c.need xs x)) xs) (filter (λ e. not (is_crowded_entry c old e)) old)
    (filter_both n (λ x. not (is_crowded n stream c.need xs x)) (λ e. not (is_crowded_entry c old e)) (λ x e a. ap (λ b. not b) (same x e a)) xs old io.agree)) in (
      ended,
      left,
      record {
        ordered = io.ordered;
        are_ordered = io.are_ordered;
        need = c.need;
        needed = comes.needs n opens few keeps;
        are_ended = refl;
        are_left = refl;
      },
      rest_is n ended (filter (is_chosen (Crowded crowd)) old) ended_keep,
      left_keep,
      λ small within. has_place stream s n c crowd opens old comes is keeps small within,
    )

-- ---- what a segment needs

need_is : (b : Bool) (o : Option Sequenced) (room : ℕ) → b ≡ is_some o → (if b then 0 else room) ≡ option_map_or (λ other. 0) o room
need_is true (Some s) room is = refl
need_is false None room is = refl
need_is true None room is = absurd (cc)
need_is false (Some s) room is = absurd (cc)

pub few_high : (n highest : ℕ) → n ≤ 2 ^ 50 → highest ≤ 8192 + 2048 * n → highest < 2 ^ 62
few_high n highest few most = omega (arith, few, most)

needs_more : (n : ℕ) (c : NumberedSegment) (came : List NumberedSegment) (ordered : List Sequenced) (p : KeptSegments) (has : Bool) → n ≤ 2 ^ 50 → KeepsCame n came ordered p → KnowsNumber c.1.number p has
    → NeedsMore c came (if has then 0 else segment_room c.1.payload)
needs_more n c came ordered p has few k known =
    let found = known ordered n k.keeps (few_high n p.highest few k.most) in
    let first : first_sequence came ≡ k.first.1.number + 4096 = ap (λ l. first_sequence l) k.are in
    let all : AreSequenced (first_sequence came) came k.sequenced =
    subst (λ m. AreSequenced m came k.sequenced) (sym first) (subst (λ l. AreSequenced (k.first.1.number + 4096) l k.sequenced) (sym k.are) k.are_sequenced) in
    let top : p.highest ≡ highest_in (first_sequence came) k.sequenced = k.highest ∙ ap (λ m. highest_in m k.sequenced) (sym first) in
    record {
      sequenced = k.sequenced;
      are_sequenced = all;
      sequence = found.0;
      near = subst (λ m. IsNear m c.1.number found.0) top found.1;
      needed = need_is has (at found.0 k.sequenced) (segment_room c.1.payload) (found.2 ∙ ap (λ o. is_some o) (k.same found.0));
    }

needs_if : (n : ℕ) (stream : Stream) (c : NumberedSegment) (o : OpenStream) (opens : List OpenStream) (e : Stream × KeptSegments) (es : Entries) (need : ℕ) (a b : Bool) → a ≡ b → n ≤ 2 ^ 50 → KeepsOpen n o e
    → (IsNeed c (lookup (is_same_stream stream) es) need → Needs stream c opens need)
    → IsNeed c (if b then Some e.1 else lookup (is_same_stream stream) es) need → MatchBool a (NeedsMore c o.came need) (Needs stream c opens need)
needs_if n stream c o opens e es need true true same few keeps rest (has, known, is) =
    subst (λ m. NeedsMore c o.came m) (sym is) (needs_more n c o.came keeps.1 e.1 has few keeps.2 known)
needs_if n stream c o opens e es need false false same few keeps rest is = rest is
needs_if n stream c o opens e es need true false same few keeps rest is = absurd cc
needs_if n stream c o opens e es need false true same few keeps rest is = absurd cc

pub needs_of : (n : ℕ) (stream : Stream) (c : NumberedSegment) (opens : List OpenStream) (es : Entries) (need : ℕ) → n ≤ 2 ^ 50 → AllZip (KeepsOpen n) opens es
    → IsNeed c (lookup (is_same_stream stream) es) need → Needs stream c opens need
needs_of n stream c [] [] need few all (has, none, is) = is ∙ ap (λ b. if b then 0 else segment_room c.1.payload) none
needs_of n stream c [] (e ∷ es) need few all is = absurd all
needs_of n stream c (o ∷ opens) [] need few all is = absurd all
needs_of n stream c (o ∷ opens) (e ∷ es) need few all is =
    needs_if n stream c o opens e es need (is_same_stream stream o.name) (is_same_stream stream e.0) (ap (λ s. is_same_stream stream s) all.0.0) few all.0
    (needs_of n stream c opens es need few all.1) is
