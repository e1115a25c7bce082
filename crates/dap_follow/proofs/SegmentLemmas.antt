-- A segment under its sequence number.
use Rattle.std.proofs.Common.{◌≡◌, inl, inr, ℕ, zero, suc, ◌+◌, ◌<◌, ◌≤◌, true, false, List, [], ◌∷◌, ◌++◌, length, take, drop, get_or, max, arith, refl, ap, sym, subst, ◌∙◌, append-nil, append_assoc, take-append-drop, zero-add, Bool, Option, Some, None, is_some, nat_le, nat_lt, if◌then◌else◌}
use Rattle.std.specs.List.{AllByRecursion, filter}
use Rattle.std.specs.List.Sorted.{IsPartitionPoint, IsPartitionedBy}
use Rattle.std.proofs.lemmas.List.Elements.{filter-append}
use Rattle.std.proofs.lemmas.Bool.Decides.{nat_tests}
use Rattle.nsp_seg.specs.declared.packet.SegmentFields.{SegmentFields}
use Rattle.dap_follow.specs.Streams.{IsNear, Sequenced, at}
use Rattle.dap_follow.specs.Joined.{Fragment, is_message, latest, fragments_of}
use Rattle.dap_follow.specs.Room.{segment_room, stream_room}
use Rattle.dap_follow.specs.Segments.{sequenced_at}
use Rattle.dap_follow.specs.Keeping.Pieces.{Rises, all_segments, glue}
use Rattle.dap_follow.specs.Keeping.Kept.{AreEntries, AreTold, Ascends, Found, IsOpen, IsRoomOf, IsSegment, IsListedPiece, KeepsPieces, KeepsSequenced, Puts, is_taken, rooms}
use Rattle.dap_follow.specs.declared.kept.Kept.{Kept}
use Rattle.dap_follow.specs.declared.kept.KeptSegments.{KeptSegments}
use Rattle.dap_follow.specs.declared.kept.Whole.{Whole}
use Rattle.dap_follow.proofs.StayLemmas.{alone}
use Rattle.dap_follow.proofs.GlueLemmas.{Has, IsWithin, Proper, all_append, all_back, all_front, all_has, all_weaker, has_back, has_front, latest_below, pieces_flat, pieces_glue, proper_back, proper_front, proper_pieces, segments_append, segments_pieces}
use Rattle.dap_follow.proofs.KeptLemmas.{holds_full, holds_within, keeps_split}
use Rattle.dap_follow.proofs.KeptRoomLemmas.{entries_cut, entries_room}
use Rattle.dap_follow.proofs.OrderLemmas.{at-above, at-append, at-below, at-here, or_else}

-- ---- sequence numbers that rise

pub rises_front : (xs ys : List Sequenced) → Rises (xs ++ ys) → Rises xs
rises_front [] ys rises = tt
rises_front (x ∷ xs) ys rises = (all_front (λ s. x.sequence < s.sequence) xs ys rises.0, rises_front xs ys rises.1)

pub rises_back : (xs ys : List Sequenced) → Rises (xs ++ ys) → Rises ys
rises_back [] ys rises = rises
rises_back (x ∷ xs) ys rises = rises_back xs ys rises.1

-- what stands in front is below all after
rises_over : (n : ℕ) (xs ys : List Sequenced) → Rises (xs ++ ys) → Has n xs → AllByRecursion (λ s. n < s.sequence) ys
rises_over n xs ys rises (front, back, s, is, at) =
    let those_after : Rises (s ∷ (back ++ ys)) = rises_back front (s ∷ (back ++ ys)) (subst (λ l. Rises l) (ap (λ l. l ++ ys) is ∙ append_assoc front (s ∷ back) ys) rises) in
    subst (λ k. AllByRecursion (λ t. k < t.sequence) ys) at (all_back (λ t. s.sequence < t.sequence) back ys those_after.0)

is_below : (from sequence : ℕ) → nat_le from sequence ≡ false → sequence < from
is_below from sequence f = grind (arith, nat_tests)

is_at_least : (from sequence : ℕ) → nat_le from sequence ≡ true → from ≤ sequence
is_at_least from sequence t = grind (arith, nat_tests)

-- ---- how many are below

-- the segments of the first, and those of the others
parts : (held rest ps : List Fragment) → ps ≡ held ++ rest → all_segments ps ≡ all_segments held ++ all_segments rest
parts held rest ps is = ap (λ (l : List Fragment). all_segments l) is ∙ segments_append held rest

all_over : (n : ℕ) (ps : List Fragment) (ks : List Kept) → Proper ps → KeepsPieces ps ks → AllByRecursion (λ s. n < s.sequence) (all_segments ps) → AllByRecursion (λ k. n < k.to) ks
all_over n ps [] proper keeps over = tt
all_over n ps (k ∷ ks) proper (held, rest, is, stays, keeps) over =
    let both : Proper (held ++ rest) = subst (λ (l : List Fragment). Proper l) is proper in
    let split : AllByRecursion (λ s. n < s.sequence) (all_segments held ++ all_segments rest) = subst (λ l. AllByRecursion (λ s. n < s.sequence) l) (parts held rest ps is) over in
    let row = holds_within k held (proper_front held rest both) stays.0 in (
      all_has (λ m. n < m) k.to (all_segments held) (all_front (λ s. n < s.sequence) (all_segments held) (all_segments rest) split) (holds_full k.to k held (proper_front held rest both) stays.0 row.0 (omega arith)),
      all_over n rest ks (proper_back held rest both) keeps (all_back (λ s. n < s.sequence) (all_segments held) (all_segments rest) split),
    )

pub keeps_ascends : (ps : List Fragment) (ks : List Kept) → Proper ps → KeepsPieces ps ks → Rises (all_segments ps) → Ascends ks
keeps_ascends ps [] proper keeps rises = tt
keeps_ascends ps (k ∷ ks) proper (held, rest, is, stays, keeps) rises =
    let both : Proper (held ++ rest) = subst (λ (l : List Fragment). Proper l) is proper in
    let split : Rises (all_segments held ++ all_segments rest) = subst (λ l. Rises l) (parts held rest ps is) rises in
    let row = holds_within k held (proper_front held rest both) stays.0 in
    let end = holds_full k.to k held (proper_front held rest both) stays.0 row.0 (omega arith) in (
      all_over k.to rest ks (proper_back held rest both) keeps (rises_over k.to (all_segments held) (all_segments rest) split end),
      keeps_ascends rest ks (proper_back held rest both) keeps (rises_back (all_segments held) (all_segments rest) split),
    )

to_at : (n i : ℕ) (ks : List Kept) (d : Kept) → i < length ks → AllByRecursion (λ k. n < k.to) ks → n < (get_or ks i d).to
to_at n i [] d below all = absurd (omega arith)
to_at n zero (k ∷ ks) d below all = all.0
to_at n (suc i) (k ∷ ks) d below all = to_at n i ks d (omega arith) all.1

ascends_at : (ks : List Kept) (i j : ℕ) (d : Kept) → Ascends ks → i ≤ j → j < length ks → (get_or ks i d).to ≤ (get_or ks j d).to
ascends_at [] i j d up less below = absurd (omega arith)
ascends_at (k ∷ ks) zero zero d up less below = omega arith
ascends_at (k ∷ ks) zero (suc j) d up less below = let one : k.to < (get_or ks j d).to = to_at k.to j ks d (omega arith) up.0 in omega (arith, one)
ascends_at (k ∷ ks) (suc i) zero d up less below = absurd (omega arith)
ascends_at (k ∷ ks) (suc i) (suc j) d up less below = ascends_at ks i j d up.1 (omega arith) (omega arith)

lower_too : (a b sequence : ℕ) → a ≤ b → nat_lt b sequence ≡ true → nat_lt a sequence ≡ true
lower_too a b sequence less h = grind (arith, nat_tests)

pub partitioned_at : (sequence : ℕ) (ks : List Kept) → Ascends ks → IsPartitionedBy (λ k. nat_lt k.to sequence) ks
partitioned_at sequence ks up i j d less below h = lower_too (get_or ks i d).to (get_or ks j d).to sequence (ascends_at ks i j d up less below) h

lower : (a sequence : ℕ) → nat_lt a sequence ≡ true → a < sequence
lower a sequence h = grind (arith, nat_tests)

not_lower : (a sequence : ℕ) → nat_lt a sequence ≡ false → sequence ≤ a
not_lower a sequence h = grind (arith, nat_tests)

each_below : (sequence i : ℕ) (ks : List Kept) → i ≤ length ks → ((k : ℕ) (d : Kept) → k < i → nat_lt (get_or ks k d).to sequence ≡ true) → AllByRecursion (λ k. k.to < sequence) (take i ks)
each_below sequence zero ks within all = tt
each_below sequence (suc i) [] within all = absurd (omega arith)
each_below sequence (suc i) (k ∷ ks) within all = (lower k.to sequence (all zero k (omega arith)), each_below sequence i ks (omega arith) (λ j d less. all (suc j) d (omega arith)))

each_above : (sequence i : ℕ) (ks : List Kept) → ((k : ℕ) (d : Kept) → i ≤ k → k < length ks → nat_lt (get_or ks k d).to sequence ≡ false) → AllByRecursion (λ k. sequence ≤ k.to) (drop i ks)
each_above sequence zero [] all = tt
each_above sequence (suc i) [] all = tt
each_above sequence zero (k ∷ ks) all = (not_lower k.to sequence (all zero k (omega arith) (omega arith)), each_above sequence zero ks (λ j d low less. all (suc j) d (omega arith) (omega arith)))
each_above sequence (suc i) (k ∷ ks) all = each_above sequence i ks (λ j d low less. all (suc j) d (omega arith) (omega arith))

pub below_point : (sequence : ℕ) (ks : List Kept) (i : ℕ) → i ≤ length ks → IsPartitionPoint (λ k. nat_lt k.to sequence ≡ true) (λ k. nat_lt k.to sequence ≡ false) ks i
    → AllByRecursion (λ k. k.to < sequence) (take i ks)
below_point sequence ks i within point = each_below sequence i ks within (λ k d less. point.0 k d (omega arith) less)

pub above_point : (sequence : ℕ) (ks : List Kept) (i : ℕ) → i ≤ length ks → IsPartitionPoint (λ k. nat_lt k.to sequence ≡ true) (λ k. nat_lt k.to sequence ≡ false) ks i
    → AllByRecursion (λ k. sequence ≤ k.to) (drop i ks)
above_point sequence ks i within point = each_above sequence i ks (λ k d low less. point.1 k d low less)

-- ---- below a sequence number and above it

pub keeps_below : (sequence : ℕ) (ps : List Fragment) (ks : List Kept) → Proper ps → KeepsPieces ps ks → AllByRecursion (λ k. k.to < sequence) ks → AllByRecursion (λ s. s.sequence < sequence) (all_segments ps)
keeps_below sequence ps [] proper keeps below = subst (λ (l : List Fragment). AllByRecursion (λ s. s.sequence < sequence) (all_segments l)) (sym keeps) tt
keeps_below sequence ps (k ∷ ks) proper (held, rest, is, stays, keeps) below =
    let both : Proper (held ++ rest) = subst (λ (l : List Fragment). Proper l) is proper in
    let row = holds_within k held (proper_front held rest both) stays.0 in
    let end : k.to < sequence = below.0 in
    subst (λ l. AllByRecursion (λ s. s.sequence < sequence) l) (sym (parts held rest ps is))
    (all_append (λ s. s.sequence < sequence) (all_segments held) (all_segments rest)
    (all_weaker (IsWithin k.from k.to) (λ s. s.sequence < sequence) (all_segments held) (λ s w. let high : s.sequence ≤ k.to = w.1 in omega (arith, high, end)) row.1)
    (keeps_below sequence rest ks (proper_back held rest both) keeps below.1))

pub keeps_above : (sequence : ℕ) (ps : List Fragment) (ks : List Kept) → Proper ps → KeepsPieces ps ks → Rises (all_segments ps) → is_taken sequence ks ≡ false → AllByRecursion (λ k. sequence ≤ k.to) ks
    → AllByRecursion (λ s. sequence < s.sequence) (all_segments ps)
keeps_above sequence ps [] proper keeps rises free above = subst (λ (l : List Fragment). AllByRecursion (λ s. sequence < s.sequence) (all_segments l)) (sym keeps) tt
keeps_above sequence ps (k ∷ ks) proper (held, rest, is, stays, keeps) rises free above =
    let both : Proper (held ++ rest) = subst (λ (l : List Fragment). Proper l) is proper in
    let split : Rises (all_segments held ++ all_segments rest) = subst (λ l. Rises l) (parts held rest ps is) rises in
    let row = holds_within k held (proper_front held rest both) stays.0 in
    let end = holds_full k.to k held (proper_front held rest both) stays.0 row.0 (omega arith) in
    let low : sequence < k.from = is_below k.from sequence free in
    let high : sequence ≤ k.to = above.0 in
    subst (λ l. AllByRecursion (λ s. sequence < s.sequence) l) (sym (parts held rest ps is))
    (all_append (λ s. sequence < s.sequence) (all_segments held) (all_segments rest)
    (all_weaker (IsWithin k.from k.to) (λ s. sequence < s.sequence) (all_segments held) (λ s w. let from : k.from ≤ s.sequence = w.0 in omega (arith, from, low)) row.1)
    (all_weaker (λ s. k.to < s.sequence) (λ s. sequence < s.sequence) (all_segments rest) (λ s w. let over : k.to < s.sequence = w in omega (arith, over, high))
    (rises_over k.to (all_segments held) (all_segments rest) split end)))

-- the first that doesn't end below a sequence number has it
pub keeps_taken : (sequence : ℕ) (ps : List Fragment) (ks : List Kept) → Proper ps → KeepsPieces ps ks → is_taken sequence ks ≡ true → AllByRecursion (λ k. sequence ≤ k.to) ks → Has sequence (all_segments ps)
keeps_taken sequence ps [] proper keeps taken above = absurd (cc)
keeps_taken sequence ps (k ∷ ks) proper (held, rest, is, stays, keeps) taken above =
    let both : Proper (held ++ rest) = subst (λ (l : List Fragment). Proper l) is proper in
    subst (λ l. Has sequence l) (sym (parts held rest ps is))
    (has_front sequence (all_segments held) (all_segments rest) (holds_full sequence k held (proper_front held rest both) stays.0 (is_at_least k.from sequence taken) above.0))

-- ---- a segment more

-- one segment by itself
open_alone : (sequence : ℕ) (packet : ℕ) (c : SegmentFields) (k : Kept) → IsSegment sequence c k → IsOpen k (alone (sequenced_at sequence (packet, c)))
open_alone sequence packet c k is = record {
  from = is.from;
  to = is.to;
  first = is.first;
  last = is.last;
  listed = is.listed;
  room = is.room ∙ sym (zero-add (segment_room c.payload));
  bytes = is.bytes ∙ sym (append-nil c.payload);
}

-- the segments before a sequence number and those after it
record Cut (sequence : ℕ) (ordered : List Sequenced) (xs ys : List Fragment) : Type 0 where
  pub all : fragments_of ordered ≡ xs ++ ys
  pub whole : ordered ≡ all_segments xs ++ all_segments ys
  pub front : fragments_of (all_segments xs) ≡ xs
  pub back : fragments_of (all_segments ys) ≡ ys
  pub below : AllByRecursion (λ s. s.sequence < sequence) (all_segments xs)
  pub above : AllByRecursion (λ s. sequence < s.sequence) (all_segments ys)

cut_at : (sequence index : ℕ) (ordered : List Sequenced) (ks : List Kept) → KeepsPieces (fragments_of ordered) ks → Rises ordered
    → AllByRecursion (λ k. k.to < sequence) (take index ks) → AllByRecursion (λ k. sequence ≤ k.to) (drop index ks) → is_taken sequence (drop index ks) ≡ false
    → (xs ys : List Fragment) × KeepsPieces xs (take index ks) × KeepsPieces ys (drop index ks) × Cut sequence ordered xs ys
cut_at sequence index ordered ks keeps rises below above free =
    let halves = keeps_split (fragments_of ordered) (take index ks) (drop index ks) (subst (λ (l : List Kept). KeepsPieces (fragments_of ordered) l) (sym (take-append-drop index ks)) keeps) in
    let xs = halves.0 in
    let ys = halves.1 in
    let proper : Proper (xs ++ ys) = subst (λ (l : List Fragment). Proper l) halves.2 (proper_pieces ordered) in
    let whole : ordered ≡ all_segments xs ++ all_segments ys = sym (segments_pieces ordered) ∙ ap (λ (l : List Fragment). all_segments l) halves.2 ∙ segments_append xs ys in
    let over : Rises (all_segments ys) = rises_back (all_segments xs) (all_segments ys) (subst (λ l. Rises l) whole rises) in (
      xs,
      ys,
      halves.3,
      halves.4,
      record {
        all = halves.2;
        whole = whole;
        front = pieces_flat xs (proper_front xs ys proper);
        back = pieces_flat ys (proper_back xs ys proper);
        below = keeps_below sequence xs (take index ks) (proper_front xs ys proper) halves.3 below;
        above = keeps_above sequence ys (drop index ks) (proper_back xs ys proper) halves.4 over free above;
      },
    )

-- the pieces with one segment more
pieces_with : (sequence : ℕ) (ordered : List Sequenced) (xs ys : List Fragment) (s : Sequenced) → Cut sequence ordered xs ys
    → fragments_of (all_segments xs ++ s ∷ all_segments ys) ≡ glue xs (glue (alone s ∷ []) ys)
pieces_with sequence ordered xs ys s cut =
    pieces_glue (all_segments xs) (s ∷ all_segments ys) ∙ ap (λ (l : List Fragment). glue l (fragments_of (s ∷ all_segments ys))) cut.front
    ∙ ap (λ (l : List Fragment). glue xs l) (pieces_glue (s ∷ []) (all_segments ys)) ∙ ap (λ (l : List Fragment). glue xs (glue (alone s ∷ []) l)) cut.back

-- the packet with which a piece is whole that has the latest segment
whole_packet : (packet : ℕ) (later : List Sequenced) (before those_after : List Fragment) (p : Fragment) → all_segments (before ++ p ∷ those_after) ≡ later → AllByRecursion (λ s. s.packet ≤ packet) later
    → packet ≤ latest (p.head ∷ p.others) → latest (p.head ∷ p.others) ≡ packet
whole_packet packet later before those_after p is all low =
    let split : all_segments before ++ ((p.head ∷ p.others) ++ all_segments those_after) ≡ later = sym (segments_append before (p ∷ those_after)) ∙ is in
    let own = all_front (λ s. s.packet ≤ packet) (p.head ∷ p.others) (all_segments those_after)
    (all_back (λ s. s.packet ≤ packet) (all_segments before) ((p.head ∷ p.others) ++ all_segments those_after) (subst (λ l. AllByRecursion (λ s. s.packet ≤ packet) l) (sym split) all)) in
    let high : latest (p.head ∷ p.others) ≤ packet = latest_below packet (p.head ∷ p.others) own in
    omega (arith, high, low)

told : (packet : ℕ) (bytes : List ℕ) (found : Option Whole) (p : Fragment) → IsListedPiece bytes found p → latest (p.head ∷ p.others) ≡ packet
    → (ms : List Fragment) × ((front back : List Fragment) → filter is_message (front ++ p ∷ back) ≡ filter is_message front ++ (ms ++ filter is_message back)) × AreTold packet bytes found ms
told packet bytes None p none is = (
  [],
  λ front back. filter-append is_message front (p ∷ back) ∙ ap (λ b. filter is_message front ++ (if b then p ∷ filter is_message back else filter is_message back)) none,
  refl,
)
told packet bytes (Some w) p whole is = (
  p ∷ [],
  λ front back. filter-append is_message front (p ∷ back) ∙ ap (λ b. filter is_message front ++ (if b then p ∷ filter is_message back else filter is_message back)) whole.message,
  (p, refl, is, whole),
)

-- what takes the room of what is kept takes that of the segments
held_is : (held : ℕ) (later : List Sequenced) (ks : List Kept) → IsRoomOf held ks → KeepsPieces (fragments_of later) ks → AreEntries ks → held ≡ stream_room later
held_is held later ks measured keeps entries = measured ∙ entries_room (fragments_of later) ks keeps entries

-- the messages of pieces with others between them
messages_are : (all before those_after ms : List Fragment) (p : Fragment) → all ≡ before ++ p ∷ those_after
    → filter is_message (before ++ p ∷ those_after) ≡ filter is_message before ++ (ms ++ filter is_message those_after)
    → filter is_message all ≡ filter is_message before ++ (ms ++ filter is_message those_after)
messages_are all before those_after ms p is split = ap (λ (l : List Fragment). filter is_message l) is ∙ split

pub finds_put : (c : SegmentFields) (old new : KeptSegments) (bytes : List ℕ) (found : Option Whole) (sequence index : ℕ) (one : Kept) (ordered : List Sequenced) (packet : ℕ)
    → KeepsSequenced packet ordered old → IsNear old.highest c.number sequence → new.highest ≡ max old.highest sequence
    → AllByRecursion (λ k. k.to < sequence) (take index old.kept.items) → AllByRecursion (λ k. sequence ≤ k.to) (drop index old.kept.items) → is_taken sequence (drop index old.kept.items) ≡ false
    → IsSegment sequence c one → Puts index old.kept.items one new.kept.items bytes found → (IsRoomOf old.held old.kept.items → IsRoomOf new.held new.kept.items)
    → Found packet c ordered old new bytes found
finds_put c old new bytes found sequence index one ordered packet k near highest below above free is puts held =
    let s = sequenced_at sequence (packet, c) in
    let parts_of = cut_at sequence index ordered old.kept.items k.keeps k.rises below above free in
    let xs = parts_of.0 in
    let ys = parts_of.1 in
    let cut = parts_of.4 in
    let is_open = open_alone sequence packet c one is in
    let r = puts.settles xs (alone s ∷ []) ys is.listed parts_of.2 (inr (alone s, refl, is_open)) parts_of.3 in
    let later = all_segments xs ++ s ∷ all_segments ys in
    let all : fragments_of later ≡ r.before ++ r.piece ∷ r.those_after = pieces_with sequence ordered xs ys s cut ∙ r.all in
    let flat : all_segments (r.before ++ r.piece ∷ r.those_after) ≡ later = ap (λ (l : List Fragment). all_segments l) (sym all) ∙ segments_pieces later in
    let numbered = subst (λ l. AllByRecursion (λ t. t.packet < packet) l) cut.whole k.numbered in
    let upto : AllByRecursion (λ t. t.packet ≤ packet) later = all_append (λ t. t.packet ≤ packet) (all_segments xs) (s ∷ all_segments ys)
    (all_weaker (λ t. t.packet < packet) (λ t. t.packet ≤ packet) (all_segments xs) (λ t low. omega (arith, low)) (all_front (λ t. t.packet < packet) (all_segments xs) (all_segments ys) numbered))
    (omega arith, all_weaker (λ t. t.packet < packet) (λ t. t.packet ≤ packet) (all_segments ys) (λ t low. omega (arith, low)) (all_back (λ t. t.packet < packet) (all_segments xs) (all_segments ys) numbered)) in
    let most : latest (s ∷ []) ≤ latest (r.piece.head ∷ r.piece.others) = r.later in
    let whole = whole_packet packet later r.before r.those_after r.piece flat upto (omega (arith, most)) in
    let ms = told packet bytes found r.piece r.told whole in
    let old_messages : filter is_message (fragments_of ordered) ≡ filter is_message r.before ++ filter is_message r.those_after =
    ap (λ (l : List Fragment). filter is_message l) cut.all ∙ filter-append is_message xs ys ∙ ap (λ (l : List Fragment). l ++ filter is_message ys) (sym r.messages.0)
    ∙ ap (λ (l : List Fragment). filter is_message r.before ++ l) (sym r.messages.1) in
    let keeps = subst (λ (l : List Fragment). KeepsPieces l new.kept.items) (sym all) r.keeps in
    let parted = entries_cut index old.kept.items k.entries in
    let entries : AreEntries new.kept.items = puts.entries is.listed parted.0 parted.1 in
    let measured : IsRoomOf new.held new.kept.items = held k.measured in
    let own : one.room ≡ segment_room c.payload = is.room in
    let most : rooms new.kept.items ≤ rooms old.kept.items + one.room = puts.room is.listed (omega (arith, own)) in
    record {
      sequence = sequence;
      near = near;
      highest = highest;
      later = later;
      put = inr (all_segments xs, all_segments ys, cut.whole, refl, cut.below, cut.above);
      keeps = keeps;
      held = held_is new.held later new.kept.items measured keeps entries;
      measured = measured;
      entries = entries;
      more = let was : old.held ≡ rooms old.kept.items = k.measured in let now : new.held ≡ rooms new.kept.items = measured in omega (arith, was, now, own, most);
      ms = ms.0;
      added = (filter is_message r.before, filter is_message r.those_after, old_messages, messages_are (fragments_of later) r.before r.those_after ms.0 r.piece all (ms.1 r.before r.those_after));
      told = ms.2;
    }

-- it has the sequence number
has_taken : (sequence index : ℕ) (ordered : List Sequenced) (ks : List Kept) → KeepsPieces (fragments_of ordered) ks → AllByRecursion (λ k. sequence ≤ k.to) (drop index ks)
    → is_taken sequence (drop index ks) ≡ true → Has sequence ordered
has_taken sequence index ordered ks keeps above taken =
    let halves = keeps_split (fragments_of ordered) (take index ks) (drop index ks) (subst (λ (l : List Kept). KeepsPieces (fragments_of ordered) l) (sym (take-append-drop index ks)) keeps) in
    let xs = halves.0 in
    let ys = halves.1 in
    let proper : Proper (xs ++ ys) = subst (λ (l : List Fragment). Proper l) halves.2 (proper_pieces ordered) in
    let whole : ordered ≡ all_segments xs ++ all_segments ys = sym (segments_pieces ordered) ∙ ap (λ (l : List Fragment). all_segments l) halves.2 ∙ segments_append xs ys in
    subst (λ l. Has sequence l) (sym whole) (has_back sequence (all_segments xs) (all_segments ys) (keeps_taken sequence ys (drop index ks) (proper_back xs ys proper) halves.4 taken above))

pub finds_taken : (c : SegmentFields) (old new : KeptSegments) (bytes : List ℕ) (sequence index : ℕ) (ordered : List Sequenced) (packet : ℕ)
    → KeepsSequenced packet ordered old → IsNear old.highest c.number sequence → new.highest ≡ max old.highest sequence → new.kept.items ≡ old.kept.items → new.held ≡ old.held
    → AllByRecursion (λ k. sequence ≤ k.to) (drop index old.kept.items) → is_taken sequence (drop index old.kept.items) ≡ true → Found packet c ordered old new bytes None
finds_taken c old new bytes sequence index ordered packet k near highest same held above taken =
    let has = has_taken sequence index ordered old.kept.items k.keeps above taken in
    record {
      sequence = sequence;
      near = near;
      highest = highest;
      later = ordered;
      put = inl (refl, has.0, has.1, has.2, has.3, has.4);
      keeps = subst (λ (l : List Kept). KeepsPieces (fragments_of ordered) l) (sym same) k.keeps;
      held = held ∙ k.held;
      measured = held ∙ k.measured ∙ ap (λ (l : List Kept). rooms l) (sym same);
      entries = subst (λ (l : List Kept). AreEntries l) (sym same) k.entries;
      more = omega (arith, held);
      ms = [];
      added = (filter is_message (fragments_of ordered), [], sym (append-nil (filter is_message (fragments_of ordered))), sym (append-nil (filter is_message (fragments_of ordered))));
      told = refl;
    }

pub kept_ascends : (packet : ℕ) (ordered : List Sequenced) (p : KeptSegments) → KeepsSequenced packet ordered p → Ascends p.kept.items
kept_ascends packet ordered p k = keeps_ascends (fragments_of ordered) p.kept.items (proper_pieces ordered) k.keeps (subst (λ l. Rises l) (sym (segments_pieces ordered)) k.rises)

-- ---- whether a sequence number is taken

either_some : (o : Option Sequenced) (s : Sequenced) → is_some (or_else o (Some s)) ≡ true
either_some None s = refl
either_some (Some t) s = refl

at_has : (sequence : ℕ) (xs : List Sequenced) → Has sequence xs → is_some (at sequence xs) ≡ true
at_has sequence xs (front, back, s, is, there) =
    ap (λ l. is_some (at sequence l)) is ∙ ap (λ (o : Option Sequenced). is_some o) (at-append sequence front (s ∷ back))
    ∙ ap (λ (o : Option Sequenced). is_some (or_else (at sequence front) o)) (at-here sequence s back there) ∙ either_some (at sequence front) s

-- whether a segment with the sequence number came
pub number_taken : (sequence index : ℕ) (packet : ℕ) (ordered : List Sequenced) (p : KeptSegments) (taken : Bool) → KeepsSequenced packet ordered p
    → AllByRecursion (λ k. k.to < sequence) (take index p.kept.items) → AllByRecursion (λ k. sequence ≤ k.to) (drop index p.kept.items) → is_taken sequence (drop index p.kept.items) ≡ taken
    → taken ≡ is_some (at sequence ordered)
number_taken sequence index packet ordered p true k below above is = sym (at_has sequence ordered (has_taken sequence index ordered p.kept.items k.keeps above is))
number_taken sequence index packet ordered p false k below above is =
    let parts_of = cut_at sequence index ordered p.kept.items k.keeps k.rises below above is in
    let cut = parts_of.4 in
    let none : at sequence ordered ≡ None =
    ap (λ l. at sequence l) cut.whole ∙ at-append sequence (all_segments parts_of.0) (all_segments parts_of.1)
    ∙ ap (λ (o : Option Sequenced). or_else o (at sequence (all_segments parts_of.1))) (at-below sequence (all_segments parts_of.0) cut.below) ∙ at-above sequence (all_segments parts_of.1) cut.above in
    sym (ap (λ (o : Option Sequenced). is_some o) none)
