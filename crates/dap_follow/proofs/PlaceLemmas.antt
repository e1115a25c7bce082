-- The streams that stay leave room for a segment.
use Rattle.std.proofs.Common.{◌≡◌, ◌⊎◌, inl, inr, ⊎_elim, ℕ, ◌+◌, ◌≤◌, nat_le, nat_lt, not, Bool, true, false, List, [], ◌∷◌, length, filter, if◌then◌else◌, Option, Some, arith, refl, ap, sym, subst, ◌∙◌}
use Rattle.std.specs.List.{AllByRecursion, AllZip, sum_by}
use Rattle.std.specs.Map.{lookup}
use Rattle.std.proofs.lemmas.Bool.{false≢true}
use Rattle.nsp_seg.specs.declared.packet.SegmentFields.{SegmentFields}
use Rattle.dap_follow.specs.Streams.{OpenStream, is_same_stream}
use Rattle.dap_follow.specs.Room.{max_room, max_streams, segment_room}
use Rattle.dap_follow.specs.Keeping.Endings.{is_chosen}
use Rattle.dap_follow.specs.Keeping.Room.{AreWithinRoom, HasPlace, IsComing, IsCrowd, IsKnown, count_others, entries_leave_room, entries_since, entry_came, held_by}
use Rattle.dap_follow.specs.Keeping.Streams.{Entries, KeepsOpen}
use Rattle.dap_follow.specs.declared.ending.Ending.TheVariants.{Crowded}
use Rattle.dap_follow.specs.declared.kept.KeptSegments.{KeptSegments}
use Rattle.dap_follow.specs.declared.room.Coming.{Coming}
use Rattle.dap_follow.specs.declared.room.Crowd.{Crowd}
use Rattle.dap_follow.specs.declared.streams.Stream.{Stream}
use Rattle.dap_follow.proofs.StayLemmas.{and_one, and_two, by_bool}
use Rattle.dap_follow.proofs.TakenLemmas.{added_if, all_each, is_le, le_is, lt_is, lt_not, not_le}

abbrev Entry : Type 0
Entry = Stream × KeptSegments

-- ---- some of the streams

pub picked_same : (p q : Stream × KeptSegments → Bool) (es : Entries) → AllByRecursion (λ e. p e ≡ q e) es → filter p es ≡ filter q es
picked_same p q [] all = refl
picked_same p q (e ∷ es) all =
    ap (λ b. if b then e ∷ filter p es else filter p es) all.0 ∙ ap (λ (l : Entries). if q e then e ∷ l else l) (picked_same p q es all.1)

fewer_left : (f : Stream × KeptSegments → ℕ) (p : Stream × KeptSegments → Bool) (es : Entries) → sum_by f (filter p es) ≤ sum_by f es
fewer_left f p [] = omega arith
fewer_left f p (e ∷ es) = added_if f e (filter p es) es (p e) true (λ h. refl) (fewer_left f p es)

shorter_if : (e : Stream × KeptSegments) (xs ys : Entries) (b : Bool) → length xs ≤ length ys → length (if b then e ∷ xs else xs) ≤ length (e ∷ ys)
shorter_if e xs ys true low = omega (arith, low)
shorter_if e xs ys false low = omega (arith, low)

shorter_left : (p : Stream × KeptSegments → Bool) (es : Entries) → length (filter p es) ≤ length es
shorter_left p [] = omega arith
shorter_left p (e ∷ es) = shorter_if e (filter p es) es (p e) (shorter_left p es)

pub within_left : (p : Stream × KeptSegments → Bool) (es : Entries) → AreWithinRoom es → AreWithinRoom (filter p es)
within_left p es within =
    let shorter = shorter_left p es in
    let less = fewer_left (λ (f : Entry). f.1.held) p es in
    (omega (arith, shorter, within.0), omega (arith, less, within.1))

-- the one of a name stays
lookup_left : (test : Stream → Bool) (p : Stream × KeptSegments → Bool) (es : Entries) → AllByRecursion (λ e. test e.0 ≡ true → p e ≡ true) es → lookup test (filter p es) ≡ lookup test es
lookup_left test p [] all = refl
lookup_left test p (e ∷ es) all =
    by_bool (p e)
    (λ t. ap (λ b. lookup test (if b then e ∷ filter p es else filter p es)) t ∙ ap (λ (o : Option KeptSegments). if test e.0 then Some e.1 else o) (lookup_left test p es all.1))
    (λ f.
    let other : test e.0 ≡ false = by_bool (test e.0) (λ h. absurd (false≢true (sym f ∙ all.0 h))) (λ h. h) in
    ap (λ b. lookup test (if b then e ∷ filter p es else filter p es)) f ∙ lookup_left test p es all.1 ∙ sym (ap (λ b. if b then Some e.1 else lookup test es) other))

-- ---- those that stay for want of no room

since_low : (c : Coming) (since n : ℕ) (es : Entries) → AllByRecursion (λ e. entry_came c e ≤ n) es → (entries_since c since es ≡ []) ⊎ (since ≤ n)
since_low c since n [] all = inl refl
since_low c since n (e ∷ es) all =
    by_bool (nat_le since (entry_came c e))
    (λ t. let low = is_le since (entry_came c e) t in let came : entry_came c e ≤ n = all.0 in inr (omega (arith, low, came)))
    (λ f. ⊎_elim
    (λ (none : entries_since c since es ≡ []). inl (ap (λ b. if b then e ∷ entries_since c since es else entries_since c since es) f ∙ none))
    (λ (low : since ≤ n). inr low)
    (since_low c since n es all.1))

low_if : (b : Bool) (x y n : ℕ) → x ≤ n → y ≤ n → (if b then x else y) ≤ n
low_if true x y n one two = one
low_if false x y n one two = two

-- each came last with this packet or an earlier one
came_low : (n : ℕ) (c : Coming) (opens : List OpenStream) (es : Entries) → c.packet ≡ n → AllZip (KeepsOpen n) opens es → AllByRecursion (λ e. entry_came c e ≤ n) es
came_low n c [] [] is all = tt
came_low n c [] (e ∷ es) is all = absurd all
came_low n c (o ∷ opens) [] is all = absurd all
came_low n c (o ∷ opens) (e ∷ es) is all =
    let recent = all.0.2.recent in
    (low_if (is_same_stream c.stream e.0) c.packet e.1.last_packet n (omega (arith, is)) (omega (arith, recent)), came_low n c opens es is all.1)

own_stays : (stream : Stream) (c : Coming) (since n : ℕ) (es : Entries) → c.stream ≡ stream → c.packet ≡ n → since ≤ n
    → AllByRecursion (λ e. is_same_stream stream e.0 ≡ true → nat_le since (entry_came c e) ≡ true) es
own_stays stream c since n es stream_is packet_is low =
    all_each (λ e. is_same_stream stream e.0 ≡ true → nat_le since (entry_came c e) ≡ true) es
    (λ e same.
    let came : entry_came c e ≡ n = ap (λ b. if b then c.packet else e.1.last_packet) (ap (λ s. is_same_stream s e.0) stream_is ∙ same) ∙ packet_is in
    le_is since (entry_came c e) (omega (arith, came, low)))

not_less : (a b : ℕ) → not (nat_lt a b) ≡ nat_le b a
not_less a b =
    by_bool (nat_le b a) (λ t. ap (λ x. not x) (lt_not a b (is_le b a t)) ∙ sym t) (λ f. ap (λ x. not x) (lt_is a b (not_le b a f)) ∙ sym f)

left_are : (crowd : Crowd) (c : Coming) (es : Entries) → crowd.coming ≡ c → filter (λ e. not (is_chosen (Crowded crowd) e)) es ≡ entries_since c crowd.since es
left_are crowd c es is =
    picked_same (λ e. not (is_chosen (Crowded crowd) e)) (λ e. nat_le crowd.since (entry_came c e)) es
    (all_each (λ e. not (is_chosen (Crowded crowd) e) ≡ nat_le crowd.since (entry_came c e)) es
    (λ e. not_less (entry_came crowd.coming e) crowd.since ∙ ap (λ (d : Coming). nat_le crowd.since (entry_came d e)) is))

-- ---- a place for a segment

place_empty : (stream : Stream) (s : SegmentFields) → segment_room s.payload ≤ max_room → HasPlace stream s []
place_empty stream s small = record {
  within = (omega arith, omega arith);
  known = false;
  is_known = refl;
  few = omega arith;
  room = omega (arith, small);
}

place_beside : (stream : Stream) (s : SegmentFields) (n : ℕ) (c : Coming) (since : ℕ) (old : Entries) → IsComing stream n s old c → entries_leave_room c (entries_since c since old) ≡ true → since ≤ n
    → AreWithinRoom old → HasPlace stream s (entries_since c since old)
place_beside stream s n c since old comes room low within =
    let left = entries_since c since old in
    let need = comes.need_is in
    let few : count_others c left + 1 ≤ max_streams =
    is_le (count_others c left + 1) max_streams (and_one (nat_le (count_others c left + 1) max_streams) (nat_le (held_by left + c.need) max_room) room) in
    let held : held_by left + c.need ≤ max_room =
    is_le (held_by left + c.need) max_room (and_two (nat_le (count_others c left + 1) max_streams) (nat_le (held_by left + c.need) max_room) room) in
    record {
      within = within_left (λ e. nat_le since (entry_came c e)) old within;
      known = need.0;
      is_known = subst (λ (o : Option KeptSegments). IsKnown s.number o need.0)
          (sym (lookup_left (is_same_stream stream) (λ e. nat_le since (entry_came c e)) old (own_stays stream c since n old comes.stream_is comes.packet_is low))) need.1;
      few = subst (λ (t : Stream). sum_by (λ (e : Entry). if is_same_stream t e.0 then 0 else 1) left + 1 ≤ max_streams) comes.stream_is few;
      room = subst (λ (m : ℕ). held_by left + m ≤ max_room) need.2 held;
    }

pub has_place : (stream : Stream) (s : SegmentFields) (n : ℕ) (c : Coming) (crowd : Crowd) (opens : List OpenStream) (old : Entries) → IsComing stream n s old c → IsCrowd c old crowd
    → AllZip (KeepsOpen n) opens old → segment_room s.payload ≤ max_room → AreWithinRoom old → HasPlace stream s (filter (λ e. not (is_chosen (Crowded crowd) e)) old)
has_place stream s n c crowd opens old comes is keeps small within =
    let left = entries_since c crowd.since old in
    let empty : left ≡ [] → HasPlace stream s left = λ none. subst (λ (l : Entries). HasPlace stream s l) (sym none) (place_empty stream s small) in
    subst (λ (l : Entries). HasPlace stream s l) (sym (left_are crowd c old is.coming_is))
    (⊎_elim empty
    (λ room. ⊎_elim empty (λ (low : crowd.since ≤ n). place_beside stream s n c crowd.since old comes room low within) (since_low c crowd.since n old (came_low n c opens old comes.packet_is keeps)))
    is.others)
