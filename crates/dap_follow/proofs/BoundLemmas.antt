-- What streams take with a segment more.
use Rattle.std.proofs.Common.{◌≡◌, inl, inr, ⊎_elim, ℕ, suc, ◌+◌, ◌*◌, ◌^◌, ◌<◌, ◌≤◌, Bool, true, false, List, [], ◌∷◌, ◌++◌, length, length-append, if◌then◌else◌, Option, Some, None, Ok, Err, is_some, arith, refl, ap, sym, subst, ◌∙◌}
use Rattle.std.specs.Prelude.{slice_get}
use Rattle.std.specs.List.{AllByRecursion, AllZip, sum_by}
use Rattle.std.specs.Map.{lookup, values_of}
use Rattle.std.proofs.lemmas.Bool.{false≢true}
use Rattle.std.proofs.lemmas.List.Sums.{sum_by-cons, sum_by_push}
use Rattle.indexmap.specs.IndexMap.{set_value_at}
use Rattle.nsp_seg.specs.declared.packet.SegmentFields.{SegmentFields}
use Rattle.nsp_seg.specs.declared.packet.Packet.TheVariants.{DataAck, Segment}
use Rattle.nsp_seg.proofs.ForCallers.{other_payload}
use Rattle.dap_listing.specs.Packets.{DecodedPacket, IsSeen}
use Rattle.dap_follow.specs.Streams.{AreOrdered, NumberedSegment, OpenStream, Sequenced, at, is_same_stream}
use Rattle.dap_follow.specs.Room.{FitRoom, max_room, max_streams, segment_room, stream_room}
use Rattle.dap_follow.specs.Segments.{sequenced_at}
use Rattle.dap_follow.specs.Keeping.Pieces.{IsPut}
use Rattle.dap_follow.specs.Keeping.Kept.{KnowsNumber, KeepsSequenced}
use Rattle.dap_follow.specs.Keeping.Lister.{IsSmall}
use Rattle.dap_follow.specs.Keeping.Room.{AreWithinRoom, Grows, HasPlace, IsKnown, held_by}
use Rattle.dap_follow.specs.Keeping.Streams.{Entries, IsIndexed, KeepsCame, KeepsOpen}
use Rattle.dap_follow.specs.declared.kept.KeptSegments.{KeptSegments}
use Rattle.dap_follow.specs.declared.kept.Whole.{Whole}
use Rattle.dap_follow.specs.declared.streams.Stream.{Stream}
use Rattle.dap_follow.proofs.CrowdLemmas.{few_high}
use Rattle.dap_follow.proofs.EntryLemmas.{same_value, set_at, value_at}
use Rattle.dap_follow.proofs.GrowLemmas.{FindsIn, is_ordered, ready_new}
use Rattle.dap_follow.proofs.LaterLemmas.{near_is}
use Rattle.dap_follow.proofs.OrderLemmas.{at-above, at-append, at-below, or_else}

abbrev Entry : Type 0
Entry = Stream × KeptSegments

-- ---- a segment that is short

pub small_of : (seen : DecodedPacket) (bytes : List ℕ) → IsSeen seen bytes → segment_room bytes ≤ max_room → IsSmall seen
small_of (Ok (Segment s)) bytes is short = let p = other_payload s bytes is in omega (arith, p.1, short)
small_of (Ok (DataAck a)) bytes is short = tt
small_of (Err e) bytes is short = tt

-- ---- one stream among the others

same_count : (front back : Entries) (a b : Stream × KeptSegments) → length (front ++ a ∷ back) ≡ length (front ++ b ∷ back)
same_count [] back a b = refl
same_count (e ∷ front) back a b = ap suc (same_count front back a b)

held_put : (front back : Entries) (name : Stream) (old new : KeptSegments) → held_by (front ++ (name, new) ∷ back) + old.held ≡ held_by (front ++ (name, old) ∷ back) + new.held
held_put [] back name old new = omega (arith, sum_by-cons (λ (f : Entry). f.1.held) (name, old) back, sum_by-cons (λ (f : Entry). f.1.held) (name, new) back)
held_put (e ∷ front) back name old new =
    let rest = held_put front back name old new in
    omega (arith, rest, sum_by-cons (λ (f : Entry). f.1.held) e (front ++ (name, old) ∷ back), sum_by-cons (λ (f : Entry). f.1.held) e (front ++ (name, new) ∷ back))

lookup_at : (stream : Stream) (front back : Entries) (name : Stream) (p : KeptSegments) → AllByRecursion (λ e. is_same_stream stream e.0 ≡ false) front → is_same_stream stream name ≡ true
    → lookup (is_same_stream stream) (front ++ (name, p) ∷ back) ≡ Some p
lookup_at stream [] back name p none same = ap (λ b. if b then Some p else lookup (is_same_stream stream) back) same
lookup_at stream (e ∷ front) back name p none same =
    ap (λ b. if b then Some e.1 else lookup (is_same_stream stream) (front ++ (name, p) ∷ back)) none.0 ∙ lookup_at stream front back name p none.1 same

lookup_none : (stream : Stream) (es : Entries) → AllByRecursion (λ e. is_same_stream stream e.0 ≡ false) es → lookup (is_same_stream stream) es ≡ None
lookup_none stream [] none = refl
lookup_none stream (e ∷ es) none = ap (λ b. if b then Some e.1 else lookup (is_same_stream stream) es) none.0 ∙ lookup_none stream es none.1

-- one if it isn't the stream
abbrev other : Stream → Stream × KeptSegments → ℕ
other stream e = if is_same_stream stream e.0 then 0 else 1

count_all : (stream : Stream) (es : Entries) → AllByRecursion (λ e. is_same_stream stream e.0 ≡ false) es → sum_by (other stream) es ≡ length es
count_all stream [] none = refl
count_all stream (e ∷ es) none =
    let one : other stream e ≡ 1 = ap (λ b. if b then 0 else 1) none.0 in
    let rest = count_all stream es none.1 in
    omega (arith, one, rest, sum_by-cons (other stream) e es)

record StandsOpen (n : ℕ) (p : KeptSegments) : Type 0 where
  pub came : List NumberedSegment
  pub ordered : List Sequenced
  pub keeps : KeepsCame n came ordered p

keeps_at : (n : ℕ) (front back : Entries) (name : Stream) (p : KeptSegments) (opens : List OpenStream) → AllZip (KeepsOpen n) opens (front ++ (name, p) ∷ back) → StandsOpen n p
keeps_at n [] back name p [] all = absurd all
keeps_at n [] back name p (o ∷ opens) all = record { came = o.came; ordered = all.0.1; keeps = all.0.2 }
keeps_at n (e ∷ front) back name p [] all = absurd all
keeps_at n (e ∷ front) back name p (o ∷ opens) all = keeps_at n front back name p opens all.1

-- ---- the room that a segment takes

-- nothing is put where the sequence number is
put_known : (old : List Sequenced) (s : Sequenced) (new : List Sequenced) → IsPut old s new → is_some (at s.sequence old) ≡ true → new ≡ old
put_known old s new (inl (same, front, back, other, is, there)) known = same
put_known old s new (inr (front, back, is, now, below, above)) known =
    let none : at s.sequence old ≡ None =
    ap (λ l. at s.sequence l) is ∙ at-append s.sequence front back ∙ ap (λ (o : Option Sequenced). or_else o (at s.sequence back)) (at-below s.sequence front below) ∙ at-above s.sequence back above in
    absurd (false≢true (sym (ap (λ (o : Option Sequenced). is_some o) none) ∙ known))

room_known : (n : ℕ) (c : SegmentFields) (ordered : List Sequenced) (old new : KeptSegments) (bytes : List ℕ) (found : Option Whole) (known : Bool) → n ≤ 2 ^ 50 → KeepsSequenced n ordered old
    → old.highest ≤ 8192 + 2048 * n → FindsIn n c old new bytes found → KnowsNumber c.number old known → new.held ≤ old.held + (if known then 0 else segment_room c.payload)
room_known n c ordered old new bytes found false few keeps most finds has = (finds.1 ordered keeps most).more
room_known n c ordered old new bytes found true few keeps most finds has =
    let f = finds.1 ordered keeps most in
    let h = has ordered n keeps (few_high n old.highest few most) in
    let same : h.0 ≡ f.sequence = near_is old.highest h.0 f.sequence h.1.0 h.1.1 f.near.0 f.near.1 (h.1.2 ∙ sym f.near.2) in
    let there : is_some (at f.sequence ordered) ≡ true = ap (λ q. is_some (at q ordered)) (sym same) ∙ sym h.2 in
    let stays : f.later ≡ ordered = put_known ordered (sequenced_at f.sequence (n, c)) f.later f.put there in
    let now : new.held ≡ old.held = f.held ∙ ap (λ (l : List Sequenced). stream_room l) stays ∙ sym keeps.held in
    omega (arith, now)

grows_known : (n : ℕ) (stream : Stream) (c : SegmentFields) (front back : Entries) (name : Stream) (old new : KeptSegments) (bytes : List ℕ) (found : Option Whole) (opens : List OpenStream) → n ≤ 2 ^ 50
    → is_same_stream stream name ≡ true → AllByRecursion (λ e. is_same_stream stream e.0 ≡ false) front → FindsIn n c old new bytes found → AllZip (KeepsOpen n) opens (front ++ (name, old) ∷ back)
    → Grows stream c (front ++ (name, old) ∷ back) (front ++ (name, new) ∷ back)
grows_known n stream c front back name old new bytes found opens few same apart finds keeps =
    let k = keeps_at n front back name old opens keeps in
    record {
      count = inl (same_count front back (name, new) (name, old));
      room = λ known is.
          let has : IsKnown c.number (Some old) known = subst (λ (o : Option KeptSegments). IsKnown c.number o known) (lookup_at stream front back name old apart same) is in
          let more : new.held ≤ old.held + (if known then 0 else segment_room c.payload) = room_known n c k.ordered old new bytes found known few k.keeps.keeps k.keeps.most finds has in
          let put = held_put front back name old new in
          omega (arith, more, put);
    }

grows_new : (n : ℕ) (stream : Stream) (c : SegmentFields) (front : Entries) (old new : KeptSegments) (bytes : List ℕ) (found : Option Whole) → old.highest ≡ c.number + 4096 → c.number < 4096
    → old.kept.items ≡ [] → old.held ≡ 0 → AllByRecursion (λ e. is_same_stream stream e.0 ≡ false) front → FindsIn n c old new bytes found → Grows stream c front (front ++ (stream, new) ∷ [])
grows_new n stream c front old new bytes found highest small empty none apart finds =
    let ready = ready_new n c old highest small empty none in
    let more = (finds.1 [] ready.keeps ready.most).more in
    record {
      count = inr (apart, length-append front ((stream, new) ∷ []));
      room = λ known is.
          let fresh : known ≡ false = subst (λ (o : Option KeptSegments). IsKnown c.number o known) (lookup_none stream front apart) is in
          let put = sum_by_push (λ (f : Entry). f.1.held) front (stream, new) in
          subst (λ b. held_by (front ++ (stream, new) ∷ []) ≤ held_by front + (if b then 0 else segment_room c.payload)) (sym fresh) (omega (arith, more, none, put));
    }

pub grows : (n : ℕ) (stream : Stream) (c : SegmentFields) (old mid : Entries) (index : ℕ) (shown one : KeptSegments) (bytes : List ℕ) (found : Option Whole) (opens : List OpenStream) → n ≤ 2 ^ 50
    → IsIndexed stream c.number old mid index → slice_get (values_of mid) index ≡ Some shown → FindsIn n c shown one bytes found → AllZip (KeepsOpen n) opens old
    → Grows stream c old (set_value_at mid index one)
grows n stream c old mid index shown one bytes found opens few i got finds keeps =
    let at : slice_get (values_of mid) index ≡ Some i.kept =
    ap (λ (l : Entries). slice_get (values_of l) index) i.all ∙ ap (λ k. slice_get (values_of (i.front ++ (i.name, i.kept) ∷ i.back)) k) i.at ∙ value_at i.front i.back i.name i.kept in
    let shown_is : shown ≡ i.kept = same_value shown i.kept (sym got ∙ at) in
    let call : FindsIn n c i.kept one bytes found = subst (λ (p : KeptSegments). FindsIn n c p one bytes found) shown_is finds in
    let set : set_value_at mid index one ≡ i.front ++ (i.name, one) ∷ i.back =
    ap (λ (l : Entries). set_value_at l index one) i.all ∙ ap (λ k. set_value_at (i.front ++ (i.name, i.kept) ∷ i.back) k one) i.at ∙ set_at i.front i.back i.name i.kept one in
    subst (λ (l : Entries). Grows stream c old l) (sym set)
    (⊎_elim
    (λ known.
    let was : old ≡ i.front ++ (i.name, i.kept) ∷ i.back = known ∙ i.all in
    subst (λ (l : Entries). Grows stream c l (i.front ++ (i.name, one) ∷ i.back)) (sym was)
    (grows_known n stream c i.front i.back i.name i.kept one bytes found opens few i.same i.others call (subst (λ (l : Entries). AllZip (KeepsOpen n) opens l) was keeps)))
    (λ fresh.
    let whole = grows_new n stream c i.front i.kept one bytes found fresh.3 i.small fresh.4 fresh.5 i.others call in
    subst (λ (l : Entries). Grows stream c l (i.front ++ (i.name, one) ∷ i.back)) (sym fresh.0)
    (subst (λ (b : Entries). Grows stream c i.front (i.front ++ (i.name, one) ∷ b)) (sym fresh.1)
    (subst (λ (s : Stream). Grows stream c i.front (i.front ++ (s, one) ∷ [])) (sym fresh.2) whole)))
    i.case)

-- ---- within the room

pub place_taken : (stream : Stream) (c : SegmentFields) (old new : Entries) → HasPlace stream c old → Grows stream c old new → AreWithinRoom new
place_taken stream c old new place grown =
    let more = grown.room place.known place.is_known in
    let few : sum_by (other stream) old + 1 ≤ max_streams = place.few in
    let within = place.within in (
      ⊎_elim
          (λ (same : length new ≡ length old). omega (arith, same, within.0))
          (λ fresh. let all = count_all stream old fresh.0 in let longer : length new ≡ length old + 1 = fresh.1 in omega (arith, all, longer, few))
          grown.count,
      omega (arith, more, place.room),
    )

-- the streams that are open take what is kept of them
record SameRoom (opens : List OpenStream) (es : Entries) : Type 0 where
  pub ordered : List (List Sequenced)
  pub are_ordered : AllZip AreOrdered opens ordered
  pub count : length opens ≡ length es
  pub room : sum_by stream_room ordered ≡ held_by es

same_room : (n : ℕ) (opens : List OpenStream) (es : Entries) → AllZip (KeepsOpen n) opens es → SameRoom opens es
same_room n [] [] all = record { ordered = []; are_ordered = tt; count = refl; room = refl }
same_room n [] (e ∷ es) all = absurd all
same_room n (o ∷ opens) [] all = absurd all
same_room n (o ∷ opens) (e ∷ es) all =
    let rest = same_room n opens es all.1 in
    let ordered = all.0.1 in
    let held : e.1.held ≡ stream_room ordered = all.0.2.keeps.held in
    let room = rest.room in
    record {
      ordered = ordered ∷ rest.ordered;
      are_ordered = (is_ordered n o.came ordered e.1 all.0.2, rest.are_ordered);
      count = ap suc rest.count;
      room = omega (arith, held, room, sum_by-cons stream_room ordered rest.ordered, sum_by-cons (λ (f : Entry). f.1.held) e es);
    }

pub room_fits : (n : ℕ) (opens : List OpenStream) (es : Entries) → AllZip (KeepsOpen n) opens es → AreWithinRoom es → FitRoom opens
room_fits n opens es keeps within =
    let same = same_room n opens es keeps in
    let count = same.count in
    let room = same.room in
    record { ordered = same.ordered; are_ordered = same.are_ordered; few = omega (arith, count, within.0); room = omega (arith, room, within.1) }
