-- Where a stream stands among the entries of the program's map.
use Rattle.std.proofs.Common.{◌≡◌, inl, inr, ⊎_elim, ℕ, zero, suc, ◌+◌, ◌-◌, ◌<◌, Bool, true, false, List, [], ◌∷◌, ◌++◌, length, length-append, get_or, position, if◌then◌else◌, Option, Some, is_some, arith, refl, ap, sym, subst, ◌∙◌}
use Rattle.std.specs.Prelude.{slice_get}
use Rattle.std.specs.List.{AllByRecursion, AllZip}
use Rattle.std.specs.Map.{keys_of, lookup, values_of}
use Rattle.std.proofs.lemmas.Bool.{cases_Bool, false≢true}
use Rattle.std.proofs.lemmas.List.Quantifiers.{position-Some}
use Rattle.indexmap.specs.IndexMap.{insert_entry, set_value_at}
use Rattle.nsp_seg.specs.declared.packet.SegmentFields.{SegmentFields}
use Rattle.dap_follow.specs.Streams.{OpenStream, is_same_stream}
use Rattle.dap_follow.specs.declared.streams.Stream.{Stream}
use Rattle.dap_follow.specs.Keeping.Streams.{Continues, Entries, IsIndexed, KeepsOpen}
use Rattle.dap_follow.specs.declared.kept.KeptSegments.{KeptSegments}
use Rattle.dap_follow.specs.declared.kept.Whole.{Whole}
use Rattle.dap_follow.proofs.GrowLemmas.{FindsIn, comes_known, comes_new}
use Rattle.dap_follow.proofs.NameLemmas.{is_same_self}

-- ---- a stream that is there

record Stands (stream : Stream) (entries : Entries) (index : ℕ) : Type 0 where
  pub front : Entries
  pub back : Entries
  pub name : Stream
  pub kept : KeptSegments
  pub all : entries ≡ front ++ (name, kept) ∷ back
  pub at : index ≡ length front
  pub same : is_same_stream stream name ≡ true
  pub others : AllByRecursion (λ e. is_same_stream stream e.0 ≡ false) front

stands : (stream : Stream) (entries : Entries) (index : ℕ) (d : Stream) → index < length (keys_of entries) → is_same_stream stream (get_or (keys_of entries) index d) ≡ true
    → ((k : ℕ) → k < index → is_same_stream stream (get_or (keys_of entries) k d) ≡ false) → Stands stream entries index
stands stream [] index d within same others = absurd (omega (arith, within))
stands stream (e ∷ entries) zero d within same others = record { front = []; back = entries; name = e.0; kept = e.1; all = refl; at = refl; same = same; others = tt }
stands stream (e ∷ entries) (suc index) d within same others =
    let rest = stands stream entries index d (omega (arith, within)) same (λ k less. others (suc k) (omega (arith, less))) in
    record {
      front = e ∷ rest.front;
      back = rest.back;
      name = rest.name;
      kept = rest.kept;
      all = ap (λ (l : Entries). e ∷ l) rest.all;
      at = ap suc rest.at;
      same = rest.same;
      others = (others zero (omega arith), rest.others);
    }

pub indexed_known : (stream : Stream) (number index : ℕ) (entries : Entries) → number < 4096 → position (is_same_stream stream) (keys_of entries) ≡ Some index → IsIndexed stream number entries entries index
indexed_known stream number index entries small at =
    let found = position-Some (is_same_stream stream) (keys_of entries) index stream at in
    let s = stands stream entries index stream found.0 found.1 found.2 in
    record { small = small; front = s.front; back = s.back; name = s.name; kept = s.kept; all = s.all; at = s.at; same = s.same; others = s.others; case = inl refl }

-- ---- a new one

absent : (test : Stream → Bool) (entries : Entries) → is_some (lookup test entries) ≡ false → AllByRecursion (λ e. test e.0 ≡ false) entries
absent test [] none = tt
absent test (e ∷ entries) none =
    ⊎_elim
    (λ (there : test e.0 ≡ true). absurd (false≢true (sym (rw there at none))))
    (λ (other : test e.0 ≡ false). (other, absent test entries (rw other at none)))
    (cases_Bool (test e.0))

appended : (stream : Stream) (p : KeptSegments) (entries : Entries) → AllByRecursion (λ e. is_same_stream stream e.0 ≡ false) entries → insert_entry is_same_stream entries stream p ≡ entries ++ (stream, p) ∷ []
appended stream p [] none = refl
appended stream p (e ∷ entries) none =
    ap (λ b. if b then (e.0, p) ∷ entries else e ∷ insert_entry is_same_stream entries stream p) none.0 ∙ ap (λ (l : Entries). e ∷ l) (appended stream p entries none.1)

pub indexed_new : (stream : Stream) (number count : ℕ) (old new : Entries) (p : KeptSegments) → number < 4096 → is_some (lookup (is_same_stream stream) old) ≡ false
    → new ≡ insert_entry is_same_stream old stream p → count ≡ length new → p.highest ≡ number + 4096 → p.kept.items ≡ [] → p.held ≡ 0 → IsIndexed stream number old new (count - 1)
indexed_new stream number count old new p small none is size highest empty no_room =
    let others = absent (is_same_stream stream) old none in
    let all : new ≡ old ++ (stream, p) ∷ [] = is ∙ appended stream p old others in
    let longer : length new ≡ length old + 1 = ap (λ (l : Entries). length l) all ∙ length-append old ((stream, p) ∷ []) in
    record {
      small = small;
      front = old;
      back = [];
      name = stream;
      kept = p;
      all = all;
      at = omega (arith, size, longer);
      same = is_same_self stream;
      others = others;
      case = inr (refl, refl, refl, highest, empty, no_room);
    }

-- ---- a write

pub set_at : (front back : Entries) (name : Stream) (old new : KeptSegments) → set_value_at (front ++ (name, old) ∷ back) (length front) new ≡ front ++ (name, new) ∷ back
set_at [] back name old new = refl
set_at (e ∷ front) back name old new = ap (λ (l : Entries). e ∷ l) (set_at front back name old new)

pub value_at : (front back : Entries) (name : Stream) (old : KeptSegments) → slice_get (values_of (front ++ (name, old) ∷ back)) (length front) ≡ Some old
value_at [] back name old = refl
value_at (e ∷ front) back name old = value_at front back name old

pub same_value : (a b : KeptSegments) → Some a ≡ Some b → a ≡ b
same_value a b e = cc

pub comes : (n : ℕ) (stream : Stream) (c : SegmentFields) (old mid : Entries) (index : ℕ) (shown one : KeptSegments) (bytes : List ℕ) (found : Option Whole) (opens : List OpenStream)
    → IsIndexed stream c.number old mid index → slice_get (values_of mid) index ≡ Some shown → FindsIn n c shown one bytes found → AllZip (KeepsOpen n) opens old
    → Continues n stream c opens (set_value_at mid index one) bytes found
comes n stream c old mid index shown one bytes found opens i got finds keeps =
    let at : slice_get (values_of mid) index ≡ Some i.kept =
    ap (λ (l : Entries). slice_get (values_of l) index) i.all ∙ ap (λ k. slice_get (values_of (i.front ++ (i.name, i.kept) ∷ i.back)) k) i.at ∙ value_at i.front i.back i.name i.kept in
    let shown_is : shown ≡ i.kept = same_value shown i.kept (sym got ∙ at) in
    let call : FindsIn n c i.kept one bytes found = subst (λ (p : KeptSegments). FindsIn n c p one bytes found) shown_is finds in
    let set : set_value_at mid index one ≡ i.front ++ (i.name, one) ∷ i.back =
    ap (λ (l : Entries). set_value_at l index one) i.all ∙ ap (λ k. set_value_at (i.front ++ (i.name, i.kept) ∷ i.back) k one) i.at ∙ set_at i.front i.back i.name i.kept one in
    subst (λ (l : Entries). Continues n stream c opens l bytes found) (sym set)
    (⊎_elim
    (λ known. comes_known n stream c i.front i.back i.name i.kept one bytes found opens i.same i.others call (subst (λ (l : Entries). AllZip (KeepsOpen n) opens l) (known ∙ i.all) keeps))
    (λ fresh.
    let whole = comes_new n stream c i.front i.kept one bytes found opens fresh.3 i.small fresh.4 fresh.5 i.others call (subst (λ (l : Entries). AllZip (KeepsOpen n) opens l) fresh.0 keeps) in
    subst (λ (b : Entries). Continues n stream c opens (i.front ++ (i.name, one) ∷ b) bytes found) (sym fresh.1)
    (subst (λ (s : Stream). Continues n stream c opens (i.front ++ (s, one) ∷ []) bytes found) (sym fresh.2) whole))
    i.case)
