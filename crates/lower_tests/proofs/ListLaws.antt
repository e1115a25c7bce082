-- What a relative file answers, by its list of numbers and records.
use Rattle.std.proofs.Common.{◌≡◌, ℕ, zero, suc, ◌+◌, ◌<◌, ◌≤◌, cond, eqb, Bool, true, false, T, List, [], ◌∷◌, length, set, map, get_or, Vec, Global, option_map, Some, None, is_some, slice_get, Ok, Err, refl, sym, ap, subst, ◌∙◌, arith, inl, inr}
use Rattle.std.specs.List.{insert, remove}
use Rattle.std.specs.List.Sorted.{IsBinarySearchResult, IsSearchInRange}
use Rattle.std.specs.Ordering.{nat_cmp}
use Rattle.std.specs.FinMap.{get, empty, get-empty, insert as put, remove as take_out, from_sorted, get-from_sorted, is_sorted}
use Rattle.std.proofs.lemmas.List.{length-map}
use Rattle.std.proofs.lemmas.Simd.{map-map}
use Rattle.std.proofs.lemmas.Option.{slice_get_within, slice_get-map, slice_get_read}
use Rattle.rec_file.specs.declared.shapes.Shape.{Shape}
use Rattle.rec_file.specs.Looks.{plain_look}
use Rattle.rec_file.specs.Files.{FileVal, lowest_from, highest_of, file_with_record, file_without_record}
use Rattle.lower_tests.specs.Inner.Lists.{list_file}
use Rattle.rec_file.specs.Inner.Sorted.{IsInOrder, IsIndexOf, IsGapFor}
use Rattle.rec_file.proofs.ForCallers.{at, IsRising, find_is_at, sorted_from_rising, rising_from_sorted, same_or_not}
use Rattle.rec_file.proofs.ForCallers.{lowest_from_some, lowest_from_none, highest_of_some, highest_of_none}
use Rattle.rec_file.proofs.ForCallers.{get_stored, get_removed, same_records}
use Rattle.rec_file.proofs.ForCallers.{searched, numbers, ordered, at-gap, at-index, at-insert, at-remove, rising-insert, rising-remove, number_at}
use Rattle.lower_tests.proofs.Edits.{at-set, rising-set, gap_from}

true_test : (b : Bool) → b ≡ true → T b
true_test b h = subst T (sym h) tt

test_true : (b : Bool) → T b → b ≡ true
test_true true h = refl
test_true false h = absurd h

pub rising_test : (es : List (ℕ × List ℕ)) → is_sorted nat_cmp es ≡ true → IsRising es
rising_test es h = rising_from_sorted es (true_test _ h)

pub test_rising : (es : List (ℕ × List ℕ)) → IsRising es → is_sorted nat_cmp es ≡ true
test_rising es r = test_true _ (sorted_from_rising es r)

get_pairs : (es : List (ℕ × List ℕ)) (q : ℕ) → IsRising es → get (from_sorted {R = nat_cmp} es) q ≡ at es q
get_pairs es q r = get-from_sorted nat_cmp es q (sorted_from_rising es r) ∙ find_is_at es q

module _ (s : Shape) (es : List (ℕ × List ℕ)) (f : FileVal) (e : list_file s es ≡ f) (r : IsRising es) where
  pub get_is : (q : ℕ) → get f.records q ≡ at es q
  get_is q = ap (λ g. get g.records q) (sym e) ∙ get_pairs es q r

  pub here : (i : ℕ) (p : ℕ × List ℕ) → slice_get es i ≡ Some p → Some p.1 ≡ get f.records p.0
  here i p is = sym (get_is p.0 ∙ at-index es i p r is)

  pub absent : (n i : ℕ) → IsGapFor (numbers es) n i → None ≡ get f.records n
  absent n i g = sym (get_is n ∙ at-gap es n i g)

  pub first_here : (i : ℕ) (p : ℕ × List ℕ) → slice_get es i ≡ Some p → Some p.0 ≡ lowest_from f.records p.0
  first_here i p is = sym (lowest_from_some f.records p.0 p.0 (omega arith) (ap is_some (sym (here i p is))) (λ j ge lt. absurd (omega arith)))

  pub first_after : (n i : ℕ) (p : ℕ × List ℕ) → IsGapFor (numbers es) n i → slice_get es i ≡ Some p → Some p.0 ≡ lowest_from f.records n
  first_after n i p g is =
      let lt : i < length (numbers es) = index_within i p is in
      let up = g.greater_after i (omega arith) lt in
      let same = number_at es i p is in
      sym (lowest_from_some f.records n p.0 (omega arith) (ap is_some (sym (here i p is)))
      (λ j ge below. sym (absent j i (gap_from es n i j r g ge (λ _. omega arith)))))
    where
      index_within : (i : ℕ) (p : ℕ × List ℕ) → slice_get es i ≡ Some p → i < length (numbers es)
      index_within i p is = subst (λ n. i < n) (sym (length-map es _)) (slice_get_within es i p is)

  pub no_first : (n i : ℕ) → IsGapFor (numbers es) n i → length es ≤ i → None ≡ lowest_from f.records n
  no_first n i g past = sym (lowest_from_none f.records n (λ j ge. sym (absent j i (gap_from es n i j r g ge (λ lt. let k = length-map es (λ (e : ℕ × List ℕ). e.0) in absurd (omega arith))))))

  -- above the last number nothing stands
  past_last : (i : ℕ) (p : ℕ × List ℕ) → slice_get es i ≡ Some p → i + 1 ≡ length es → (j : ℕ) → p.0 < j → IsGapFor (numbers es) j (i + 1)
  past_last i p is last j lt =
      let size = length-map es (λ (e : ℕ × List ℕ). e.0) in
      let same = number_at es i p is in
      record {
        in_range = omega arith;
        smaller_before = λ k below. elim (same_or_not k i) [
          | inl at_last ↦ let e = ap (λ m. get_or (numbers es) m 0) at_last in omega arith
          | inr before ↦ let up = ordered es r k i (omega arith) (omega arith) in omega arith
        ];
        greater_after = λ k ge in_range. absurd (omega arith);
      }

  pub last_here : (i : ℕ) (p : ℕ × List ℕ) → slice_get es i ≡ Some p → i + 1 ≡ length es → p.0 ≡ highest_of f.records
  last_here i p is last = sym (highest_of_some f.records p.0 (ap is_some (sym (here i p is))) (λ j lt. sym (absent j (i + 1) (past_last i p is last j lt))))

  pub none_last : es ≡ [] → 0 ≡ highest_of f.records
  none_last is = sym (highest_of_none f.records (λ j. get_is j ∙ ap (λ l. at l j) is))

  pub placed : (n i : ℕ) (body : List ℕ) → IsGapFor (numbers es) n i → list_file s (insert es i (n, body)) ≡ file_with_record f n body
  placed n i body g =
      ap (λ m. record { shape = s; look = plain_look; records = m })
      (same_records (from_sorted {R = nat_cmp} (insert es i (n, body))) (put (from_sorted {R = nat_cmp} es) n body) (λ q.
      get_pairs (insert es i (n, body)) q (rising-insert es n i body r g) ∙ at-insert es n i body g q
      ∙ sym (get_stored (from_sorted {R = nat_cmp} es) n body q ∙ ap (cond (eqb q n) (Some body)) (get_pairs es q r))))
      ∙ ap (λ g. file_with_record g n body) e

  pub set_is : (i : ℕ) (p : ℕ × List ℕ) (body : List ℕ) → slice_get es i ≡ Some p → list_file s (set es i (p.0, body)) ≡ file_with_record f p.0 body
  set_is i p body is =
      ap (λ m. record { shape = s; look = plain_look; records = m })
      (same_records (from_sorted {R = nat_cmp} (set es i (p.0, body))) (put (from_sorted {R = nat_cmp} es) p.0 body) (λ q.
      get_pairs (set es i (p.0, body)) q (rising-set es i p body r is) ∙ at-set es i p body r is q
      ∙ sym (get_stored (from_sorted {R = nat_cmp} es) p.0 body q ∙ ap (cond (eqb q p.0) (Some body)) (get_pairs es q r))))
      ∙ ap (λ g. file_with_record g p.0 body) e

  pub less : (i : ℕ) (p : ℕ × List ℕ) → slice_get es i ≡ Some p → list_file s (remove es i) ≡ file_without_record f p.0
  less i p is =
      ap (λ m. record { shape = s; look = plain_look; records = m })
      (same_records (from_sorted {R = nat_cmp} (remove es i)) (take_out (from_sorted {R = nat_cmp} es) p.0) (λ q.
      get_pairs (remove es i) q (rising-remove es i r) ∙ at-remove es i p r is q
      ∙ sym (get_removed (from_sorted {R = nat_cmp} es) p.0 q ∙ ap (cond (eqb q p.0) None) (get_pairs es q r))))
      ∙ ap (λ g. file_without_record g p.0) e

-- the numbers and the bytes of entries
abbrev pub pairs : List (ℕ × Vec ℕ Global) → List (ℕ × List ℕ)
pairs vs = map (λ v. (v.0, v.1.items)) vs

pub pairs_numbers : (vs : List (ℕ × Vec ℕ Global)) → map (λ v. v.0) vs ≡ numbers (pairs vs)
pairs_numbers vs = sym (map-map (λ (e : ℕ × List ℕ). e.0) (λ (v : ℕ × Vec ℕ Global). (v.0, v.1.items)) vs)

-- the numbers of a file are in order for a search
pub searchable : (vs : List (ℕ × Vec ℕ Global)) → IsRising (pairs vs) → IsInOrder (map (λ v. v.0) vs)
searchable vs r = subst IsInOrder (sym (pairs_numbers vs)) (ordered (pairs vs) r)

pub gap_of : (vs : List (ℕ × Vec ℕ Global)) (n i : ℕ) → IsGapFor (map (λ v. v.0) vs) n i → IsGapFor (numbers (pairs vs)) n i
gap_of vs n i g = subst (λ ns. IsGapFor ns n i) (pairs_numbers vs) g

-- an entry that was read at an index
pub read : (vs : List (ℕ × Vec ℕ Global)) (i : ℕ) (v : ℕ × Vec ℕ Global) → i < length vs → v ≡ get_or vs i v → slice_get (pairs vs) i ≡ Some (v.0, v.1.items)
read vs i v lt is = slice_get-map (λ v. (v.0, v.1.items)) vs i ∙ ap (option_map (λ v. (v.0, v.1.items))) (slice_get_read vs (length vs) i v refl lt is)

-- the number of the entry at the index of a number
pub index_is : (vs : List (ℕ × Vec ℕ Global)) (n i : ℕ) (v : ℕ × Vec ℕ Global) → IsIndexOf (map (λ v. v.0) vs) n i → v ≡ get_or vs i v → v.0 ≡ n
index_is vs n i v p is =
    let lt : i < length vs = subst (λ m. i < m) (length-map vs _) p.in_range in
    sym (number_at (pairs vs) i (v.0, v.1.items) (read vs i v lt is)) ∙ ap (λ ns. get_or ns i 0) (sym (pairs_numbers vs)) ∙ p.same

-- what stands at the index of a number
pub pair_at : (vs : List (ℕ × Vec ℕ Global)) (n i : ℕ) → IsIndexOf (map (λ v. v.0) vs) n i → (body : List ℕ) × (slice_get (pairs vs) i ≡ Some (n, body))
pair_at [] n i p = absurd (omega (arith, p.in_range))
pair_at (v ∷ vs) n zero p = (v.1.items, ap (λ k. Some (k, v.1.items)) p.same)
pair_at (v ∷ vs) n (suc i) p = pair_at vs n i (record { in_range = omega (arith, p.in_range); same = p.same })

pub list-empty : from_sorted {X = List ℕ} {R = nat_cmp} [] ≡ empty
list-empty = same_records _ _ (λ q. get_pairs [] q tt ∙ sym (get-empty {X = List ℕ} nat_cmp q))

pub no_items : {A : Type 0} (l : List A) → length l ≤ 0 → l ≡ []
no_items [] h = refl
no_items (x ∷ l) h = absurd (omega arith)

pub pairs_length : (vs : List (ℕ × Vec ℕ Global)) → length (pairs vs) ≡ length vs
pairs_length [] = refl
pairs_length (v ∷ vs) = omega (arith, pairs_length vs)

-- where a search in a file's entries ends
pub index_found : (vs : List (ℕ × Vec ℕ Global)) (n i : ℕ) → IsRising (pairs vs) → IsSearchInRange (Ok i) (length vs) → IsBinarySearchResult (λ v. nat_cmp v.0 n) vs (Ok i) → IsIndexOf (map (λ v. v.0) vs) n i
index_found vs n i r within found = (searched (λ (v : ℕ × Vec ℕ Global). v.0) vs (searchable vs r) n (Ok i) within found).found

pub gap_found : (vs : List (ℕ × Vec ℕ Global)) (n i : ℕ) → IsRising (pairs vs) → IsSearchInRange (Err i) (length vs) → IsBinarySearchResult (λ v. nat_cmp v.0 n) vs (Err i) → IsGapFor (numbers (pairs vs)) n i
gap_found vs n i r within found = gap_of vs n i (searched (λ (v : ℕ × Vec ℕ Global). v.0) vs (searchable vs r) n (Err i) within found).gap
