-- What a search in a group finds, and an edit at the index that it finds.
use Rattle.std.proofs.Common.{◌≡◌, ℕ, zero, suc, ◌+◌, ◌-◌, ◌<◌, ◌≤◌, cond, eqb, true, false, List, [], ◌∷◌, length, take, drop, get_or, Some, None, is_some, slice_get, refl, sym, ap, subst, ◌∙◌, arith, inl, inr}
use Rattle.std.specs.List.{insert, remove}
use Rattle.std.specs.Ordering.{nat_cmp, is_le}
use Rattle.std.specs.Map.{remove_entry}
use Rattle.std.specs.BTreeMap.{is_at, insert_entry}
use Rattle.std.specs.FinMap.{is_sorted}
use Rattle.std.proofs.Math.Seq.{take-length}
use Rattle.std.proofs.lemmas.Bool.{cases_lt}
use Rattle.std.proofs.lemmas.Bool.Decides.{nat_tests}
use Rattle.std.proofs.lemmas.List.{length-map, length-drop, length-take-le}
use Rattle.std.proofs.lemmas.Option.{slice_get-get_or, slice_get_read}
use Rattle.rec_file.specs.Inner.Sorted.{IsInOrder, IsIndexOf, IsGapFor}
use Rattle.rec_file.specs.Inner.Slots.{slot_of, with_slot, slots_from}
use Rattle.rec_file.proofs.Rising.{at, IsRising, same_or_not}
use Rattle.rec_file.proofs.Keyed.{lookup_is_at, at-inserted, rising-inserted, at-removed, rising-removed}
use Rattle.rec_file.proofs.Gaps.{numbers, ordered, at-gap, at-index, at-insert, at-remove, rising-insert, rising-remove, number_at}
use Rattle.rec_file.proofs.SlotsLaws.{rising-of, same-entries}

module _ (es : List (ℕ × ℕ)) (sorted : is_sorted nat_cmp es ≡ true) (p i : ℕ) where
  r : IsRising es
  r = rising-of es sorted

  pub searchable : IsInOrder (numbers es)
  searchable = ordered es r

  -- it stands where it was found
  module _ (found : IsIndexOf (numbers es) p i) where
    within : i < length es
    within = subst (λ n. i < n) (length-map es (λ (e : ℕ × ℕ). e.0)) found.in_range

    entry : slice_get es i ≡ Some (get_or es i (0, 0))
    entry = slice_get-get_or es i (0, 0) within

    number : (get_or es i (0, 0)).0 ≡ p
    number = sym (number_at es i (get_or es i (0, 0)) entry) ∙ found.same

    at-found : at es p ≡ Some (get_or es i (0, 0)).1
    at-found = subst (λ n. at es n ≡ Some (get_or es i (0, 0)).1) number (at-index es i (get_or es i (0, 0)) r entry)

    pub found-slot : Some (get_or es i (0, 0)).1 ≡ slot_of es p
    found-slot = sym (lookup_is_at es p ∙ at-found)

    pub read-slot : (e : ℕ × ℕ) → e ≡ get_or es i e → Some e.1 ≡ slot_of es p
    read-slot e is = let there = slice_get_read es (length es) i e refl within is in sym (lookup_is_at es p ∙ subst (λ n. at es n ≡ Some e.1) (sym (number_at es i e there) ∙ found.same) (at-index es i e r there))

    pub with-found : (j : ℕ) → es ≡ with_slot es p j
    with-found j = sym (ap (λ o. cond (is_some o) es (insert_entry nat_cmp es p j)) (sym found-slot))

    pub taken-found : remove es i ≡ remove_entry (is_at (nat_cmp p)) es
    taken-found =
        same-entries (remove es i) (remove_entry (is_at (nat_cmp p)) es) (rising-remove es i r) (rising-removed (is_at (nat_cmp p)) es r)
        (λ q. at-remove es i (get_or es i (0, 0)) r entry q ∙ ap (λ n. cond (eqb q n) None (at es q)) number ∙ sym (at-removed es p r q))

  -- nothing stands where a gap was found
  module _ (gap : IsGapFor (numbers es) p i) where
    pub gap-slot : None ≡ slot_of es p
    gap-slot = sym (lookup_is_at es p ∙ at-gap es p i gap)

    pub with-gap : (j : ℕ) → insert es i (p, j) ≡ with_slot es p j
    with-gap j =
        same-entries (insert es i (p, j)) (insert_entry nat_cmp es p j) (rising-insert es p i j r gap) (rising-inserted es p j r)
        (λ q. at-insert es p i j gap q ∙ sym (at-inserted es p j q))
        ∙ ap (λ o. cond (is_some o) es (insert_entry nat_cmp es p j)) gap-slot

-- smaller numbers before an index, and none from it on
record Parts (ns : List ℕ) (p i : ℕ) : Type 0 where
  in_range : i ≤ length ns
  before : (j : ℕ) → j < i → get_or ns j 0 < p
  after : (j : ℕ) → i ≤ j → j < length ns → p ≤ get_or ns j 0

parted : (p : ℕ) (es : List (ℕ × ℕ)) (i : ℕ) → Parts (numbers es) p i → drop i es ≡ slots_from p es
parted p [] zero h = refl
parted p [] (suc i) h = refl
parted p (e ∷ es) zero h =
    let le : p ≤ e.0 = h.after 0 (omega arith) (omega arith) in
    let yes : is_le (nat_cmp p e.0) ≡ true = grind (arith, nat_tests) in
    ap (λ l. e ∷ l) (parted p es 0 (record { in_range = omega arith; before = λ j lt. absurd (omega arith); after = λ j from lt. h.after (suc j) (omega arith) (omega arith) }))
    ∙ sym (ap (λ t. cond t (e ∷ slots_from p es) (slots_from p es)) yes)
parted p (e ∷ es) (suc i) h =
    let lt : e.0 < p = h.before 0 (omega arith) in
    let no : is_le (nat_cmp p e.0) ≡ false = grind (arith, nat_tests) in
    parted p es i (record { in_range = (let n = h.in_range in omega arith); before = λ j lt. h.before (suc j) (omega arith); after = λ j from lt. h.after (suc j) (omega arith) (omega arith) })
    ∙ sym (ap (λ t. cond t (e ∷ slots_from p es) (slots_from p es)) no)

rest : (es : List (ℕ × ℕ)) (i : ℕ) → take (length es - i) (drop i es) ≡ drop i es
rest es i = ap (λ n. take n (drop i es)) (sym (length-drop i es)) ∙ take-length (drop i es)

pub rest-gap : (es : List (ℕ × ℕ)) (p i : ℕ) → IsGapFor (numbers es) p i → take (length es - i) (drop i es) ≡ slots_from p es
rest-gap es p i gap = rest es i ∙ parted p es i (record { in_range = gap.in_range; before = gap.smaller_before; after = λ j from lt. let up = gap.greater_after j from lt in omega arith })

pub rest-found : (es : List (ℕ × ℕ)) (p i : ℕ) → is_sorted nat_cmp es ≡ true → IsIndexOf (numbers es) p i → take (length es - i) (drop i es) ≡ slots_from p es
rest-found es p i sorted found =
    let up = ordered es (rising-of es sorted) in
    rest es i
    ∙ parted p es i (record {
      in_range = (let n = found.in_range in omega arith);
      before = λ j lt. let less = up j i lt found.in_range in let same = found.same in omega arith;
      after = λ j from lt. elim (same_or_not i j) [
        | inl here ↦ let same = ap (λ k. get_or (numbers es) k 0) here in let is = found.same in omega arith
        | inr other ↦ let less = up i j (omega arith) lt in let same = found.same in omega arith
      ];
    })

-- smaller pages stand before one that is smaller, and greater ones after one that is greater
pub before-smaller : (es : List (ℕ × ℕ)) (p k : ℕ) (e : ℕ × ℕ) → IsInOrder (numbers es) → k < length es → e ≡ get_or es k e → e.0 < p → (j : ℕ) → j < k + 1 → get_or (numbers es) j 0 < p
before-smaller es p k e order within is less j lt =
    let there = number_at es k e (slice_get_read es (length es) k e refl within is) in
    let size = length-map es (λ (e : ℕ × ℕ). e.0) in
    elim (same_or_not j k) [
      | inl same ↦ let at_k = ap (λ i. get_or (numbers es) i 0) same in omega arith
      | inr other ↦ let up = order j k (omega arith) (omega arith) in omega arith
    ]

pub after-greater : (es : List (ℕ × ℕ)) (p k : ℕ) (e : ℕ × ℕ) → IsInOrder (numbers es) → k < length es → e ≡ get_or es k e → p < e.0 → (j : ℕ) → k ≤ j → j < length es → p < get_or (numbers es) j 0
after-greater es p k e order within is more j from lt =
    let there = number_at es k e (slice_get_read es (length es) k e refl within is) in
    let size = length-map es (λ (e : ℕ × ℕ). e.0) in
    elim (same_or_not k j) [
      | inl same ↦ let at_k = ap (λ i. get_or (numbers es) i 0) same in omega arith
      | inr other ↦ let up = order k j (omega arith) (omega arith) in omega arith
    ]

-- what a search in a part finds
number-at-part : (es : List (ℕ × ℕ)) (l n j m : ℕ) → j < n → m ≡ l + j → get_or (numbers (take n (drop l es))) j 0 ≡ get_or (numbers es) m 0
number-at-part [] zero zero j m lt is = refl
number-at-part [] zero (suc n) j m lt is = refl
number-at-part [] (suc l) zero j m lt is = refl
number-at-part [] (suc l) (suc n) j m lt is = refl
number-at-part (e ∷ es) zero zero j m lt is = absurd (omega arith)
number-at-part (e ∷ es) zero (suc n) zero zero lt is = refl
number-at-part (e ∷ es) zero (suc n) zero (suc m) lt is = absurd (omega arith)
number-at-part (e ∷ es) zero (suc n) (suc j) zero lt is = absurd (omega arith)
number-at-part (e ∷ es) zero (suc n) (suc j) (suc m) lt is = number-at-part es zero n j m (omega arith) (omega arith)
number-at-part (e ∷ es) (suc l) n j zero lt is = absurd (omega arith)
number-at-part (e ∷ es) (suc l) n j (suc m) lt is = number-at-part es l n j m lt (omega arith)

number-part : (es : List (ℕ × ℕ)) (l n j : ℕ) → j < n → get_or (numbers (take n (drop l es))) j 0 ≡ get_or (numbers es) (l + j) 0
number-part es l n j lt = number-at-part es l n j (l + j) lt refl

module _ (es : List (ℕ × ℕ)) (p low high : ℕ) (order : IsInOrder (numbers es)) (within : (low ≤ high) × (high ≤ length es)) where
  abbrev part : List (ℕ × ℕ)
  part = take (high - low) (drop low es)

  size : length (numbers part) ≡ high - low
  size =
      let a = length-map part (λ (e : ℕ × ℕ). e.0) in
      let b = length-drop low es in
      let c = length-take-le (high - low) (drop low es) (let le = within.0 in let most = within.1 in omega arith) in
      omega arith

  whole-size : length (numbers es) ≡ length es
  whole-size = length-map es (λ (e : ℕ × ℕ). e.0)

  pub part-ordered : IsInOrder (numbers part)
  part-ordered i j lt in_range =
      let n = size in
      let m = whole-size in
      let le = within.0 in
      let most = within.1 in
      let a = number-part es low (high - low) i (omega arith) in
      let b = number-part es low (high - low) j (omega arith) in
      let up = order (low + i) (low + j) (omega arith) (omega arith) in
      omega arith

  pub part-found : (i : ℕ) → IsIndexOf (numbers part) p i → IsIndexOf (numbers es) p (low + i)
  part-found i found =
      let n = size in
      let m = whole-size in
      let le = within.0 in
      let most = within.1 in
      let in_range = found.in_range in
      record { in_range = omega arith; same = sym (number-part es low (high - low) i (omega arith)) ∙ found.same }

  pub part-gap : (i : ℕ) → IsGapFor (numbers part) p i → ((j : ℕ) → j < low → get_or (numbers es) j 0 < p) → ((j : ℕ) → high ≤ j → j < length es → p < get_or (numbers es) j 0) → IsGapFor (numbers es) p (low + i)
  part-gap i gap before after =
      let n = size in
      let m = whole-size in
      let le = within.0 in
      let most = within.1 in
      let in_range = gap.in_range in
      record {
        in_range = omega arith;
        smaller_before = λ j lt. elim (cases_lt j low) [
          | inl out ↦ before j out
          | inr inside ↦
              let k = j - low in
              let less = gap.smaller_before (j - low) (omega arith) in
              let same = number-part es low (high - low) (j - low) (omega arith) in
              let there : low + (j - low) ≡ j = omega arith in
              let at_j = ap (λ i. get_or (numbers es) i 0) there in
              omega arith
        ];
        greater_after = λ j from lt. elim (cases_lt j high) [
          | inl inside ↦
              let more = gap.greater_after (j - low) (omega arith) (omega arith) in
              let same = number-part es low (high - low) (j - low) (omega arith) in
              let there : low + (j - low) ≡ j = omega arith in
              let at_j = ap (λ i. get_or (numbers es) i 0) there in
              omega arith
          | inr out ↦ after j out (omega arith)
        ];
      }
