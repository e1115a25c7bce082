-- The cells of a page, and the bits of its mask.
use Rattle.std.proofs.Common.{◌≡◌, ℕ, zero, suc, ◌+◌, ◌-◌, ◌*◌, ◌/◌, ◌%◌, ◌^◌, ◌<◌, ◌≤◌, cond, eqb, true, List, [], ◌∷◌, length, set, Option, Some, None, IsSome, is_some, bit_and, bit_or, w64, refl, sym, ap, ◌∙◌, arith, inl, inr}
use Rattle.std.specs.Prelude.{replicate}
use Rattle.std.specs.Int.{bit_at, bit_not, trailing_zeros}
use Rattle.std.proofs.lemmas.Nat.Bits.{bit_at_set_same, bit_at_set_other, bit_at_clear_same, bit_at_clear_other, bit_at-zero, bit_at_above, bit_at-trailing_zeros, same_from_bits}
use Rattle.std.proofs.lemmas.Bool.{cases_lt}
use Rattle.std.proofs.lemmas.Bool.Decides.{nat_tests}
use Rattle.std.proofs.lemmas.Nat.{shr-shr}
use Rattle.std.proofs.Common.{pow_pos, div-lt_iff_lt-mul, le-div_iff_mul-le}
use Rattle.std.proofs.Math.Nat.{div-le_self, two-pow-succ}
use Rattle.rec_file.specs.Inner.Pages.{cell, MasksCells}
use Rattle.rec_file.proofs.Rising.{same_or_not}

pub le_lt : (a b c : ℕ) → a ≤ b → b < c → a < c
le_lt a b c le lt = omega arith

module _ {X : Type 0} where
  pub cell-set : (cs : List (Option X)) (i : ℕ) (v : Option X) (k : ℕ) → i < length cs → cell (set cs i v) k ≡ cond (eqb k i) v (cell cs k)
  cell-set [] i v k lt = absurd (omega arith)
  cell-set (c ∷ cs) zero v zero lt = refl
  cell-set (c ∷ cs) zero v (suc k) lt = grind (arith, nat_tests)
  cell-set (c ∷ cs) (suc i) v zero lt = grind (arith, nat_tests)
  cell-set (c ∷ cs) (suc i) v (suc k) lt = let r = cell-set cs i v k (omega arith) in grind (arith, nat_tests)

  pub cell_past : (cs : List (Option X)) (k : ℕ) → length cs ≤ k → cell cs k ≡ None
  cell_past [] k le = refl
  cell_past (c ∷ cs) zero le = absurd (omega arith)
  cell_past (c ∷ cs) (suc k) le = cell_past cs k (omega arith)

  -- a bit set where a cell is filled
  pub masks-put : (mask : ℕ) (cs : List (Option X)) (i : ℕ) (x : X) → MasksCells mask cs → i < 64 → length cs ≡ 64 → MasksCells (bit_or mask (1 * 2 ^ i % 2 ^ 64)) (set cs i (Some x))
  masks-put mask cs i x m lt len k in_range = elim (same_or_not k i) [
    | inl same ↦
        let bit : bit_at (bit_or mask (1 * 2 ^ i % 2 ^ 64)) k ≡ 1 = ap (bit_at (bit_or mask (1 * 2 ^ i % 2 ^ 64))) same ∙ bit_at_set_same w64 mask i lt in
        let here : cell (set cs i (Some x)) k ≡ cond (eqb k i) (Some x) (cell cs k) = cell-set cs i (Some x) k (omega arith) in
        let some : cell (set cs i (Some x)) k ≡ Some x = grind (arith, nat_tests) in
        bit ∙ ap (λ o. cond (is_some o) 1 0) (sym some)
    | inr other ↦
        let here : cell (set cs i (Some x)) k ≡ cond (eqb k i) (Some x) (cell cs k) = cell-set cs i (Some x) k (omega arith) in
        let kept : cell (set cs i (Some x)) k ≡ cell cs k = grind (arith, nat_tests) in
        bit_at_set_other w64 mask i lt k other ∙ m k in_range ∙ ap (λ o. cond (is_some o) 1 0) (sym kept)
  ]

  -- kept where another record comes
  pub masks-replaced : (mask : ℕ) (cs : List (Option X)) (i : ℕ) (x : X) → MasksCells mask cs → IsSome (cell cs i) → i < length cs → MasksCells mask (set cs i (Some x))
  masks-replaced mask cs i x m some lt k in_range = elim (same_or_not k i) [
    | inl same ↦
        let here : cell (set cs i (Some x)) k ≡ cond (eqb k i) (Some x) (cell cs k) = cell-set cs i (Some x) k lt in
        let filled : cell (set cs i (Some x)) k ≡ Some x = grind (arith, nat_tests) in
        m k in_range ∙ ap (λ b. cond b 1 0) (ap (λ j. is_some (cell cs j)) same ∙ some) ∙ ap (λ o. cond (is_some o) 1 0) (sym filled)
    | inr other ↦
        let here : cell (set cs i (Some x)) k ≡ cond (eqb k i) (Some x) (cell cs k) = cell-set cs i (Some x) k lt in
        let kept : cell (set cs i (Some x)) k ≡ cell cs k = grind (arith, nat_tests) in
        m k in_range ∙ ap (λ o. cond (is_some o) 1 0) (sym kept)
  ]

  -- and cleared where one is emptied
  pub masks-clear : (mask : ℕ) (cs : List (Option X)) (i : ℕ) → MasksCells mask cs → i < 64 → length cs ≡ 64 → MasksCells (bit_and mask (bit_not w64 (1 * 2 ^ i % 2 ^ 64))) (set cs i None)
  masks-clear mask cs i m lt len k in_range = elim (same_or_not k i) [
    | inl same ↦
        let bit : bit_at (bit_and mask (bit_not w64 (1 * 2 ^ i % 2 ^ 64))) k ≡ 0 = ap (bit_at (bit_and mask (bit_not w64 (1 * 2 ^ i % 2 ^ 64)))) same ∙ bit_at_clear_same w64 mask i lt in
        let here : cell (set cs i None) k ≡ cond (eqb k i) None (cell cs k) = cell-set cs i None k (omega arith) in
        let none : cell (set cs i None) k ≡ None = grind (arith, nat_tests) in
        bit ∙ ap (λ o. cond (is_some o) 1 0) (sym none)
    | inr other ↦
        let here : cell (set cs i None) k ≡ cond (eqb k i) None (cell cs k) = cell-set cs i None k (omega arith) in
        let kept : cell (set cs i None) k ≡ cell cs k = grind (arith, nat_tests) in
        bit_at_clear_other w64 mask i lt k in_range other ∙ m k in_range ∙ ap (λ o. cond (is_some o) 1 0) (sym kept)
  ]

-- the bits of a number that is shifted down
bit_at-shifted : (n k i : ℕ) → bit_at (n / 2 ^ k) i ≡ bit_at n (k + i)
bit_at-shifted n k i = ap (λ m. m % 2) (shr-shr n k i)

-- the highest bit of a number
bit_at-top : (n k : ℕ) → 2 ^ k ≤ n → n < 2 * 2 ^ k → bit_at n k ≡ 1
bit_at-top n k low high =
    let p = pow_pos k in
    let below : n / 2 ^ k < 2 = (div-lt_iff_lt-mul p).1 high in
    let above : 1 ≤ n / 2 ^ k = (le-div_iff_mul-le p).1 (omega arith) in
    omega arith

bit_at-past : (n j k : ℕ) → n < 2 * 2 ^ j → j < k → bit_at n k ≡ 0
bit_at-past n j k high lt = bit_at_above n (suc j) k (omega (arith, two-pow-succ j)) (omega arith)

none_of_bit : {X : Type 0} (o : Option X) → ◌≡◌ {A = ℕ} (cond (is_some o) 1 0) 0 → o ≡ None
none_of_bit None h = refl
none_of_bit (Some x) h = absurd (omega arith)

some_of_bit : {X : Type 0} (o : Option X) → ◌≡◌ {A = ℕ} (cond (is_some o) 1 0) 1 → IsSome o
some_of_bit None h = absurd (omega arith)
some_of_bit (Some x) h = refl

module _ {X : Type 0} (mask : ℕ) (cs : List (Option X)) (m : MasksCells mask cs) (len : length cs ≡ 64) (fits : mask < 2 ^ 64) where
  pub none_from : (at : ℕ) → mask / 2 ^ at ≡ 0 → (k : ℕ) → at ≤ k → cell cs k ≡ None
  none_from at zero_rest k le = elim (cases_lt k 64) [
    | inl within ↦ none_of_bit (cell cs k) (sym (m k within)
        ∙ ap (bit_at mask) (let e : k ≡ at + (k - at) = omega arith in e) ∙ sym (bit_at-shifted mask at (k - at))
        ∙ ap (λ n. bit_at n (k - at)) zero_rest ∙ bit_at-zero (k - at))
    | inr past ↦ cell_past cs k (omega arith)
  ]

  pub first_is : (at : ℕ) → 0 < mask / 2 ^ at → let t = trailing_zeros w64 (mask / 2 ^ at) in (at + t < 64) × IsSome (cell cs (at + t)) × ((j : ℕ) → at ≤ j → j < at + t → cell cs j ≡ None)
  first_is at pos =
      let t = trailing_zeros w64 (mask / 2 ^ at) in
      let low = bit_at-trailing_zeros w64 (mask / 2 ^ at) pos (le_lt (mask / 2 ^ at) mask (2 ^ 64) (div-le_self mask (2 ^ at)) fits) in
      let set_there : bit_at mask (at + t) ≡ 1 = sym (bit_at-shifted mask at t) ∙ low.1 in
      let within : at + t < 64 = elim (cases_lt (at + t) 64) [ inl lt ↦ lt | inr past ↦ absurd (let none = bit_at_above mask 64 (at + t) fits past in omega arith) ] in (
        within,
        some_of_bit _ (sym (m (at + t) within) ∙ set_there),
        λ j le lt. none_of_bit (cell cs j) (sym (m j (omega arith))
            ∙ ap (bit_at mask) (let e : j ≡ at + (j - at) = omega arith in e) ∙ sym (bit_at-shifted mask at (j - at)) ∙ low.2 (j - at) (omega arith)),
      )

  -- the index of the highest bit is the last occupied cell
  pub last_is : (j : ℕ) → 2 ^ j ≤ mask → mask < 2 * 2 ^ j → j < 64 → IsSome (cell cs j) × ((i : ℕ) → j < i → cell cs i ≡ None)
  last_is j low high within = (
    some_of_bit _ (sym (m j within) ∙ bit_at-top mask j low high),
    λ i lt. elim (cases_lt i 64) [
      | inl inside ↦ none_of_bit (cell cs i) (sym (m i inside) ∙ bit_at-past mask j i high lt)
      | inr past ↦ cell_past cs i (omega arith)
    ],
  )

  pub none_at_all : mask ≡ 0 → (k : ℕ) → cell cs k ≡ None
  none_at_all is k = elim (cases_lt k 64) [
    | inl within ↦ none_of_bit (cell cs k) (sym (m k within) ∙ ap (λ n. bit_at n k) is ∙ bit_at-zero k)
    | inr past ↦ cell_past cs k (omega arith)
  ]

  pub no_bits : ((k : ℕ) → cell cs k ≡ None) → mask ≡ 0
  no_bits none = same_from_bits mask 0 (λ i. elim (cases_lt i 64) [
    | inl within ↦ m i within ∙ ap (λ o. cond (is_some o) 1 0) (none i) ∙ sym (bit_at-zero i)
    | inr past ↦ bit_at_above mask 64 i fits past ∙ sym (bit_at-zero i)
  ])

pub eqb_is : (a b : ℕ) → eqb a b ≡ true → a ≡ b
eqb_is a b h = grind (arith, nat_tests)

cell_nothing : (X : Type 0) (n k : ℕ) → cell {X = X} (replicate n None) k ≡ None
cell_nothing X zero k = refl
cell_nothing X (suc n) zero = refl
cell_nothing X (suc n) (suc k) = cell_nothing X n k

pub length_nothing : (X : Type 0) (n : ℕ) → length {A = Option X} (replicate n None) ≡ n
length_nothing X zero = refl
length_nothing X (suc n) = let r = length_nothing X n in omega arith

pub masks_nothing : (X : Type 0) (n : ℕ) → MasksCells {X = X} 0 (replicate n None)
masks_nothing X n k lt = bit_at-zero k ∙ ap (λ o. cond (is_some o) 1 0) (sym (cell_nothing X n k))
