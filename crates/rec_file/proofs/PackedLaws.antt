-- A page's mask and records, and the cells that they make.
use Rattle.std.proofs.Common.{◌≡◌, ℕ, zero, suc, ◌+◌, ◌-◌, ◌*◌, ◌/◌, ◌%◌, ◌^◌, ◌<◌, ◌≤◌, ◌≢◌, cond, Bool, true, false, List, [], ◌∷◌, length, set, map, take, drop, insert, remove, slice_get, get_or, option_map, Some, None, IsSome, is_some, bit_and, bit_or, w64, refl, sym, ap, subst, ◌∙◌, arith, length-set}
use Rattle.std.specs.Prelude.{replicate}
use Rattle.std.specs.Int.{bit_at, bit_not}
use Rattle.std.specs.Simd.Lanes.{mask_l}
use Rattle.std.specs.Int.RustNames.{count_ones}
use Rattle.std.specs.List.{refill}
use Rattle.std.proofs.lemmas.Nat.{and_mask, and_le_l, or_lt, or_shifted, mod-pow-add, one_shl}
use Rattle.std.proofs.lemmas.Nat.Bits.{bit_at_lowest, bit_at-suc, shr_and_one}
use Rattle.std.proofs.lemmas.Simd.{ones-mask_l, ones-mask_l_cons}
use Rattle.std.proofs.lemmas.Bool.Decides.{nat_tests}
use Rattle.std.proofs.lemmas.List.{take-map, drop-map, map-append, map-set, length-map}
use Rattle.std.proofs.lemmas.Option.{slice_get_read, slice_get-map}
use Rattle.rec_file.specs.Inner.Pages.{Cells, cell, MasksCells, cell_bodies, occupied_below, cells_from, cells_of, IsPacked, empty_cells}
use Rattle.rec_file.proofs.PageLaws.{le_lt, masks-put, masks-replaced, masks-clear, masks_nothing, length_nothing}

-- the record of an occupied cell stands at its index
pub body_there : (cs : Cells) (k : ℕ) → IsSome (cell cs k) → slice_get (cell_bodies cs) (occupied_below cs k) ≡ cell cs k
body_there [] k h = cc
body_there (None ∷ cs) zero h = cc
body_there (Some b ∷ cs) zero h = refl
body_there (None ∷ cs) (suc k) h = body_there cs k h
body_there (Some b ∷ cs) (suc k) h = body_there cs k h

pub index_most : (cs : Cells) (k : ℕ) → occupied_below cs k ≤ length (cell_bodies cs)
index_most [] zero = omega arith
index_most [] (suc k) = omega arith
index_most (c ∷ cs) zero = omega arith
index_most (None ∷ cs) (suc k) = index_most cs k
index_most (Some b ∷ cs) (suc k) = let r = index_most cs k in omega arith

pub index_within : (cs : Cells) (k : ℕ) → IsSome (cell cs k) → occupied_below cs k < length (cell_bodies cs)
index_within [] k h = cc
index_within (None ∷ cs) zero h = cc
index_within (Some b ∷ cs) zero h = omega arith
index_within (None ∷ cs) (suc k) h = index_within cs k h
index_within (Some b ∷ cs) (suc k) h = let r = index_within cs k h in omega arith

-- a record more, another record, and a record less
pub bodies-put : (cs : Cells) (k : ℕ) (b : List ℕ) → k < length cs → cell cs k ≡ None → cell_bodies (set cs k (Some b)) ≡ insert (cell_bodies cs) (occupied_below cs k) b
bodies-put [] k b lt h = absurd (omega arith)
bodies-put (None ∷ cs) zero b lt h = refl
bodies-put (Some a ∷ cs) zero b lt h = cc
bodies-put (None ∷ cs) (suc k) b lt h = bodies-put cs k b (omega arith) h
bodies-put (Some a ∷ cs) (suc k) b lt h = ap (λ bs. a ∷ bs) (bodies-put cs k b (omega arith) h)

pub bodies-replaced : (cs : Cells) (k : ℕ) (b : List ℕ) → IsSome (cell cs k) → cell_bodies (set cs k (Some b)) ≡ set (cell_bodies cs) (occupied_below cs k) b
bodies-replaced [] k b h = cc
bodies-replaced (None ∷ cs) zero b h = cc
bodies-replaced (Some a ∷ cs) zero b h = refl
bodies-replaced (None ∷ cs) (suc k) b h = bodies-replaced cs k b h
bodies-replaced (Some a ∷ cs) (suc k) b h = ap (λ bs. a ∷ bs) (bodies-replaced cs k b h)

pub bodies-cleared : (cs : Cells) (k : ℕ) → IsSome (cell cs k) → cell_bodies (set cs k None) ≡ remove (cell_bodies cs) (occupied_below cs k)
bodies-cleared [] k h = cc
bodies-cleared (None ∷ cs) zero h = cc
bodies-cleared (Some a ∷ cs) zero h = refl
bodies-cleared (None ∷ cs) (suc k) h = bodies-cleared cs k h
bodies-cleared (Some a ∷ cs) (suc k) h = ap (λ bs. a ∷ bs) (bodies-cleared cs k h)

pub map-insert : {X Y : Type 0} (f : X → Y) (xs : List X) (i : ℕ) (x : X) → map f (insert xs i x) ≡ insert (map f xs) i (f x)
map-insert f xs i x = map-append f (take i xs) (x ∷ drop i xs) ∙ sym (rw (take-map f i xs, drop-map f i xs) refl)

pub map-remove : {X Y : Type 0} (f : X → Y) (xs : List X) (i : ℕ) → map f (remove xs i) ≡ remove (map f xs) i
map-remove f xs i = map-append f (take i xs) (drop (suc i) xs) ∙ sym (rw (take-map f i xs, drop-map f (suc i) xs) refl)

-- a list of the same length takes another's place
refilled : {X : Type 0} (xs ws : List X) → length ws ≡ length xs → refill (length xs) xs ws ≡ ws
refilled [] [] same = refl
refilled [] (w ∷ ws) same = cc
refilled (x ∷ xs) [] same = cc
refilled (x ∷ xs) (w ∷ ws) same = ap (λ l. w ∷ l) (refilled xs ws (omega arith))

pub refill-set : {X : Type 0} (xs : List X) (i : ℕ) (x : X) → refill (length xs) xs (set xs i x) ≡ set xs i x
refill-set xs i x = refilled xs (set xs i x) (length-set xs i x)

length-cells_from : (mask k many : ℕ) (bodies : List (List ℕ)) → length (cells_from mask k many bodies) ≡ many
unfolding cells_from
length-cells_from mask k zero bodies = refl
length-cells_from mask k (suc many) bodies = grind (arith, nat_tests, length-cells_from mask (k + 1) many bodies, length-cells_from mask (k + 1) many (drop 1 bodies))

-- cells are made again by their mask and their records
cells_from-bodies :
    (mask k : ℕ) (cs : Cells) → ((j : ℕ) → j < length cs → bit_at mask (k + j) ≡ cond (is_some (cell cs j)) 1 0)
    → cells_from mask k (length cs) (cell_bodies cs) ≡ cs
unfolding cells_from
cells_from-bodies mask k [] bits = refl
cells_from-bodies mask k (None ∷ cs) bits = let clear = bits 0 (omega arith) in let rest = cells_from-bodies mask (k + 1) cs (λ j lt. let b = bits (suc j) (omega arith) in ap (bit_at mask) (omega arith) ∙ b) in grind (arith, nat_tests)
cells_from-bodies mask k (Some b ∷ cs) bits = let clear = bits 0 (omega arith) in let rest = cells_from-bodies mask (k + 1) cs (λ j lt. let b = bits (suc j) (omega arith) in ap (bit_at mask) (omega arith) ∙ b) in grind (arith, nat_tests)

-- a page's mask and records, by its cells
pub record Packs (mask : ℕ) (bodies : List (List ℕ)) (cells : Cells) : Type 0 where
  pub fits : mask < 2 ^ 64
  pub bits : MasksCells mask cells
  pub records : bodies ≡ cell_bodies cells
  pub size : length cells ≡ 64

pub opened : {mask : ℕ} {bodies : List (List ℕ)} {cells : Cells} → IsPacked mask bodies → cells_of mask bodies ≡ cells → Packs mask bodies cells
opened {mask} {bodies} h is = rw (sym is) (record { fits = h.fits; bits = h.bits; records = h.records; size = length-cells_from mask 0 64 bodies })

pub made : {mask : ℕ} {bodies : List (List ℕ)} {cells : Cells} → Packs mask bodies cells → cells_of mask bodies ≡ cells
made {mask} {bodies} {cells} p =
    ap (cells_of mask) p.records ∙ ap (λ n. cells_from mask 0 n (cell_bodies cells)) (sym p.size)
    ∙ cells_from-bodies mask 0 cells (λ j lt. let here : 0 + j ≡ j = omega arith in ap (bit_at mask) here ∙ p.bits j (omega (arith, p.size)))

pub closed : {mask : ℕ} {bodies : List (List ℕ)} {cells : Cells} → Packs mask bodies cells → IsPacked mask bodies
closed p = record { fits = p.fits; bits = rw (made p) p.bits; records = rw (made p) p.records }

-- the records as they are kept, each read by f
module _ {X : Type 0} (f : X → List ℕ) (mask : ℕ) (xs : List X) (cells : Cells) (p : Packs mask (map f xs) cells) (at : ℕ) where
  pub index_fits : occupied_below cells at ≤ length xs
  index_fits = let most = index_most cells at in let same = ap length p.records in omega (arith, length-map xs f)

  pub index_inside : IsSome (cell cells at) → occupied_below cells at < length xs
  index_inside some = let within = index_within cells at some in let same = ap length p.records in omega (arith, length-map xs f)

  pub found : (x : X) → IsSome (cell cells at) → x ≡ get_or xs (occupied_below cells at) x → Some (f x) ≡ cell cells at
  found x some is =
      ap (option_map f) (sym (slice_get_read xs (length xs) (occupied_below cells at) x refl (index_inside some) is))
      ∙ sym (slice_get-map f xs (occupied_below cells at))
      ∙ ap (λ bodies. slice_get bodies (occupied_below cells at)) p.records ∙ body_there cells at some

  pub packs-put : (x : X) → at < 64 → cell cells at ≡ None → Packs (bit_or mask (1 * 2 ^ at % 2 ^ 64)) (map f (insert xs (occupied_below cells at) x)) (set cells at (Some (f x)))
  packs-put x lt none = record {
    fits = or_lt 64 mask (1 * 2 ^ at % 2 ^ 64) p.fits (omega arith);
    bits = masks-put mask cells at (f x) p.bits lt p.size;
    records = map-insert f xs (occupied_below cells at) x ∙ ap (λ bodies. insert bodies (occupied_below cells at) (f x)) p.records ∙ sym (bodies-put cells at (f x) (omega (arith, p.size)) none);
    size = length-set cells at (Some (f x)) ∙ p.size;
  }

  pub packs-replaced : (x : X) → at < 64 → IsSome (cell cells at) → Packs mask (map f (set xs (occupied_below cells at) x)) (set cells at (Some (f x)))
  packs-replaced x lt some = record {
    fits = p.fits;
    bits = masks-replaced mask cells at (f x) p.bits some (omega (arith, p.size));
    records = map-set f xs (occupied_below cells at) x ∙ ap (λ bodies. set bodies (occupied_below cells at) (f x)) p.records ∙ sym (bodies-replaced cells at (f x) some);
    size = length-set cells at (Some (f x)) ∙ p.size;
  }

  pub packs-cleared : at < 64 → IsSome (cell cells at) → Packs (bit_and mask (bit_not w64 (1 * 2 ^ at % 2 ^ 64))) (map f (remove xs (occupied_below cells at))) (set cells at None)
  packs-cleared lt some = record {
    fits = le_lt _ _ _ (and_le_l mask (bit_not w64 (1 * 2 ^ at % 2 ^ 64))) p.fits;
    bits = masks-clear mask cells at p.bits lt p.size;
    records = map-remove f xs (occupied_below cells at) ∙ ap (λ bodies. remove bodies (occupied_below cells at)) p.records ∙ sym (bodies-cleared cells at some);
    size = length-set cells at None ∙ p.size;
  }

-- the low bits of a mask, as one for each cell
low_bits :
    (m : ℕ) (cs : Cells) (k : ℕ) → k ≤ length cs → ((j : ℕ) → j < k → bit_at m j ≡ cond (is_some (cell cs j)) 1 0)
    → m % 2 ^ k ≡ mask_l (map is_some (take k cs))
low_bits m cs zero le bits = omega arith
low_bits m [] (suc k) le bits = absurd (omega arith)
low_bits m (c ∷ cs) (suc k) le bits =
    let low = sym (bit_at_lowest m) ∙ bits 0 (omega arith) in
    let high = low_bits (m / 2) cs k (omega arith) (λ j lt. sym (bit_at-suc m j) ∙ bits (suc j) (omega arith)) in
    let next : suc k ≡ k + 1 = omega arith in
    ap (λ e. m % 2 ^ e) next ∙ (let split = mod-pow-add m k 1 in omega arith)

ones-bodies : (cs : Cells) → count_ones (mask_l (map is_some cs)) ≡ length (cell_bodies cs)
ones-bodies [] = ones-mask_l (is_some {T = List ℕ}) []
ones-bodies (None ∷ cs) = ones-mask_l_cons false (map is_some cs) ∙ (let r = ones-bodies cs in omega arith)
ones-bodies (Some b ∷ cs) = ones-mask_l_cons true (map is_some cs) ∙ (let r = ones-bodies cs in omega arith)

pub rank_is : {mask : ℕ} {bodies : List (List ℕ)} {cells : Cells} → Packs mask bodies cells → (at : ℕ) → at < 64 → count_ones (bit_and mask (1 * 2 ^ at % 2 ^ 64 - 1)) ≡ occupied_below cells at
rank_is {mask} {bodies} {cells} p at lt =
    ap (λ n. count_ones (bit_and mask (n - 1))) (one_shl at 64 lt) ∙ ap count_ones (and_mask mask at)
    ∙ ap count_ones (low_bits mask cells at (omega (arith, p.size)) (λ j below. p.bits j (omega arith))) ∙ ones-bodies (take at cells)

some_of : (b : Bool) {n : ℕ} → n ≡ cond b 1 0 → n ≢ 0 → b ≡ true
some_of true is h = refl
some_of false is h = absurd (h is)

-- a cell whose bit is set
pub occupied : {mask : ℕ} {bodies : List (List ℕ)} {cells : Cells} → Packs mask bodies cells → (at : ℕ) → at < 64 → bit_and (mask / 2 ^ at) 1 ≢ 0 → IsSome (cell cells at)
occupied {mask} p at lt bit = some_of (is_some (cell _ at)) (shr_and_one mask at ∙ p.bits at lt) bit

no_bodies : (n : ℕ) → cell_bodies (replicate n None) ≡ []
no_bodies zero = refl
no_bodies (suc n) = no_bodies n

one_body : (n k : ℕ) (b : List ℕ) → k < n → cell_bodies (set (replicate n None) k (Some b)) ≡ b ∷ []
one_body zero k b lt = absurd (omega arith)
one_body (suc n) zero b lt = ap (λ bs. b ∷ bs) (no_bodies n)
one_body (suc n) (suc k) b lt = one_body n k b (omega arith)

-- a page with one record
pub packs-one : (at : ℕ) (b : List ℕ) → at < 64 → Packs (1 * 2 ^ at % 2 ^ 64) (b ∷ []) (set empty_cells at (Some b))
packs-one at b lt = record {
  fits = omega arith;
  bits = subst (λ mask. MasksCells mask (set empty_cells at (Some b))) (let low : 1 * 2 ^ at % 2 ^ 64 < 2 ^ 64 = omega arith in or_shifted 0 64 (1 * 2 ^ at % 2 ^ 64) low ∙ omega arith) (masks-put 0 empty_cells at b (masks_nothing (List ℕ) 64) lt (length_nothing (List ℕ) 64));
  records = sym (one_body 64 at b lt);
  size = length-set empty_cells at (Some b) ∙ length_nothing (List ℕ) 64;
}
