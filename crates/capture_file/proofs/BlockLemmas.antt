-- A block that a writer of pcapng writes is read as it is.
use Rattle.std.proofs.Common.{◌≡◌, ◌≢◌, ℕ, ◌+◌, ◌-◌, ◌%◌, ◌^◌, ◌<◌, ◌≤◌, ◌==◌, ◌||◌, not, Bool, true, false, List, [], ◌∷◌, ◌++◌, take, drop, length, length-append, Some, Result, Ok, arith, refl, ap, sym, ◌∙◌}
use Rattle.std.specs.Prelude.{nat_lt}
use Rattle.std.proofs.lemmas.Bool.{cond-true, cond-false, eq-eqb, ne_eqb, le-ltb, or_from, not_from_true, not_from_false}
use Rattle.std.proofs.lemmas.List.{drop_at}
use Rattle.byteorder.specs.Numbers.{big_number-reads_back, little_number-reads_back}
use Rattle.capture_file.specs.Numbers.{u32_at}
use Rattle.capture_file.specs.Units.{IsUnit, block_extent, byte_order_of, extent_of, is_passed, is_section, kept_prefix, max_unit, ordered_extent, section_extent}
use Rattle.capture_file.specs.Meanings.{ends_well, kind_meaning, meaning_of, section_meaning, section_of}
use Rattle.capture_file.specs.Written.{number_bytes}
use Rattle.capture_file.specs.WrittenBlocks.{IsOtherKind, bytes_of_block}
use Rattle.capture_file.specs.declared.fault.FaultKind.{FaultKind}
use Rattle.capture_file.specs.declared.units.Extent.{Extent}
use Rattle.capture_file.specs.declared.units.Order.{Order}
use Rattle.capture_file.specs.declared.units.Order.TheVariants.{Big, Little}
use Rattle.capture_file.specs.declared.units.Format.{Format}
use Rattle.capture_file.specs.declared.units.Format.TheVariants.{Section, Start}
use Rattle.capture_file.specs.declared.meaning.Interface.{Interface}
use Rattle.capture_file.specs.declared.meaning.Meaning.TheVariants.{Begins, Nothing}

-- ---- its numbers

pub block_long : (order : Order) (kind : ℕ) (body : List ℕ) → length (bytes_of_block order kind body) ≡ 12 + length body
block_long Big kind body = omega (arith, length-append body (number_bytes Big 4 (12 + length body)))
block_long Little kind body = omega (arith, length-append body (number_bytes Little 4 (12 + length body)))

kind_at : (order : Order) (kind : ℕ) (body : List ℕ) → kind < 2 ^ 32 → u32_at order 0 (bytes_of_block order kind body) ≡ kind
unfolding u32_at
kind_at Big kind body h = big_number-reads_back 4 kind [] h
kind_at Little kind body h = little_number-reads_back 4 kind [] h

long_at : (order : Order) (kind : ℕ) (body : List ℕ) → 12 + length body < 2 ^ 32 → u32_at order 4 (bytes_of_block order kind body) ≡ 12 + length body
unfolding u32_at
long_at Big kind body h = big_number-reads_back 4 (12 + length body) [] h
long_at Little kind body h = little_number-reads_back 4 (12 + length body) [] h

-- a type that isn't that of a section isn't read as one from the other end
type_apart : (order : Order) (kind : ℕ) (body : List ℕ) → kind < 2 ^ 32 → kind ≢ 0x0A0D0D0A → u32_at Big 0 (bytes_of_block order kind body) ≢ 0x0A0D0D0A
unfolding u32_at
type_apart Big kind body h other e = other (sym (big_number-reads_back 4 kind [] h) ∙ e)
type_apart Little kind body h other e = other (omega (arith, e))

-- its head has the same numbers
head_kind : (order : Order) (kind : ℕ) (body : List ℕ) → u32_at order 0 (take 12 (bytes_of_block order kind body)) ≡ u32_at order 0 (bytes_of_block order kind body)
unfolding u32_at
head_kind Big kind body = refl
head_kind Little kind body = refl

head_type : (order : Order) (kind : ℕ) (body : List ℕ) → u32_at Big 0 (take 12 (bytes_of_block order kind body)) ≡ u32_at Big 0 (bytes_of_block order kind body)
unfolding u32_at
head_type Big kind body = refl
head_type Little kind body = refl

head_long : (order : Order) (kind : ℕ) (body : List ℕ) → u32_at order 4 (take 12 (bytes_of_block order kind body)) ≡ u32_at order 4 (bytes_of_block order kind body)
unfolding u32_at
head_long Big kind body = refl
head_long Little kind body = refl

-- ---- its end

pub tail_is : (order : Order) (kind : ℕ) (body : List ℕ) → drop (8 + length body) (bytes_of_block order kind body) ≡ number_bytes order 4 (12 + length body)
tail_is Big kind body = drop_at (number_bytes Big 4 kind ++ (number_bytes Big 4 (12 + length body) ++ body)) (number_bytes Big 4 (12 + length body)) (8 + length body) (omega arith)
tail_is Little kind body = drop_at (number_bytes Little 4 kind ++ (number_bytes Little 4 (12 + length body) ++ body)) (number_bytes Little 4 (12 + length body)) (8 + length body) (omega arith)

number_back : (order : Order) (n : ℕ) → n < 2 ^ 32 → u32_at order 0 (number_bytes order 4 n) ≡ n
unfolding u32_at
number_back Big n h = big_number-reads_back 4 n [] h
number_back Little n h = little_number-reads_back 4 n [] h

number_dropped : (order : Order) (at : ℕ) (bytes : List ℕ) → u32_at order at bytes ≡ u32_at order 0 (drop at bytes)
unfolding u32_at
number_dropped Big at bytes = refl
number_dropped Little at bytes = refl

tail_at : (order : Order) (kind : ℕ) (body : List ℕ) → 12 + length body < 2 ^ 32
    → u32_at order (length (bytes_of_block order kind body) - 4) (bytes_of_block order kind body) ≡ 12 + length body
tail_at order kind body few =
    let unit = bytes_of_block order kind body in
    let n : length unit - 4 ≡ 8 + length body = omega (arith, block_long order kind body) in
    ap (λ m. u32_at order m unit) n
    ∙ (number_dropped order (8 + length body) unit
    ∙ (ap (λ xs. u32_at order 0 xs) (tail_is order kind body) ∙ number_back order (12 + length body) few))

-- ---- a block that is kept

abbrev pub whole_of : ℕ → Extent
whole_of long = record { long = long; whole = true }

-- how long it is
pub kept_extent : (kind long : ℕ) → 12 ≤ long → long % 4 ≡ 0 → is_passed kind ≡ false → long ≤ max_unit → block_extent 12 kind long ≡ Ok (whole_of long)
kept_extent kind long some fours kept most =
    cond-false (nat_lt long 12 || not (long % 4 == 0)) _ _ (or_from _ _ (le-ltb _ _ some) (not_from_true _ (eq-eqb _ _ fours)))
    ∙ (cond-false (is_passed kind) _ _ kept ∙ cond-false (nat_lt max_unit long) _ _ (le-ltb _ _ most))

pub kept_unit : (order : Order) (kind : ℕ) (body : List ℕ) → kind < 2 ^ 32 → kind ≢ 0x0A0D0D0A → length body % 4 ≡ 0 → is_passed kind ≡ false
    → 12 + length body ≤ max_unit → IsUnit (Section order) (whole_of (12 + length body)) (bytes_of_block order kind body)
kept_unit order kind body small other fours kept most =
    let unit = bytes_of_block order kind body in record {
      has_head = omega (arith, block_long order kind body);
      extent_is = cond-false (is_section (take 12 unit)) _ _ (ne_eqb _ _ (λ e. type_apart order kind body small other (sym (head_type order kind body) ∙ e)))
          ∙ (ap (λ k. block_extent 12 k (u32_at order 4 (take 12 unit))) (head_kind order kind body ∙ kind_at order kind body small)
          ∙ (ap (λ n. block_extent 12 kind n) (head_long order kind body ∙ long_at order kind body (omega (arith, most)))
          ∙ kept_extent kind (12 + length body) (omega arith) (omega (arith, fours)) kept most));
      long = block_long order kind body;
    }

-- and what it says is said by its type
pub kept_means : (order : Order) (interfaces : List Interface) (kind : ℕ) (body : List ℕ) → kind < 2 ^ 32 → kind ≢ 0x0A0D0D0A → 12 + length body < 2 ^ 32
    → meaning_of (Section order) interfaces (bytes_of_block order kind body) ≡ kind_meaning order interfaces (bytes_of_block order kind body) kind
kept_means order interfaces kind body small other few =
    let unit = bytes_of_block order kind body in
    cond-false (is_section unit) _ _ (ne_eqb _ _ (type_apart order kind body small other))
    ∙ (cond-true (ends_well order unit) _ _ (eq-eqb _ _ (tail_at order kind body few ∙ sym (long_at order kind body few)))
    ∙ ap (λ k. kind_meaning order interfaces unit k) (kind_at order kind body small))

-- ---- a block of which the head and the end are kept

abbrev pub passed_of : ℕ → Extent
passed_of long = record { long = long; whole = false }

-- what is kept of it
abbrev pub kept_of : Order → (kind : ℕ) → (body : List ℕ) → List ℕ
kept_of order kind body = take 12 (bytes_of_block order kind body) ++ number_bytes order 4 (12 + length body)

pub kept_is : (order : Order) (kind : ℕ) (body : List ℕ) → kept_prefix (passed_of (12 + length body)) (bytes_of_block order kind body) ≡ kept_of order kind body
kept_is order kind body =
    let unit = bytes_of_block order kind body in
    let n : 12 + length body - 4 ≡ 8 + length body = omega arith in
    ap (λ m. take 12 unit ++ drop m unit) n ∙ ap (λ xs. take 12 unit ++ xs) (tail_is order kind body)

-- how long it is
pub passed_extent : (least kind long : ℕ) → least ≤ long → long % 4 ≡ 0 → is_passed kind ≡ true → 16 ≤ long → block_extent least kind long ≡ Ok (passed_of long)
passed_extent least kind long some fours passed most =
    cond-false (nat_lt long least || not (long % 4 == 0)) _ _ (or_from _ _ (le-ltb _ _ some) (not_from_true _ (eq-eqb _ _ fours)))
    ∙ (cond-true (is_passed kind) _ _ passed ∙ ap (λ (b : Bool). let e : Result Extent FaultKind = Ok (record { long = long; whole = b }) in e) (le-ltb _ _ most))

-- its end, where at least four bytes are between
ends_kept : (order : Order) (kind a b c d : ℕ) (body : List ℕ) → 12 + length (a ∷ b ∷ c ∷ d ∷ body) < 2 ^ 32
    → ends_well order (kept_of order kind (a ∷ b ∷ c ∷ d ∷ body)) ≡ true
unfolding u32_at
ends_kept Big kind a b c d body few =
    let long = 12 + length (a ∷ b ∷ c ∷ d ∷ body) in
    eq-eqb _ _ (big_number-reads_back 4 long [] few ∙ sym (big_number-reads_back 4 long [] few))
ends_kept Little kind a b c d body few =
    let long = 12 + length (a ∷ b ∷ c ∷ d ∷ body) in
    eq-eqb _ _ (little_number-reads_back 4 long [] few ∙ sym (little_number-reads_back 4 long [] few))

-- what is read of it is nothing
pub other_passed : (kind : ℕ) → IsOtherKind kind → is_passed kind ≡ true
other_passed kind is =
    not_from_false _ (or_from _ _ (or_from _ _ (ne_eqb _ _ is.no_interface) (ne_eqb _ _ is.no_simple)) (ne_eqb _ _ is.no_packet))

other_means : (order : Order) (interfaces : List Interface) (kind : ℕ) (kept : List ℕ) → IsOtherKind kind → kind_meaning order interfaces kept kind ≡ Ok Nothing
other_means order interfaces kind kept is =
    cond-false (kind == 1) _ _ (ne_eqb _ _ is.no_interface)
    ∙ (cond-false (kind == 3) _ _ (ne_eqb _ _ is.no_simple) ∙ cond-false (kind == 6) _ _ (ne_eqb _ _ is.no_packet))

-- a unit that is passed over
pub record IsPassed (order : Order) (interfaces : List Interface) (unit : List ℕ) : Type 0 where
  pub extent : Extent
  pub is : IsUnit (Section order) extent unit
  pub means : meaning_of (Section order) interfaces (kept_prefix extent unit) ≡ Ok Nothing

other_extent : (order : Order) (kind : ℕ) (body : List ℕ) (extent : Extent) → IsOtherKind kind → 12 + length body < 2 ^ 32 → block_extent 12 kind (12 + length body) ≡ Ok extent
    → extent_of (Section order) (take 12 (bytes_of_block order kind body)) ≡ Ok extent
other_extent order kind body extent is few long =
    let unit = bytes_of_block order kind body in
    cond-false (is_section (take 12 unit)) _ _ (ne_eqb _ _ (λ e. type_apart order kind body is.small is.no_section (sym (head_type order kind body) ∙ e)))
    ∙ (ap (λ k. block_extent 12 k (u32_at order 4 (take 12 unit))) (head_kind order kind body ∙ kind_at order kind body is.small)
    ∙ (ap (λ n. block_extent 12 kind n) (head_long order kind body ∙ long_at order kind body few) ∙ long))

empty_extent : (kind : ℕ) → is_passed kind ≡ true → block_extent 12 kind 12 ≡ Ok (whole_of 12)
empty_extent kind passed = cond-true (is_passed kind) _ _ passed

-- the type of what is kept
type_kept : (order : Order) (kind : ℕ) (body : List ℕ) → u32_at Big 0 (kept_of order kind body) ≡ u32_at Big 0 (bytes_of_block order kind body)
unfolding u32_at
type_kept Big kind body = refl
type_kept Little kind body = refl

kind_kept : (order : Order) (kind : ℕ) (body : List ℕ) → u32_at order 0 (kept_of order kind body) ≡ u32_at order 0 (bytes_of_block order kind body)
unfolding u32_at
kind_kept Big kind body = refl
kind_kept Little kind body = refl

pub other_read : (order : Order) (interfaces : List Interface) (kind : ℕ) (body : List ℕ) → IsOtherKind kind → length body % 4 ≡ 0 → 12 + length body < 2 ^ 32
    → IsPassed order interfaces (bytes_of_block order kind body)
other_read order interfaces kind [] is fours few = record {
  extent = whole_of 12;
  is = record { has_head = omega (arith, block_long order kind []); extent_is = other_extent order kind [] (whole_of 12) is few (empty_extent kind (other_passed kind is)); long = block_long order kind [] };
  means = kept_means order interfaces kind [] is.small is.no_section few ∙ other_means order interfaces kind (bytes_of_block order kind []) is;
}
other_read order interfaces kind (a ∷ []) is fours few = absurd (omega (arith, fours))
other_read order interfaces kind (a ∷ b ∷ []) is fours few = absurd (omega (arith, fours))
other_read order interfaces kind (a ∷ b ∷ c ∷ []) is fours few = absurd (omega (arith, fours))
other_read order interfaces kind (a ∷ b ∷ c ∷ d ∷ rest) is fours few =
    let body = a ∷ b ∷ c ∷ d ∷ rest in
    let long = 12 + length body in
    let kept = kept_of order kind body in
    record {
      extent = passed_of long;
      is = record {
        has_head = omega (arith, block_long order kind body);
        extent_is = other_extent order kind body (passed_of long) is few (passed_extent 12 kind long (omega arith) (omega (arith, fours)) (other_passed kind is) (omega arith));
        long = block_long order kind body;
      };
      means = ap (λ k. meaning_of (Section order) interfaces k) (kept_is order kind body)
          ∙ (cond-false (is_section kept) _ _ (ne_eqb _ _ (λ e. type_apart order kind body is.small is.no_section (sym (type_kept order kind body) ∙ e)))
          ∙ (cond-true (ends_well order kept) _ _ (ends_kept order kind a b c d rest few)
          ∙ (ap (λ k. kind_meaning order interfaces kept k) (kind_kept order kind body ∙ kind_at order kind body is.small) ∙ other_means order interfaces kind kept is)));
    }

-- ---- the header of a section

-- with the number that tells its order, and what follows that
abbrev pub header_of : Order → (rest : List ℕ) → List ℕ
header_of order rest = bytes_of_block order 0x0A0D0D0A (number_bytes order 4 0x1A2B3C4D ++ rest)

abbrev pub header_long : Order → (rest : List ℕ) → ℕ
header_long order rest = 12 + length (number_bytes order 4 0x1A2B3C4D ++ rest)

abbrev pub header_kept : Order → (rest : List ℕ) → List ℕ
header_kept order rest = kept_of order 0x0A0D0D0A (number_bytes order 4 0x1A2B3C4D ++ rest)

header_head : (order : Order) (rest : List ℕ) → is_section (take 12 (header_of order rest)) ≡ true
unfolding u32_at
header_head Big rest = refl
header_head Little rest = refl

header_order : (order : Order) (rest : List ℕ) → byte_order_of (take 12 (header_of order rest)) ≡ Some order
unfolding u32_at
header_order Big rest = refl
header_order Little rest = refl

four_more : (order : Order) (rest : List ℕ) → length (number_bytes order 4 0x1A2B3C4D ++ rest) ≡ 4 + length rest
four_more Big rest = omega arith
four_more Little rest = omega arith

pub header_extent_is : (order : Order) (rest : List ℕ) → 12 ≤ length rest → length rest % 4 ≡ 0 → header_long order rest < 2 ^ 32
    → section_extent (take 12 (header_of order rest)) ≡ Ok (passed_of (header_long order rest))
header_extent_is order rest some fours few =
    let body = number_bytes order 4 0x1A2B3C4D ++ rest in
    let head = take 12 (header_of order rest) in
    let four : length body ≡ 4 + length rest = four_more order rest in
    ap (λ o. ordered_extent o head) (header_order order rest)
    ∙ (ap (λ n. block_extent 28 0x0A0D0D0A n) (head_long order 0x0A0D0D0A body ∙ long_at order 0x0A0D0D0A body few)
    ∙ passed_extent 28 0x0A0D0D0A (12 + length body) (omega (arith, four)) (omega (arith, four)) refl (omega (arith, four)))

kept_head : (order : Order) (rest : List ℕ) → is_section (header_kept order rest) ≡ true
unfolding u32_at
kept_head Big rest = refl
kept_head Little rest = refl

kept_order : (order : Order) (rest : List ℕ) → byte_order_of (header_kept order rest) ≡ Some order
unfolding u32_at
kept_order Big rest = refl
kept_order Little rest = refl

kept_ends : (order : Order) (rest : List ℕ) → header_long order rest < 2 ^ 32 → ends_well order (header_kept order rest) ≡ true
kept_ends Big rest few = ends_kept Big 0x0A0D0D0A 0x1A 0x2B 0x3C 0x4D rest few
kept_ends Little rest few = ends_kept Little 0x0A0D0D0A 0x4D 0x3C 0x2B 0x1A rest few

header_section : (order : Order) (rest : List ℕ) → header_long order rest < 2 ^ 32 → section_meaning (header_kept order rest) ≡ Ok (Begins (Section order))
header_section order rest few =
    let kept = header_kept order rest in
    ap (λ o. section_of o kept) (kept_order order rest) ∙ cond-true (ends_well order kept) _ _ (kept_ends order rest few)

-- a section begins
pub record BeginsSection (format : Format) (interfaces : List Interface) (order : Order) (unit : List ℕ) : Type 0 where
  pub extent : Extent
  pub is : IsUnit format extent unit
  pub means : meaning_of format interfaces (kept_prefix extent unit) ≡ Ok (Begins (Section order))

-- at the start of a file, and after a section
pub begins_first : (interfaces : List Interface) (order : Order) (rest : List ℕ) → 12 ≤ length rest → length rest % 4 ≡ 0 → header_long order rest < 2 ^ 32
    → BeginsSection Start interfaces order (header_of order rest)
begins_first interfaces order rest some fours few =
    let body = number_bytes order 4 0x1A2B3C4D ++ rest in
    let unit = header_of order rest in
    record {
      extent = passed_of (header_long order rest);
      is = record {
        has_head = omega (arith, block_long order 0x0A0D0D0A body);
        extent_is = cond-true (is_section (take 12 unit)) _ _ (header_head order rest) ∙ header_extent_is order rest some fours few;
        long = block_long order 0x0A0D0D0A body;
      };
      means = ap (λ k. meaning_of Start interfaces k) (kept_is order 0x0A0D0D0A body)
          ∙ (cond-true (is_section (header_kept order rest)) _ _ (kept_head order rest) ∙ header_section order rest few);
    }

pub begins_next : (before : Order) (interfaces : List Interface) (order : Order) (rest : List ℕ) → 12 ≤ length rest → length rest % 4 ≡ 0 → header_long order rest < 2 ^ 32
    → BeginsSection (Section before) interfaces order (header_of order rest)
begins_next before interfaces order rest some fours few =
    let body = number_bytes order 4 0x1A2B3C4D ++ rest in
    let unit = header_of order rest in
    record {
      extent = passed_of (header_long order rest);
      is = record {
        has_head = omega (arith, block_long order 0x0A0D0D0A body);
        extent_is = cond-true (is_section (take 12 unit)) _ _ (header_head order rest) ∙ header_extent_is order rest some fours few;
        long = block_long order 0x0A0D0D0A body;
      };
      means = ap (λ k. meaning_of (Section before) interfaces k) (kept_is order 0x0A0D0D0A body)
          ∙ (cond-true (is_section (header_kept order rest)) _ _ (kept_head order rest) ∙ header_section order rest few);
    }
