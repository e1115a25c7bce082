-- First bytes that can't become a file with more after them, and those that can.
use Rattle.std.proofs.Common.{◌≡◌, ◌∙◌, refl, sym, ap, arith, ℕ, ◌+◌, ◌-◌, ◌≤◌, ◌<◌, suc, inl, inr, Bool, true, false, List, [], ◌∷◌, ◌++◌, length, take, drop, take-append-drop, subst}
use Rattle.std.specs.Prelude.{bytes_eq, nat_lt, ◌&&◌, ◌||◌, IsSome}
use Rattle.std.specs.Int.{to_be_bytes, w32}
use Rattle.std.specs.List.{list_any}
use Rattle.std.proofs.lemmas.Slice.Eq.{bytes_eq-Decides}
use Rattle.std.proofs.lemmas.Bool.Decides.{leb_tells}
use Rattle.std.proofs.lemmas.List.{take-append-le, length-take}
use Rattle.std.proofs.Math.Seq.{take-append-add, take-append_seam}
use Rattle.capture_file.specs.Units.{begins_with_number, file_kind_of, pcap_magics, section_type}
use Rattle.capture_file.specs.Inner.Fronts.{begins_number}

apart : (a b : List ℕ) → (a ≡ b → ⊥) → bytes_eq a b ≡ false
apart a b other = by (bytes_eq a b) refl
  where
    by : (t : Bool) → bytes_eq a b ≡ t → bytes_eq a b ≡ false
    by true e = absurd (other ((bytes_eq-Decides a b).0 e))
    by false e = e

and_left : (t b : Bool) → t ≡ true → (t && b) ≡ false → b ≡ false
and_left true b e h = h
and_left false b e h = let no : false ≡ true = e in cc

and_right : (t b : Bool) → (t && b) ≡ true → b ≡ true
and_right true b h = h
and_right false b h = let no : false ≡ true = h in cc

or_parts : (a b : Bool) → (a || b) ≡ false → (a ≡ false) × (b ≡ false)
or_parts true b e = let no : true ≡ false = e in cc
or_parts false b e = (refl, e)

seam : (front more m : List ℕ) → length front ≤ 4 → take 4 (front ++ more) ≡ m → front ≡ take (length front) m
seam front more m short e =
    let four : length front + (4 - length front) ≡ 4 = omega (arith, short) in
    let whole : m ≡ front ++ take (4 - length front) more = sym e ∙ ap (λ (n : ℕ). take n (front ++ more)) (sym four) ∙ take-append-add front more (4 - length front) in
    sym (ap (take (length front)) whole ∙ take-append_seam front (take (4 - length front) more))

short_front : (front m : List ℕ) → length m ≡ 4 → length front < 4 → take 4 front ≡ m → ⊥
short_front front m four less e = let whole = ap length e in let most = length-take 4 front in omega (arith, whole, most)

-- what comes after a front with which this number doesn't begin doesn't matter
number_same : (front more : List ℕ) (number : ℕ) → length (to_be_bytes w32 number) ≡ 4 → begins_number front number ≡ false
    → begins_with_number (front ++ more) number ≡ begins_with_number front number
number_same front more number four closed =
    let m = to_be_bytes w32 number in
    elim (leb_tells (suc (length front)) 4) [
      | inl less ↦
          let not_so : bytes_eq front (take (length front) m) ≡ false = and_left _ _ less.0 closed in
          let is_not : take 4 (front ++ more) ≡ m → ⊥ = λ e. (let so = (bytes_eq-Decides front (take (length front) m)).1 (seam front more m (omega (arith, less.1)) e) in cc) in
          apart (take 4 (front ++ more)) m is_not ∙ sym (apart (take 4 front) m (λ e. short_front front m four (omega (arith, less.1)) e))
      | inr all ↦ ap (λ (l : List ℕ). bytes_eq l m) (take-append-le 4 front more (omega (arith, all.1)))
    ]

abbrev AreFour : List ℕ → Type 0
AreFour [] = Unit {0}
AreFour (n ∷ ns) = (length (to_be_bytes w32 n) ≡ 4) × AreFour ns

any_same : (front more : List ℕ) (ns : List ℕ) → AreFour ns → list_any (begins_number front) ns ≡ false
    → list_any (begins_with_number (front ++ more)) ns ≡ list_any (begins_with_number front) ns
any_same front more [] four closed = refl
any_same front more (n ∷ ns) four closed =
    let both = or_parts (begins_number front n) (list_any (begins_number front) ns) closed in
    ap (λ (b : Bool). b || list_any (begins_with_number (front ++ more)) ns) (number_same front more n four.0 both.0)
    ∙ ap (λ (b : Bool). begins_with_number front n || b) (any_same front more ns four.1 both.1)

-- what comes after them doesn't matter
pub kind_same : (front more : List ℕ) → list_any (begins_number front) (section_type ∷ pcap_magics) ≡ false → file_kind_of (front ++ more) ≡ file_kind_of front
kind_same front more closed =
    let both = or_parts (begins_number front section_type) (list_any (begins_number front) pcap_magics) closed in
    let section = number_same front more section_type refl both.0 in
    let pcap = any_same front more pcap_magics (refl, (refl, (refl, (refl, tt)))) both.1 in
    cc

-- the others of the bytes of a number make it whole
pub completes : (front : List ℕ) (number : ℕ) → begins_number front number ≡ true → front ++ drop (length front) (to_be_bytes w32 number) ≡ to_be_bytes w32 number
completes front number begins =
    let m = to_be_bytes w32 number in
    let same : front ≡ take (length front) m = (bytes_eq-Decides front (take (length front) m)).0 (and_right (nat_lt (length front) 4) _ begins) in
    ap (λ (l : List ℕ). l ++ drop (length front) m) same ∙ take-append-drop (length front) m

abbrev AreKinds : List ℕ → Type 0
AreKinds [] = Unit {0}
AreKinds (n ∷ ns) = IsSome (file_kind_of (to_be_bytes w32 n)) × AreKinds ns

one_of : (front ns : List ℕ) → AreKinds ns → list_any (begins_number front) ns ≡ true → (more : List ℕ) × IsSome (file_kind_of (front ++ more))
one_of front [] kinds e = let no : false ≡ true = e in cc
one_of front (n ∷ ns) kinds e = first_or (begins_number front n) refl (one_of front ns kinds.1)
  where
    first_or : (t : Bool) → begins_number front n ≡ t → (list_any (begins_number front) ns ≡ true → (more : List ℕ) × IsSome (file_kind_of (front ++ more)))
        → (more : List ℕ) × IsSome (file_kind_of (front ++ more))
    first_or true is others = (drop (length front) (to_be_bytes w32 n), subst (λ (l : List ℕ). IsSome (file_kind_of l)) (sym (completes front n is)) kinds.0)
    first_or false is others = others (ap (λ (b : Bool). b || list_any (begins_number front) ns) (sym is) ∙ e)

-- bytes with which one of these begins, and what makes them a file
pub can_become : (front : List ℕ) → list_any (begins_number front) (section_type ∷ pcap_magics) ≡ true → (more : List ℕ) × IsSome (file_kind_of (front ++ more))
can_become front begins = one_of front (section_type ∷ pcap_magics) (refl, (refl, (refl, (refl, (refl, tt))))) begins
