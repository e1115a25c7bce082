-- A fold finds itself.
use Rattle.std.proofs.Common.{◌≡◌, ℕ, ◌+◌, ◌-◌, ◌<◌, ◌≤◌, ◌==◌, ◌&&◌, nat_lt, not, Bool, true, false, List, [], ◌∷◌, ◌++◌, length, take, drop, map, reverse, get_or, cond, if◌then◌else◌, min, refl, ap, sym, ◌∙◌, arith, zero, suc, length-take}
use Rattle.std.specs.List.{after_first, before_first, list_all, position_or_len, prefix_len, suffix_len}
use Rattle.std.specs.Char.{is_ascii_digit, to_ascii_uppercase}
use Rattle.std.proofs.Math.Seq.{take-append_seam, take-length}
use Rattle.std.proofs.lemmas.Bool.{false≢true}
use Rattle.std.proofs.lemmas.Bool.Decides.{nat_tests}
use Rattle.std.proofs.lemmas.List.{drop-map, drop-take, get_or-drop, get_or-reverse, get_or-take, take-map}
use Rattle.std.proofs.lemmas.List.Folds.{length-prefix_len, prefix_len-append}
use Rattle.std.proofs.lemmas.List.Sums.{position_or_len_is, prefix_len_is, prefix_len_passes, prefix_len_stops, suffix_len-le-length, suffix_len_is}
use Rattle.std.proofs.lemmas.Str.Ascii.{uppercase-uppercase}
use Rattle.file_names.specs.Folds.{after_last, ends_directory, fold, is_byte, is_dot, second_dot, stem, without_dot, without_version}

-- no byte passes the test
abbrev pub Free : (ℕ → Bool) → List ℕ → Type 0
Free test w = (k d : ℕ) → k < length w → test (get_or w k d) ≡ false

is_not : (b : Bool) → b ≡ false → not b ≡ true
is_not true e = absurd (false≢true (sym e))
is_not false e = refl

not_is : (b : Bool) → not b ≡ true → b ≡ false
not_is true e = absurd (false≢true e)
not_is false e = refl

length_drop : (m : ℕ) (w : List ℕ) → length (drop m w) ≡ length w - m
length_drop zero w = omega arith
length_drop (suc m) [] = omega arith
length_drop (suc m) (x ∷ w) = let rest = length_drop m w in omega (arith, rest)

-- ---- what is after the last, and before the first

after_free : (test : ℕ → Bool) (n : List ℕ) → Free test (after_last test n)
after_free test n k d less =
    let p = λ (x : ℕ). not (test x) in
    let s : ℕ = suffix_len p n in
    let m : ℕ = length n - s in
    let most : s ≤ length n = suffix_len-le-length p n in
    let size : length (drop m n) ≡ length n - m = length_drop m n in
    let j : ℕ = length n - 1 - (m + k) in
    let low : j < s = omega (arith, less, size, most) in
    let place : length n - 1 - j ≡ m + k = omega (arith, less, size, most) in
    let at : get_or (reverse n) j d ≡ get_or n (m + k) d = get_or-reverse n j d (omega (arith, low, most)) ∙ ap (λ i. get_or n i d) place in
    ap test (get_or-drop m n k d) ∙ not_is (test (get_or n (m + k) d)) (ap p (sym at) ∙ prefix_len_passes p (reverse n) j d low)

after_same : (test : ℕ → Bool) (w : List ℕ) → Free test w → after_last test w ≡ w
after_same test w free =
    let p = λ (x : ℕ). not (test x) in
    let all : suffix_len p w ≡ length w - 0 = suffix_len_is p w 0 0 (omega arith) (λ k low less. is_not (test (get_or w k 0)) (free k 0 less)) (λ some. absurd (omega (arith, some))) in
    let none : length w - suffix_len p w ≡ 0 = omega (arith, all) in
    ap (λ m. drop m w) none

before_free : (test : ℕ → Bool) (n : List ℕ) → Free test (before_first test n)
before_free test n k d less =
    let p = λ (x : ℕ). not (test x) in
    let low : k < position_or_len test n = omega (arith, less, length-prefix_len p n) in
    ap test (get_or-take (position_or_len test n) n k d low) ∙ not_is (test (get_or n k d)) (prefix_len_passes p n k d low)

all_before : (test : ℕ → Bool) (w : List ℕ) → Free test w → position_or_len test w ≡ length w
all_before test w free = prefix_len_is (λ x. not (test x)) w (length w) 0 (omega arith) (λ k less. is_not (test (get_or w k 0)) (free k 0 less)) (λ never. absurd (omega (arith, never)))

before_same : (test : ℕ → Bool) (w : List ℕ) → Free test w → before_first test w ≡ w
before_same test w free = ap (λ m. take m w) (all_before test w free) ∙ take-length w

take_free : (test : ℕ → Bool) (m : ℕ) (w : List ℕ) → Free test w → Free test (take m w)
take_free test m w free k d less =
    let size : length (take m w) ≡ min m (length w) = length-take m w in
    ap test (get_or-take m w k d (omega (arith, less, size))) ∙ free k d (omega (arith, less, size))

-- ---- dots

lt_is : (a b : ℕ) → nat_lt a b ≡ true → a < b
lt_is a b e = grind (arith, nat_tests)

lt_not : (a b : ℕ) → b ≤ a → nat_lt a b ≡ false
lt_not a b high = grind (arith, nat_tests)

eq_not : (a : ℕ) → (a + 1 == a) ≡ false
eq_not a = grind (arith, nat_tests)

and_one : (a b : Bool) → (a && b) ≡ true → a ≡ true
and_one true b e = refl
and_one false b e = e

-- two dots or more, or no version
settled : (w : List ℕ) → length w ≤ second_dot w → without_version w ≡ w
settled w high =
    ap (λ b. if b && list_all is_ascii_digit (drop (second_dot w + 1) w) then take (second_dot w) w else w) (lt_not (second_dot w) (length w) high)

no_dots : (w : List ℕ) → Free is_dot w → length w ≤ second_dot w
no_dots w free = let all = all_before is_dot w free in omega (arith, all)

version_gone : (w : List ℕ) → second_dot w < length w → length (take (second_dot w) w) ≤ second_dot (take (second_dot w) w)
version_gone w less =
    let p = λ (x : ℕ). not (is_dot x) in
    let a : ℕ = position_or_len is_dot w in
    let c : ℕ = position_or_len is_dot (after_first is_dot w) in
    let s : ℕ = second_dot w in
    let u : List ℕ = take s w in
    let size : length u ≡ min s (length w) = length-take s w in
    let dot : is_dot (get_or w a 0) ≡ true = is_true (is_dot (get_or w a 0)) (prefix_len_stops p w 0 (omega (arith, less))) in
    let first : position_or_len is_dot u ≡ a =
    position_or_len_is is_dot u a 0 (omega (arith, size, less))
    (λ k low. ap is_dot (get_or-take s w k 0 (omega (arith, low))) ∙ not_is (is_dot (get_or w k 0)) (prefix_len_passes p w k 0 low))
    (λ some. ap is_dot (get_or-take s w a 0 (omega arith)) ∙ dot) in
    let back : drop (a + 1) u ≡ before_first is_dot (after_first is_dot w) = drop-take (a + 1) c w in
    let others : position_or_len is_dot (drop (a + 1) u) ≡ c =
    ap (λ (l : List ℕ). position_or_len is_dot l) back ∙ all_before is_dot (before_first is_dot (after_first is_dot w)) (before_free is_dot (after_first is_dot w)) ∙ length-prefix_len p (after_first is_dot w) in
    let second : second_dot u ≡ s = ap (λ m. m + 1 + position_or_len is_dot (drop (m + 1) u)) first ∙ ap (λ m. a + 1 + m) others in
    omega (arith, size, less, second)
  where
    is_true : (b : Bool) → not b ≡ false → b ≡ true
    is_true true e = refl
    is_true false e = absurd (false≢true (sym e))

version_twice : (w : List ℕ) → without_version (without_version w) ≡ without_version w
version_twice w = by (nat_lt (second_dot w) (length w) && list_all is_ascii_digit (drop (second_dot w + 1) w)) refl
  where
    by : (b : Bool) → (nat_lt (second_dot w) (length w) && list_all is_ascii_digit (drop (second_dot w + 1) w)) ≡ b → without_version (without_version w) ≡ without_version w
    by true e =
        let is : without_version w ≡ take (second_dot w) w = ap (λ b. if b then take (second_dot w) w else w) e in
        let less = lt_is (second_dot w) (length w) (and_one (nat_lt (second_dot w) (length w)) (list_all is_ascii_digit (drop (second_dot w + 1) w)) e) in
        ap without_version is ∙ settled (take (second_dot w) w) (version_gone w less) ∙ sym is
    by false e = ap without_version (ap (λ b. if b then take (second_dot w) w else w) e)

record Kept (w v : List ℕ) : Type 0 where
  pub version : without_version v ≡ v
  pub dot : without_dot v ≡ v

dot_gone : (w : List ℕ) → without_version w ≡ w → Kept w (without_dot w)
dot_gone w is = by (position_or_len is_dot w + 1 == length w) refl
  where
    by : (b : Bool) → (position_or_len is_dot w + 1 == length w) ≡ b → Kept w (if b then take (position_or_len is_dot w) w else w)
    by true e =
        let v : List ℕ = before_first is_dot w in
        let all : position_or_len is_dot v ≡ length v = all_before is_dot v (before_free is_dot w) in
        record {
          version = settled v (no_dots v (before_free is_dot w));
          dot = ap (λ m. if m + 1 == length v then take m v else v) all ∙ ap (λ b. if b then take (length v) v else v) (eq_not (length v));
        }
    by false e = record { version = is; dot = ap (λ b. if b then take (position_or_len is_dot w) w else w) e }

-- ---- what counts of a name

-- Nothing of it is dropped.
pub record Counts (v : List ℕ) : Type 0 where
  pub directory : Free ends_directory v
  pub semicolon : Free (is_byte 0x3B) v
  pub version : without_version v ≡ v
  pub dot : without_dot v ≡ v

version_free : (test : ℕ → Bool) (w : List ℕ) → Free test w → Free test (without_version w)
version_free test w free = by (nat_lt (second_dot w) (length w) && list_all is_ascii_digit (drop (second_dot w + 1) w))
  where
    by : (b : Bool) → Free test (if b then take (second_dot w) w else w)
    by true = take_free test (second_dot w) w free
    by false = free

dot_free : (test : ℕ → Bool) (w : List ℕ) → Free test w → Free test (without_dot w)
dot_free test w free = by (position_or_len is_dot w + 1 == length w)
  where
    by : (b : Bool) → Free test (if b then take (position_or_len is_dot w) w else w)
    by true = take_free test (position_or_len is_dot w) w free
    by false = free

stem_counts : (name : List ℕ) → Counts (stem name)
stem_counts name =
    let t = before_first (is_byte 0x3B) (after_last ends_directory name) in
    let kept = dot_gone (without_version t) (version_twice t) in
    record {
      directory = dot_free ends_directory (without_version t) (version_free ends_directory t (take_free ends_directory (position_or_len (is_byte 0x3B) (after_last ends_directory name)) (after_last ends_directory name) (after_free ends_directory name)));
      semicolon = dot_free (is_byte 0x3B) (without_version t) (version_free (is_byte 0x3B) t (before_free (is_byte 0x3B) (after_last ends_directory name)));
      version = kept.version;
      dot = kept.dot;
    }

-- ---- capitals

directory_up : (x : ℕ) → ends_directory (to_ascii_uppercase x) ≡ ends_directory x
directory_up x = grind (arith, nat_tests)

semicolon_up : (x : ℕ) → is_byte 0x3B (to_ascii_uppercase x) ≡ is_byte 0x3B x
semicolon_up x = grind (arith, nat_tests)

dot_up : (x : ℕ) → is_dot (to_ascii_uppercase x) ≡ is_dot x
dot_up x = grind (arith, nat_tests)

digit_up : (x : ℕ) → is_ascii_digit (to_ascii_uppercase x) ≡ is_ascii_digit x
digit_up x = grind (arith, nat_tests)

at_up : (p : ℕ → Bool) → ((x : ℕ) → p (to_ascii_uppercase x) ≡ p x) → (w : List ℕ) (k d : ℕ) → k < length w → p (get_or (map to_ascii_uppercase w) k d) ≡ p (get_or w k d)
at_up p same [] k d less = absurd (omega (arith, less))
at_up p same (x ∷ w) zero d less = same x
at_up p same (x ∷ w) (suc k) d less = at_up p same w k d (omega (arith, less))

length_up : (w : List ℕ) → length (map to_ascii_uppercase w) ≡ length w
length_up [] = refl
length_up (x ∷ w) = ap suc (length_up w)

free_up : (p : ℕ → Bool) → ((x : ℕ) → p (to_ascii_uppercase x) ≡ p x) → (w : List ℕ) → Free p w → Free p (map to_ascii_uppercase w)
free_up p same w free k d less =
    let low : k < length w = omega (arith, less, length_up w) in
    at_up p same w k d low ∙ free k d low

position_up : (w : List ℕ) → position_or_len is_dot (map to_ascii_uppercase w) ≡ position_or_len is_dot w
position_up [] = refl
position_up (x ∷ w) =
    ap (λ b. cond (not b) (1 + position_or_len is_dot (map to_ascii_uppercase w)) 0) (dot_up x)
    ∙ ap (λ m. cond (not (is_dot x)) (1 + m) 0) (position_up w)

digits_up : (w : List ℕ) → list_all is_ascii_digit (map to_ascii_uppercase w) ≡ list_all is_ascii_digit w
digits_up [] = refl
digits_up (x ∷ w) = ap (λ b. b && list_all is_ascii_digit (map to_ascii_uppercase w)) (digit_up x) ∙ ap (λ b. is_ascii_digit x && b) (digits_up w)

second_up : (w : List ℕ) → second_dot (map to_ascii_uppercase w) ≡ second_dot w
second_up w =
    let u = map to_ascii_uppercase w in
    let a : ℕ = position_or_len is_dot w in
    ap (λ m. m + 1 + position_or_len is_dot (drop (m + 1) u)) (position_up w)
    ∙ ap (λ l. a + 1 + position_or_len is_dot l) (drop-map to_ascii_uppercase (a + 1) w)
    ∙ ap (λ m. a + 1 + m) (position_up (drop (a + 1) w))

map_if : (b : Bool) (x y : List ℕ) → (if b then map to_ascii_uppercase x else map to_ascii_uppercase y) ≡ map to_ascii_uppercase (if b then x else y)
map_if true x y = refl
map_if false x y = refl

version_up : (w : List ℕ) → without_version (map to_ascii_uppercase w) ≡ map to_ascii_uppercase (without_version w)
version_up w =
    let u = map to_ascii_uppercase w in
    let s : ℕ = second_dot w in
    ap (λ m. if nat_lt m (length u) && list_all is_ascii_digit (drop (m + 1) u) then take m u else u) (second_up w)
    ∙ ap (λ n. if nat_lt s n && list_all is_ascii_digit (drop (s + 1) u) then take s u else u) (length_up w)
    ∙ ap (λ b. if nat_lt s (length w) && b then take s u else u) (ap (λ l. list_all is_ascii_digit l) (drop-map to_ascii_uppercase (s + 1) w) ∙ digits_up (drop (s + 1) w))
    ∙ ap (λ l. if nat_lt s (length w) && list_all is_ascii_digit (drop (s + 1) w) then l else u) (take-map to_ascii_uppercase s w)
    ∙ map_if (nat_lt s (length w) && list_all is_ascii_digit (drop (s + 1) w)) (take s w) w

only_up : (w : List ℕ) → without_dot (map to_ascii_uppercase w) ≡ map to_ascii_uppercase (without_dot w)
only_up w =
    let u = map to_ascii_uppercase w in
    let a : ℕ = position_or_len is_dot w in
    ap (λ m. if m + 1 == length u then take m u else u) (position_up w)
    ∙ ap (λ n. if a + 1 == n then take a u else u) (length_up w)
    ∙ ap (λ l. if a + 1 == length w then l else u) (take-map to_ascii_uppercase a w)
    ∙ map_if (a + 1 == length w) (take a w) w

pub fold_counts : (name : List ℕ) → Counts (fold name)
fold_counts name =
    let c = stem_counts name in record {
      directory = free_up ends_directory directory_up (stem name) c.directory;
      semicolon = free_up (is_byte 0x3B) semicolon_up (stem name) c.semicolon;
      version = version_up (stem name) ∙ ap (λ l. map to_ascii_uppercase l) c.version;
      dot = only_up (stem name) ∙ ap (λ l. map to_ascii_uppercase l) c.dot;
    }

twice_up : (w : List ℕ) → map to_ascii_uppercase (map to_ascii_uppercase w) ≡ map to_ascii_uppercase w
twice_up [] = refl
twice_up (x ∷ w) = ap (λ c. c ∷ map to_ascii_uppercase (map to_ascii_uppercase w)) (uppercase-uppercase x) ∙ ap (λ l. to_ascii_uppercase x ∷ l) (twice_up w)

-- ---- a fold, and what may stand behind it

append_free : (p : ℕ → Bool) (v w : List ℕ) → Free p v → Free p w → Free p (v ++ w)
append_free p [] w one two k d less = two k d less
append_free p (x ∷ v) w one two zero d less = one zero d (omega arith)
append_free p (x ∷ v) w one two (suc k) d less = append_free p v w (λ i e low. one (suc i) e (omega (arith, low))) two k d (omega (arith, less))

no_directory : (x : ℕ) → is_ascii_digit x ≡ true → ends_directory x ≡ false
no_directory x e = grind (arith, nat_tests, e)

and_two : (a b : Bool) → (a && b) ≡ true → b ≡ true
and_two true b e = e
and_two false b e = absurd (false≢true e)

digits_free : (digits : List ℕ) → list_all is_ascii_digit digits ≡ true → Free ends_directory digits
digits_free [] all k d less = absurd (omega (arith, less))
digits_free (x ∷ digits) all zero d less = no_directory x (and_one (is_ascii_digit x) (list_all is_ascii_digit digits) all)
digits_free (x ∷ digits) all (suc k) d less = digits_free digits (and_two (is_ascii_digit x) (list_all is_ascii_digit digits) all) k d (omega (arith, less))

behind_free : (digits : List ℕ) → list_all is_ascii_digit digits ≡ true → Free ends_directory (0x3B ∷ digits)
behind_free digits all zero d less = refl
behind_free digits all (suc k) d less = digits_free digits all k d (omega (arith, less))

eq_is : (a b : ℕ) → a ≡ b → (a == b) ≡ true
eq_is a b same = grind (arith, nat_tests)

-- where the semicolon is
pub semicolon_at : (v digits : List ℕ) → Free (is_byte 0x3B) v → position_or_len (is_byte 0x3B) (v ++ 0x3B ∷ digits) ≡ length v
semicolon_at v digits free =
    let p = λ (x : ℕ). not (is_byte 0x3B x) in
    let all = all_before (is_byte 0x3B) v free in
    let joined : position_or_len (is_byte 0x3B) (v ++ 0x3B ∷ digits) ≡ length v + 0 =
    prefix_len-append p v (0x3B ∷ digits) ∙ ap (λ b. cond b (length v + 0) (prefix_len p v)) (eq_is (prefix_len p v) (length v) all) in
    omega (arith, joined)

-- what is before the semicolon
before_semicolon : (v digits : List ℕ) → Free (is_byte 0x3B) v → before_first (is_byte 0x3B) (v ++ 0x3B ∷ digits) ≡ v
before_semicolon v digits free =
    ap (λ m. take m (v ++ 0x3B ∷ digits)) (semicolon_at v digits free) ∙ take-append_seam v (0x3B ∷ digits)

-- a fold and digits behind it have no directory
pub numbered_same : (name digits : List ℕ) → list_all is_ascii_digit digits ≡ true → after_last ends_directory (fold name ++ 0x3B ∷ digits) ≡ fold name ++ 0x3B ∷ digits
numbered_same name digits all =
    after_same ends_directory (fold name ++ 0x3B ∷ digits) (append_free ends_directory (fold name) (0x3B ∷ digits) (fold_counts name).directory (behind_free digits all))

pub fold_again : (name : List ℕ) → fold (fold name) ≡ fold name
fold_again name =
    let w = fold name in
    let c = fold_counts name in
    let t : before_first (is_byte 0x3B) (after_last ends_directory w) ≡ w = ap (λ l. before_first (is_byte 0x3B) l) (after_same ends_directory w c.directory) ∙ before_same (is_byte 0x3B) w c.semicolon in
    ap (λ l. map to_ascii_uppercase l) (ap (λ l. without_dot (without_version l)) t ∙ ap without_dot c.version ∙ c.dot) ∙ twice_up (stem name)

pub fold_with_number : (name digits : List ℕ) → list_all is_ascii_digit digits ≡ true → fold (fold name ++ 0x3B ∷ digits) ≡ fold name
fold_with_number name digits all =
    let w = fold name in
    let c = fold_counts name in
    let whole = w ++ 0x3B ∷ digits in
    let t : before_first (is_byte 0x3B) (after_last ends_directory whole) ≡ w =
    ap (λ l. before_first (is_byte 0x3B) l) (numbered_same name digits all) ∙ before_semicolon w digits c.semicolon in
    ap (λ l. map to_ascii_uppercase l) (ap (λ l. without_dot (without_version l)) t ∙ ap without_dot c.version ∙ c.dot) ∙ twice_up (stem name)
