-- What a word stands for.
use Rattle.std.proofs.Common.{◌≡◌, ◌<◌, ◌≤◌, ◌+◌, ◌*◌, ◌-◌, ℕ, Bool, true, false, List, [], ◌∷◌, ◌++◌, length, take, drop, Option, Some, None, IsSome, refl, sym, ap, ◌∙◌, subst, arith, cond}
use Rattle.std.specs.Prelude.{unwrap_or, bytes_eq, codes, get_or, nat_le, ◌&&◌}
use Rattle.std.specs.Char.{is_ascii_digit}
use Rattle.std.specs.List.{fold, list_all}
use Rattle.texts.specs.Words.{is_hex_text}
use Rattle.std.proofs.lemmas.List.{take-append-drop, take_all}
use Rattle.std.proofs.lemmas.List.Sums.{fold_more}
use Rattle.std.proofs.lemmas.Bool.Decides.{nat_tests}
use Rattle.std.specs.Str.Parse.{digits_value}
use Rattle.texts.specs.Words.{text_of, decimal_of}
use Rattle.texts.specs.Inner.Words.{decimal_value}
use Rattle.texts.proofs.NumberLemmas.{value_is}
use Rattle.texts.proofs.HexTextLemmas.{hex_decodes}

either : (b : Bool) (hex : List ℕ) (bytes : Option (List ℕ)) → bytes ≡ Some hex → (all : List ℕ) × (cond b (Some []) bytes ≡ Some all)
either true hex bytes is = ([], refl)
either false hex bytes is = (hex, is)

pub hex_is_text : (word : List ℕ) → is_hex_text word ≡ true → (bytes : List ℕ) × (text_of word ≡ Some bytes)
hex_is_text word hex =
    let d = hex_decodes word hex in
    either (bytes_eq word (codes "-")) d.0 _ (rw (hex, d.1) refl)

pub is_some : (o : Option (List ℕ)) → ((bytes : List ℕ) × (o ≡ Some bytes)) → IsSome o
is_some o some = subst IsSome (sym some.1) refl

pub same_some : (o : Option (List ℕ)) → ((bytes : List ℕ) × (o ≡ Some bytes)) → Some (unwrap_or o []) ≡ o
same_some None some = let no : None ≡ Some some.0 = some.1 in cc
same_some (Some bytes) some = refl

-- ---- decimal numbers

grows : (digits : List ℕ) (number : ℕ) → number ≤ fold (λ n d. 10 * n + (d - 48)) number digits
grows [] number = omega arith
grows (digit ∷ digits) number = omega (arith, grows digits (10 * number + (digit - 48)))

pub value_grows : (front back : List ℕ) (number : ℕ) → fold (λ n d. 10 * n + (d - 48)) number front ≤ fold (λ n d. 10 * n + (d - 48)) number (front ++ back)
value_grows [] back number = grows back number
value_grows (digit ∷ front) back number = value_grows front back (10 * number + (digit - 48))

past : (a b c : Bool) (most value : ℕ) → most < value → cond (a && b && c && nat_le value most) (Some value) None ≡ None
past a b c most value more = grind (arith, nat_tests)

pub too_great : (word : List ℕ) (i most number d : ℕ) → list_all is_ascii_digit word ≡ true → i < length word → number ≡ decimal_value (take i word) → most < 10 * number + (get_or word i d - 48)
    → decimal_of most word ≡ None
too_great word i most number d are inside so_far more =
    let one : decimal_value (take (i + 1) word) ≡ 10 * number + (get_or word i d - 48) = fold_more (λ n b. 10 * n + (b - 48)) 0 word i d inside ∙ ap (λ n. 10 * n + (get_or word i d - 48)) (sym so_far) in
    let all : decimal_value (take (i + 1) word) ≤ decimal_value word = subst (λ ds. decimal_value (take (i + 1) word) ≤ decimal_value ds) (take-append-drop (i + 1) word) (value_grows (take (i + 1) word) (drop (i + 1) word) 0) in
    past (nat_le 1 (length word)) (nat_le (length word) 10) (list_all is_ascii_digit word) most (digits_value 10 word) (omega (arith, one, all, more, value_is word are))

-- a number whose digits were all read, and that isn't too great
pub all_read : (word : List ℕ) (i most number : ℕ) → list_all is_ascii_digit word ≡ true → 0 < length word → length word ≤ 10 → length word ≤ i
    → number ≡ decimal_value (take i word) → number ≤ most → Some number ≡ decimal_of most word
all_read word i most number are some few all so_far within =
    let value : digits_value 10 word ≡ number = sym (value_is word are) ∙ ap decimal_value (sym (take_all i word all)) ∙ sym so_far in
    sym (rw (are, value) (grind (arith, nat_tests, some, few, within)))
