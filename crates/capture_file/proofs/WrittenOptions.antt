-- Options that are written are found.
use Rattle.std.proofs.Common.{◌≡◌, ◌≢◌, ℕ, zero, suc, ◌+◌, ◌*◌, ◌/◌, ◌%◌, ◌^◌, ◌<◌, ◌≤◌, ◌==◌, min, Bool, true, false, List, [], ◌∷◌, ◌++◌, take, drop, length, length-append, map, Option, Some, None, if◌then◌else◌, arith, refl, ap, sym, ◌∙◌, append_assoc}
use Rattle.std.specs.Prelude.{nat_lt}
use Rattle.std.specs.List.{AllByRecursion}
use Rattle.std.proofs.lemmas.Bool.{cond-false, ne_eqb, le-ltb}
use Rattle.std.proofs.lemmas.List.{drop_at, take_at}
use Rattle.byteorder.specs.Numbers.{big_number-reads_back, little_number-reads_back}
use Rattle.capture_file.specs.Numbers.{u16_at, u64_at}
use Rattle.capture_file.specs.Meanings.{offset_in, offset_of, resolution_in, resolution_of, value_from}
use Rattle.capture_file.specs.Written.{number_bytes}
use Rattle.capture_file.specs.WrittenBlocks.{BlockOption, FillsUp, FitsInterfaceOption, FitsBlockOption, InterfaceOption, bytes_of_option, bytes_of_options, option_of_interface, resolution_by, seconds_by}
use Rattle.capture_file.specs.WrittenBlocks.InterfaceOption.{AddedSeconds, OtherOption, Resolution}
use Rattle.capture_file.specs.declared.units.Order.{Order}
use Rattle.capture_file.specs.declared.units.Order.TheVariants.{Big, Little}

-- ---- how long they are

option_long : (order : Order) (o : BlockOption) → length (bytes_of_option order o) ≡ 4 + (length o.value + length o.filler)
option_long Big o = omega (arith, length-append o.value o.filler)
option_long Little o = omega (arith, length-append o.value o.filler)

end_fours : (order : Order) (is_ended : Bool) → length (bytes_of_options order is_ended []) % 4 ≡ 0
end_fours order true = refl
end_fours order false = refl

pub options_fours : (order : Order) (is_ended : Bool) (os : List BlockOption) → AllByRecursion FitsBlockOption os → length (bytes_of_options order is_ended os) % 4 ≡ 0
options_fours order is_ended [] fit = end_fours order is_ended
options_fours order is_ended (o ∷ others) fit =
    let rest = options_fours order is_ended others fit.1 in
    let filled : (length o.value + length o.filler) % 4 ≡ 0 = fit.0.filled.whole in
    omega (arith, rest, filled, option_long order o, length-append (bytes_of_option order o) (bytes_of_options order is_ended others))

-- at least four bytes each
few_options : (order : Order) (is_ended : Bool) (os : List BlockOption) → length os ≤ length (bytes_of_options order is_ended os)
few_options order is_ended [] = omega arith
few_options order is_ended (o ∷ others) =
    omega (arith, few_options order is_ended others, option_long order o, length-append (bytes_of_option order o) (bytes_of_options order is_ended others))

-- ---- the numbers of one

code_at : (order : Order) (o : BlockOption) (rest : List ℕ) → o.code < 2 ^ 16 → u16_at order 0 (bytes_of_option order o ++ rest) ≡ o.code
unfolding u16_at
code_at Big o rest h = big_number-reads_back 2 o.code [] h
code_at Little o rest h = little_number-reads_back 2 o.code [] h

count_at : (order : Order) (o : BlockOption) (rest : List ℕ) → length o.value < 2 ^ 16 → u16_at order 2 (bytes_of_option order o ++ rest) ≡ length o.value
unfolding u16_at
count_at Big o rest h = big_number-reads_back 2 (length o.value) [] h
count_at Little o rest h = little_number-reads_back 2 (length o.value) [] h

value_at : (order : Order) (o : BlockOption) (rest : List ℕ) → drop 4 (bytes_of_option order o ++ rest) ≡ (o.value ++ o.filler) ++ rest
value_at Big o rest = refl
value_at Little o rest = refl

-- ---- the first one of a code

abbrev pub first_value : ℕ → List BlockOption → Option (List ℕ)
first_value code [] = None
first_value code (o ∷ others) = if o.code == code then Some o.value else first_value code others

end_found : (n : ℕ) (order : Order) (code : ℕ) (is_ended : Bool) → value_from n order code (bytes_of_options order is_ended []) ≡ None
unfolding u16_at
end_found zero order code is_ended = refl
end_found (suc n) order code false = refl
end_found (suc n) Big code true = refl
end_found (suc n) Little code true = refl

-- one step
found_here : (n : ℕ) (order : Order) (code found count : ℕ) (bytes value : List ℕ) → 4 ≤ length bytes → u16_at order 0 bytes ≡ found → found ≢ 0
    → u16_at order 2 bytes ≡ count → drop 4 bytes ≡ value
    → value_from (suc n) order code bytes
    ≡ (if found == code then Some (take (min count (length value)) value) else value_from n order code (drop (min ((count + 3) / 4 * 4) (length value)) value))
found_here n order code found count bytes value some is_found not_end is_count is_value =
    let next : (f k : ℕ) (v : List ℕ) → Option (List ℕ) = λ f k v. if f == code then Some (take (min k (length v)) v) else value_from n order code (drop (min ((k + 3) / 4 * 4) (length v)) v) in
    cond-false (nat_lt (length bytes) 4) _ _ (le-ltb _ _ some)
    ∙ (cond-false (u16_at order 0 bytes == 0) _ _ (ne_eqb _ _ (λ e. not_end (sym is_found ∙ e)))
    ∙ (ap (λ f. next f (u16_at order 2 bytes) (drop 4 bytes)) is_found
    ∙ (ap (λ k. next found k (drop 4 bytes)) is_count ∙ ap (λ v. next found count v) is_value)))

front_taken : (value filler rest : List ℕ) → take (min (length value) (length ((value ++ filler) ++ rest))) ((value ++ filler) ++ rest) ≡ value
front_taken value filler rest =
    let all = (value ++ filler) ++ rest in
    let count : min (length value) (length all) ≡ length value = omega (arith, length-append (value ++ filler) rest, length-append value filler) in
    ap (λ n. take n all) count ∙ (ap (λ xs. take (length value) xs) (append_assoc value filler rest) ∙ take_at value (filler ++ rest) (length value) refl)

rest_left : (value filler rest : List ℕ) → FillsUp value filler
    → drop (min ((length value + 3) / 4 * 4) (length ((value ++ filler) ++ rest))) ((value ++ filler) ++ rest) ≡ rest
rest_left value filler rest fills =
    let all = (value ++ filler) ++ rest in
    let few : length filler < 4 = fills.few in
    let whole : (length value + length filler) % 4 ≡ 0 = fills.whole in
    let padded : (length value + 3) / 4 * 4 ≡ length value + length filler = omega (arith, few, whole) in
    let count : min ((length value + 3) / 4 * 4) (length all) ≡ length (value ++ filler) = omega (arith, padded, length-append (value ++ filler) rest, length-append value filler) in
    ap (λ n. drop n all) count ∙ drop_at (value ++ filler) rest (length (value ++ filler)) refl

pub found : (n : ℕ) (order : Order) (code : ℕ) (is_ended : Bool) (os : List BlockOption) → length os ≤ n → AllByRecursion FitsBlockOption os
    → value_from n order code (bytes_of_options order is_ended os) ≡ first_value code os
found n order code is_ended [] few fit = end_found n order code is_ended
found zero order code is_ended (o ∷ others) few fit = absurd (omega (arith, few))
found (suc n) order code is_ended (o ∷ others) few fit =
    let rest = bytes_of_options order is_ended others in
    let some : 0 < o.code = fit.0.some in
    found_here n order code o.code (length o.value) (bytes_of_option order o ++ rest) ((o.value ++ o.filler) ++ rest)
    (omega (arith, option_long order o, length-append (bytes_of_option order o) rest))
    (code_at order o rest fit.0.code) (λ e. omega (arith, some, e)) (count_at order o rest fit.0.long) (value_at order o rest)
    ∙ (ap (λ (xs : List ℕ). let r : Option (List ℕ) = if o.code == code then Some xs else value_from n order code (drop (min ((length o.value + 3) / 4 * 4) (length ((o.value ++ o.filler) ++ rest))) ((o.value ++ o.filler) ++ rest)) in r) (front_taken o.value o.filler rest)
    ∙ (ap (λ (xs : List ℕ). let r : Option (List ℕ) = if o.code == code then Some o.value else value_from n order code xs in r) (rest_left o.value o.filler rest fit.0.filled)
    ∙ ap (λ (r : Option (List ℕ)). let all : Option (List ℕ) = if o.code == code then Some o.value else r in all) (found n order code is_ended others (omega (arith, few)) fit.1)))

-- ---- those of an interface

eight_long : (order : Order) (n : ℕ) → length (number_bytes order 8 n) ≡ 8
eight_long Big n = refl
eight_long Little n = refl

option_fits : (order : Order) (o : InterfaceOption) → FitsInterfaceOption o → FitsBlockOption (option_of_interface order o)
option_fits order (Resolution n) fits = record { some = omega arith; code = omega arith; long = omega arith; filled = record { few = omega arith; whole = refl } }
option_fits order (AddedSeconds n) fits =
    record { some = omega arith; code = omega arith; long = omega (arith, eight_long order n); filled = record { few = omega arith; whole = omega (arith, eight_long order n) } }
option_fits order (OtherOption o) fits = fits.0

pub options_fit : (order : Order) (os : List InterfaceOption) → AllByRecursion FitsInterfaceOption os → AllByRecursion FitsBlockOption (map (option_of_interface order) os)
options_fit order [] fit = tt
options_fit order (o ∷ others) fit = (option_fits order o fit.0, options_fit order others fit.1)

first_resolution : (order : Order) (os : List InterfaceOption) → AllByRecursion FitsInterfaceOption os
    → resolution_in (first_value 9 (map (option_of_interface order) os)) ≡ resolution_by os
first_resolution order [] fit = refl
first_resolution order (Resolution n ∷ others) fit = refl
first_resolution order (AddedSeconds n ∷ others) fit = first_resolution order others fit.1
first_resolution order (OtherOption o ∷ others) fit =
    ap resolution_in (cond-false (o.code == 9) _ _ (ne_eqb _ _ fit.0.1)) ∙ first_resolution order others fit.1

seconds_back : (order : Order) (n : ℕ) → n < 2 ^ 64 → offset_in order (Some (number_bytes order 8 n)) ≡ n
unfolding u64_at
seconds_back Big n h = big_number-reads_back 8 n [] h
seconds_back Little n h = little_number-reads_back 8 n [] h

first_seconds : (order : Order) (os : List InterfaceOption) → AllByRecursion FitsInterfaceOption os
    → offset_in order (first_value 14 (map (option_of_interface order) os)) ≡ seconds_by os
first_seconds order [] fit = refl
first_seconds order (Resolution n ∷ others) fit = first_seconds order others fit.1
first_seconds order (AddedSeconds n ∷ others) fit = seconds_back order n fit.0
first_seconds order (OtherOption o ∷ others) fit =
    ap (offset_in order) (cond-false (o.code == 14) _ _ (ne_eqb _ _ fit.0.2)) ∙ first_seconds order others fit.1

pub resolution_is : (order : Order) (is_ended : Bool) (os : List InterfaceOption) → AllByRecursion FitsInterfaceOption os
    → resolution_of order (bytes_of_options order is_ended (map (option_of_interface order) os)) ≡ resolution_by os
resolution_is order is_ended os fit =
    let all = map (option_of_interface order) os in
    ap resolution_in (found _ order 9 is_ended all (few_options order is_ended all) (options_fit order os fit)) ∙ first_resolution order os fit

pub seconds_are : (order : Order) (is_ended : Bool) (os : List InterfaceOption) → AllByRecursion FitsInterfaceOption os
    → offset_of order (bytes_of_options order is_ended (map (option_of_interface order) os)) ≡ seconds_by os
seconds_are order is_ended os fit =
    let all = map (option_of_interface order) os in
    ap (offset_in order) (found _ order 14 is_ended all (few_options order is_ended all) (options_fit order os fit)) ∙ first_seconds order os fit
