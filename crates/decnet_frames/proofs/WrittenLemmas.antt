-- A comment that is written is read.
use Rattle.std.proofs.Common.{◌≡◌, ◌<◌, ◌≤◌, ◌+◌, ◌-◌, ◌*◌, ◌/◌, ◌%◌, ◌^◌, ◌==◌, ◌&&◌, ◌||◌, not, ℕ, zero, suc, Bool, true, false, List, [], ◌∷◌, ◌++◌, length, length-append, take, drop, min, Option, Some, None, refl, sym, ap, ◌∙◌, subst, arith, decimal, append_assoc, append-nil}
use Rattle.std.specs.Prelude.{bytes_eq, codes, nat_le, nat_lt, if◌then◌else◌, option_and_then}
use Rattle.std.specs.Char.{is_ascii_digit}
use Rattle.std.specs.List.{All, AllPass, concat, list_all, position, position_or_len, slice_split}
use Rattle.std.specs.Option.{option_map_or}
use Rattle.std.specs.Str.Parse.{digits_value}
use Rattle.std.proofs.lemmas.Bool.{and_from, and_parts, cond_both, ltb-true}
use Rattle.std.proofs.lemmas.Bool.Decides.{nat_tests}
use Rattle.std.proofs.lemmas.Fmt.{decimal_nonempty, decimal_step, digits_decimal, digits_value-decimal, length-decimal-le}
use Rattle.std.proofs.lemmas.List.{drop_at, take_at}
use Rattle.std.proofs.lemmas.List.Elements.{All-weaker}
use Rattle.std.proofs.lemmas.List.Splits.{slice_split_at, slice_split_none}
use Rattle.std.proofs.lemmas.List.Sums.{AllPass-from_list_all}
use Rattle.std.proofs.lemmas.Nat.{mod_below}
use Rattle.capture_file.specs.declared.meaning.Time.{Time}
use Rattle.texts.specs.Words.{decimal_of, words_of}
use Rattle.texts.proofs.ForCallers.{values}
use Rattle.decnet_frames.specs.Nodes.{node_address_of, node_text, pair_text}
use Rattle.decnet_frames.specs.Origins.{PacketOrigin, comment_text, frame_by, frame_in, origin_by, is_digits, is_number, is_time, origin_of}
use Rattle.decnet_frames.specs.Times.{digits_after_first, frame_text, parts_in_second, seconds_text, shown_parts, time_text}
use Rattle.decnet_frames.specs.declared.addresses.Nodes.{Nodes}
use Rattle.decnet_frames.proofs.TimeLemmas.{few_shown, scaled_below, some_parts, some_shown}

-- ---- digits

abbrev AreDigits : List ℕ → Type 0
AreDigits text = list_all is_ascii_digit text ≡ true

pub digits_of_decimal : (n : ℕ) → n < 2 ^ 64 → AreDigits (decimal n)
digits_of_decimal n small = digits_decimal values n small

some_digits : (text : List ℕ) → AreDigits text → 0 < length text → is_digits text ≡ true
some_digits text are some = rw are (grind (arith, nat_tests, some))

number_read : (n : ℕ) → n < 2 ^ 64 → is_number (decimal n) ≡ true
number_read n small =
    let few : length (decimal n) ≤ 20 = length-decimal-le 20 n (omega arith) (omega (arith, small)) small in
    rw (some_digits (decimal n) (digits_of_decimal n small) (decimal_nonempty n small)) (grind (arith, nat_tests, few))

decimal_read : (most n : ℕ) → n ≤ most → most < 10000 → decimal_of most (decimal n) ≡ Some n
decimal_read most n within few =
    let small : n < 2 ^ 64 = omega (arith, within, few) in
    let long : length (decimal n) ≤ 4 = length-decimal-le 4 n (omega arith) (omega (arith, within, few)) small in
    let some : 0 < length (decimal n) = decimal_nonempty n small in
    rw (digits_of_decimal n small, digits_value-decimal values n small) (grind (arith, nat_tests, long, some, within))

-- ---- a point

no_point : (c : ℕ) → is_ascii_digit c ≡ true → (c == 46) ≡ false
no_point c h = grind (arith, nat_tests)

one_and : (n : ℕ) → 1 + n ≡ suc n
one_and n = omega arith

point_after : (text rest : List ℕ) → AreDigits text → position_or_len (λ byte. byte == 46) (text ++ 46 ∷ rest) ≡ length text
point_after [] rest are = refl
point_after (x ∷ text) rest are =
    let both = and_parts (is_ascii_digit x) (list_all is_ascii_digit text) are in
    rw (no_point x both.0) (ap (λ n. 1 + n) (point_after text rest both.1) ∙ one_and (length text))

point_at : (text rest : List ℕ) → AreDigits text → position (λ byte. byte == 46) (text ++ 46 ∷ rest) ≡ Some (length text)
point_at text rest are =
    let inside : length text < length (text ++ 46 ∷ rest) = omega (arith, length-append text (46 ∷ rest)) in
    rw (point_after text rest are) (grind (arith, nat_tests, inside))

behind_point : (text rest : List ℕ) → drop (length text + 1) (text ++ 46 ∷ rest) ≡ rest
behind_point text rest =
    ap (λ l. drop (length text + 1) l) (sym (append_assoc text (46 ∷ []) rest)) ∙ drop_at (text ++ 46 ∷ []) rest (length text + 1) (length-append text (46 ∷ []))

before_point : (text rest : List ℕ) → take (length text) (text ++ 46 ∷ rest) ≡ text
before_point text rest = take_at text (46 ∷ rest) (length text) refl

-- ---- nodes

node_as : (node : ℕ) → node_text node ≡ decimal (node / 1024) ++ 46 ∷ decimal (node % 1024)
node_as node = ap (λ t. decimal (node / 1024) ++ 46 ∷ t) (append-nil (decimal (node % 1024)))

both_parts : (node : ℕ) → node / 1024 * 1024 + node % 1024 ≡ node
both_parts node = omega arith

address_read : (node : ℕ) → node < 65536 → node_address_of (node_text node) ≡ Some node
address_read node small =
    let area = node / 1024 in
    let number = node % 1024 in
    let front = decimal area in
    let back = decimal number in
    let low : area < 2 ^ 64 = omega (arith, small) in
    rw (
      node_as node,
      point_at front back (digits_of_decimal area low),
      before_point front back,
      behind_point front back,
      decimal_read 63 area (omega (arith, small)) (omega arith),
      decimal_read 1023 number (omega arith) (omega arith),
    ) (ap (λ (n : ℕ). Some n) (both_parts node))

-- ---- times

digits_behind : (text : List ℕ) → AreDigits text → AreDigits (drop 1 text)
digits_behind [] are = refl
digits_behind (x ∷ text) are = (and_parts (is_ascii_digit x) (list_all is_ascii_digit text) are).1

long_decimal : (n : ℕ) → 10 ≤ n → n < 2 ^ 64 → 2 ≤ length (decimal n)
long_decimal n some small =
    let step = decimal_step n some small in
    let before : 0 < length (decimal (n / 10)) = decimal_nonempty (n / 10) (omega (arith, small)) in
    omega (arith, before, ap length step, length-append (decimal (n / 10)) ((48 + n % 10) ∷ []))

length_behind : (text : List ℕ) → 2 ≤ length text → 0 < length (drop 1 text)
length_behind [] few = absurd (omega (arith, few))
length_behind (x ∷ text) few = omega (arith, few)

fraction_read : (n : ℕ) → 10 ≤ n → n < 2 ^ 64 → is_digits (digits_after_first n) ≡ true
fraction_read n some small =
    some_digits (digits_after_first n) (digits_behind (decimal n) (digits_of_decimal n small)) (length_behind (decimal n) (long_decimal n some small))

or_second : (b : Bool) → (b || true) ≡ true
or_second true = refl
or_second false = refl

seconds_read : (seconds n : ℕ) → seconds < 2 ^ 64 → 10 ≤ n → n < 2 ^ 64 → is_time (decimal seconds ++ (codes "." ++ digits_after_first n)) ≡ true
seconds_read seconds n low some small =
    let front = decimal seconds in
    let back = digits_after_first n in
    rw (
      point_at front back (digits_of_decimal seconds low),
      before_point front back,
      behind_point front back,
      some_digits front (digits_of_decimal seconds low) (decimal_nonempty seconds low),
      fraction_read n some small,
    ) (or_second (bytes_eq (front ++ (codes "." ++ back)) (codes "-")))

shown_sums : (parts m shown : ℕ) → 0 < m → 10 ≤ shown → shown ≤ 1000000000 → (10 ≤ shown + (parts % m) * shown / m) × (shown + (parts % m) * shown / m < 2 ^ 64)
shown_sums parts m shown some more few =
    let below : (parts % m) * shown / m < shown = scaled_below (parts % m) m shown (mod_below parts m some) (omega (arith, more)) in
    (omega (arith, more), omega (arith, below, few))

ten_shown : (resolution : ℕ) → 10 ≤ shown_parts resolution
ten_shown resolution = cond_both {A = ℕ} (nat_le resolution 6) 1000000 1000000000 (λ n. 10 ≤ n) (λ _. omega arith) (λ _. omega arith)

time_read : (time : Option Time) → is_time (time_text time) ≡ true
time_read None = refl
time_read (Some t) =
    let m = parts_in_second t.resolution in
    let seconds = (t.parts / m + t.offset) % 2 ^ 64 in
    let sums = shown_sums t.parts m (shown_parts t.resolution) (some_parts t.resolution) (ten_shown t.resolution) (few_shown t.resolution) in
    cond_both {A = List ℕ} (nat_lt seconds (2 ^ 63)) _ _ (λ text. is_time text ≡ true)
    (λ few. seconds_read seconds (shown_parts t.resolution + (t.parts % m) * shown_parts t.resolution / m) (omega (arith, ltb-true _ _ few)) sums.0 sums.1)
    (λ _. refl)

-- ---- words without a space

abbrev is_space : ℕ → Bool
is_space byte = byte == 32

abbrev HasNoSpace : List ℕ → Type 0
HasNoSpace text = list_all (λ byte. not (is_space byte)) text ≡ true

no_space_at : (c : ℕ) → not (is_space c) ≡ true → is_space c ≡ false
no_space_at c h = grind (arith, nat_tests)

lacks : (text : List ℕ) → HasNoSpace text → All (λ byte. is_space byte ≡ false) text
lacks text h = All-weaker (λ c. not (is_space c) ≡ true) (λ c. is_space c ≡ false) no_space_at text (AllPass-from_list_all (λ c. not (is_space c)) text h)

space-append : (a b : List ℕ) → HasNoSpace a → HasNoSpace b → HasNoSpace (a ++ b)
space-append [] b one two = two
space-append (x ∷ a) b one two =
    let both = and_parts (not (is_space x)) (list_all (λ byte. not (is_space byte)) a) one in
    and_from (not (is_space x)) (list_all (λ byte. not (is_space byte)) (a ++ b)) both.0 (space-append a b both.1 two)

digit_no_space : (c : ℕ) → is_ascii_digit c ≡ true → not (is_space c) ≡ true
digit_no_space c h = grind (arith, nat_tests)

digits_no_space : (text : List ℕ) → AreDigits text → HasNoSpace text
digits_no_space [] are = refl
digits_no_space (x ∷ text) are =
    let both = and_parts (is_ascii_digit x) (list_all is_ascii_digit text) are in
    and_from (not (is_space x)) (list_all (λ byte. not (is_space byte)) text) (digit_no_space x both.0) (digits_no_space text both.1)

decimal_no_space : (n : ℕ) → n < 2 ^ 64 → HasNoSpace (decimal n)
decimal_no_space n small = digits_no_space (decimal n) (digits_of_decimal n small)

node_no_space : (node : ℕ) → node < 65536 → HasNoSpace (node_text node)
node_no_space node small =
    subst HasNoSpace (sym (node_as node))
    (space-append (decimal (node / 1024)) (46 ∷ decimal (node % 1024)) (decimal_no_space (node / 1024) (omega (arith, small)))
    (space-append (codes ".") (decimal (node % 1024)) refl (decimal_no_space (node % 1024) (omega arith))))

time_no_space : (time : Option Time) → HasNoSpace (time_text time)
time_no_space None = refl
time_no_space (Some t) =
    let m = parts_in_second t.resolution in
    let seconds = (t.parts / m + t.offset) % 2 ^ 64 in
    let sums = shown_sums t.parts m (shown_parts t.resolution) (some_parts t.resolution) (ten_shown t.resolution) (few_shown t.resolution) in
    let shown = shown_parts t.resolution + (t.parts % m) * shown_parts t.resolution / m in
    cond_both {A = List ℕ} (nat_lt seconds (2 ^ 63)) _ _ HasNoSpace
    (λ few. space-append (decimal seconds) (codes "." ++ digits_after_first shown) (decimal_no_space seconds (omega (arith, ltb-true _ _ few)))
    (space-append (codes ".") (digits_after_first shown) refl (digits_no_space (digits_after_first shown) (digits_behind (decimal shown) (digits_of_decimal shown sums.1)))))
    (λ _. refl)

-- ---- the words of a comment

one_word : (word rest : List ℕ) → HasNoSpace word → words_of (word ++ 32 ∷ rest) ≡ word ∷ words_of rest
one_word word rest none = slice_split_at is_space word 32 rest (lacks word none) refl

last_word : (word : List ℕ) → HasNoSpace word → words_of word ≡ word ∷ []
last_word word none = slice_split_none is_space word (lacks word none)

-- a comment, word by word
spelled : (number time source destination : List ℕ) → codes "# " ++ (frame_by number time ++ (codes " " ++ ((source ++ (codes " -> " ++ (destination ++ []))) ++ [])))
    ≡ codes "#" ++ 32 ∷ (codes "frame" ++ 32 ∷ (number ++ 32 ∷ (time ++ 32 ∷ (source ++ 32 ∷ (codes "->" ++ 32 ∷ destination)))))
spelled number time source destination =
    let tail : (source ++ (codes " -> " ++ (destination ++ []))) ++ [] ≡ source ++ (codes " -> " ++ destination) =
    append-nil (source ++ (codes " -> " ++ (destination ++ []))) ∙ ap (λ d. source ++ (codes " -> " ++ d)) (append-nil destination) in
    let pair = source ++ (codes " -> " ++ destination) in
    ap (λ t. codes "# " ++ (frame_by number time ++ (codes " " ++ t))) tail
    ∙ ap (λ t. codes "# frame " ++ t)
    (append_assoc number (codes " " ++ (time ++ [])) (codes " " ++ pair)
    ∙ ap (λ t. number ++ 32 ∷ t) (append_assoc time [] (codes " " ++ pair)))

words_are : (number time source destination : List ℕ) → HasNoSpace number → HasNoSpace time → HasNoSpace source → HasNoSpace destination
    → words_of (codes "# " ++ (frame_by number time ++ (codes " " ++ ((source ++ (codes " -> " ++ (destination ++ []))) ++ []))))
    ≡ codes "#" ∷ codes "frame" ∷ number ∷ time ∷ source ∷ codes "->" ∷ destination ∷ []
words_are number time source destination n t s d =
    ap words_of (spelled number time source destination)
    ∙ one_word (codes "#") (codes "frame" ++ 32 ∷ (number ++ 32 ∷ (time ++ 32 ∷ (source ++ 32 ∷ (codes "->" ++ 32 ∷ destination))))) refl
    ∙ ap (λ ws. codes "#" ∷ ws)
    (one_word (codes "frame") (number ++ 32 ∷ (time ++ 32 ∷ (source ++ 32 ∷ (codes "->" ++ 32 ∷ destination)))) refl
    ∙ ap (λ ws. codes "frame" ∷ ws)
    (one_word number (time ++ 32 ∷ (source ++ 32 ∷ (codes "->" ++ 32 ∷ destination))) n
    ∙ ap (λ ws. number ∷ ws)
    (one_word time (source ++ 32 ∷ (codes "->" ++ 32 ∷ destination)) t
    ∙ ap (λ ws. time ∷ ws)
    (one_word source (codes "->" ++ 32 ∷ destination) s
    ∙ ap (λ ws. source ∷ ws)
    (one_word (codes "->") destination refl ∙ ap (λ ws. codes "->" ∷ ws) (last_word destination d))))))

origin_words : (number time sender receiver : List ℕ) (source destination : ℕ) → is_number number ≡ true → is_time time ≡ true → node_address_of sender ≡ Some source → node_address_of receiver ≡ Some destination
    → option_and_then origin_by (frame_in (codes "#" ∷ codes "frame" ∷ number ∷ time ∷ sender ∷ codes "->" ∷ receiver ∷ []))
    ≡ Some (record { frame = frame_by number time; nodes = record { source = source; destination = destination } })
origin_words number time sender receiver source destination n t s d = rw (n, t, s, d) refl

pub comment_read : (number : ℕ) (time : Option Time) (nodes : Nodes) → number < 2 ^ 64 → nodes.source < 65536 → nodes.destination < 65536
    → origin_of (comment_text (frame_text number time) nodes) ≡ Some (record { frame = frame_text number time; nodes = nodes })
comment_read number time nodes small source destination =
    let words = words_are (decimal number) (time_text time) (node_text nodes.source) (node_text nodes.destination)
    (decimal_no_space number small) (time_no_space time) (node_no_space nodes.source source) (node_no_space nodes.destination destination) in
    ap (λ ws. option_and_then origin_by (frame_in ws)) words
    ∙ origin_words (decimal number) (time_text time) (node_text nodes.source) (node_text nodes.destination) nodes.source nodes.destination
    (number_read number small) (time_read time) (address_read nodes.source source) (address_read nodes.destination destination)
