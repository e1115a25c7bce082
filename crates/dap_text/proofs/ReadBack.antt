-- What is printed of files and records is read back.
use Rattle.std.proofs.Common.{◌≡◌, ◌==◌, ◌<◌, ◌≤◌, ◌^◌, ◌/◌, ◌%◌, not, ℕ, Bool, true, false, List, [], ◌∷◌, ◌++◌, length, Some, slice_index, refl, sym, subst, ap, ◌∙◌, arith, lit<, decimal, All}
use Rattle.std.specs.Prelude.{IfSome, Ok, Option, None, bytes_eq, codes, if◌then◌else◌, nat_le, unwrap_or}
use Rattle.std.specs.Char.{is_ascii_digit, is_ascii_hexdigit}
use Rattle.std.specs.List.{AllPass, concat, list_all}
use Rattle.std.proofs.lemmas.Bool.{le-leb}
use Rattle.std.proofs.lemmas.Bool.Decides.{nat_tests}
use Rattle.std.proofs.lemmas.Fmt.{decimal_nonempty, digits_decimal, digits_value-decimal, length-decimal-le}
use Rattle.std.proofs.lemmas.List.{append-nil, append_assoc, append_cancel_right}
use Rattle.std.proofs.lemmas.List.Elements.{All-append, All-weaker}
use Rattle.std.proofs.lemmas.List.Splits.{slice_split_at, slice_split_none}
use Rattle.std.proofs.lemmas.List.Sums.{AllPass-from_list_all, list_all-from_AllPass}
use Rattle.std.specs.Str.Parse.{digits_value}
use Rattle.texts.proofs.ForCallers.{values}
use Rattle.hex.specs.Hex.{encode_lower, encode_with, is_hex_digit, lower_digits}
use Rattle.hex.proofs.HexLemmas.{decode_of-encode_lower, decode_of-ok, length-encode_with}
use Rattle.dap_fields.specs.Spelling.{AreBytes}
use Rattle.rec_file.specs.Shapes.{is_shape}
use Rattle.rec_file.specs.declared.look.Look.{Look}
use Rattle.rec_file.specs.Looks.{IsOtherFormat, is_plain}
use Rattle.rec_file.proofs.ForCallers.{are_kept}
use Rattle.dap_msg.specs.Canon.{canon}
use Rattle.dap_msg.specs.Fitting.{FieldsFit}
use Rattle.dap_msg.proofs.ForCallers.{kept_are_bytes}
use Rattle.dap_accessed.specs.declared.asked.Asked.{Asked}
use Rattle.dap_accessed.specs.Asked.{IsAsked, asked_fully, look_of}
use Rattle.dap_accessed.specs.Replies.{file_attributes, format_number, given_limit, org_number}
use Rattle.dap_accessed.proofs.ForCallers.{attributes-back, look-back}
use Rattle.rec_file.specs.Limits.{max_record_number, max_record}
use Rattle.rec_file.specs.declared.shapes.Shape.{Shape}
use Rattle.rec_file.specs.declared.shapes.Org.{Org}
use Rattle.rec_file.specs.declared.shapes.Org.TheVariants.{Seq, Rel}
use Rattle.rec_file.specs.declared.shapes.Format.{Format}
use Rattle.rec_file.specs.declared.shapes.Format.TheVariants.{Fixed, Variable}
use Rattle.dap_text.specs.Filed.{file_line_of, kept_last, org_of, record_line_of, rfm_of}
use Rattle.dap_text.specs.Kept.{LineAsks, SaysKept, look_bytes, kept_message, line_attributes, line_format}
use Rattle.dap_text.specs.declared.filed.FileLine.{FileLine}
use Rattle.dap_text.specs.Tables.{file_line, format_text, kept_text, org_text, record_line}
use Rattle.dap_text.proofs.KeptLemmas.{kept_fields}
use Rattle.texts.specs.Text.{image_text, line_feed}
use Rattle.texts.specs.Words.{decimal_of, is_hex_text, text_of, words_of}

-- ---- Numbers.

number_back : (most n : ℕ) → n ≤ most → most ≤ 4294967295 → decimal_of most (decimal n) ≡ Some n
number_back most n within small =
    let low : n < 2 ^ 64 = omega (arith, within, small) in
    let digits = digits_decimal values n low in
    let value : digits_value 10 (decimal n) ≡ n = digits_value-decimal values n low in
    let some = decimal_nonempty n low in
    let few = length-decimal-le 10 n (omega arith) (omega (arith, within, small)) low in
    rw (digits, value) (grind (arith, nat_tests, some, few, within))

-- ---- Bytes.

ascii_digit : (c : ℕ) → is_hex_digit c ≡ true → is_ascii_hexdigit c ≡ true
ascii_digit c h = grind (arith, nat_tests)

are_hex : (bytes : List ℕ) → AreBytes bytes → AllPass is_hex_digit (encode_lower bytes)
are_hex bytes are = (decode_of-ok (encode_lower bytes) bytes (decode_of-encode_lower bytes are)).1

no_dash : (a b : ℕ) (rest : List ℕ) → bytes_eq (a ∷ b ∷ rest) (codes "-") ≡ false
no_dash a b rest = grind (arith, nat_tests)

some_hex : (bytes : List ℕ) → AreBytes bytes → 0 < length bytes → is_hex_text (encode_lower bytes) ≡ true
some_hex bytes are some =
    let twice = length-encode_with lower_digits bytes in
    let all = list_all-from_AllPass is_ascii_hexdigit (encode_lower bytes) (All-weaker (λ c. is_hex_digit c ≡ true) (λ c. is_ascii_hexdigit c ≡ true) ascii_digit (encode_lower bytes) (are_hex bytes are)) in
    rw all (grind (arith, nat_tests, twice, some))

no_dash_in : (bytes : List ℕ) → 0 < length bytes → bytes_eq (encode_lower bytes) (codes "-") ≡ false
unfolding encode_with
no_dash_in [] some = absurd (omega arith)
no_dash_in (b ∷ bytes) some = no_dash (slice_index lower_digits (b / 16)) (slice_index lower_digits (b % 16)) (encode_with lower_digits bytes)

pub image_back : (bytes : List ℕ) → AreBytes bytes → text_of (image_text bytes) ≡ Some bytes
image_back [] are = refl
image_back (b ∷ bytes) are =
    let some : 0 < length (b ∷ bytes) = omega arith in
    rw (no_dash_in (b ∷ bytes) some, some_hex (b ∷ bytes) are some, decode_of-encode_lower (b ∷ bytes) are) refl

-- ---- Words.

abbrev IsWord : List ℕ → Type 0
IsWord word = All (λ byte. (byte == 32) ≡ false) word

a_word : (word rest : List ℕ) → IsWord word → words_of (word ++ 32 ∷ rest) ≡ word ∷ words_of rest
a_word word rest one = slice_split_at (λ byte. byte == 32) word 32 rest one refl

last_word : (word : List ℕ) → IsWord word → words_of word ≡ word ∷ []
last_word word one = slice_split_none (λ byte. byte == 32) word one

abbrev is_no_space : ℕ → Bool
is_no_space byte = not (byte == 32)

no_space : (byte : ℕ) → is_no_space byte ≡ true → (byte == 32) ≡ false
no_space byte h = grind (arith, nat_tests)

a_name : (word : List ℕ) → list_all is_no_space word ≡ true → IsWord word
a_name word h =
    All-weaker (λ byte. is_no_space byte ≡ true) (λ byte. (byte == 32) ≡ false) no_space word (AllPass-from_list_all is_no_space word h)

digit_no_space : (c : ℕ) → is_ascii_digit c ≡ true → (c == 32) ≡ false
digit_no_space c h = grind (arith, nat_tests)

hex_no_space : (c : ℕ) → is_hex_digit c ≡ true → (c == 32) ≡ false
hex_no_space c h = grind (arith, nat_tests)

a_number : (n : ℕ) → n ≤ 4294967295 → IsWord (decimal n)
a_number n small =
    All-weaker (λ c. is_ascii_digit c ≡ true) (λ c. (c == 32) ≡ false) digit_no_space (decimal n)
    (AllPass-from_list_all is_ascii_digit (decimal n) (digits_decimal values n (omega (arith, small))))

an_image : (bytes : List ℕ) → AreBytes bytes → IsWord (image_text bytes)
an_image [] are = a_name (codes "-") refl
an_image (b ∷ bytes) are =
    All-weaker (λ c. is_hex_digit c ≡ true) (λ c. (c == 32) ≡ false) hex_no_space (encode_lower (b ∷ bytes)) (are_hex (b ∷ bytes) are)

-- ---- A record.

-- a word is put before a line
before : (word rest : List ℕ) → word ++ 32 ∷ (rest ++ line_feed) ≡ (word ++ 32 ∷ rest) ++ line_feed
before word rest = sym (append_assoc word (32 ∷ rest) line_feed)

abbrev record_said : ℕ → List ℕ → List ℕ
record_said number body = 32 ∷ 32 ∷ (decimal number ++ 32 ∷ image_text body)

record_printed : (number : ℕ) (body : List ℕ) → record_line (number, body) ≡ record_said number body ++ line_feed
record_printed number body = ap (λ l. 32 ∷ 32 ∷ l) (before (decimal number) (image_text body))

pub record_back : (number : ℕ) (body line : List ℕ) → number ≤ max_record_number → AreBytes body → record_line (number, body) ≡ line ++ line_feed
    → record_line_of line ≡ Some (record { number = number; body = body })
record_back number body line within are printed =
    let same : line ≡ record_said number body = append_cancel_right line (record_said number body) line_feed (sym printed ∙ record_printed number body) in
    let small : number ≤ 4294967295 = omega (arith, within) in
    let words : words_of (decimal number ++ 32 ∷ image_text body) ≡ decimal number ∷ image_text body ∷ [] =
    a_word (decimal number) (image_text body) (a_number number small) ∙ ap (λ ws. decimal number ∷ ws) (last_word (image_text body) (an_image body are)) in
    rw (same, words, number_back 4294967295 number small (omega arith), image_back body are) refl

-- ---- A file.

org_back : (o : Org) → (code : ℕ) × (org_of (org_text o) ≡ Some code)
org_back Seq = (0, refl)
org_back Rel = (16, refl)

rfm_back : (f : Format) → (code : ℕ) × (rfm_of (format_text f) ≡ Some code)
rfm_back Fixed = (1, refl)
rfm_back Variable = (2, refl)

org_word : (o : Org) → IsWord (org_text o)
org_word Seq = a_name (codes "seq") refl
org_word Rel = a_name (codes "rel") refl

format_word : (f : Format) → IsWord (format_text f)
format_word Fixed = a_name (codes "fixed") refl
format_word Variable = a_name (codes "variable") refl

-- ---- What is kept.

abbrev kept_word : List ℕ → List ℕ
kept_word bytes = codes "kept=" ++ image_text bytes

-- the words after the others
abbrev kept_words : List ℕ → List (List ℕ)
kept_words [] = []
kept_words (b ∷ bytes) = kept_word (b ∷ bytes) ∷ []

a_kept_word : (bytes : List ℕ) → AreBytes bytes → IsWord (kept_word bytes)
a_kept_word bytes are = All-append (λ byte. (byte == 32) ≡ false) (codes "kept=") (image_text bytes) (a_name (codes "kept=") refl) (an_image bytes are)

last_back : (bytes : List ℕ) → AreBytes bytes → kept_last (kept_words bytes) ≡ Some bytes
last_back [] are = refl
last_back (b ∷ bytes) are =
    let some : 0 < length (b ∷ bytes) = omega arith in
    rw (some_hex (b ∷ bytes) are some, decode_of-encode_lower (b ∷ bytes) are) refl

kept_are : (look : Look) → FieldsFit (kept_message look) → AreBytes (look_bytes look)
kept_are look fits = by (is_plain look)
  where
    by : (b : Bool) → AreBytes (if b then [] else canon (kept_message look))
    by true = λ i. lit< tt
    by false = kept_are_bytes look.datatype look.rfm look.rat look.bls look.bks look.fsz look.bsz fits

-- ---- The whole line.

fits : (shape : Shape) → is_shape shape ≡ true → (shape.mrs ≤ max_record) × (shape.mrn ≤ max_record_number)
fits shape good = (grind (arith, nat_tests), grind (arith, nat_tests))

module _ (name kept : List ℕ) (shape : Shape) (mrs : ℕ) where
  abbrev mrn_said : List ℕ
  mrn_said = decimal shape.mrn ++ kept_text kept

  abbrev sizes_said : List ℕ
  sizes_said = decimal mrs ++ 32 ∷ mrn_said

  abbrev format_said : List ℕ
  format_said = format_text shape.format ++ 32 ∷ sizes_said

  abbrev org_said : List ℕ
  org_said = org_text shape.org ++ 32 ∷ format_said

  abbrev name_said : List ℕ
  name_said = image_text name ++ 32 ∷ org_said

  abbrev file_said : List ℕ
  file_said = codes "file" ++ 32 ∷ name_said

-- a word, and what is put before a line
file_printed : (name kept : List ℕ) (shape : Shape) (mrs : ℕ)
    → concat (codes "file " ∷ image_text name ∷ codes " " ∷ org_text shape.org ∷ codes " " ∷ format_text shape.format
    ∷ codes " " ∷ decimal mrs ∷ codes " " ∷ decimal shape.mrn ∷ kept_text kept ∷ line_feed ∷ []) ≡ file_said name kept shape mrs ++ line_feed
file_printed name kept shape mrs =
    let mrn = sym (append_assoc (decimal shape.mrn) (kept_text kept) line_feed) in
    let sizes = ap (λ l. decimal mrs ++ 32 ∷ l) mrn ∙ before (decimal mrs) (mrn_said name kept shape mrs) in
    let format = ap (λ l. format_text shape.format ++ 32 ∷ l) sizes ∙ before (format_text shape.format) (sizes_said name kept shape mrs) in
    let org = ap (λ l. org_text shape.org ++ 32 ∷ l) format ∙ before (org_text shape.org) (format_said name kept shape mrs) in
    let all = ap (λ l. image_text name ++ 32 ∷ l) org ∙ before (image_text name) (org_said name kept shape mrs) in
    ap (λ l. codes "file" ++ 32 ∷ l) all

last_words : (n : ℕ) (kept : List ℕ) → n ≤ 4294967295 → AreBytes kept → words_of (decimal n ++ kept_text kept) ≡ decimal n ∷ kept_words kept
last_words n [] small are = ap words_of (append-nil (decimal n)) ∙ last_word (decimal n) (a_number n small)
last_words n (b ∷ bytes) small are =
    a_word (decimal n) (kept_word (b ∷ bytes)) (a_number n small) ∙ ap (λ ws. decimal n ∷ ws) (last_word (kept_word (b ∷ bytes)) (a_kept_word (b ∷ bytes) are))

file_words : (name kept : List ℕ) (shape : Shape) (mrs : ℕ) → AreBytes name → AreBytes kept → mrs ≤ max_record → shape.mrn ≤ max_record_number
    → words_of (name_said name kept shape mrs)
    ≡ image_text name ∷ org_text shape.org ∷ format_text shape.format ∷ decimal mrs ∷ decimal shape.mrn ∷ kept_words kept
file_words name kept shape mrs are kept_are limit number =
    let mrn = last_words shape.mrn kept (omega (arith, number)) kept_are in
    let sizes = a_word (decimal mrs) (mrn_said name kept shape mrs) (a_number mrs (omega (arith, limit))) ∙ ap (λ ws. decimal mrs ∷ ws) mrn in
    let format = a_word (format_text shape.format) (sizes_said name kept shape mrs) (format_word shape.format) ∙ ap (λ ws. format_text shape.format ∷ ws) sizes in
    let org = a_word (org_text shape.org) (format_said name kept shape mrs) (org_word shape.org) ∙ ap (λ ws. org_text shape.org ∷ ws) format in
    a_word (image_text name) (org_said name kept shape mrs) (an_image name are) ∙ ap (λ ws. image_text name ∷ ws) org

-- RFM of the file is what its line asks for
format_back : (format : Format) (kept : Option ℕ) (code : ℕ) → rfm_of (format_text format) ≡ Some code → IfSome kept (λ r. (format ≡ Variable) × IsOtherFormat r)
    → line_format code kept ≡ unwrap_or kept (format_number format)
format_back Fixed None code is h = cc
format_back Variable None code is h = cc
format_back Fixed (Some r) code is h = absurd (let e : Fixed ≡ Variable = h.0 in cc)
format_back Variable (Some r) code is h =
    let two : 2 ≡ code = cc in
    let within : nat_le r 6 ≡ true = le-leb r 6 h.1.0 in
    subst (λ c. line_format c (Some r) ≡ r) two (ap (λ b. if b then r else 2) within)

org_number_back : (org : Org) (code : ℕ) → org_of (org_text org) ≡ Some code → code ≡ org_number org
org_number_back Seq code is = cc
org_number_back Rel code is = cc

pub file_back : (name line : List ℕ) (asked : Asked) → AreBytes name → IsAsked asked → file_line name asked.shape asked.look ≡ line ++ line_feed
    → (file : FileLine) × (file_line_of line ≡ Some file) × (file.name ≡ name) × LineAsks file (Ok asked)
file_back name line asked are is printed =
    let shape = asked.shape in
    let look = asked.look in
    let kept = look_bytes look in
    let fields = kept_fields shape look is.look in
    let mrs = given_limit shape look in
    let small = fits shape is.shape in
    let limit : mrs ≤ max_record = omega (arith, small.0) in
    let bytes = kept_are look fields in
    let same : line ≡ file_said name kept shape mrs = append_cancel_right line (file_said name kept shape mrs) line_feed (sym printed ∙ file_printed name kept shape mrs) in
    let org = org_back shape.org in
    let rfm = rfm_back shape.format in
    let mrs_back = number_back 65535 mrs (omega (arith, limit)) (omega arith) in
    let mrn_back = number_back 4294967295 shape.mrn (omega (arith, small.1)) (omega arith) in
    let file : FileLine = record { name = name; org = org.0; rfm = rfm.0; mrs = mrs; mrn = shape.mrn; kept = kept } in
    let read : file_line_of line ≡ Some file =
    rw (same, file_words name kept shape mrs are bytes limit small.1, image_back name are, org.1, rfm.1, mrs_back, mrn_back, last_back kept bytes) refl in
    let told : line_attributes file look ≡ file_attributes shape look =
    rw (org_number_back shape.org org.0 org.1, format_back shape.format look.rfm rfm.0 rfm.1 (are_kept shape look is.look).format) refl in
    let said : SaysKept file look =
    record { fields = fields; spelled = refl; all = ap look_of told ∙ look-back shape look is.shape is.look } in
    (file, read, refl, (said, ap asked_fully told ∙ attributes-back shape look is.shape is.look))
