-- What is kept with a file, and the bytes of its message.
use Rattle.std.proofs.Common.{◌≡◌, ◌+◌, ◌/◌, ◌%◌, ℕ, Bool, true, false, List, [], ◌∷◌, ◌++◌, length, Result, Ok, Err, Some, None, refl, sym, ap, subst, ◌∙◌}
use Rattle.std.specs.Prelude.{IfSome, Option, not, nat_eq, option_map, if◌then◌else◌, is_none, nat_lt, ◌&&◌}
use Rattle.std.specs.Option.{option_eq}
use Rattle.std.proofs.lemmas.Bool.{eq-eqb, eqb-true}
use Rattle.std.proofs.lemmas.List.{append-nil}
use Rattle.dap_msg.specs.Canon.{canon, operand_bytes, Fits}
use Rattle.dap_msg.specs.Fitting.{FieldsFit}
use Rattle.dap_msg.specs.Decoding.{IsSpelled}
use Rattle.dap_msg.specs.Items.{ItemAt}
use Rattle.dap_msg.specs.declared.items.Item.{Item}
use Rattle.dap_msg.specs.declared.items.Item.TheVariants.{Whole}
use Rattle.dap_msg.specs.declared.message.Message.{Message}
use Rattle.dap_msg.specs.declared.message.Message.TheVariants.{Attrib}
use Rattle.dap_msg.specs.declared.message.Attributes.{Attributes}
use Rattle.dap_msg.proofs.ForCallers.{kept_attributes_fit, read_in_place, written_once, fields_fit}
use Rattle.rec_file.specs.declared.look.Look.{Look}
use Rattle.rec_file.specs.declared.shapes.Shape.{Shape}
use Rattle.rec_file.specs.Looks.{IsLook, is_plain, plain_look}
use Rattle.dap_accessed.specs.declared.asked.Asked.{Asked}
use Rattle.dap_accessed.specs.Asked.{are_within, asked_fully, full_shape, look_of}
use Rattle.dap_accessed.specs.Replies.{look_attributes}
use Rattle.dap_accessed.proofs.ForCallers.{kept_fits}
use Rattle.dap_text.specs.declared.fault.FileFault.{FileFault}
use Rattle.dap_text.specs.declared.fault.FileFault.TheVariants as fault
use Rattle.dap_text.specs.declared.filed.FileLine.{FileLine}
use Rattle.dap_text.specs.Inner.Kept.{IsSpelledBy, kept_in, attributes_look}
use Rattle.dap_text.specs.Kept.{LineAsks, SaysKept, look_bytes, kept_message, line_attributes}

-- it has a spelling where its fields fit
pub fits : (look : Look) → FieldsFit (kept_message look) → Fits (kept_message look)
fits look h = (kept_attributes_fit look.datatype look.rfm look.rat look.bls look.bks look.fsz look.bsz h).fits

pub fits_kept : (shape : Shape) (look : Look) → IsLook shape look → Fits (kept_message look)
fits_kept shape look is = (kept_fits shape look is).fits

-- what a file keeps fits
pub kept_fields : (shape : Shape) (look : Look) → IsLook shape look → FieldsFit (kept_message look)
kept_fields shape look is = let f = (kept_fits shape look is).fits in fields_fit (kept_message look) (f.bytes, true, f.spelled)

-- ---- Nothing is kept, or something.

none-is : (field : Option ℕ) → is_none field ≡ true → field ≡ None
none-is None h = refl
none-is (Some n) h = absurd cc

both : (b c : Bool) → (b && c) ≡ true → (b ≡ true) × (c ≡ true)
both true true h = (refl, refl)
both true false h = absurd cc
both false c h = absurd cc

pub plain-is : (look : Look) → is_plain look ≡ true → look ≡ plain_look
plain-is look h =
    let one = both _ _ h in
    let two = both _ _ one.1 in
    let three = both _ _ two.1 in
    let four = both _ _ three.1 in
    let five = both _ _ four.1 in
    let six = both _ _ five.1 in
    rw (none-is look.datatype one.0, none-is look.rfm two.0, none-is look.rat three.0, none-is look.bls four.0, none-is look.bks five.0, none-is look.fsz six.0, none-is look.bsz six.1) refl

same-fields : (one other : Look) → Attrib (look_attributes other) ≡ Attrib (look_attributes one) → other ≡ one
same-fields one other e =
    let same : look_attributes other ≡ look_attributes one = cc in
    ap (λ (a : Attributes). let look : Look = record { datatype = a.datatype; rfm = a.rfm; rat = a.rat; bls = a.bls; bks = a.bks; fsz = a.fsz; bsz = a.bsz } in look) same

some-canon : (look : Look) → canon (kept_message look) ≡ [] → ⊥
unfolding canon
some-canon look e = by (nat_lt (length (operand_bytes (kept_message look))) 256) (operand_bytes (kept_message look)) (length (operand_bytes (kept_message look))) e
  where
    by : (b : Bool) (body : List ℕ) (n : ℕ) → (if b then 2 ∷ 2 ∷ n ∷ [] else 2 ∷ 6 ∷ n % 256 ∷ n / 256 ∷ []) ++ body ≡ [] → ⊥
    by true body n e = cc
    by false body n e = cc

-- two that have the same bytes are one
pub one-look : (one other : Look) → FieldsFit (kept_message one) → FieldsFit (kept_message other) → look_bytes other ≡ look_bytes one → other ≡ one
one-look one other f g e = by (is_plain one) (is_plain other) refl refl e
  where
    by : (b c : Bool) → is_plain one ≡ b → is_plain other ≡ c → (if c then [] else canon (kept_message other)) ≡ (if b then [] else canon (kept_message one)) → other ≡ one
    by true true s t e = plain-is other t ∙ sym (plain-is one s)
    by true false s t e = absurd (some-canon other e)
    by false true s t e = absurd (some-canon one (sym e))
    by false false s t e = same-fields one other (written_once (kept_message one) (kept_message other) (fits one f) (fits other g) e)

-- ---- What is read of bytes.

abbrev fields-of : (a : Attributes) → FieldsFit (Attrib a) → FieldsFit (kept_message (attributes_look a))
fields-of a f = (f.0, tt, f.2, f.3, f.4, tt, tt, f.7, f.8, tt, tt, tt, tt, f.13, tt, tt, tt, tt, tt, tt, tt)

pub fields_in : (item : Item) → ((m : Message) → item ≡ Whole m → IsSpelled m) → IfSome (kept_in item) (λ look. FieldsFit (kept_message look))
fields_in (Whole (Attrib a)) s = fields-of a (fields_fit (Attrib a) (s (Attrib a) refl))
fields_in item s = tt

at-start : (m : Message) (bytes : List ℕ) → Fits m → canon m ≡ bytes → ItemAt bytes 0 (Whole m) (0 + length (canon m))
at-start m bytes fit e = subst (λ (b : List ℕ). ItemAt b 0 (Whole m) (0 + length (canon m))) (append-nil (canon m) ∙ e) (read_in_place m fit [] [])

pub only_in : (item : Item) (bytes : List ℕ) (after : ℕ) → ((other : Item) (next : ℕ) → ItemAt bytes 0 other next → (other ≡ item) × (next ≡ after)) → (look : Look) → FieldsFit (kept_message look)
    → canon (kept_message look) ≡ bytes → kept_in item ≡ Some look
only_in item bytes after only look h e =
    let m = kept_message look in
    let same : Whole m ≡ item = (only (Whole m) (0 + length (canon m)) (at-start m bytes (fits look h) e)).0 in
    subst (λ (i : Item). kept_in i ≡ Some look) same refl

-- bytes of which nothing is read are of nothing that is kept
pub none_spelled : (bytes : List ℕ) → ((look : Look) → FieldsFit (kept_message look) → canon (kept_message look) ≡ bytes → None ≡ Some look) → (bytes ≡ [] → ⊥)
    → (look : Look) → IsSpelledBy bytes look → ⊥
none_spelled bytes none some look h = by (is_plain look) refl h.spelled
  where
    by : (b : Bool) → is_plain look ≡ b → (if b then [] else canon (kept_message look)) ≡ bytes → ⊥
    by true t e = some (sym e)
    by false t e = let never : None ≡ Some look = none look h.fields e in cc

-- nor is what is read, where its own bytes are others
pub other_spelled : (bytes : List ℕ) (read : Look) → ((look : Look) → FieldsFit (kept_message look) → canon (kept_message look) ≡ bytes → Some read ≡ Some look) → (bytes ≡ [] → ⊥)
    → (look_bytes read ≡ bytes → ⊥) → (look : Look) → IsSpelledBy bytes look → ⊥
other_spelled bytes read only some apart look h = by (is_plain look) refl h.spelled
  where
    by : (b : Bool) → is_plain look ≡ b → (if b then [] else canon (kept_message look)) ≡ bytes → ⊥
    by true t e = some (sym e)
    by false t e =
        let is : Some read ≡ Some look = only look h.fields e in
        let same : read ≡ look = cc in
        apart (ap look_bytes same ∙ h.spelled)

-- ---- What a line asks for.

one-said : (file : FileLine) (one other : Look) → SaysKept file one → SaysKept file other → other ≡ one
one-said file one other x y = one-look one other x.fields y.fields (y.spelled ∙ sym x.spelled)

-- what is asked for keeps what the attributes have
look-asked : (a : Attributes) (asked : Asked) → asked_fully a ≡ Some asked → asked.look ≡ look_of a
unfolding asked_fully
look-asked a asked e = by (are_within a) (full_shape a) e
  where
    by : (b : Bool) (shape : Option Shape) → (if b then option_map (λ (s : Shape). let one : Asked = record { shape = s; look = look_of a } in one) shape else None) ≡ Some asked → asked.look ≡ look_of a
    by true (Some s) e = let one : Asked = record { shape = s; look = look_of a } in let same : one ≡ asked = cc in sym (ap (λ (x : Asked). x.look) same)
    by true None e = absurd cc
    by false shape e = absurd cc

said : (file : FileLine) (look : Look) → IsSpelledBy file.kept look → look_of (line_attributes file look) ≡ look → SaysKept file look
said file look h e = record { fields = h.fields; spelled = h.spelled; all = e }

pub asks_ok : (file : FileLine) (look : Look) (asked : Asked) → IsSpelledBy file.kept look → look_of (line_attributes file look) ≡ look → Some asked ≡ asked_fully (line_attributes file look)
    → LineAsks file (Ok asked)
asks_ok file look asked h e is =
    let same : asked.look ≡ look = look-asked (line_attributes file look) asked (sym is) ∙ e in
    (subst (SaysKept file) (sym same) (said file look h e), ap (λ (l : Look). asked_fully (line_attributes file l)) same ∙ sym is)

pub asks_bad : (file : FileLine) (look : Look) → IsSpelledBy file.kept look → look_of (line_attributes file look) ≡ look → None ≡ asked_fully (line_attributes file look)
    → LineAsks file (Err fault.BadAttributes)
asks_bad file look h e is = (look, said file look h e, sym is)

pub asks_none : (file : FileLine) (look : Look) → IsSpelledBy file.kept look → (look_of (line_attributes file look) ≡ look → ⊥) → LineAsks file (Err fault.BadKept)
asks_none file look h apart other s =
    let same : other ≡ look = one-look look other h.fields s.fields (s.spelled ∙ sym h.spelled) in
    apart (subst (λ (l : Look). look_of (line_attributes file l) ≡ l) same s.all)

-- a line asks for one thing
pub one-asked : (file : FileLine) (r s : Result Asked FileFault) → LineAsks file r → LineAsks file s → s ≡ r
one-asked file (Ok a) (Ok b) x y =
    let same = one-said file a.look b.look x.0 y.0 in
    let e : Some b ≡ Some a = sym y.1 ∙ ap (λ (l : Look). asked_fully (line_attributes file l)) same ∙ x.1 in
    let is : b ≡ a = cc in
    ap (λ (z : Asked). Ok z) is
one-asked file (Ok a) (Err fault.BadKept) x y = absurd (y a.look x.0)
one-asked file (Ok a) (Err fault.BadAttributes) x y =
    let same = one-said file a.look y.0 x.0 y.1 in
    let e : None ≡ Some a = sym y.2 ∙ ap (λ (l : Look). asked_fully (line_attributes file l)) same ∙ x.1 in
    absurd cc
one-asked file (Ok a) (Err fault.NoMemory) x y = absurd y
one-asked file (Err fault.BadKept) (Ok b) x y = absurd (x b.look y.0)
one-asked file (Err fault.BadKept) (Err fault.BadKept) x y = refl
one-asked file (Err fault.BadKept) (Err fault.BadAttributes) x y = absurd (x y.0 y.1)
one-asked file (Err fault.BadKept) (Err fault.NoMemory) x y = absurd y
one-asked file (Err fault.BadAttributes) (Ok b) x y =
    let same = one-said file x.0 b.look x.1 y.0 in
    let e : Some b ≡ None = sym y.1 ∙ ap (λ (l : Look). asked_fully (line_attributes file l)) same ∙ x.2 in
    absurd cc
one-asked file (Err fault.BadAttributes) (Err fault.BadKept) x y = absurd (y x.0 x.1)
one-asked file (Err fault.BadAttributes) (Err fault.BadAttributes) x y = refl
one-asked file (Err fault.BadAttributes) (Err fault.NoMemory) x y = absurd y
one-asked file (Err fault.NoMemory) s x y = absurd x

-- ---- Whether two are one.

abbrev equal : Look → Look → Bool
equal x y =
    option_eq nat_eq x.datatype y.datatype && (option_eq nat_eq x.rfm y.rfm && (option_eq nat_eq x.rat y.rat && (option_eq nat_eq x.bls y.bls
    && (option_eq nat_eq x.bks y.bks && (option_eq nat_eq x.fsz y.fsz && option_eq nat_eq x.bsz y.bsz)))))

field-is : (x y : Option ℕ) → option_eq nat_eq x y ≡ true → x ≡ y
field-is None None h = refl
field-is None (Some m) h = absurd cc
field-is (Some n) None h = absurd cc
field-is (Some n) (Some m) h = ap (λ k. Some k) (eqb-true n m h)

field-same : (x : Option ℕ) → option_eq nat_eq x x ≡ true
field-same None = refl
field-same (Some n) = eq-eqb n n refl

equal-is : (x y : Look) → equal x y ≡ true → x ≡ y
equal-is x y h =
    let one = both _ _ h in
    let two = both _ _ one.1 in
    let three = both _ _ two.1 in
    let four = both _ _ three.1 in
    let five = both _ _ four.1 in
    let six = both _ _ five.1 in
    rw (field-is x.datatype y.datatype one.0, field-is x.rfm y.rfm two.0, field-is x.rat y.rat three.0, field-is x.bls y.bls four.0, field-is x.bks y.bks five.0, field-is x.fsz y.fsz six.0, field-is x.bsz y.bsz six.1) refl

equal-same : (x : Look) → equal x x ≡ true
equal-same x = rw (field-same x.datatype, field-same x.rfm, field-same x.rat, field-same x.bls, field-same x.bks, field-same x.fsz, field-same x.bsz) refl

pub differ : (x y : Look) (b : Bool) → b ≡ true → b ≡ not (equal x y) → x ≡ y → ⊥
differ x y b t is e =
    let all : equal x y ≡ true = subst (λ (z : Look). equal x z ≡ true) e (equal-same x) in
    let never : true ≡ false = sym t ∙ is ∙ ap not all in
    cc

by-not : (b : Bool) → false ≡ not b → b ≡ true
by-not true h = refl
by-not false h = absurd cc

pub agree : (x y : Look) (b : Bool) → b ≡ false → b ≡ not (equal x y) → x ≡ y
agree x y b t is = equal-is x y (by-not (equal x y) (sym t ∙ is))
