-- What attributes ask for is what a file may have.
use Rattle.std.proofs.Common.{◌≡◌, ◌≢◌, ℕ, ◌+◌, ◌<◌, ◌≤◌, Bool, true, false, [], Option, Some, None, refl, sym, ap, subst, ◌∙◌, inl, inr, arith, lit≤}
use Rattle.std.specs.Prelude.{◌⊎◌, IfSome, IsTrue, ◌&&◌, ◌||◌, nat_eq, nat_le, nat_lt, if◌then◌else◌, option_map, unwrap_or}
use Rattle.std.proofs.lemmas.Bool.{cases_lt, lt-ltb, le-ltb, le-leb, lt-leb, leb-true, eqb-true, eqb-false}
use Rattle.dap_msg.specs.BothEnds.{number_of}
use Rattle.dap_msg.specs.Fitting.{FieldsFit}
use Rattle.dap_msg.specs.declared.message.Message.TheVariants.{Attrib}
use Rattle.dap_msg.specs.declared.message.Attributes.{Attributes}
use Rattle.rec_file.specs.declared.shapes.Org.{Org}
use Rattle.rec_file.specs.declared.shapes.Org.TheVariants.{Seq, Rel}
use Rattle.rec_file.specs.declared.shapes.Format.{Format}
use Rattle.rec_file.specs.declared.shapes.Format.TheVariants.{Fixed, Variable}
use Rattle.rec_file.specs.declared.shapes.Shape.{Shape}
use Rattle.rec_file.specs.Limits.{max_byte, max_word, max_datatype, max_rat, max_record, max_record_number}
use Rattle.rec_file.specs.Shapes.{is_shape, has_length, kept_mrn, org_of_code, format_of_code, shape_of as shape_asked}
use Rattle.rec_file.specs.Looks.{fronted, exceeds_front, IsFieldWithin, IsOtherFormat, IsFront, LookFits}
use Rattle.rec_file.proofs.ForCallers.{plain-look, is_look}
use Rattle.dap_accessed.specs.declared.asked.Asked.{Asked}
use Rattle.dap_accessed.specs.Asked.{plainly, IsAsked, shape_format, said_front, kept_front, kept_format, record_limit, look_of, full_shape, is_within, are_within, asked_fully}
use Rattle.dap_accessed.specs.Past.{asked_shape, asked_file}
use Rattle.dap_accessed.proofs.Kept.{both, neither}

-- a file may have the shape
abbrev IsGood : Option Shape → Type 0
IsGood shape = IfSome shape (λ s. IsTrue (is_shape s))

allowed : (org : Org) (format : Format) (mrs mrn : ℕ) (b : Bool) → (has_length format mrs && nat_le mrs max_record && nat_le mrn max_record_number) ≡ b
    → IsGood (if b then Some (record { org = org; format = format; mrs = mrs; mrn = kept_mrn org mrn }) else None)
allowed org format mrs mrn false e = tt
allowed Seq format mrs mrn true e = ap (λ b. b && true && true) (both (has_length format mrs && nat_le mrs max_record) (nat_le mrn max_record_number) e).0
allowed Rel format mrs mrn true e = ap (λ b. b && true) e

good-of : (org : Option Org) (format : Option Format) (mrs mrn : ℕ) → IsGood (shape_asked org format mrs mrn)
good-of None format mrs mrn = tt
good-of (Some org) None mrs mrn = tt
good-of (Some org) (Some format) mrs mrn = allowed org format mrs mrn _ refl

-- a file may be made as it is asked for
abbrev pub Good : Option Asked → Type 0
Good asked = IfSome asked IsAsked

-- of a good shape alone
good-plainly : (shape : Option Shape) → IsGood shape → Good (option_map plainly shape)
good-plainly None g = tt
good-plainly (Some s) g = record { shape = g; look = plain-look s }

-- ---- By a full server.

-- a shape has this format, and this limit of its records
record IsOf (format : Option Format) (mrs : ℕ) (shape : Shape) : Type 0 where
  pub same_format : format ≡ Some shape.format
  pub same_limit : mrs ≡ shape.mrs

parts : (org : Option Org) (format : Option Format) (mrs mrn : ℕ) (shape : Shape) → shape_asked org format mrs mrn ≡ Some shape → IsOf format mrs shape
parts None format mrs mrn shape e = absurd cc
parts (Some org) None mrs mrn shape e = absurd cc
parts (Some org) (Some format) mrs mrn shape e = given (has_length format mrs && nat_le mrs max_record && nat_le mrn max_record_number) e
  where
    given : (b : Bool) → (if b then Some (record { org = org; format = format; mrs = mrs; mrn = kept_mrn org mrn }) else None) ≡ Some shape → IsOf (Some format) mrs shape
    given true e =
        let made : Shape = record { org = org; format = format; mrs = mrs; mrn = kept_mrn org mrn } in
        let same : made ≡ shape = cc in
        record { same_format = ap (λ (s : Shape). Some s.format) same; same_limit = ap (λ (s : Shape). s.mrs) same }
    given false e = absurd cc

-- ---- Tests.

or-second : (b c : Bool) → c ≡ true → (b || c) ≡ true
or-second true c h = refl
or-second false c h = h

picks : (b : Bool) (x y : ℕ) → b ≡ true → (if b then x else y) ≡ x
picks true x y h = refl
picks false x y h = absurd cc

passes : (b : Bool) (x y : ℕ) → b ≡ false → (if b then x else y) ≡ y
passes true x y h = absurd cc
passes false x y h = refl

no-format : (b c : Bool) → b ≡ false → c ≡ false → (if b then Some Fixed else if c then Some Variable else None) ≡ None
no-format true c h k = absurd cc
no-format false true h k = absurd cc
no-format false false h k = refl

-- where RFM is kept, the format is the variable one
format-kept : (rfm : Option ℕ) (f : Format) → format_of_code (shape_format (unwrap_or rfm 2)) ≡ Some f → IfSome (kept_format rfm) (λ r. (f ≡ Variable) × IsOtherFormat r)
format-kept None f e = tt
format-kept (Some r) f e = by (nat_eq r 1 || nat_eq r 2) refl (cases_lt 6 r)
  where
    by : (b : Bool) → (nat_eq r 1 || nat_eq r 2) ≡ b → (6 < r) ⊎ (r ≤ 6) → IfSome (if b then None else Some r) (λ r. (f ≡ Variable) × IsOtherFormat r)
    by true t o = tt
    by false t (inl above) =
        let parts = neither (nat_eq r 1) (nat_eq r 2) t in
        let own : shape_format r ≡ r = picks (nat_eq r 1 || nat_lt 6 r) r 2 (or-second (nat_eq r 1) (nat_lt 6 r) (lt-ltb 6 r above)) in
        let none : format_of_code r ≡ None = no-format (nat_eq r 1) (nat_eq r 2) parts.0 parts.1 in
        let some : None ≡ Some f = sym none ∙ sym (ap format_of_code own) ∙ e in
        absurd cc
    by false t (inr within) =
        let parts = neither (nat_eq r 1) (nat_eq r 2) t in
        let two : shape_format r ≡ 2 = passes (nat_eq r 1 || nat_lt 6 r) r 2 (ap (λ c. nat_eq r 1 || c) (le-ltb 6 r within) ∙ ap (λ c. c || false) parts.0) in
        let some : Some Variable ≡ Some f = sym (ap format_of_code two) ∙ e in
        ((let same : Variable ≡ f = cc in sym same), (within, eqb-false r 1 parts.0, eqb-false r 2 parts.1))

said-by : (n : ℕ) (b : Bool) → nat_eq n 0 ≡ b → n ≤ max_byte → (1 ≤ (if b then 2 else n)) × ((if b then 2 else n) ≤ max_byte)
said-by n true t le = (lit≤ tt, lit≤ tt)
said-by n false t le = let some : n ≢ 0 = eqb-false n 0 t in (omega arith, le)

said-bounds : (fsz : Option ℕ) → is_within max_byte fsz ≡ true → (1 ≤ said_front fsz) × (said_front fsz ≤ max_byte)
said-bounds None h = (lit≤ tt, lit≤ tt)
said-bounds (Some n) h = said-by n (nat_eq n 0) refl (leb-true n max_byte h)

-- FSZ is kept where RFM is 3
front-kept : (rfm fsz : Option ℕ) → is_within max_byte fsz ≡ true → IsFront (kept_format rfm) (kept_front (unwrap_or rfm 2) fsz)
front-kept None fsz h = λ e. cc
front-kept (Some r) fsz h = by (nat_eq r fronted) refl
  where
    other : (c : Bool) → nat_eq r fronted ≡ false → (if c then None else Some r) ≡ Some fronted → ⊥
    other true t e = cc
    other false t e = eqb-false r fronted t (let is : r ≡ fronted = cc in is)

    by : (b : Bool) → nat_eq r fronted ≡ b → IsFront (kept_format (Some r)) (if b then Some (said_front fsz) else None)
    by true t =
        let bounds = said-bounds fsz h in
        subst (λ n. IsFront (kept_format (Some n)) (Some (said_front fsz))) (sym (eqb-true r fronted t)) (refl, bounds.0, bounds.1)
    by false t = other (nat_eq r 1 || nat_eq r 2) t

room-by : (mrs front : ℕ) (b : Bool) → nat_eq mrs 0 ≡ b → IsTrue (exceeds_front (if b then 0 else mrs + front) front)
room-by mrs front true t = refl
room-by mrs front false t =
    let some : mrs ≢ 0 = eqb-false mrs 0 t in
    or-second (nat_eq (mrs + front) 0) (nat_lt front (mrs + front)) (lt-ltb front (mrs + front) (omega arith))

room : (mrs front : ℕ) → IsTrue (exceeds_front (record_limit mrs front) front)
room mrs front = room-by mrs front (nat_eq mrs 0) refl

at-most : (most : ℕ) (field : Option ℕ) → is_within most field ≡ true → IsFieldWithin most field
at-most most None h = tt
at-most most (Some n) h = leb-true n most h

kept-fully : (a : Attributes) (shape : Shape) → are_within a ≡ true → full_shape a ≡ Some shape → LookFits shape (look_of a)
kept-fully a shape w e =
    let of = parts (org_of_code (unwrap_or a.org 0)) (format_of_code (shape_format (unwrap_or a.rfm 2))) (record_limit (unwrap_or a.mrs 0) (unwrap_or (kept_front (unwrap_or a.rfm 2) a.fsz) 0)) (number_of (unwrap_or a.mrn [])) shape e in
    let one = both _ _ w in
    let two = both _ _ one.1 in
    let three = both _ _ two.1 in
    let four = both _ _ three.1 in
    let five = both _ _ four.1 in
    record {
      datatype = at-most max_datatype a.datatype one.0;
      rat = at-most max_rat a.rat two.0;
      bls = at-most max_word a.bls three.0;
      bks = at-most max_byte a.bks four.0;
      bsz = at-most max_byte a.bsz five.1;
      format = format-kept a.rfm shape.format of.same_format;
      front = front-kept a.rfm a.fsz five.0;
      limit = subst (λ n. IsTrue (exceeds_front n (unwrap_or (kept_front (unwrap_or a.rfm 2) a.fsz) 0))) of.same_limit (room (unwrap_or a.mrs 0) (unwrap_or (kept_front (unwrap_or a.rfm 2) a.fsz) 0));
    }

good-fully : (a : Attributes) → Good (asked_fully a)
unfolding asked_fully
good-fully a = by (are_within a) (full_shape a) refl refl
  where
    by : (b : Bool) (shape : Option Shape) → are_within a ≡ b → full_shape a ≡ shape → Good (if b then option_map (λ s. record { shape = s; look = look_of a }) shape else None)
    by false shape w e = tt
    by true None w e = tt
    by true (Some s) w e =
        record {
          shape = subst IsGood e (good-of (org_of_code (unwrap_or a.org 0)) (format_of_code (shape_format (unwrap_or a.rfm 2))) (record_limit (unwrap_or a.mrs 0) (unwrap_or (kept_front (unwrap_or a.rfm 2) a.fsz) 0)) (number_of (unwrap_or a.mrn [])));
          look = is_look s (look_of a) (kept-fully a s w e);
        }

pub good-file : (full : Bool) (a : Attributes) → Good (asked_file full a)
good-file true a = good-fully a
good-file false a =
    good-plainly (asked_shape a) (good-of (org_of_code (unwrap_or a.org 0)) (format_of_code (unwrap_or a.rfm 2)) (unwrap_or a.mrs 0) (number_of (unwrap_or a.mrn [])))

-- ---- Of a message that was read.

within-field : (most limit : ℕ) (field : Option ℕ) → limit ≡ most + 1 → IfSome field (λ n. n < limit) → is_within most field ≡ true
within-field most limit None e h = refl
within-field most limit (Some n) e h = le-leb n most (omega arith)

-- its fields are within those of the message
pub read-within : (a : Attributes) → FieldsFit (Attrib a) → are_within a ≡ true
read-within a f =
    let datatype = within-field max_datatype 16384 a.datatype refl f.0 in
    let rat = within-field max_rat 2097152 a.rat refl f.3 in
    let bls = within-field max_word 65536 a.bls refl f.4 in
    let bks = within-field max_byte 256 a.bks refl f.7 in
    let fsz = within-field max_byte 256 a.fsz refl f.8 in
    let bsz = within-field max_byte 256 a.bsz refl f.13 in
    all6 _ _ _ _ _ _ datatype rat bls bks fsz bsz
  where
    all6 : (b c d e g h : Bool) → b ≡ true → c ≡ true → d ≡ true → e ≡ true → g ≡ true → h ≡ true → (b && (c && (d && (e && (g && h))))) ≡ true
    all6 true true true true true true p q r s t u = refl
    all6 false c d e g h p q r s t u = absurd cc
    all6 true false d e g h p q r s t u = absurd cc
    all6 true true false e g h p q r s t u = absurd cc
    all6 true true true false g h p q r s t u = absurd cc
    all6 true true true true false h p q r s t u = absurd cc
    all6 true true true true true false p q r s t u = absurd cc

-- what a full server is asked for by it
fully : (a : Attributes) → FieldsFit (Attrib a) → asked_fully a ≡ option_map (λ s. let asked : Asked = record { shape = s; look = look_of a } in asked) (full_shape a)
unfolding asked_fully
fully a f = ap (λ b. if b then option_map (λ s. let asked : Asked = record { shape = s; look = look_of a } in asked) (full_shape a) else None) (read-within a f)

pub some_fully : (a : Attributes) (shape : Shape) → FieldsFit (Attrib a) → Some shape ≡ full_shape a → Some (record { shape = shape; look = look_of a }) ≡ asked_fully a
some_fully a shape f e = ap (option_map (λ s. let asked : Asked = record { shape = s; look = look_of a } in asked)) e ∙ sym (fully a f)

pub none_fully : (a : Attributes) → FieldsFit (Attrib a) → None ≡ full_shape a → None ≡ asked_fully a
none_fully a f e = ap (option_map (λ s. let asked : Asked = record { shape = s; look = look_of a } in asked)) e ∙ sym (fully a f)

-- it may be made so
pub a_good_file : (full : Bool) (a : Attributes) (asked : Option Asked) → asked ≡ asked_file full a → IfSome asked IsAsked
a_good_file full a asked e = subst Good (sym e) (good-file full a)

pub a_file_made_fully : (a : Attributes) (asked : Option Asked) → asked ≡ asked_fully a → IfSome asked IsAsked
a_file_made_fully a asked e = subst Good (sym e) (good-fully a)

abbrev made : Org → Format → (mrs mrn : ℕ) → Shape
made org format mrs mrn = record { org = org; format = format; mrs = mrs; mrn = kept_mrn org mrn }

-- a limit above that of every file
too-long : (org : Option Org) (format : Option Format) (mrs mrn : ℕ) → max_record < mrs → shape_asked org format mrs mrn ≡ None
too-long None format mrs mrn h = refl
too-long (Some org) None mrs mrn h = refl
too-long (Some org) (Some format) mrs mrn h = by (has_length format mrs) (nat_le mrs max_record) (nat_le mrn max_record_number) (lt-leb mrs max_record h)
  where
    by : (b c d : Bool) → c ≡ false → (if b && c && d then Some (made org format mrs mrn) else None) ≡ None
    by true false d e = refl
    by false false d e = refl
    by b true d e = absurd cc

longer-by : (mrs front : ℕ) (b : Bool) → nat_eq mrs 0 ≡ b → max_record < mrs → max_record < (if b then 0 else mrs + front)
longer-by mrs front true t h = let none : mrs ≡ 0 = eqb-true mrs 0 t in omega arith
longer-by mrs front false t h = omega arith

longer : (mrs front : ℕ) → max_record < mrs → max_record < record_limit mrs front
longer mrs front h = longer-by mrs front (nat_eq mrs 0) refl h

-- and an MRS above it
pub none_too_long : (a : Attributes) → max_record < unwrap_or a.mrs 0 → None ≡ full_shape a
none_too_long a h =
    sym (too-long (org_of_code (unwrap_or a.org 0)) (format_of_code (shape_format (unwrap_or a.rfm 2))) (record_limit (unwrap_or a.mrs 0) (unwrap_or (kept_front (unwrap_or a.rfm 2) a.fsz) 0)) (number_of (unwrap_or a.mrn []))
    (longer (unwrap_or a.mrs 0) (unwrap_or (kept_front (unwrap_or a.rfm 2) a.fsz) 0) h))
