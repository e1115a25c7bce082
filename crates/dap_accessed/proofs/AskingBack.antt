-- The attributes of a file ask a full server for such a file.
use Rattle.std.proofs.Common.{◌≡◌, ℕ, ◌-◌, ◌^◌, ◌<◌, Bool, true, false, Option, Some, None, refl, sym, ap, subst, ◌∙◌, arith}
use Rattle.std.specs.Prelude.{IfSome, IsTrue, ◌&&◌, ◌||◌, nat_eq, if◌then◌else◌, unwrap_or}
use Rattle.std.proofs.lemmas.Bool.{le-leb}
use Rattle.std.proofs.lemmas.Bool.Decides.{nat_tests}
use Rattle.dap_msg.specs.BothEnds.{number_of, four_bytes}
use Rattle.dap_msg.specs.declared.message.Attributes.{Attributes}
use Rattle.rec_file.specs.declared.look.Look.{Look}
use Rattle.rec_file.specs.declared.shapes.Org.{Org}
use Rattle.rec_file.specs.declared.shapes.Org.TheVariants.{Seq, Rel}
use Rattle.rec_file.specs.declared.shapes.Format.{Format}
use Rattle.rec_file.specs.declared.shapes.Format.TheVariants.{Fixed, Variable}
use Rattle.rec_file.specs.declared.shapes.Shape.{Shape}
use Rattle.rec_file.specs.Limits.{max_byte, max_word, max_datatype, max_rat}
use Rattle.rec_file.specs.Shapes.{checked_shape, format_of_code, is_shape, org_of_code, shape_of}
use Rattle.rec_file.specs.Looks.{fronted, front_size, exceeds_front, LookFits, IsFieldWithin, IsFront, IsLook, IsOtherFormat}
use Rattle.rec_file.proofs.ForCallers.{are_kept}
use Rattle.dap_accessed.specs.Asked.{shape_format, said_front, kept_front, kept_format, record_limit, look_of, full_shape, is_within, are_within, asked_fully}
use Rattle.dap_accessed.specs.Replies.{file_attributes, format_number, given_limit, org_number}

-- ---- Each field.

within : (most : ℕ) (field : Option ℕ) → IsFieldWithin most field → is_within most field ≡ true
within most None h = refl
within most (Some n) h = le-leb n most h

front-within : (rfm fsz : Option ℕ) → IsFront rfm fsz → is_within max_byte fsz ≡ true
front-within rfm None h = refl
front-within rfm (Some n) h = le-leb n max_byte h.2

all-within : (b c d e g h : Bool) → b ≡ true → c ≡ true → d ≡ true → e ≡ true → g ≡ true → h ≡ true → (b && (c && (d && (e && (g && h))))) ≡ true
all-within true true true true true true p q r s t u = refl
all-within b c d e g h p q r s t u = cc

-- ---- RFM, and the fixed part in front.

other : (r : ℕ) → IsOtherFormat r → (nat_eq r 1 || nat_eq r 2) ≡ false
other r h = grind (arith, nat_tests, h.1, h.2)

format-told : (f : Format) (rfm : Option ℕ) → IfSome rfm (λ r. (f ≡ Variable) × IsOtherFormat r) → format_of_code (shape_format (unwrap_or rfm (format_number f))) ≡ Some f
format-told Fixed None h = refl
format-told Variable None h = refl
format-told f (Some r) h =
    let two : shape_format r ≡ 2 = grind (arith, nat_tests, h.1.0, h.1.1) in
    ap format_of_code two ∙ sym (ap (λ (x : Format). Some x) h.0)

format-kept : (f : Format) (rfm : Option ℕ) → IfSome rfm (λ r. (f ≡ Variable) × IsOtherFormat r) → kept_format (Some (unwrap_or rfm (format_number f))) ≡ rfm
format-kept Fixed None h = refl
format-kept Variable None h = refl
format-kept f (Some r) h = ap (λ b. if b then None else Some r) (other r h.1)

front-by : (r : ℕ) (fsz : Option ℕ) → IsFront (Some r) fsz → kept_front r fsz ≡ fsz
front-by r None h = by (nat_eq r fronted) refl
  where
    by : (b : Bool) → nat_eq r fronted ≡ b → (if b then Some (said_front None) else None) ≡ None
    by false t = refl
    by true t = absurd (h (grind (arith, nat_tests, t)))
front-by r (Some n) h =
    let is : r ≡ fronted = cc in
    let some : nat_eq n 0 ≡ false = grind (arith, nat_tests, h.1) in
    subst (λ k. kept_front k (Some n) ≡ Some n) (sym is) (ap (λ b. Some (if b then 2 else n)) some)

front-kept : (f : Format) (rfm fsz : Option ℕ) → IfSome rfm (λ r. (f ≡ Variable) × IsOtherFormat r) → IsFront rfm fsz → kept_front (unwrap_or rfm (format_number f)) fsz ≡ fsz
front-kept Fixed None None h k = refl
front-kept Variable None None h k = refl
front-kept f None (Some n) h k = absurd cc
front-kept f (Some r) fsz h k = front-by r fsz k

-- ---- The limit of the records.

limit-kept : (mrs front : ℕ) → IsTrue (exceeds_front mrs front) → record_limit (mrs - front) front ≡ mrs
limit-kept mrs front h = grind (arith, nat_tests, h)

-- ---- The shape.

org-back : (o : Org) → org_of_code (org_number o) ≡ Some o
org-back Seq = refl
org-back Rel = refl

named-back : (org : Org) (format : Format) (mrs mrn : ℕ) (shape : Shape) → shape ≡ record { org = org; format = format; mrs = mrs; mrn = mrn }
    → is_shape shape ≡ true → shape_of (Some org) (Some format) mrs mrn ≡ Some shape
named-back Seq format mrs mrn shape same good = grind (arith, nat_tests)
named-back Rel format mrs mrn shape same good = grind (arith, nat_tests)

number-small : (shape : Shape) → is_shape shape ≡ true → shape.mrn < 256 ^ 4
number-small shape good = grind (arith, nat_tests)

number-back : (n : ℕ) → n < 2 ^ 32 → number_of (four_bytes n) ≡ n
number-back n h = omega (arith, h)

shape-back : (shape : Shape) (rfm mrs n : ℕ) → is_shape shape ≡ true → format_of_code rfm ≡ Some shape.format → mrs ≡ shape.mrs → n ≡ shape.mrn
    → checked_shape (org_number shape.org) rfm mrs n ≡ Some shape
shape-back shape rfm mrs n good format limit number =
    rw (org-back shape.org, format, limit, number) (named-back shape.org shape.format shape.mrs shape.mrn shape refl good)

-- ---- All of it.

module _ (shape : Shape) (look : Look) (good : is_shape shape ≡ true) (kept : LookFits shape look) where
  abbrev told : Attributes
  told = file_attributes shape look

  front-told : kept_front (unwrap_or look.rfm (format_number shape.format)) look.fsz ≡ look.fsz
  front-told = front-kept shape.format look.rfm look.fsz kept.format kept.front

  are-told : are_within told ≡ true
  are-told =
      all-within _ _ _ _ _ _ (within max_datatype look.datatype kept.datatype) (within max_rat look.rat kept.rat) (within max_word look.bls kept.bls)
      (within max_byte look.bks kept.bks) (front-within look.rfm look.fsz kept.front) (within max_byte look.bsz kept.bsz)

  shape-told : full_shape told ≡ Some shape
  shape-told =
      let format = format-told shape.format look.rfm kept.format in
      let limit : record_limit (given_limit shape look) (unwrap_or (kept_front (unwrap_or look.rfm (format_number shape.format)) look.fsz) 0) ≡ shape.mrs =
      ap (λ (f : Option ℕ). record_limit (given_limit shape look) (unwrap_or f 0)) front-told ∙ limit-kept shape.mrs (front_size look) kept.limit in
      shape-back shape (shape_format (unwrap_or look.rfm (format_number shape.format))) (record_limit (given_limit shape look) (unwrap_or (kept_front (unwrap_or look.rfm (format_number shape.format)) look.fsz) 0))
      (number_of (four_bytes shape.mrn)) good format limit (number-back shape.mrn (omega (arith, number-small shape good)))

  look-told : look_of told ≡ look
  look-told =
      rw (format-kept shape.format look.rfm kept.format, front-told) refl

  asked-told : asked_fully told ≡ Some (record { shape = shape; look = look })
  unfolding asked_fully
  asked-told = rw (are-told, shape-told, look-told) refl

-- such a file is asked for by the attributes of a file
pub attributes-back : (shape : Shape) (look : Look) → is_shape shape ≡ true → IsLook shape look → asked_fully (file_attributes shape look) ≡ Some (record { shape = shape; look = look })
attributes-back shape look good is = asked-told shape look good (are_kept shape look is)

-- and what is kept with it is what was kept
pub look-back : (shape : Shape) (look : Look) → is_shape shape ≡ true → IsLook shape look → look_of (file_attributes shape look) ≡ look
look-back shape look good is = look-told shape look good (are_kept shape look is)
