-- The first bytes of an input tell its form.
use Rattle.std.proofs.Common.{◌≡◌, ◌∙◌, refl, sym, ap, subst, arith, ℕ, ◌<◌, zero, suc, append_assoc, get_or, inl, inr, List, [], ◌∷◌, ◌++◌, length, length-append, take}
use Rattle.std.proofs.lemmas.Bool.Decides.{leb_tells}
use Rattle.std.proofs.lemmas.List.{take-append-le}
use Rattle.std.proofs.Math.Seq.{take-append_seam}
use Rattle.std.specs.Prelude.{Option, None, Some, IfSome, if◌then◌else◌, is_some}
use Rattle.std.specs.Int.{to_be_bytes, w32}
use Rattle.std.specs.Io.KnownBytes.{Consumes}
use Rattle.capture_file.specs.Units.{file_kind_of, section_type}
use Rattle.capture_file.specs.declared.kinds.FileKind.{FileKind}
use Rattle.capture_file.specs.declared.kinds.FileKind.TheVariants.{Pcapng}
use Rattle.cap_cli.specs.Forms.{form_of, form_of_lines}
use Rattle.cap_cli.specs.Inner.Fronts.{MayTellMore}
use Rattle.cap_cli.specs.declared.form.Form.TheVariants.{File}

-- where nothing after the first bytes makes another file of them, nothing makes another form of them
pub form_same : (front : List ℕ) → ((more : List ℕ) → file_kind_of (front ++ more) ≡ file_kind_of front) → (more : List ℕ) → form_of (front ++ more) ≡ form_of front
form_same [] closed more = let no : Some Pcapng ≡ None = closed (to_be_bytes w32 section_type) in cc
form_same (first ∷ others) closed more =
    ap (λ (kind : Option FileKind). if is_some kind then File else form_of_lines (first ∷ others)) (closed more)

-- where what comes after says nothing more
pub told : (known left : Option (List ℕ)) (front : List ℕ) → Consumes known left front → ((more : List ℕ) → form_of (front ++ more) ≡ form_of front)
    → IfSome known (λ input. form_of front ≡ form_of input)
told None left front came closed = tt
told (Some input) None front came closed = absurd came
told (Some input) (Some rest) front came closed = sym (ap form_of came ∙ closed rest)

-- one more byte, after bytes of which more may be told
pub needed_more : (front : List ℕ) (byte : ℕ) → ((k : ℕ) → k < length front → MayTellMore (take k front)) → MayTellMore front
    → (k : ℕ) → k < length (front ++ byte ∷ []) → MayTellMore (take k (front ++ byte ∷ []))
needed_more front byte before now k less =
    elim (leb_tells (suc k) (length front)) [
      | inl sooner ↦ subst MayTellMore (sym (take-append-le k front (byte ∷ []) (omega (arith, sooner.1)))) (before k sooner.1)
      | inr last ↦
          let whole = length-append front (byte ∷ []) in
          let is : k ≡ length front = omega (arith, last.1, less, whole) in
          subst MayTellMore (sym (ap (λ (n : ℕ). take n (front ++ byte ∷ [])) is ∙ take-append_seam front (byte ∷ []))) now
    ]

one_byte : (n : ℕ) (buf : List ℕ) → length buf ≡ 1 → (n ≡ 0 → ⊥) → take n buf ≡ get_or buf 0 0 ∷ []
one_byte n [] long some = let no : 0 ≡ 1 = long in absurd (omega (arith, no))
one_byte zero (x ∷ buf) long some = absurd (some refl)
one_byte (suc zero) (x ∷ []) long some = refl
one_byte (suc (suc n)) (x ∷ []) long some = refl
one_byte (suc n) (x ∷ y ∷ buf) long some = absurd (omega (arith, long))

-- one byte more was read
pub one_read : (a b c : Option (List ℕ)) (front buf : List ℕ) (n : ℕ) → Consumes a b front → Consumes b c (take n buf) → length buf ≡ 1 → (n ≡ 0 → ⊥)
    → Consumes a c (front ++ get_or buf 0 0 ∷ [])
one_read None b c front buf n first one long some = tt
one_read (Some all) None c front buf n first one long some = absurd first
one_read (Some all) (Some rest) None front buf n first one long some = absurd one
one_read (Some all) (Some rest) (Some left) front buf n first one long some =
    let byte = one_byte n buf long some in
    first ∙ ap (λ (l : List ℕ). front ++ l) (one ∙ ap (λ (l : List ℕ). l ++ left) byte) ∙ sym (append_assoc front (get_or buf 0 0 ∷ []) left)
