-- What holds where a reader's bytes are known, and what words ask for.
use Rattle.std.proofs.Common.{◌≡◌, ◌∙◌, refl, sym, subst, ℕ, List, ◌++◌}
use Rattle.std.specs.Prelude.{Option, Some, None, IfSome, Result, Ok}
use Rattle.std.specs.Fmt.{option_append}
use Rattle.std.specs.Io.KnownBytes.{Consumes, Keeps}
use Rattle.cap_cli.specs.Forms.{form_of}
use Rattle.cap_cli.specs.Words.{WantedListing, Wished, WrongWord, wished_listing}
use Rattle.cap_cli.specs.declared.form.Form.{Form}

-- what follows of known bytes
pub some_from : (known : Option (List ℕ)) {P Q : List ℕ → Type 0} → IfSome known P → ((input : List ℕ) → P input → Q input) → IfSome known Q
some_from None holds follows = tt
some_from (Some input) holds follows = follows input holds

-- known bytes are kept by what doesn't write
pub untouched : (known : Option (List ℕ)) → Keeps known known
untouched None = tt
untouched (Some bytes) = refl

at_input : (P : Form → List ℕ → Type 0) (form : Form) (whole input : List ℕ) → form ≡ form_of input → input ≡ whole → P form whole → P (form_of input) input
at_input P form whole input is same holds = subst (λ (f : Form). P f input) is (subst (λ (l : List ℕ). P form l) (sym same) holds)

-- what holds of the first bytes and those after them, by the form that the first ones tell, holds of the input
pub joined : (known left chained : Option (List ℕ)) (front : List ℕ) (form : Form) (P : Form → List ℕ → Type 0) → Consumes known left front
    → IfSome known (λ input. form_of front ≡ form_of input) → chained ≡ option_append (Some front) left → form ≡ form_of front
    → IfSome chained (λ input. P form input) → IfSome known (λ input. P (form_of input) input)
joined None left chained front form P came told chain is holds = tt
joined (Some input) None chained front form P came told chain is holds = absurd came
joined (Some input) (Some rest) chained front form P came told chain is holds =
    at_input P form (front ++ rest) input (is ∙ told) came (subst (λ (c : Option (List ℕ)). IfSome c (λ all. P form all)) chain holds)

-- the words ask for one listing
pub one_wanted : (read : Result Wished WrongWord) (a b : WantedListing) → read ≡ Ok (wished_listing a) → read ≡ Ok (wished_listing b) → a ≡ b
one_wanted read a b first second = let same : Ok (wished_listing a) ≡ Ok (wished_listing b) = sym first ∙ second in cc
