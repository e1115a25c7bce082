-- What holds of the order of a line, by its forms.
use Rattle.std.proofs.Common.{◌≡◌, Bool, true, false, List, [], ◌∷◌, refl}
use Rattle.std.specs.Prelude.{ℕ, Option, Some, None, bytes_eq, option_map, if◌then◌else◌}
use Rattle.std.specs.Option.{option_and_then, option_or}
use Rattle.texts.specs.Words.{Words, ends, field, one_of, word}

module _ {O : Type 0} (Fits : Option O → Type 0) (none : Fits None) where
  -- a line of one word, or the last word of a line
  pub ends_fit : (order : O) (words : Words) → Fits (Some order) → Fits (ends order words)
  ends_fit order [] h = h
  ends_fit order (w ∷ words) h = none

  next_fits : {X : Type 0} (next : X → Words → Option O) (o : Option X) (words : Words)
      → ((x : X) → o ≡ Some x → (more : Words) → Fits (next x more))
      → Fits (option_and_then {T = X × Words} (λ p. next p.0 p.1) (option_map (λ x. (x, words)) o))
  next_fits next None words h = none
  next_fits next (Some x) words h = h x refl words

  pub field_fits : {X : Type 0} (read : List ℕ → Option X) (next : X → Words → Option O)
      → ((w : List ℕ) (x : X) → read w ≡ Some x → (more : Words) → Fits (next x more)) → (words : Words) → Fits (field read next words)
  field_fits read next h [] = none
  field_fits read next h (w ∷ words) = next_fits next (read w) words (h w)

  either_fits : (one other : Option O) → Fits one → Fits other → Fits (option_or one other)
  either_fits None other h k = k
  either_fits (Some order) other h k = h

  if_fits : (b : Bool) (o : Option O) → Fits o → Fits (if b then o else None)
  if_fits true o k = k
  if_fits false o k = none

  -- a form of line, after its first word
  pub form_fits : (name : List ℕ) (next : Words → Option O) → ((words : Words) → Fits (next words)) → (words : Words) → Fits (word name next words)
  form_fits name next h [] = none
  form_fits name next h (w ∷ words) = if_fits (bytes_eq w name) (next words) (h words)

  -- forms that all are such
  pub AllFit : List (Words → Option O) → Type 0
  AllFit forms = (words : Words) → Fits (one_of forms words)

  pub none_fit : AllFit []
  unfolding AllFit
  none_fit words = none

  -- a form more
  pub also : (form : Words → Option O) (forms : List (Words → Option O)) → ((words : Words) → Fits (form words)) → AllFit forms → AllFit (form ∷ forms)
  unfolding AllFit
  also form forms h k words = either_fits (form words) (one_of forms words) (h words) (k words)

  pub all_fit : (forms : List (Words → Option O)) → AllFit forms → (words : Words) → Fits (one_of forms words)
  unfolding AllFit
  all_fit forms h words = h words
