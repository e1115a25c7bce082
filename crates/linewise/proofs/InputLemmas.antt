-- What was taken of a reader.
use Rattle.std.proofs.Common.{◌≡◌, ◌∙◌, sym, ap, ℕ, List, ◌++◌, length, Option, Result, Ok, Err, arith, length-append}
use Rattle.std.specs.Io.KnownBytes.{Consumes}
use Rattle.std.proofs.KnownBytes.{Consumes-trans}
use Rattle.linewise.specs.Gives.{TakesAnInput, TakesWithinLimit}
use Rattle.linewise.specs.Input.{TakesAfter, TakesUpTo}

-- this many of the known bytes, from the front
unfoldable pub HasTaken : ℕ → Option (List ℕ) → Option (List ℕ) → Type 0
HasTaken count old now = (taken : List ℕ) × (count ≡ length taken) × Consumes old now taken

-- with what is taken after it
pub takes_then : (count : ℕ) (old now new : Option (List ℕ)) → HasTaken count old now → TakesAfter count now new → TakesWithinLimit old new
unfolding HasTaken TakesAfter
takes_then count old now new before behind =
    (before.0 ++ behind.0, Consumes-trans old now new before.0 behind.0 before.2 behind.1, omega (arith, before.1, behind.2, length-append before.0 behind.0))

pub takes_up_to_then : (count : ℕ) (old now new : Option (List ℕ)) → HasTaken count old now → TakesUpTo count now new → TakesAnInput old new
unfolding HasTaken TakesUpTo
takes_up_to_then count old now new before behind =
    (before.0 ++ behind.0, Consumes-trans old now new before.0 behind.0 before.2 behind.1, omega (arith, before.1, behind.2, length-append before.0 behind.0))

-- this many, where they are these
pub has_taken : (count : ℕ) (old now : Option (List ℕ)) (taken : List ℕ) → count ≡ length taken → Consumes old now taken → HasTaken count old now
unfolding HasTaken
has_taken count old now taken counted before = (taken, counted, before)

-- ---- What was read is no fault.

abbrev tag : {T E : Type 0} → Result T E → ℕ
tag (Ok x) = 0
tag (Err e) = 1

pub ok_apart : {T E : Type 0} (r : Result T E) (x : T) (e : E) → r ≡ Ok x → r ≡ Err e → ⊥
ok_apart {T} {E} r x e good bad = let no : 0 ≡ 1 = ap (λ (s : Result T E). tag s) (sym good ∙ bad) in omega (arith, no)
