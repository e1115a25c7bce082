-- What a writer holds after one more write.
use Rattle.std.proofs.Common.{◌≡◌, ◌+◌, ◌++◌, ℕ, List, length, take, drop, sym, arith, length-append, Option}
use Rattle.std.specs.Io.KnownBytes.{Appends, Keeps}
use Rattle.std.proofs.KnownBytes.{Appends-trans, Appends-kept}
use Rattle.std.proofs.Math.Seq.{take-add, take-append-add, take-length}
use Rattle.std.proofs.lemmas.List.{take-append-le}
use Rattle.linewise.specs.Output.{WritesFront}

pub take_further : (written count : ℕ) (text : List ℕ) → take written text ++ take count (drop written text) ≡ take (written + count) text
take_further written count text = sym (take-add written count text)

pub writes_further : (old mid new : Option (List ℕ)) (written count : ℕ) (text : List ℕ) → Appends old mid (take written text) → Appends mid new (take count (drop written text)) → Appends old new (take (written + count) text)
writes_further old mid new written count text before now = rw (take_further written count text) at (Appends-trans old mid new (take written text) (take count (drop written text)) before now)

pub both : (old mid new : Option (List ℕ)) (first second : List ℕ) → Appends old mid first → Appends mid new second → Appends old new (first ++ second)
both old mid new first second = Appends-trans old mid new first second

-- a front of the first text is one of both
pub front_of_first : (old new : Option (List ℕ)) (first second : List ℕ) → WritesFront old new first → WritesFront old new (first ++ second)
front_of_first old new first second front =
    (front.0, omega (arith, front.1, length-append first second), rw (take-append-le front.0 first second front.1) front.2)

-- the first text, and a front of the second
pub front_behind : (old mid new : Option (List ℕ)) (first second : List ℕ) → Appends old mid first → WritesFront mid new second → WritesFront old new (first ++ second)
front_behind old mid new first second before front = (
  length first + front.0,
  omega (arith, front.1, length-append first second),
  rw (take-append-add first second front.0) (Appends-trans old mid new first (take front.0 second) before front.2),
)

-- the writer keeps what it holds
pub front_kept : (old mid new : Option (List ℕ)) (text : List ℕ) → Appends old mid text → Keeps mid new → WritesFront old new text
front_kept old mid new text wrote keeps =
    (length text, omega arith, rw (take-length text) (Appends-kept old mid new text wrote keeps))
