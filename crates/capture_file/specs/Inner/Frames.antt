-- A frame is within what is kept.
use Rattle.std.specs.Prelude.{ℕ, List}
use Rattle.capture_file.specs.Reading.{IsWithinKept}
use Rattle.capture_file.specs.declared.meaning.Meaning.{Meaning}
use Rattle.capture_file.specs.declared.meaning.Meaning.TheVariants.{Begins, Describes, Gives, Nothing}

-- the frame that it says is within what is kept
abbrev pub HasFrame : List ℕ → Meaning → Type 0
HasFrame kept (Gives given) = IsWithinKept kept given
HasFrame kept (Begins format) = Unit {0}
HasFrame kept (Describes interface) = Unit {0}
HasFrame kept Nothing = Unit {0}
