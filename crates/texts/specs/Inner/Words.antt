-- What the words of the program are.
use Rattle.std.specs.Prelude.{ℕ, ◌+◌, ◌-◌, ◌*◌, List, [], Option, Some, None}
use Rattle.std.specs.List.{fold}
use Rattle.texts.specs.Words.{words_of}

-- the words of what is left of a line, and none where nothing is
abbrev pub words_left : Option (List ℕ) → List (List ℕ)
words_left None = []
words_left (Some line) = words_of line

-- what decimal digits stand for, one after another
abbrev pub decimal_value : List ℕ → ℕ
decimal_value digits = fold (λ number digit. 10 * number + (digit - 48)) 0 digits
