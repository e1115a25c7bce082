-- The last line of an answer.
use Rattle.std.specs.Prelude.{ℕ, List, ◌++◌, codes}
use Rattle.std.specs.Fmt.{decimal}

-- the last line
abbrev pub waits_text : ℕ → List ℕ
waits_text count = codes "waits " ++ (decimal count ++ codes "\n")
