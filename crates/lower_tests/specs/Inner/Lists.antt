-- A list of numbers and records, in the order of the numbers, as a relative file.
use Rattle.std.specs.Prelude.{List, ℕ}
use Rattle.std.specs.FinMap.{from_sorted}
use Rattle.rec_file.specs.declared.shapes.Shape.{Shape}
use Rattle.rec_file.specs.Files.{FileVal}
use Rattle.rec_file.specs.Looks.{plain_look}

-- the file of a shape and a list of numbers and records, of which nothing else is kept
abbrev pub list_file : Shape → List (ℕ × List ℕ) → FileVal
list_file shape pairs = record { shape = shape; look = plain_look; records = from_sorted pairs }
