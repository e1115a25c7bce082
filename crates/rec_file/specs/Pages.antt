-- Pages of 64 numbers, as a relative file keeps them.
use Rattle.std.specs.Prelude.{ℕ, ◌-◌, ◌/◌, nat_eq, map}
use Rattle.std.specs.FinMap.{keys}
use Rattle.std.specs.Set.{distinct_count}
use Rattle.rec_file.specs.Files.{Records}

-- the page, from 0 on, of a number from 1 on
abbrev pub page_of : ℕ → ℕ
page_of n = (n - 1) / 64

-- how many pages have a record: the different pages of the occupied numbers
abbrev pub occupied_pages : Records → ℕ
occupied_pages m = distinct_count nat_eq (map page_of (keys m))
