-- Pages of 64 cells, and a list of them as the records of a relative file.
use Rattle.std.specs.Prelude.{◌≡◌, ◌≢◌, ℕ, zero, suc, ◌+◌, ◌-◌, ◌*◌, ◌%◌, ◌≤◌, ◌<◌, List, [], ◌∷◌, ◌++◌, length, Option, None, Some, is_some, IsSome, replicate, ◌==◌, ◌^◌, take, drop, slice_get, slice_set, if◌then◌else◌}
use Rattle.std.specs.BTreeMap.{insert_entry, is_at}
use Rattle.std.specs.Map.{lookup}
use Rattle.std.specs.Option.{unwrap_or}
use Rattle.std.specs.Ordering.{nat_cmp}
use Rattle.std.specs.List.{filter_map}
use Rattle.std.specs.Int.{bit_at}
use Rattle.std.specs.FinMap.{from_entries, get}
use Rattle.rec_file.specs.declared.look.Look.{Look}
use Rattle.rec_file.specs.declared.shapes.Shape.{Shape}
use Rattle.rec_file.specs.Limits.{max_record_number}
use Rattle.rec_file.specs.Files.{FileVal, lowest_from}
use Rattle.rec_file.specs.Pages.{page_of}

-- the cells of a page, each with a record or none
abbrev pub Cells : Type 0
Cells = List (Option (List ℕ))

-- the cell k, and none past the end
abbrev pub cell : {X : Type 0} → List (Option X) → ℕ → Option X
cell [] k = None
cell (c ∷ cs) zero = c
cell (c ∷ cs) (suc k) = cell cs k

-- a bit is set exactly where the cell is occupied
abbrev pub MasksCells : {X : Type 0} → ℕ → List (Option X) → Type 0
MasksCells mask cells = (k : ℕ) → k < 64 → bit_at mask k ≡ (if is_some (cell cells k) then 1 else 0)

-- the records of cells, in order
abbrev pub cell_bodies : Cells → List (List ℕ)
cell_bodies cells = filter_map (λ c. c) cells

-- how many cells below cell k are occupied
abbrev pub occupied_below : Cells → ℕ → ℕ
occupied_below cells k = length (cell_bodies (take k cells))

-- from cell k on, this many cells: those whose bit is set have the records, in order
unfoldable pub cells_from : ℕ → ℕ → ℕ → List (List ℕ) → Cells
cells_from mask k zero bodies = []
cells_from mask k (suc many) bodies =
    if bit_at mask k == 0
    then None ∷ cells_from mask (k + 1) many bodies
    else slice_get bodies 0 ∷ cells_from mask (k + 1) many (drop 1 bodies)

-- the 64 cells that a mask and the records of its set bits make
abbrev pub cells_of : ℕ → List (List ℕ) → Cells
cells_of mask bodies = cells_from mask 0 64 bodies

-- there is a record for each set bit, and no other
pub record IsPacked (mask : ℕ) (bodies : List (List ℕ)) : Type 0 where
  pub fits : mask < 2 ^ 64
  pub bits : MasksCells mask (cells_of mask bodies)
  pub records : bodies ≡ cell_bodies (cells_of mask bodies)

-- the records of cells, the first of which has the number n
abbrev pub numbered_cells : ℕ → Cells → List (ℕ × List ℕ)
numbered_cells n [] = []
numbered_cells n (None ∷ cs) = numbered_cells (n + 1) cs
numbered_cells n (Some body ∷ cs) = (n, body) ∷ numbered_cells (n + 1) cs

-- the cell of a number, from 1 on
abbrev pub cell_of : ℕ → ℕ
cell_of n = (n - 1) % 64

-- no record is in a page above it
abbrev pub last_page : ℕ
last_page = page_of max_record_number

-- the records of pages: page p begins with number 64 p + 1
abbrev pub paged : List (ℕ × Cells) → List (ℕ × List ℕ)
paged [] = []
paged (p ∷ ps) = numbered_cells (64 * p.0 + 1) p.1 ++ paged ps

-- the file of a shape, a look and pages
abbrev pub paged_file : Shape → Look → List (ℕ × Cells) → FileVal
paged_file shape look pages = record { shape = shape; look = look; records = from_entries (paged pages) }

-- the pages of a list of page numbers and slots, with their numbers
abbrev pub pages_at : (ℕ → Option Cells) → List (ℕ × ℕ) → List (ℕ × Cells)
pages_at kept [] = []
pages_at kept (e ∷ es) = (e.0, unwrap_or (kept e.1) []) ∷ pages_at kept es

-- none of them has this slot
abbrev pub NoneAt : ℕ → List (ℕ × ℕ) → Type 0
NoneAt slot [] = Unit {0}
NoneAt slot (e ∷ es) = (e.1 ≢ slot) × NoneAt slot es

-- no two have the same slot
abbrev pub HaveOwnSlots : List (ℕ × ℕ) → Type 0
HaveOwnSlots [] = Unit {0}
HaveOwnSlots (e ∷ es) = NoneAt e.1 es × HaveOwnSlots es

-- the record of a number, by its page and cell: what a reader may take for the meaning of pages
abbrev pub page_cell : Option Cells → ℕ → Option (List ℕ)
page_cell None k = None
page_cell (Some cells) k = cell cells k

-- each page has 64 cells, and one of them is occupied
pub record IsPage (cells : Cells) : Type 0 where
  pub size : length cells ≡ 64
  pub occupied : (k : ℕ) × IsSome (cell cells k)

-- cell k is the first from cell i on with a record
pub record IsFirstIn (cells : Cells) (i k : ℕ) : Type 0 where
  pub from_on : i ≤ k
  pub within : k < 64
  pub occupied : IsSome (cell cells k)
  pub none_before : (j : ℕ) → i ≤ j → j < k → cell cells j ≡ None

-- cell k is the last with a record
pub record IsLastIn (cells : Cells) (k : ℕ) : Type 0 where
  pub within : k < 64
  pub occupied : IsSome (cell cells k)
  pub none_after : (j : ℕ) → k < j → cell cells j ≡ None

-- a page with no record
abbrev pub empty_cells : Cells
empty_cells = replicate 64 None

-- the pages with a record added, in one that is there or else in a new one
abbrev pub put_entry : List (ℕ × Cells) → ℕ → ℕ → List ℕ → List (ℕ × Cells)
put_entry pages at k body =
    insert_entry nat_cmp pages at (slice_set (unwrap_or (lookup (is_at (nat_cmp at)) pages) empty_cells) k (Some body))

-- the lowest occupied number from one on, and the page where its record is
pub record IsSpot (f : FileVal) (n m : ℕ) (cells : Cells) : Type 0 where
  pub above : 1 ≤ m
  pub lowest : lowest_from f.records n ≡ Some m
  pub same : cell cells (cell_of m) ≡ get f.records m
  pub within : m ≤ max_record_number
