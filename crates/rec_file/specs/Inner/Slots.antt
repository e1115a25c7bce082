-- The slots of pages, in groups by the pages' numbers.
use Rattle.std.specs.Prelude.{◌≡◌, ◌≢◌, ◌<◌, ◌⊎◌, ℕ, ◌+◌, ◌/◌, ◌++◌, Bool, true, false, List, [], ◌∷◌, Option, Some, None, IfSome, IsSome, is_some, map, slice_set, if◌then◌else◌}
use Rattle.std.specs.List.{filter, AllByRecursion}
use Rattle.std.specs.Global.{Vec}
use Rattle.std.specs.Map.{lookup, remove_entry}
use Rattle.std.specs.BTreeMap.{is_at, insert_entry}
use Rattle.std.specs.Ordering.{nat_cmp, is_le}
use Rattle.std.specs.FinMap.{is_sorted}
use Rattle.slab.specs.Slab.{Slab, Updates, get, slab_len, with_value}
use Rattle.rec_file.specs.Inner.Pages.{Cells, cell, page_cell}
use Rattle.rec_file.specs.declared.slots.Put.{Put}
use Rattle.rec_file.specs.declared.slots.Put.TheVariants.{Kept, Begun}

-- the group of a page
abbrev pub group_of : ℕ → ℕ
group_of page = page / 4096

-- the pages and slots of groups, one group after the other
abbrev pub listed : List (ℕ × List (ℕ × ℕ)) → List (ℕ × ℕ)
listed [] = []
listed (g ∷ gs) = g.1 ++ listed gs

-- the numbers of groups, and what they have
abbrev pub bare : List (ℕ × Vec (ℕ × ℕ)) → List (ℕ × List (ℕ × ℕ))
bare gs = map (λ g. (g.0, g.1.items)) gs

-- no group is empty
abbrev pub HavePages : List (ℕ × List (ℕ × ℕ)) → Type 0
HavePages gs = AllByRecursion (λ es. es ≢ []) (map (λ g. g.1) gs)

-- each page is of this group
abbrev pub AreOfGroup : ℕ → List (ℕ × ℕ) → Type 0
AreOfGroup g [] = Unit {0}
AreOfGroup g (e ∷ es) = (group_of e.0 ≡ g) × AreOfGroup g es

-- a group has the pages of its number alone, in order
pub record IsGroup (g : ℕ) (es : List (ℕ × ℕ)) : Type 0 where
  pub own : AreOfGroup g es
  pub sorted : is_sorted nat_cmp es ≡ true

abbrev pub ArePageGroups : List (ℕ × List (ℕ × ℕ)) → Type 0
ArePageGroups [] = Unit {0}
ArePageGroups (g ∷ gs) = IsGroup g.0 g.1 × ArePageGroups gs

-- the slot of a page
abbrev pub slot_of : List (ℕ × ℕ) → ℕ → Option ℕ
slot_of es page = lookup (is_at (nat_cmp page)) es

-- with this slot for a page that has none
abbrev pub with_slot : List (ℕ × ℕ) → ℕ → ℕ → List (ℕ × ℕ)
with_slot es page slot = if is_some (slot_of es page) then es else insert_entry nat_cmp es page slot

-- the slot that a page had
abbrev pub had_of : Put → Option ℕ
had_of (Kept slot) = Some slot
had_of (Begun body) = None

-- what is begun has this record
abbrev pub IsBegunWith : List ℕ → Put → Type 0
IsBegunWith body (Kept slot) = Unit {0}
IsBegunWith body (Begun first) = first.items ≡ body

-- the slots of the pages from one on
abbrev pub slots_from : ℕ → List (ℕ × ℕ) → List (ℕ × ℕ)
slots_from page es = filter (λ e. is_le (nat_cmp page e.0)) es

-- no page above this one has a slot
pub record IsLastSlot (es : List (ℕ × ℕ)) (e : ℕ × ℕ) : Type 0 where
  pub here : slot_of es e.0 ≡ Some e.1
  pub none_above : (page : ℕ) → e.0 < page → slot_of es page ≡ None

-- ---- Removing a record.

-- a page whose cell was emptied, and the slot of the page
pub record HasEmptied (es : List (ℕ × ℕ)) (pages : Slab Cells) (page k : ℕ) : Type 0 where
  pub slot : ℕ
  pub has : slot_of es page ≡ Some slot
  pub cells : Cells
  pub there : get pages slot ≡ Some cells
  pub occupied : IsSome (cell cells k)

-- it has other records, and stays
pub record PageStays (es es' : List (ℕ × ℕ)) (pages pages' : Slab Cells) (page k : ℕ) (e : HasEmptied es pages page k) : Type 0 where
  pub others : ((j : ℕ) → cell (slice_set e.cells k None) j ≡ None) → ⊥
  pub slots : es' ≡ es
  pub written : pages' ≡ with_value pages e.slot (slice_set e.cells k None)

-- it has none, and goes
pub record PageGoes (es es' : List (ℕ × ℕ)) (pages pages' : Slab Cells) (page k : ℕ) (e : HasEmptied es pages page k) : Type 0 where
  pub none : (j : ℕ) → cell (slice_set e.cells k None) j ≡ None
  pub slots : es' ≡ remove_entry (is_at (nat_cmp page)) es
  pub free : Updates (with_value pages e.slot (slice_set e.cells k None)) pages' e.slot None
  pub fewer : slab_len pages' + 1 ≡ slab_len (with_value pages e.slot (slice_set e.cells k None))

-- a cell of a page was emptied, or there was no record
abbrev pub Clears : (es es' : List (ℕ × ℕ)) (pages pages' : Slab Cells) (page k : ℕ) → Bool → Type 0
Clears es es' pages pages' page k true =
    (e : HasEmptied es pages page k) × (PageStays es es' pages pages' page k e ⊎ PageGoes es es' pages pages' page k e)
Clears es es' pages pages' page k false =
    IfSome (slot_of es page) (λ i. page_cell (get pages i) k ≡ None) × (es' ≡ es) × (pages' ≡ pages)
