-- What a paged file answers, by its pages in order.
use Rattle.std.proofs.Common.{◌≡◌, ℕ, zero, suc, ◌+◌, ◌-◌, ◌*◌, ◌/◌, ◌%◌, ◌<◌, ◌≤◌, ◌≢◌, cond, eqb, max, Bool, true, false, List, [], ◌∷◌, length, set, map, Option, Some, None, IsSome, IfSome, IfNone, is_some, unwrap_or, refl, sym, ap, subst, ◌∙◌, T, length-set, arith, inl, inr}
use Rattle.std.specs.Prelude.{replicate, Result, Ok, Err, OnErr, IfOk, MatchBool}
use Rattle.std.specs.List.{AllByRecursion}
use Rattle.std.specs.Ordering.{nat_cmp, is_lt}
use Rattle.std.specs.Cmp.{nat_cmp_total}
use Rattle.std.specs.Map.{lookup, set_value, remove_entry}
use Rattle.std.specs.BTreeMap.{is_at, insert_entry}
use Rattle.std.specs.FinMap.{get, insert as put, remove as take_out, from_entries, get-from_entries, is_sorted}
use Rattle.std.proofs.lemmas.Bool.{cases_lt, eqb-true}
use Rattle.std.proofs.lemmas.Bool.Decides.{nat_tests}
use Rattle.rec_file.specs.declared.look.Look.{Look}
use Rattle.rec_file.specs.declared.shapes.Shape.{Shape}
use Rattle.rec_file.specs.Limits.{max_record_number}
use Rattle.rec_file.specs.Files.{FileVal, IsFile, lowest_from, highest_of, file_with_record, file_without_record}
use Rattle.rec_file.specs.Inner.Pages.{Cells, cell, paged, put_entry, paged_file, page_cell, cell_of, IsPage, IsFirstIn, IsLastIn, empty_cells, last_page, IsSpot}
use Rattle.rec_file.specs.Pages.{page_of}
use Rattle.rec_file.proofs.Rising.{at, AllAbove, IsRising, rising_from_sorted, sorted_from_rising, find_is_at, same_or_not, at_first, at_tail, at_below}
use Rattle.rec_file.proofs.RecordsLaws.{lowest_from_some, lowest_from_none, highest_of_some, highest_of_none}
use Rattle.rec_file.proofs.FileLaws.{not_both, number_fits, get_stored, get_removed, same_records}
use Rattle.rec_file.proofs.Keyed.{lookup_is_at, behind, at-behind, rising-behind, first-behind, value_at, at-written, rising-written, all-written, at-inserted, rising-inserted, all-inserted, at-removed, rising-removed, all-removed}
use Rattle.rec_file.proofs.PageLaws.{cell_past, cell-set}
use Rattle.rec_file.proofs.PagedLaws.{at_zero-paged, get-paged, AllSized}

-- every page is one
abbrev pub AllPages : List (ℕ × Cells) → Type 0
AllPages ps = AllByRecursion IsPage (map (λ p. p.1) ps)

pub sized : (ps : List (ℕ × Cells)) → AllPages ps → AllSized ps
sized [] h = tt
sized (p ∷ ps) h = (h.0.size, sized ps h.1)

get_zero : (ps : List (ℕ × Cells)) → get (from_entries {R = nat_cmp} (paged ps)) 0 ≡ None
get_zero ps = get-from_entries nat_cmp_total (paged ps) 0 ∙ find_is_at (paged ps) 0 ∙ at_zero-paged ps

mix :
    (tp tk tq : Bool) (o c : Option Cells) (v x : Option (List ℕ)) (k : ℕ)
    → (tp ≡ true → page_cell o k ≡ cond tk v x) → (tp ≡ true → tq ≡ tk) → (tp ≡ false → tq ≡ false) → page_cell c k ≡ x → page_cell (cond tp o c) k ≡ cond tq v x
mix true tk tq o c v x k here same other e = here refl ∙ ap (λ b. cond b v x) (sym (same refl))
mix false tk tq o c v x k here same other e = e ∙ sym (ap (λ b. cond b v x) (other refl))

tests_same : (a b c d : ℕ) → (a ≡ b → c ≡ d) → (c ≡ d → a ≡ b) → eqb a b ≡ eqb c d
tests_same a b c d to from = elim (same_or_not a b) [
  | inl same ↦ let too = to same in grind (arith, nat_tests)
  | inr other ↦ elim (same_or_not c d) [ inl same ↦ absurd (other (from same)) | inr too ↦ grind (arith, nat_tests) ]
]

not_same : (a b : ℕ) → a ≢ b → eqb a b ≡ false
not_same a b other = grind (arith, nat_tests)

eqb-false : (a b : ℕ) → eqb a b ≡ false → a ≢ b
eqb-false a b t = grind (arith, nat_tests)

-- one cell of one page has changed
changed :
    (ps ps' : List (ℕ × Cells)) (n : ℕ) (v : Option (List ℕ)) (o : Option Cells) → IsRising ps → AllSized ps → IsRising ps' → AllSized ps' → 1 ≤ n
    → ((j : ℕ) → at ps' j ≡ cond (eqb j ((n - 1) / 64)) o (at ps j))
    → ((k : ℕ) → k < 64 → page_cell o k ≡ cond (eqb k ((n - 1) % 64)) v (page_cell (at ps ((n - 1) / 64)) k))
    → (q : ℕ) → get (from_entries {R = nat_cmp} (paged ps')) q ≡ cond (eqb q n) v (get (from_entries {R = nat_cmp} (paged ps)) q)
changed ps ps' n v o r s r' s' least pages cells q = elim (cases_lt q 1) [
  | inl low ↦
      let at0 : q ≡ 0 = omega arith in
      let old : get (from_entries {R = nat_cmp} (paged ps)) q ≡ None = ap (get (from_entries {R = nat_cmp} (paged ps))) at0 ∙ get_zero ps in
      let new : get (from_entries {R = nat_cmp} (paged ps')) q ≡ None = ap (get (from_entries {R = nat_cmp} (paged ps'))) at0 ∙ get_zero ps' in
      let other : eqb q n ≡ false = grind (arith, nat_tests) in
      new ∙ sym (ap (λ b. cond b v (get (from_entries {R = nat_cmp} (paged ps)) q)) other ∙ old)
  | inr high ↦
      let new = get-paged ps' q r' s' high in
      let old = get-paged ps q r s high in
      new ∙ ap (λ c. page_cell c ((q - 1) % 64)) (pages ((q - 1) / 64))
      ∙ mix (eqb ((q - 1) / 64) ((n - 1) / 64)) (eqb ((q - 1) % 64) ((n - 1) % 64)) (eqb q n) o (at ps ((q - 1) / 64)) v (page_cell (at ps ((q - 1) / 64)) ((q - 1) % 64)) ((q - 1) % 64)
      (λ t. cells ((q - 1) % 64) (omega arith)
      ∙ ap (λ j. cond (eqb ((q - 1) % 64) ((n - 1) % 64)) v (page_cell (at ps j) ((q - 1) % 64))) (sym (eqb-true _ _ t)))
      (λ t. let same = eqb-true ((q - 1) / 64) ((n - 1) / 64) t in tests_same q n ((q - 1) % 64) ((n - 1) % 64) (λ e. omega arith) (λ e. omega arith))
      (λ t. let other = eqb-false ((q - 1) / 64) ((n - 1) / 64) t in not_same q n (λ e. other (ap (λ k. (k - 1) / 64) e)))
      refl
      ∙ ap (cond (eqb q n) v) (sym old)
]

-- 64 empty cells
cell-replicate : (n k : ℕ) → cell {X = List ℕ} (replicate n None) k ≡ None
cell-replicate zero k = refl
cell-replicate (suc n) zero = refl
cell-replicate (suc n) (suc k) = cell-replicate n k

length-empty : length empty_cells ≡ 64
length-empty = refl

-- what holds of all pages holds of the one at a number
pub page_is : (ps : List (ℕ × Cells)) (p : ℕ) (cells : Cells) → AllPages ps → at ps p ≡ Some cells → IsPage cells
page_is ps p cells h is = value_at IsPage ps p cells h is

pub rising_pages : (ps : List (ℕ × Cells)) → is_sorted nat_cmp ps ≡ true → IsRising ps
rising_pages ps h = rising_from_sorted ps (subst T (sym h) tt)

pub test_pages : (ps : List (ℕ × Cells)) → IsRising ps → is_sorted nat_cmp ps ≡ true
test_pages ps r = test_true _ (sorted_from_rising ps r)
  where
    test_true : (b : Bool) → T b → b ≡ true
    test_true true h = refl
    test_true false h = absurd h

-- a page with a record more is a page
pub put_is_page : (cells : Cells) (k : ℕ) (body : List ℕ) → length cells ≡ 64 → k < 64 → IsPage (set cells k (Some body))
put_is_page cells k body len lt = record {
  size = length-set cells k (Some body) ∙ len;
  occupied = (k, ap is_some (cell-set cells k (Some body) k (omega arith) ∙ cond_same k body (cell cells k)));
}
  where
    cond_same : (k : ℕ) (body : List ℕ) (o : Option (List ℕ)) → cond (eqb k k) (Some body) o ≡ Some body
    cond_same k body o = grind (arith, nat_tests)

-- cells that aren't all empty have one that is occupied
pub some_cell : (cells : Cells) → (((k : ℕ) → cell cells k ≡ None) → ⊥) → (k : ℕ) × IsSome (cell cells k)
some_cell [] h = absurd (h (λ k. refl))
some_cell (Some body ∷ cs) h = (0, refl)
some_cell (None ∷ cs) h =
    let rest = some_cell cs (λ all. h (λ k. elim k as (λ j. cell (None ∷ cs) j ≡ None) [ zero ↦ refl | suc j ↦ all j ])) in
    (suc rest.0, rest.1)

-- pages that hold a file: they are in order, and each is one
pub record HoldsFile (s : Shape) (l : Look) (ps : List (ℕ × Cells)) (f : FileVal) : Type 0 where
  pub same : paged_file s l ps ≡ f
  pub sorted : is_sorted nat_cmp ps ≡ true
  pub all : AllPages ps

pub held : {l : Look} (s : Shape) (ps : List (ℕ × Cells)) (f : FileVal) → paged_file s l ps ≡ f → is_sorted nat_cmp ps ≡ true → AllPages ps → HoldsFile s l ps f
held s ps f same sorted all = record { same = same; sorted = sorted; all = all }

-- above the greatest number nothing stands
pub none_above : {X : Type 0} (ps : List (ℕ × X)) (p : ℕ) → ((q : ℕ) → IsSome (lookup (is_at (nat_cmp q)) ps) → is_lt (nat_cmp p q) ≡ false) → (j : ℕ) → p < j → at ps j ≡ None
none_above {X} ps p greatest j lt = by (at ps j) refl
  where
    by : (o : Option X) → at ps j ≡ o → o ≡ None
    by None e = refl
    by (Some c) e = let low = greatest j (ap is_some (lookup_is_at ps j ∙ e)) in absurd (grind (arith, nat_tests))

pub none_kept : {X : Type 0} (ps : List X) → (0 < length ps → ⊥) → ps ≡ []
none_kept [] h = refl
none_kept (p ∷ ps) h = absurd (h (omega arith))

module _ {l : Look} (s : Shape) (ps : List (ℕ × Cells)) (f : FileVal) (h : HoldsFile s l ps f) where
  r : IsRising ps
  r = rising_pages ps h.sorted

  pub zero_is_none : None ≡ get f.records 0
  zero_is_none = sym (get_zero ps) ∙ ap (λ g. get g.records 0) h.same

  -- the record of a number, in its page
  pub here : (n : ℕ) (cells : Cells) → 1 ≤ n → at ps (page_of n) ≡ Some cells → cell cells (cell_of n) ≡ get f.records n
  here n cells least is = sym (get-paged ps n r (sized ps h.all) least ∙ ap (λ c. page_cell c (cell_of n)) is) ∙ ap (λ g. get g.records n) h.same

  pub absent : (n : ℕ) → 1 ≤ n → at ps (page_of n) ≡ None → None ≡ get f.records n
  absent n least is = sym (get-paged ps n r (sized ps h.all) least ∙ ap (λ c. page_cell c (cell_of n)) is) ∙ ap (λ g. get g.records n) h.same

  -- a page with a record is not above the last page
  pub page_fits : (p : ℕ) (cells : Cells) → at ps p ≡ Some cells → IsFile f → p ≤ last_page
  page_fits p cells is file =
      let page = page_is ps p cells h.all is in
      let k = page.occupied.0 in
      let within : k < 64 = elim (cases_lt k 64) [ inl lt ↦ lt | inr past ↦ absurd (not_both _ (sym (cell_past cells k (let len = page.size in omega arith))) page.occupied.1) ] in
      let its : page_of (64 * p + 1 + k) ≡ p = omega arith in
      let at_it : cell cells (cell_of (64 * p + 1 + k)) ≡ cell cells k = ap (cell cells) (omega arith) in
      let top = number_fits f (64 * p + 1 + k) file (subst IsSome (sym at_it ∙ here (64 * p + 1 + k) cells (omega arith) (ap (at ps) its ∙ is)) page.occupied.1) in
      omega arith

  module _ (n q : ℕ) (is_q : q ≡ max n 1) where
    -- from n on no number of a page before p is occupied
    abbrev pub IsPassed : ℕ → Type 0
    IsPassed p = (j : ℕ) → q ≤ j → page_of j < p → get f.records j ≡ None

    -- the lowest number from n on is the first in the page after those that are passed
    pub lowest_in_page : (p : ℕ) (cells : Cells) (from m : ℕ) → at ps p ≡ Some cells → page_of q ≤ p → ((j : ℕ) → q ≤ j → page_of j ≡ p → from ≤ cell_of j) → (page_of q ≡ p → cell_of q ≤ from)
        → IsPassed p → IsFile f → 1 ≤ m → page_of m ≡ p → IsFirstIn cells from (cell_of m) → IsSpot f n m cells
    lowest_in_page p cells from m is high cells_from own passed file pos same first =
        let occupied : IsSome (get f.records m) = subst IsSome (here m cells pos (ap (at ps) same ∙ is)) first.occupied in
        let start = first.from_on in
        let ahead : q ≤ m = elim (same_or_not (page_of q) p) [ inl here_too ↦ let le = own here_too in omega arith | inr other ↦ omega arith ] in
        record {
          above = pos;
          lowest = lowest_from_some f.records n m (omega arith) occupied (λ j ge lt. elim (cases_lt j 1) [
            | inl low ↦ ap (get f.records) (let e : j ≡ 0 = omega arith in e) ∙ sym zero_is_none
            | inr pos_j ↦ elim (same_or_not (page_of j) p) [
              | inl here_too ↦ sym (here j cells pos_j (ap (at ps) here_too ∙ is)) ∙ first.none_before (cell_of j) (cells_from j (omega arith) here_too) (omega arith)
              | inr other ↦ passed j (omega arith) (omega arith)
            ]
          ]);
          same = here m cells pos (ap (at ps) same ∙ is);
          within = number_fits f m file occupied;
        }

    pub no_lowest : ((j : ℕ) → q ≤ j → get f.records j ≡ None) → None ≡ lowest_from f.records n
    no_lowest none = sym (lowest_from_none f.records n (λ j ge. elim (cases_lt j 1) [
      | inl low ↦ ap (get f.records) (let e : j ≡ 0 = omega arith in e) ∙ sym zero_is_none
      | inr high ↦ none j (omega arith)
    ]))

    -- the pages from the number's own on
    abbrev pub rest : List (ℕ × Cells)
    rest = behind (page_of q) ps

    at_rest : (j : ℕ) → page_of q ≤ j → at ps j ≡ at rest j
    at_rest j le = sym (at-behind (page_of q) ps j le)

    pub no_page : rest ≡ [] → None ≡ lowest_from f.records n
    no_page is = no_lowest (λ j le. sym (absent j (omega arith) (at_rest (page_of j) (omega arith) ∙ ap (λ l. at l (page_of j)) is)))

    module _ (p : ℕ) (cells : Cells) (t : List (ℕ × Cells)) (is : rest ≡ (p, cells) ∷ t) where
      there : at ps p ≡ Some cells
      there = at_rest p (first-behind (page_of q) ps (p, cells) t is) ∙ ap (λ l. at l p) is ∙ at_first (p, cells) t p refl

      up : IsRising ((p, cells) ∷ t)
      up = subst IsRising is (rising-behind (page_of q) ps r)

      before : IsPassed p
      before j le lt = sym (absent j (omega arith) (at_rest (page_of j) (omega arith) ∙ ap (λ l. at l (page_of j)) is ∙ at_tail (p, cells) t (page_of j) (omega arith) ∙ at_below p (page_of j) t up.0 (omega arith)))

      pub first_fits : IsFile f → p ≤ last_page
      first_fits file = page_fits p cells there file

      -- where the search begins in the first of them
      abbrev pub BeginsAt : ℕ → Type 0
      BeginsAt from = (page_of q ≡ p → from ≡ cell_of q) × ((page_of q ≡ p → ⊥) → from ≡ 0)

      starts : (from : ℕ) → BeginsAt from → (j : ℕ) → q ≤ j → page_of j ≡ p → from ≤ cell_of j
      starts from b j le same = elim (same_or_not (page_of q) p) [ inl own ↦ let at_q = b.0 own in omega arith | inr other ↦ let at_0 = b.1 other in omega arith ]

      -- the first in it
      pub found_first : (from m : ℕ) → BeginsAt from → IsFile f → (1 ≤ m) × (page_of m ≡ p) × IsFirstIn cells from (cell_of m) → IsSpot f n m cells
      found_first from m b file first =
          lowest_in_page p cells from m there (first-behind (page_of q) ps (p, cells) t is) (starts from b) (λ own. let at_q = b.0 own in omega arith) before file first.0 first.1 first.2

      module _ (from : ℕ) (b : BeginsAt from) (none : (k : ℕ) → from ≤ k → cell cells k ≡ None) where
        none_there : (j : ℕ) → q ≤ j → page_of j ≤ p → get f.records j ≡ None
        none_there j le low = elim (same_or_not (page_of j) p) [
          | inl same ↦ sym (here j cells (omega arith) (ap (at ps) same ∙ there)) ∙ none (cell_of j) (starts from b j le same)
          | inr other ↦ before j le (omega arith)
        ]

        at_later : (j : ℕ) → p < j → at ps j ≡ at t j
        at_later j lt =
            let first = first-behind (page_of q) ps (p, cells) t is in
            at_rest j (omega arith) ∙ ap (λ l. at l j) is ∙ at_tail (p, cells) t j (omega arith)

        pub no_second : t ≡ [] → None ≡ lowest_from f.records n
        no_second empty = no_lowest (λ j le. elim (cases_lt p (page_of j)) [
          | inl later ↦ sym (absent j (omega arith) (at_later (page_of j) later ∙ ap (λ l. at l (page_of j)) empty))
          | inr low ↦ none_there j le (omega arith)
        ])

        -- else the first in the page after it
        module _ (p' : ℕ) (cells' : Cells) (t' : List (ℕ × Cells)) (next : t ≡ (p', cells') ∷ t') where
          higher : p < p'
          higher = (subst (λ l. AllAbove p l) next up.0).0

          there' : at ps p' ≡ Some cells'
          there' = at_later p' higher ∙ ap (λ l. at l p') next ∙ at_first (p', cells') t' p' refl

          before' : IsPassed p'
          before' j le lt = elim (cases_lt p (page_of j)) [
            | inl later ↦
                sym (absent j (omega arith) (at_later (page_of j) later ∙ ap (λ l. at l (page_of j)) next ∙ at_tail (p', cells') t' (page_of j) (omega arith)
                ∙ at_below p' (page_of j) t' (subst IsRising next up.1).0 (omega arith)))
            | inr low ↦ none_there j le (omega arith)
          ]

          pub second_fits : IsFile f → p' ≤ last_page
          second_fits file = page_fits p' cells' there' file

          pub second_has : ((k : ℕ) → 0 ≤ k → cell cells' k ≡ None) → ⊥
          second_has empty =
              let page = page_is ps p' cells' h.all there' in
              not_both _ (sym (empty page.occupied.0 (omega arith))) page.occupied.1

          pub found_second : (m : ℕ) → IsFile f → (1 ≤ m) × (page_of m ≡ p') × IsFirstIn cells' 0 (cell_of m) → IsSpot f n m cells'
          found_second m file first =
              let low = first-behind (page_of q) ps (p, cells) t is in
              let above = higher in
              lowest_in_page p' cells' 0 m there' (omega arith) (λ j le same. omega arith) (λ own. absurd (omega arith)) before' file first.0 first.1 first.2

  -- the last page has the highest number
  pub no_highest : ps ≡ [] → 0 ≡ highest_of f.records
  no_highest is = sym (highest_of_none f.records (λ j. sym (ap (λ g. get g.records j) h.same) ∙ ap (λ l. get (from_entries {R = nat_cmp} (paged l)) j) is ∙ none_there j))
    where
      none_there : (j : ℕ) → get (from_entries {R = nat_cmp} (paged [])) j ≡ None
      none_there j = get-from_entries nat_cmp_total (paged []) j

  pub highest_in_page : (p : ℕ) (cells : Cells) (m : Option ℕ) → at ps p ≡ Some cells → ((j : ℕ) → p < j → at ps j ≡ None) → IsFile f → IfNone m ((k : ℕ) → cell cells k ≡ None)
      → IfSome m (λ m. (1 ≤ m) × (page_of m ≡ p) × IsLastIn cells (cell_of m)) → (unwrap_or m 0 ≡ highest_of f.records) × (unwrap_or m 0 ≤ max_record_number)
  highest_in_page p cells None is none file empty last =
      let page = page_is ps p cells h.all is in
      absurd (not_both _ (sym (empty page.occupied.0)) page.occupied.1)
  highest_in_page p cells (Some m) is none file empty last =
      let pos = last.0 in
      let same = last.1 in
      let occupied : IsSome (get f.records m) = subst IsSome (here m cells last.0 (ap (at ps) last.1 ∙ is)) last.2.occupied in (
        sym (highest_of_some f.records m occupied (λ j lt. elim (same_or_not (page_of j) p) [
          | inl here_too ↦ sym (here j cells (omega arith) (ap (at ps) here_too ∙ is)) ∙ last.2.none_after (cell_of j) (omega arith)
          | inr other ↦ sym (absent j (omega arith) (none (page_of j) (omega arith)))
        ])),
        number_fits f m file occupied,
      )

  -- a record in a page that is there
  pub put_in_page : (n : ℕ) (cells : Cells) (body : List ℕ) → 1 ≤ n → at ps (page_of n) ≡ Some cells
      → HoldsFile s l (set_value (is_at (nat_cmp (page_of n))) ps (set cells (cell_of n) (Some body))) (file_with_record f n body)
  put_in_page n cells body least is =
      let page = page_is ps (page_of n) cells h.all is in
      let size = page.size in
      let cells' = set cells (cell_of n) (Some body) in
      let t = is_at (nat_cmp (page_of n)) in
      let rise = rising-written t ps cells' r in
      let every = all-written IsPage t ps cells' h.all (put_is_page cells (cell_of n) body size (omega arith)) in
      record {
        same =
            ap (λ m. record { shape = s; look = l; records = m })
            (same_records (from_entries {R = nat_cmp} (paged (set_value t ps cells'))) (put (from_entries {R = nat_cmp} (paged ps)) n body) (λ q.
            changed ps (set_value t ps cells') n (Some body) (Some cells') r (sized ps h.all) rise (sized _ every) least
            (λ j. at-written ps (page_of n) cells' (ap is_some is) j)
            (λ k lt. cell-set cells (cell_of n) (Some body) k (omega arith)
            ∙ ap (λ c. cond (eqb k (cell_of n)) (Some body) (page_cell c k)) (sym is))
            q
            ∙ sym (get_stored (from_entries {R = nat_cmp} (paged ps)) n body q)))
            ∙ ap (λ g. file_with_record g n body) h.same;
        sorted = test_pages _ rise;
        all = every;
      }

  -- a record in a page that is there or a new one
  put_cells : (n : ℕ) (cells : Cells) (body : List ℕ) → 1 ≤ n → length cells ≡ 64 → ((k : ℕ) → page_cell (at ps (page_of n)) k ≡ cell cells k)
      → HoldsFile s l (insert_entry nat_cmp ps (page_of n) (set cells (cell_of n) (Some body))) (file_with_record f n body)
  put_cells n cells body least size is =
      let cells' = set cells (cell_of n) (Some body) in
      let rise = rising-inserted ps (page_of n) cells' r in
      let every = all-inserted IsPage ps (page_of n) cells' h.all (put_is_page cells (cell_of n) body size (omega arith)) in
      record {
        same =
            ap (λ m. record { shape = s; look = l; records = m })
            (same_records (from_entries {R = nat_cmp} (paged (insert_entry nat_cmp ps (page_of n) cells'))) (put (from_entries {R = nat_cmp} (paged ps)) n body) (λ q.
            changed ps (insert_entry nat_cmp ps (page_of n) cells') n (Some body) (Some cells') r (sized ps h.all) rise (sized _ every) least
            (λ j. at-inserted ps (page_of n) cells' j)
            (λ k lt. cell-set cells (cell_of n) (Some body) k (omega arith)
            ∙ ap (cond (eqb k (cell_of n)) (Some body)) (sym (is k)))
            q
            ∙ sym (get_stored (from_entries {R = nat_cmp} (paged ps)) n body q)))
            ∙ ap (λ g. file_with_record g n body) h.same;
        sorted = test_pages _ rise;
        all = every;
      }

  pub put_page : (n : ℕ) (body : List ℕ) → 1 ≤ n → HoldsFile s l (put_entry ps (page_of n) (cell_of n) body) (file_with_record f n body)
  put_page n body least = by (lookup (is_at (nat_cmp (page_of n))) ps) (sym (lookup_is_at ps (page_of n)))
    where
      by : (o : Option Cells) → at ps (page_of n) ≡ o → HoldsFile s l (insert_entry nat_cmp ps (page_of n) (set (unwrap_or o empty_cells) (cell_of n) (Some body))) (file_with_record f n body)
      by None is = put_cells n empty_cells body least length-empty (λ k. ap (λ c. page_cell c k) is ∙ sym (cell-replicate 64 k))
      by (Some cells) is = put_cells n cells body least (page_is ps (page_of n) cells h.all is).size (λ k. ap (λ c. page_cell c k) is)

  -- what the cell of a number has is what the file has there
  pub held_cell : (n : ℕ) → 1 ≤ n → page_cell (lookup (is_at (nat_cmp (page_of n))) ps) (cell_of n) ≡ get f.records n
  held_cell n least =
      ap (λ c. page_cell c (cell_of n)) (lookup_is_at ps (page_of n)) ∙ sym (get-paged ps n r (sized ps h.all) least) ∙ ap (λ g. get g.records n) h.same

  -- a record that may be refused
  module _ {E : Type 0} (result : Result Bool E) (now : List (ℕ × Cells)) (n : ℕ) (body : List ℕ) (least : 1 ≤ n)
      (ok : IfOk result (λ empty. MatchBool empty (now ≡ put_entry ps (page_of n) (cell_of n) body) (now ≡ ps))) (err : OnErr result (now ≡ ps)) where
    pub put_same : IfOk result (λ empty. MatchBool empty (paged_file s l now ≡ file_with_record f n body) (paged_file s l now ≡ f))
    put_same = by result ok
      where
        by : (r : Result Bool E) → IfOk r (λ empty. MatchBool empty (now ≡ put_entry ps (page_of n) (cell_of n) body) (now ≡ ps))
            → IfOk r (λ empty. MatchBool empty (paged_file s l now ≡ file_with_record f n body) (paged_file s l now ≡ f))
        by (Ok true) is = ap (paged_file s l) is ∙ (put_page n body least).same
        by (Ok false) is = ap (paged_file s l) is ∙ h.same
        by (Err e) is = tt

    pub put_back : OnErr result (paged_file s l now ≡ f)
    put_back = by result err
      where
        by : (r : Result Bool E) → OnErr r (now ≡ ps) → OnErr r (paged_file s l now ≡ f)
        by (Ok a) is = tt
        by (Err e) is = ap (paged_file s l) is ∙ h.same

    abbrev Stands : List (ℕ × Cells) → Type 0
    Stands pages = IsFile (paged_file s l pages) × (is_sorted nat_cmp pages ≡ true) × AllPages pages

    pub put_stands : IsFile f → IsFile (file_with_record f n body) → Stands now
    put_stands before after = by result ok err
      where
        by : (r : Result Bool E) → IfOk r (λ empty. MatchBool empty (now ≡ put_entry ps (page_of n) (cell_of n) body) (now ≡ ps)) → OnErr r (now ≡ ps) → Stands now
        by (Ok false) is back = subst Stands (sym is) (subst IsFile (sym h.same) before, h.sorted, h.all)
        by (Ok true) is back = let put = put_page n body least in subst Stands (sym is) (subst IsFile (sym put.same) after, put.sorted, put.all)
        by (Err e) is back = subst Stands (sym back) (subst IsFile (sym h.same) before, h.sorted, h.all)

  -- a record less in a page that stays
  pub clear_in_page : (n : ℕ) (cells : Cells) → 1 ≤ n → at ps (page_of n) ≡ Some cells → (((k : ℕ) → cell (set cells (cell_of n) None) k ≡ None) → ⊥)
      → HoldsFile s l (set_value (is_at (nat_cmp (page_of n))) ps (set cells (cell_of n) None)) (file_without_record f n)
  clear_in_page n cells least is some =
      let page = page_is ps (page_of n) cells h.all is in
      let size = page.size in
      let cells' = set cells (cell_of n) None in
      let t = is_at (nat_cmp (page_of n)) in
      let rise = rising-written t ps cells' r in
      let every = all-written IsPage t ps cells' h.all (record { size = length-set cells (cell_of n) None ∙ size; occupied = some_cell cells' some }) in
      record {
        same =
            ap (λ m. record { shape = s; look = l; records = m })
            (same_records (from_entries {R = nat_cmp} (paged (set_value t ps cells'))) (take_out (from_entries {R = nat_cmp} (paged ps)) n) (λ q.
            changed ps (set_value t ps cells') n None (Some cells') r (sized ps h.all) rise (sized _ every) least
            (λ j. at-written ps (page_of n) cells' (ap is_some is) j)
            (λ k lt. cell-set cells (cell_of n) None k (omega arith)
            ∙ ap (λ c. cond (eqb k (cell_of n)) None (page_cell c k)) (sym is))
            q
            ∙ sym (get_removed (from_entries {R = nat_cmp} (paged ps)) n q)))
            ∙ ap (λ g. file_without_record g n) h.same;
        sorted = test_pages _ rise;
        all = every;
      }

  -- the last record of a page: the page goes
  pub drop_page : (n : ℕ) (cells : Cells) → 1 ≤ n → at ps (page_of n) ≡ Some cells → ((k : ℕ) → cell (set cells (cell_of n) None) k ≡ None)
      → HoldsFile s l (remove_entry (is_at (nat_cmp (page_of n))) ps) (file_without_record f n)
  drop_page n cells least is none =
      let size = (page_is ps (page_of n) cells h.all is).size in
      let t = is_at (nat_cmp (page_of n)) in
      let rise = rising-removed t ps r in
      let every = all-removed IsPage t ps h.all in
      record {
        same =
            ap (λ m. record { shape = s; look = l; records = m })
            (same_records (from_entries {R = nat_cmp} (paged (remove_entry t ps))) (take_out (from_entries {R = nat_cmp} (paged ps)) n) (λ q.
            changed ps (remove_entry t ps) n None None r (sized ps h.all) rise (sized _ every) least
            (λ j. at-removed ps (page_of n) r j)
            (λ k lt. sym (none k) ∙ cell-set cells (cell_of n) None k (omega arith)
            ∙ ap (λ c. cond (eqb k (cell_of n)) None (page_cell c k)) (sym is))
            q
            ∙ sym (get_removed (from_entries {R = nat_cmp} (paged ps)) n q)))
            ∙ ap (λ g. file_without_record g n) h.same;
        sorted = test_pages _ rise;
        all = every;
      }

pub not_true : (b : Bool) → b ≡ false → b ≡ true → ⊥
not_true true f t = cc
not_true false f t = cc
