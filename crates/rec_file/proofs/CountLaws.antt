-- A relative file keeps a page for each page that has an occupied number, and no other.
use Rattle.std.proofs.Common.{◌≡◌, ℕ, ◌+◌, ◌*◌, ◌<◌, cond, eqb, ◌||◌, Bool, true, false, List, [], ◌∷◌, length, map, Option, Some, None, IsSome, is_some, refl, sym, ap, subst, ◌∙◌, arith, inl, inr}
use Rattle.std.specs.List.{IsDistinct, AllByRecursion}
use Rattle.std.specs.Set.{is_member}
use Rattle.std.specs.Cmp.{nat_eq_equiv}
use Rattle.std.specs.FinMap.{get, entries, keys}
use Rattle.std.proofs.lemmas.Bool.{cases_lt}
use Rattle.std.proofs.lemmas.Bool.Decides.{nat_tests}
use Rattle.std.proofs.lemmas.List.{length-map}
use Rattle.std.proofs.lemmas.Map.Made.{length-from_keys}
use Rattle.rec_file.specs.declared.look.Look.{Look}
use Rattle.rec_file.specs.declared.shapes.Shape.{Shape}
use Rattle.rec_file.specs.Files.{FileVal, IsFile}
use Rattle.rec_file.specs.Inner.Pages.{Cells, paged_file, cell_of, page_cell}
use Rattle.rec_file.specs.Pages.{page_of, occupied_pages}
use Rattle.rec_file.proofs.Rising.{at, AllAbove, IsRising, at_tail, at_first, at_below, same_or_not}
use Rattle.rec_file.proofs.RecordsLaws.{get_is_at, rising}
use Rattle.rec_file.proofs.FileLaws.{not_both}
use Rattle.rec_file.proofs.Gaps.{numbers}
use Rattle.rec_file.proofs.PageLaws.{cell_past}
use Rattle.rec_file.proofs.PagedLaws.{get-paged}
use Rattle.rec_file.proofs.RelativeLaws.{AllPages, sized}

same_test : (a b : Bool) → (a ≡ true → b ≡ true) → (b ≡ true → a ≡ true) → a ≡ b
same_test true b to from = sym (to refl)
same_test false true to from = from refl
same_test false false to from = refl

not_above : (x : ℕ) {X : Type 0} (es : List (ℕ × X)) → AllAbove x es → AllByRecursion (λ y. eqb x y ≡ false) (numbers es)
not_above x [] h = tt
not_above x (e ∷ es) h = (let lt : x < e.0 = h.0 in grind (arith, nat_tests), not_above x es h.1)

distinct : {X : Type 0} (es : List (ℕ × X)) → IsRising es → IsDistinct eqb (numbers es)
unfolding IsDistinct
distinct [] r = tt
distinct (e ∷ es) r = (not_above e.0 es r.0, distinct es r.1)

module _ {X : Type 0} where
  -- a number is among the numbers exactly where something stands at it
  number_is_member : (es : List (ℕ × X)) (p : ℕ) → IsSome (at es p) → is_member eqb (numbers es) p ≡ true
  number_is_member [] p some = cc
  number_is_member (e ∷ es) p some = elim (same_or_not p e.0) [
    | inl same ↦ grind (arith, nat_tests)
    | inr other ↦ let rest = number_is_member es p (subst IsSome (at_tail e es p other) some) in grind (arith, nat_tests)
  ]

  member_is_number : (es : List (ℕ × X)) (p : ℕ) → is_member eqb (numbers es) p ≡ true → IsSome (at es p)
  member_is_number [] p member = cc
  member_is_number (e ∷ es) p member = by (eqb p e.0) (member_is_number es p) member
    where
      by : (b : Bool) → (is_member eqb (numbers es) p ≡ true → IsSome (at es p)) → (b || is_member eqb (numbers es) p) ≡ true → IsSome (cond b (Some e.1) (at es p))
      by true rest h = refl
      by false rest h = rest h

  -- the page of a number is among the pages exactly where such a number is occupied
  page_is_member : (es : List (ℕ × X)) (n : ℕ) → IsSome (at es n) → is_member eqb (map page_of (numbers es)) (page_of n) ≡ true
  page_is_member [] n some = cc
  page_is_member (e ∷ es) n some = elim (same_or_not n e.0) [
    | inl same ↦ let here = ap page_of same in grind (arith, nat_tests)
    | inr other ↦ let rest = page_is_member es n (subst IsSome (at_tail e es n other) some) in grind (arith, nat_tests)
  ]

  member_is_page : (es : List (ℕ × X)) (p : ℕ) → IsRising es → is_member eqb (map page_of (numbers es)) p ≡ true → (n : ℕ) × IsSome (at es n) × (page_of n ≡ p)
  member_is_page [] p r member = cc
  member_is_page (e ∷ es) p r member = elim (same_or_not p (page_of e.0)) [
    | inl same ↦ (e.0, ap is_some (at_first e es e.0 refl), sym same)
    | inr other ↦
        let rest = member_is_page es p r.1 (let no : eqb p (page_of e.0) ≡ false = grind (arith, nat_tests) in subst (λ b. (b || is_member eqb (map page_of (numbers es)) p) ≡ true) no member) in
        let up = above_at e.0 es rest.0 r.0 rest.1 in
        (rest.0, subst IsSome (sym (at_tail e es rest.0 (omega arith))) rest.1, rest.2)
  ]
    where
      above_at : (x : ℕ) (es : List (ℕ × X)) (q : ℕ) → AllAbove x es → IsSome (at es q) → x < q
      above_at x es q h some = elim (cases_lt x q) [ inl lt ↦ lt | inr low ↦ absurd (let none = at_below x q es h low in cc (none, some)) ]

-- what a page cell is read from
page_there : (c : Option Cells) (k : ℕ) → IsSome (page_cell c k) → IsSome c
page_there None k some = cc
page_there (Some cells) k some = refl

-- a kept page has an occupied number
some_number : (ps : List (ℕ × Cells)) (p : ℕ) → AllPages ps → IsSome (at ps p) → (k : ℕ) × (k < 64) × IsSome (page_cell (at ps p) k)
some_number [] p all some = cc
some_number (x ∷ ps) p all some = elim (same_or_not p x.0) [
  | inl same ↦
      let k = all.0.occupied.0 in
      let within : k < 64 = elim (cases_lt k 64) [ inl lt ↦ lt | inr past ↦ absurd (not_both _ (sym (cell_past x.1 k (let len = all.0.size in omega arith))) all.0.occupied.1) ] in
      (k, within, subst (λ c. IsSome (page_cell c k)) (sym (at_first x ps p same)) all.0.occupied.1)
  | inr other ↦
      let rest = some_number ps p all.1 (subst IsSome (at_tail x ps p other) some) in
      (rest.0, rest.1, subst (λ c. IsSome (page_cell c rest.0)) (sym (at_tail x ps p other)) rest.2)
]

-- a file keeps as many pages as its occupied numbers have
pub kept_pages : {l : Look} (s : Shape) (ps : List (ℕ × Cells)) (f : FileVal) → paged_file s l ps ≡ f → IsRising ps → AllPages ps → IsFile f → length ps ≡ occupied_pages f.records
kept_pages s ps f e r all file =
    sym (length-map ps (λ (p : ℕ × Cells). p.0))
    ∙ length-from_keys nat_eq_equiv (numbers ps) (map page_of (keys f.records)) (distinct ps r) (λ q. same_test _ _ (to q) (from q))
  where
    to : (q : ℕ) → is_member eqb (numbers ps) q ≡ true → is_member eqb (map page_of (keys f.records)) q ≡ true
    to q member =
        let cell_at = some_number ps q all (member_is_number ps q member) in
        let n : ℕ = 64 * q + 1 + cell_at.0 in
        let same : page_of n ≡ q = (let lt = cell_at.1 in omega arith) in
        let index : cell_of n ≡ cell_at.0 = (let lt = cell_at.1 in omega arith) in
        let got : get f.records n ≡ page_cell (at ps q) cell_at.0 =
        ap (λ g. get g.records n) (sym e) ∙ get-paged ps n r (sized ps all) (omega arith) ∙ ap (λ p. page_cell (at ps p) (cell_of n)) same ∙ ap (page_cell (at ps q)) index in
        subst (λ p. is_member eqb (map page_of (keys f.records)) p ≡ true) same
        (page_is_member (entries f.records) n (subst IsSome (sym got ∙ get_is_at f.records n) cell_at.2))

    from : (q : ℕ) → is_member eqb (map page_of (keys f.records)) q ≡ true → is_member eqb (numbers ps) q ≡ true
    from q member =
        let occupied = member_is_page (entries f.records) q (rising f.records) member in
        let some : IsSome (get f.records occupied.0) = subst IsSome (sym (get_is_at f.records occupied.0)) occupied.1 in
        let got : get f.records occupied.0 ≡ page_cell (at ps (page_of occupied.0)) (cell_of occupied.0) =
        ap (λ g. get g.records occupied.0) (sym e) ∙ get-paged ps occupied.0 r (sized ps all) (file.above occupied.0 some) in
        number_is_member ps q (subst (λ p. IsSome (at ps p)) occupied.2 (page_there _ _ (subst IsSome got some)))
