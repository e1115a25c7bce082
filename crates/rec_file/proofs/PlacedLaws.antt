-- Pages at slots of their own: what stands at a number after each edit of the slots and the pages.
use Rattle.std.proofs.Common.{◌≡◌, ℕ, zero, suc, ◌+◌, ◌≢◌, ◌&&◌, get_or, IsSome, cond, eqb, Bool, true, false, List, [], ◌∷◌, length, option_map, Option, Some, None, is_some, set, unwrap_or, refl, sym, ap, subst, ◌∙◌, arith, inl, inr}
use Rattle.std.specs.Ordering.{nat_cmp, is_le, match_ordering}
use Rattle.std.specs.declared.cmp.Ordering.TheVariants.{Less, Equal, Greater}
use Rattle.std.specs.Prelude.{Result, Ok, Err, OnOk, OnSome}
use Rattle.std.specs.declared.cmp.Ordering.{Ordering}
use Rattle.std.specs.List.{count_by}
use Rattle.std.specs.FinMap.{is_sorted}
use Rattle.std.proofs.lemmas.Bool.Decides.{nat_tests}
use Rattle.std.proofs.lemmas.List.Sums.{sum_by-cons}
use Rattle.std.proofs.lemmas.List.{set-get_or}
use Rattle.std.specs.Map.{lookup, set_value, remove_entry}
use Rattle.std.specs.BTreeMap.{is_at, insert_entry}
use Rattle.slab.specs.Slab.{Slab, get, slab_len, with_value, Updates}
use Rattle.slab.proofs.SlabLemmas.{Updates-with_value}
use Rattle.rec_file.specs.Inner.Pages.{Cells, pages_at, NoneAt, HaveOwnSlots, empty_cells, put_entry}
use Rattle.rec_file.proofs.Rising.{at, AllAbove, IsRising, at_tail, at_first, same_or_not}
use Rattle.rec_file.proofs.SlotsLaws.{rising-of, same-entries}
use Rattle.rec_file.proofs.Keyed.{at-written, at-inserted, rising-written, rising-inserted, behind, is_there, is_elsewhere, lookup_is_at}
use Rattle.rec_file.proofs.RelativeLaws.{AllPages}

value_of : (a b : ℕ) → Some a ≡ Some b → a ≡ b
value_of a b h = cc

-- a number's page is the one at its slot
pub at-pages : (kept : ℕ → Option Cells) (es : List (ℕ × ℕ)) (q : ℕ) → at (pages_at kept es) q ≡ option_map (λ i. unwrap_or (kept i) []) (at es q)
at-pages kept [] q = refl
at-pages kept (e ∷ es) q = ap (cond (eqb q e.0) (Some (unwrap_or (kept e.1) []))) (at-pages kept es q) ∙ split (eqb q e.0) (at es q)
  where
    split : (b : Bool) (o : Option ℕ) → cond b (Some (unwrap_or (kept e.1) [])) (option_map (λ i. unwrap_or (kept i) []) o) ≡ option_map (λ i. unwrap_or (kept i) []) (cond b (Some e.1) o)
    split true o = refl
    split false o = refl

pub no-page : (kept : ℕ → Option Cells) (es : List (ℕ × ℕ)) (q : ℕ) → at es q ≡ None → at (pages_at kept es) q ≡ None
no-page kept es q none = at-pages kept es q ∙ ap (option_map (λ i. unwrap_or (kept i) [])) none

pub its-page : (kept : ℕ → Option Cells) (es : List (ℕ × ℕ)) (q i : ℕ) (cells : Cells) → at es q ≡ Some i → kept i ≡ Some cells → at (pages_at kept es) q ≡ Some cells
its-page kept es q i cells is there = at-pages kept es q ∙ ap (option_map (λ i. unwrap_or (kept i) [])) is ∙ ap (λ o. Some (unwrap_or o [])) there

pub length-pages : (kept : ℕ → Option Cells) (es : List (ℕ × ℕ)) → length (pages_at kept es) ≡ length es
length-pages kept [] = refl
length-pages kept (e ∷ es) = let rest = length-pages kept es in omega arith

pub behind-pages : (kept : ℕ → Option Cells) (p : ℕ) (es : List (ℕ × ℕ)) → behind p (pages_at kept es) ≡ pages_at kept (behind p es)
behind-pages kept p [] = refl
behind-pages kept p (e ∷ es) = ap (λ l. cond (is_le (nat_cmp p e.0) && true) ((e.0, unwrap_or (kept e.1) []) ∷ l) l) (behind-pages kept p es) ∙ split (is_le (nat_cmp p e.0) && true) (behind p es)
  where
    split : (b : Bool) (l : List (ℕ × ℕ)) → cond b ((e.0, unwrap_or (kept e.1) []) ∷ pages_at kept l) (pages_at kept l) ≡ pages_at kept (cond b (e ∷ l) l)
    split true l = refl
    split false l = refl

-- a slot that holds no page is none of theirs
pub fresh : (kept : ℕ → Option Cells) (es : List (ℕ × ℕ)) (i : ℕ) → AllPages (pages_at kept es) → kept i ≡ None → NoneAt i es
fresh kept [] i all none = tt
fresh kept (e ∷ es) i all none = (
  (λ same. let empty : unwrap_or (kept e.1) [] ≡ [] = ap (λ o. unwrap_or o []) (ap kept same ∙ none) in let size = ap length empty in let whole = all.0.size in absurd (omega arith)),
  fresh kept es i all.1 none,
)

none_there : (es : List (ℕ × ℕ)) (p i : ℕ) → NoneAt i es → at es p ≡ Some i → ⊥
none_there [] p i none is = cc
none_there (e ∷ es) p i none is = elim (same_or_not p e.0) [
  | inl same ↦ none.0 (value_of e.1 i (sym (at_first e es p same) ∙ is))
  | inr other ↦ none_there es p i none.1 (sym (at_tail e es p other) ∙ is)
]

-- the page of a number that has a slot is there
pub stands : (kept : ℕ → Option Cells) (es : List (ℕ × ℕ)) (p i : ℕ) → AllPages (pages_at kept es) → at es p ≡ Some i → kept i ≡ None → ⊥
stands kept es p i all is none = none_there es p i (fresh kept es i all none) is

above-pages : (kept : ℕ → Option Cells) (x : ℕ) (es : List (ℕ × ℕ)) → AllAbove x es → AllAbove x (pages_at kept es)
above-pages kept x [] h = tt
above-pages kept x (e ∷ es) h = (h.0, above-pages kept x es h.1)

rising-pages : (kept : ℕ → Option Cells) (es : List (ℕ × ℕ)) → IsRising es → IsRising (pages_at kept es)
rising-pages kept [] r = tt
rising-pages kept (e ∷ es) r = (above-pages kept e.0 es r.0, rising-pages kept es r.1)

module _ (kept now : ℕ → Option Cells) (i : ℕ) (others : (j : ℕ) → j ≢ i → now j ≡ kept j) where
  same_pages : (es : List (ℕ × ℕ)) → NoneAt i es → pages_at now es ≡ pages_at kept es
  same_pages [] none = refl
  same_pages (e ∷ es) none =
      ap (λ o. (e.0, unwrap_or o []) ∷ pages_at now es) (others e.1 none.0) ∙ ap (λ l. (e.0, unwrap_or (kept e.1) []) ∷ l) (same_pages es none.1)

  -- another page at a number's slot
  pub written : (cells : Cells) (es : List (ℕ × ℕ)) (p : ℕ) → now i ≡ Some cells → HaveOwnSlots es → at es p ≡ Some i → pages_at now es ≡ set_value (is_at (nat_cmp p)) (pages_at kept es) cells
  written cells [] p new own is = cc
  written cells (e ∷ es) p new own is = elim (same_or_not p e.0) [
    | inl same ↦
        let here : e.1 ≡ i = value_of e.1 i (sym (at_first e es p same) ∙ is) in
        ap (λ o. (e.0, unwrap_or o []) ∷ pages_at now es) (ap now here ∙ new)
        ∙ ap (λ l. (e.0, cells) ∷ l) (same_pages es (subst (λ j. NoneAt j es) here own.0))
        ∙ sym (ap (λ b. cond b ((e.0, cells) ∷ pages_at kept es) ((e.0, unwrap_or (kept e.1) []) ∷ set_value (is_at (nat_cmp p)) (pages_at kept es) cells)) (is_there p e.0 same))
    | inr other ↦
        let tail = sym (at_tail e es p other) ∙ is in
        ap (λ o. (e.0, unwrap_or o []) ∷ pages_at now es) (others e.1 (λ here. none_there es p e.1 own.0 (tail ∙ ap (λ j. Some j) (sym here))))
        ∙ ap (λ l. (e.0, unwrap_or (kept e.1) []) ∷ l) (written cells es p new own.1 tail)
        ∙ sym (ap (λ b. cond b ((e.0, cells) ∷ pages_at kept es) ((e.0, unwrap_or (kept e.1) []) ∷ set_value (is_at (nat_cmp p)) (pages_at kept es) cells)) (is_elsewhere p e.0 other))
  ]

  -- the same, as an insertion
  pub written-in : (cells : Cells) (es : List (ℕ × ℕ)) (p : ℕ) → now i ≡ Some cells → HaveOwnSlots es → IsRising es → at es p ≡ Some i → pages_at now es ≡ insert_entry nat_cmp (pages_at kept es) p cells
  written-in cells es p new own r is =
      let rp = rising-pages kept es r in
      let some : IsSome (at (pages_at kept es) p) = subst IsSome (sym (at-pages kept es p ∙ ap (option_map (λ i. unwrap_or (kept i) [])) is)) refl in
      written cells es p new own is
      ∙ same-entries (set_value (is_at (nat_cmp p)) (pages_at kept es) cells) (insert_entry nat_cmp (pages_at kept es) p cells) (rising-written (is_at (nat_cmp p)) (pages_at kept es) cells rp)
      (rising-inserted (pages_at kept es) p cells rp) (λ q. at-written (pages_at kept es) p cells some q ∙ sym (at-inserted (pages_at kept es) p cells q))

  -- a page at a slot of its own, under a number more
  pub inserted : (cells : Cells) (es : List (ℕ × ℕ)) (p : ℕ) → now i ≡ Some cells → NoneAt i es → pages_at now (insert_entry nat_cmp es p i) ≡ insert_entry nat_cmp (pages_at kept es) p cells
  inserted cells [] p new none = ap (λ o. (p, unwrap_or o []) ∷ []) new
  inserted cells (e ∷ es) p new none =
      let rest = same_pages es none.1 in
      elim (nat_cmp p e.0) as (λ o. pages_at now (match_ordering o ((p, i) ∷ e ∷ es) ((e.0, i) ∷ es) (e ∷ insert_entry nat_cmp es p i))
      ≡ match_ordering o ((p, cells) ∷ pages_at kept (e ∷ es)) ((e.0, cells) ∷ pages_at kept es) ((e.0, unwrap_or (kept e.1) []) ∷ insert_entry nat_cmp (pages_at kept es) p cells)) [
        | Less ↦ ap (λ o. (p, unwrap_or o []) ∷ pages_at now (e ∷ es)) new ∙ ap (λ l. (p, cells) ∷ l) (same_pages (e ∷ es) none)
        | Equal ↦ ap (λ o. (e.0, unwrap_or o []) ∷ pages_at now es) new ∙ ap (λ l. (e.0, cells) ∷ l) rest
        | Greater ↦ ap (λ o. (e.0, unwrap_or o []) ∷ pages_at now (insert_entry nat_cmp es p i)) (others e.1 none.0) ∙ ap (λ l. (e.0, unwrap_or (kept e.1) []) ∷ l) (inserted cells es p new none.1)
      ]

  -- a number and its slot less
  pub taken : (es : List (ℕ × ℕ)) (p : ℕ) → HaveOwnSlots es → at es p ≡ Some i → pages_at now (remove_entry (is_at (nat_cmp p)) es) ≡ remove_entry (is_at (nat_cmp p)) (pages_at kept es)
  taken [] p own is = cc
  taken (e ∷ es) p own is = elim (same_or_not p e.0) [
    | inl same ↦
        let here : e.1 ≡ i = value_of e.1 i (sym (at_first e es p same) ∙ is) in
        let yes = is_there p e.0 same in
        ap (λ b. pages_at now (cond b es (e ∷ remove_entry (is_at (nat_cmp p)) es))) yes
        ∙ same_pages es (subst (λ j. NoneAt j es) here own.0)
        ∙ sym (ap (λ b. cond b (pages_at kept es) ((e.0, unwrap_or (kept e.1) []) ∷ remove_entry (is_at (nat_cmp p)) (pages_at kept es))) yes)
    | inr other ↦
        let tail = sym (at_tail e es p other) ∙ is in
        let no = is_elsewhere p e.0 other in
        ap (λ b. pages_at now (cond b es (e ∷ remove_entry (is_at (nat_cmp p)) es))) no
        ∙ ap (λ o. (e.0, unwrap_or o []) ∷ pages_at now (remove_entry (is_at (nat_cmp p)) es)) (others e.1 (λ here. none_there es p e.1 own.0 (tail ∙ ap (λ j. Some j) (sym here))))
        ∙ ap (λ l. (e.0, unwrap_or (kept e.1) []) ∷ l) (taken es p own.1 tail)
        ∙ sym (ap (λ b. cond b (pages_at kept es) ((e.0, unwrap_or (kept e.1) []) ∷ remove_entry (is_at (nat_cmp p)) (pages_at kept es))) no)
  ]

none-inserted : (i : ℕ) (es : List (ℕ × ℕ)) (p j : ℕ) → NoneAt i es → j ≢ i → NoneAt i (insert_entry nat_cmp es p j)
none-inserted i [] p j none other = (other, tt)
none-inserted i (e ∷ es) p j none other = elim (nat_cmp p e.0) as (λ o. NoneAt i (match_ordering o ((p, j) ∷ e ∷ es) ((e.0, j) ∷ es) (e ∷ insert_entry nat_cmp es p j))) [
  | Less ↦ (other, none)
  | Equal ↦ (other, none.1)
  | Greater ↦ (none.0, none-inserted i es p j none.1 other)
]

pub own-inserted : (es : List (ℕ × ℕ)) (p i : ℕ) → HaveOwnSlots es → NoneAt i es → HaveOwnSlots (insert_entry nat_cmp es p i)
own-inserted [] p i own none = (tt, tt)
own-inserted (e ∷ es) p i own none = elim (nat_cmp p e.0) as (λ o. HaveOwnSlots (match_ordering o ((p, i) ∷ e ∷ es) ((e.0, i) ∷ es) (e ∷ insert_entry nat_cmp es p i))) [
  | Less ↦ (none, own)
  | Equal ↦ (none.1, own.1)
  | Greater ↦ (none-inserted e.1 es p i own.0 (λ same. none.0 (sym same)), own-inserted es p i own.1 none.1)
]

none-removed : (i : ℕ) (t : ℕ → Bool) (es : List (ℕ × ℕ)) → NoneAt i es → NoneAt i (remove_entry t es)
none-removed i t [] none = tt
none-removed i t (e ∷ es) none = elim (t e.0) as (λ b. NoneAt i (cond b es (e ∷ remove_entry t es))) [ true ↦ none.1 | false ↦ (none.0, none-removed i t es none.1) ]

pub own-removed : (t : ℕ → Bool) (es : List (ℕ × ℕ)) → HaveOwnSlots es → HaveOwnSlots (remove_entry t es)
own-removed t [] own = tt
own-removed t (e ∷ es) own = elim (t e.0) as (λ b. HaveOwnSlots (cond b es (e ∷ remove_entry t es))) [ true ↦ own.1 | false ↦ (none-removed e.1 t es own.0, own-removed t es own.1) ]

pub on-ok : {A E P Q : Type 0} (r : Result A E) → (P → Q) → OnOk r P → OnOk r Q
on-ok (Ok a) f h = f h
on-ok (Err e) f h = tt

-- a record more in a page that is kept
pub put-kept :
    (s : Slab Cells) (es now : List (ℕ × ℕ)) (p i k : ℕ) (old new : Cells) (body : List ℕ) → now ≡ es → is_sorted nat_cmp es ≡ true → HaveOwnSlots es
    → lookup (is_at (nat_cmp p)) es ≡ Some i → get s i ≡ Some old → new ≡ set old k (Some body) → pages_at (get (with_value s i new)) now ≡ put_entry (pages_at (get s) es) p k body
put-kept s es now p i k old new body same sorted own is there made =
    let u = Updates-with_value s i new (ap is_some there) in
    let page = lookup_is_at (pages_at (get s) es) p ∙ its-page (get s) es p i old (sym (lookup_is_at es p) ∙ is) there in
    ap (pages_at (get (with_value s i new))) same
    ∙ written-in (get s) (get (with_value s i new)) i u.others new es p u.changed own (rising-of es sorted) (sym (lookup_is_at es p) ∙ is)
    ∙ ap (insert_entry nat_cmp (pages_at (get s) es) p) (made ∙ ap (λ o. set (unwrap_or o empty_cells) k (Some body)) (sym page))

-- a record in a page of its own
pub put-new :
    (s s' : Slab Cells) (es now : List (ℕ × ℕ)) (p i k : ℕ) (new : Cells) (body : List ℕ) → now ≡ insert_entry nat_cmp es p i → AllPages (pages_at (get s) es) → lookup (is_at (nat_cmp p)) es ≡ None
    → get s i ≡ None → Updates s s' i (Some new) → new ≡ set empty_cells k (Some body) → pages_at (get s') now ≡ put_entry (pages_at (get s) es) p k body
put-new s s' es now p i k new body same all none free u made =
    let page = lookup_is_at (pages_at (get s) es) p ∙ no-page (get s) es p (sym (lookup_is_at es p) ∙ none) in
    ap (pages_at (get s')) same
    ∙ inserted (get s) (get s') i u.others new es p u.changed (fresh (get s) es i all free)
    ∙ ap (insert_entry nat_cmp (pages_at (get s) es) p) (made ∙ ap (λ o. set (unwrap_or o empty_cells) k (Some body)) (sym page))

pub own-new : (s : Slab Cells) (es now : List (ℕ × ℕ)) (p i : ℕ) → now ≡ insert_entry nat_cmp es p i → AllPages (pages_at (get s) es) → get s i ≡ None → HaveOwnSlots es → HaveOwnSlots now
own-new s es now p i same all free own = subst HaveOwnSlots (sym same) (own-inserted es p i own (fresh (get s) es i all free))

-- another page in the place of one that is kept
pub page-written : (s : Slab Cells) (es : List (ℕ × ℕ)) (p i : ℕ) (old new made : Cells) → HaveOwnSlots es → lookup (is_at (nat_cmp p)) es ≡ Some i → get s i ≡ Some old → new ≡ made
    → pages_at (get (with_value s i new)) es ≡ set_value (is_at (nat_cmp p)) (pages_at (get s) es) made
page-written s es p i old new made own is there same =
    let u = Updates-with_value s i new (ap is_some there) in
    written (get s) (get (with_value s i new)) i u.others new es p u.changed own (sym (lookup_is_at es p) ∙ is) ∙ ap (set_value (is_at (nat_cmp p)) (pages_at (get s) es)) same

pub with-same : {T : Type 0} (s : Slab T) (i : ℕ) (v : T) → get s i ≡ Some v → with_value s i v ≡ s
with-same s i v is = ap (λ slots. record s { slots = slots }) (ap (set s.slots i) (sym is) ∙ set-get_or s.slots i None)

-- a page written back changes nothing
pub page-same : (s : Slab Cells) (es : List (ℕ × ℕ)) (i : ℕ) (old : Cells) → get s i ≡ Some old → pages_at (get (with_value s i old)) es ≡ pages_at (get s) es
page-same s es i old is = ap (λ t. pages_at (get t) es) (with-same s i old is)

-- a page that was written and then removed
pub page-removed :
    (s s' : Slab Cells) (es now : List (ℕ × ℕ)) (p i : ℕ) (old new : Cells) → HaveOwnSlots es → lookup (is_at (nat_cmp p)) es ≡ Some i → get s i ≡ Some old → Updates (with_value s i new) s' i None
    → now ≡ remove_entry (is_at (nat_cmp p)) es → pages_at (get s') now ≡ remove_entry (is_at (nat_cmp p)) (pages_at (get s) es)
page-removed s s' es now p i old new own is there less same =
    let u = Updates-with_value s i new (ap is_some there) in
    ap (pages_at (get s')) same ∙ taken (get s) (get s') i (λ j other. less.others j other ∙ u.others j other) es p own (sym (lookup_is_at es p) ∙ is)

pub own-less : (es now : List (ℕ × ℕ)) (t : ℕ → Bool) → now ≡ remove_entry t es → HaveOwnSlots es → HaveOwnSlots now
own-less es now t same own = subst HaveOwnSlots (sym same) (own-removed t es own)

-- the pages from a number on, by their slots
none-behind : (i p : ℕ) (es : List (ℕ × ℕ)) → NoneAt i es → NoneAt i (behind p es)
none-behind i p [] none = tt
none-behind i p (e ∷ es) none = elim (is_le (nat_cmp p e.0) && true) as (λ b. NoneAt i (cond b (e ∷ behind p es) (behind p es))) [ true ↦ (none.0, none-behind i p es none.1) | false ↦ none-behind i p es none.1 ]

module _ (kept : ℕ → Option Cells) (es : List (ℕ × ℕ)) (p : ℕ) where
  pub rest-none : behind p es ≡ [] → behind p (pages_at kept es) ≡ []
  rest-none is = behind-pages kept p es ∙ ap (pages_at kept) is

  module _ (e : ℕ × ℕ) (t : List (ℕ × ℕ)) (is : behind p es ≡ e ∷ t) where
    pub rest-is : (cells : Cells) → kept e.1 ≡ Some cells → behind p (pages_at kept es) ≡ (e.0, cells) ∷ pages_at kept t
    rest-is cells there = behind-pages kept p es ∙ ap (pages_at kept) is ∙ ap (λ o. (e.0, unwrap_or o []) ∷ pages_at kept t) there

    pub rest-stands : AllPages (pages_at kept es) → kept e.1 ≡ None → ⊥
    rest-stands all none = (subst (NoneAt e.1) is (none-behind e.1 p es (fresh kept es e.1 all none))).0 refl

    pub next-none : t ≡ [] → pages_at kept t ≡ []
    next-none none = ap (pages_at kept) none

    module _ (e' : ℕ × ℕ) (t' : List (ℕ × ℕ)) (next : t ≡ e' ∷ t') where
      pub next-is : (cells : Cells) → kept e'.1 ≡ Some cells → pages_at kept t ≡ (e'.0, cells) ∷ pages_at kept t'
      next-is cells there = ap (pages_at kept) next ∙ ap (λ o. (e'.0, unwrap_or o []) ∷ pages_at kept t') there

      pub next-stands : AllPages (pages_at kept es) → kept e'.1 ≡ None → ⊥
      next-stands all none = (subst (NoneAt e'.1) next (subst (NoneAt e'.1) is (none-behind e'.1 p es (fresh kept es e'.1 all none))).1).0 refl

-- how many pages there are
-- the promise of a call that gives a value
pub on-some : {A P : Type 0} (r : Option A) (a : A) → r ≡ Some a → OnSome r P → P
on-some None a is p = cc
on-some (Some b) a is p = p

count-rewritten : {T : Type 0} (xs : List (Option T)) (i : ℕ) (v w : T) → get_or xs i None ≡ Some v → count_by is_some (set xs i (Some w)) ≡ count_by is_some xs
count-rewritten [] i v w is = cc
count-rewritten (x ∷ xs) zero v w is =
    sum_by-cons (λ o. cond (is_some o) 1 0) (Some w) xs ∙ ap (λ o. cond (is_some o) 1 0 + count_by is_some xs) (sym is) ∙ sym (sum_by-cons (λ o. cond (is_some o) 1 0) x xs)
count-rewritten (x ∷ xs) (suc i) v w is =
    sum_by-cons (λ o. cond (is_some o) 1 0) x (set xs i (Some w)) ∙ ap (λ n. cond (is_some x) 1 0 + n) (count-rewritten xs i v w is) ∙ sym (sum_by-cons (λ o. cond (is_some o) 1 0) x xs)

pub len-written : {T : Type 0} (s : Slab T) (i : ℕ) (v w : T) → get s i ≡ Some v → slab_len (with_value s i w) ≡ slab_len s
len-written s i v w is = count-rewritten s.slots i v w is

pub length-inserted : (es : List (ℕ × ℕ)) (p i : ℕ) → at es p ≡ None → length (insert_entry nat_cmp es p i) ≡ length es + 1
length-inserted [] p i none = refl
length-inserted (e ∷ es) p i none = by (nat_cmp p e.0) refl (λ tail. length-inserted es p i tail)
  where
    by : (o : Ordering) → nat_cmp p e.0 ≡ o → (at es p ≡ None → length (insert_entry nat_cmp es p i) ≡ length es + 1)
        → length (match_ordering o ((p, i) ∷ e ∷ es) ((e.0, i) ∷ es) (e ∷ insert_entry nat_cmp es p i)) ≡ length (e ∷ es) + 1
    by Less q rest = omega arith
    by Equal q rest = cc (none, at_first e es p (let same : p ≡ e.0 = grind (arith, nat_tests) in same))
    by Greater q rest = let other : p ≢ e.0 = λ same. grind (arith, nat_tests) in let more = rest (sym (at_tail e es p other) ∙ none) in omega arith

pub length-removed : (es : List (ℕ × ℕ)) (p i : ℕ) → at es p ≡ Some i → length (remove_entry (is_at (nat_cmp p)) es) + 1 ≡ length es
length-removed [] p i is = cc
length-removed (e ∷ es) p i is = elim (same_or_not p e.0) [
  | inl same ↦ ap (λ b. length (cond b es (e ∷ remove_entry (is_at (nat_cmp p)) es)) + 1) (is_there p e.0 same) ∙ (omega arith)
  | inr other ↦
      let rest = length-removed es p i (sym (at_tail e es p other) ∙ is) in
      ap (λ b. length (cond b es (e ∷ remove_entry (is_at (nat_cmp p)) es)) + 1) (is_elsewhere p e.0 other) ∙ (omega arith)
]
