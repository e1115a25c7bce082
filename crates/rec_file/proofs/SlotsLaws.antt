-- Slots of pages in groups, and in one list: what stands at a page after each edit.
use Rattle.std.proofs.Common.{◌≡◌, ℕ, ◌<◌, ◌≤◌, ◌≢◌, ◌&&◌, ◌++◌, cond, eqb, Bool, true, false, List, [], ◌∷◌, Option, Some, None, IsSome, refl, sym, ap, subst, ◌∙◌, arith, inl, inr, T}
use Rattle.std.specs.Ordering.{nat_cmp, is_le, match_ordering}
use Rattle.std.specs.declared.cmp.Ordering.TheVariants.{Less, Equal, Greater}
use Rattle.std.specs.Map.{set_value, remove_entry}
use Rattle.std.specs.BTreeMap.{is_at, insert_entry}
use Rattle.std.specs.FinMap.{is_sorted}
use Rattle.std.proofs.lemmas.Bool.{cases_lt}
use Rattle.std.proofs.lemmas.Bool.Decides.{nat_tests}
use Rattle.std.proofs.lemmas.Option.{same_Some}
use Rattle.rec_file.specs.Inner.Slots.{group_of, listed, AreOfGroup, IsGroup, ArePageGroups, slots_from}
use Rattle.rec_file.proofs.Rising.{at, AllAbove, IsRising, at_below, at_tail, at_first, same_or_not, rising_from_sorted, sorted_from_rising}
use Rattle.rec_file.proofs.Keyed.{at-written, rising-written, at-inserted, rising-inserted, at-removed, rising-removed, is_there, is_elsewhere, behind}

true_test : (b : Bool) → b ≡ true → T b
true_test b h = subst T (sym h) tt

test_true : (b : Bool) → T b → b ≡ true
test_true true h = refl
test_true false h = absurd h

pub rising-of : {X : Type 0} (es : List (ℕ × X)) → is_sorted nat_cmp es ≡ true → IsRising es
rising-of es h = rising_from_sorted es (true_test _ h)

pub sorted-of : {X : Type 0} (es : List (ℕ × X)) → IsRising es → is_sorted nat_cmp es ≡ true
sorted-of es r = test_true _ (sorted_from_rising es r)

module _ {X : Type 0} where
  no_more : (v : X) → None ≡ Some v → ⊥
  no_more v h = cc

  -- rising lists in which the same stands at each number are the same
  pub same-entries : (a b : List (ℕ × X)) → IsRising a → IsRising b → ((q : ℕ) → at a q ≡ at b q) → a ≡ b
  same-entries [] [] r s h = refl
  same-entries [] (y ∷ b) r s h = absurd (no_more y.1 (h y.0 ∙ at_first y b y.0 refl))
  same-entries (x ∷ a) [] r s h = absurd (no_more x.1 (sym (h x.0) ∙ at_first x a x.0 refl))
  same-entries (x ∷ a) (y ∷ b) r s h = elim (cases_lt x.0 y.0) [
    | inl less ↦ absurd (no_more x.1 (sym (at_tail y b x.0 (omega arith) ∙ at_below y.0 x.0 b s.0 (omega arith)) ∙ sym (h x.0) ∙ at_first x a x.0 refl))
    | inr least ↦ elim (cases_lt y.0 x.0) [
      | inl more ↦ absurd (no_more y.1 (sym (at_tail x a y.0 (omega arith) ∙ at_below x.0 y.0 a r.0 (omega arith)) ∙ h y.0 ∙ at_first y b y.0 refl))
      | inr most ↦
          let same : x.0 ≡ y.0 = omega arith in
          let value : x.1 ≡ y.1 = same_Some x.1 y.1 (sym (at_first x a x.0 refl) ∙ h x.0 ∙ at_first y b x.0 same) in
          let tails = same-entries a b r.1 s.1 (tail same) in
          ap (λ l. x ∷ l) tails ∙ ap (λ k. (k, x.1) ∷ b) same ∙ ap (λ v. (y.0, v) ∷ b) value
    ]
  ]
    where
      tail : x.0 ≡ y.0 → (q : ℕ) → at a q ≡ at b q
      tail same q = elim (same_or_not q x.0) [
        | inl here ↦ at_below x.0 q a r.0 (omega arith) ∙ sym (at_below y.0 q b s.0 (omega arith))
        | inr other ↦ sym (at_tail x a q other) ∙ h q ∙ at_tail y b q (omega arith)
      ]

  at-left : (a b : List (ℕ × X)) (q : ℕ) → at b q ≡ None → at (a ++ b) q ≡ at a q
  at-left [] b q none = none
  at-left (e ∷ a) b q none = ap (cond (eqb q e.0) (Some e.1)) (at-left a b q none)

  at-right : (a b : List (ℕ × X)) (q : ℕ) → at a q ≡ None → at (a ++ b) q ≡ at b q
  at-right [] b q none = refl
  at-right (e ∷ a) b q none = elim (same_or_not q e.0) [
    | inl same ↦ absurd (no_more e.1 (sym none ∙ at_first e a q same))
    | inr other ↦ at_tail e (a ++ b) q other ∙ at-right a b q (sym (at_tail e a q other) ∙ none)
  ]

  above-both : (x : ℕ) (a b : List (ℕ × X)) → AllAbove x a → AllAbove x b → AllAbove x (a ++ b)
  above-both x [] b h k = k
  above-both x (e ∷ a) b h k = (h.0, above-both x a b h.1 k)

pub yes : (a b : ℕ) → a ≡ b → eqb a b ≡ true
yes a b same = grind (arith, nat_tests)

pub no : (a b : ℕ) → a ≢ b → eqb a b ≡ false
no a b other = grind (arith, nat_tests)

-- nothing stands in a group at a page of another
not-own : (g : ℕ) (es : List (ℕ × ℕ)) → AreOfGroup g es → (q : ℕ) → group_of q ≢ g → at es q ≡ None
not-own g [] own q other = refl
not-own g (e ∷ es) own q other = at_tail e es q (λ same. other (ap group_of same ∙ own.0)) ∙ not-own g es own.1 q other

-- what stands at a page in a group, or in none
abbrev pub in_group : Option (List (ℕ × ℕ)) → ℕ → Option ℕ
in_group None q = None
in_group (Some es) q = at es q

abbrev Groups : Type 0
Groups = List (ℕ × List (ℕ × ℕ))

pub at-listed : (gs : Groups) → IsRising gs → ArePageGroups gs → (q : ℕ) → at (listed gs) q ≡ in_group (at gs (group_of q)) q
at-listed [] r are q = refl
at-listed (g ∷ gs) r are q = elim (same_or_not (group_of q) g.0) [
  | inl same ↦
      at-left g.1 (listed gs) q (at-listed gs r.1 are.1 q ∙ ap (λ o. in_group o q) (at_below g.0 (group_of q) gs r.0 (omega arith)))
      ∙ sym (ap (λ o. in_group o q) (at_first g gs (group_of q) same))
  | inr other ↦
      at-right g.1 (listed gs) q (not-own g.0 g.1 are.0.own q other) ∙ at-listed gs r.1 are.1 q ∙ sym (ap (λ o. in_group o q) (at_tail g gs (group_of q) other))
]

later : (x y : ℕ) → group_of x < group_of y → x < y
later x y lt = omega arith

above-group : (x g : ℕ) (es : List (ℕ × ℕ)) → group_of x < g → AreOfGroup g es → AllAbove x es
above-group x g [] lt own = tt
above-group x g (e ∷ es) lt own = (later x e.0 (subst (λ h. group_of x < h) (sym own.0) lt), above-group x g es lt own.1)

above-listed : (x : ℕ) (gs : Groups) → AllAbove (group_of x) gs → ArePageGroups gs → AllAbove x (listed gs)
above-listed x [] above are = tt
above-listed x (g ∷ gs) above are = above-both x g.1 (listed gs) (above-group x g.0 g.1 above.0 are.0.own) (above-listed x gs above.1 are.1)

rising-both : (g : ℕ) (es : List (ℕ × ℕ)) (gs : Groups) → AreOfGroup g es → IsRising es → AllAbove g gs → ArePageGroups gs → IsRising (listed gs) → IsRising (es ++ listed gs)
rising-both g [] gs own r above are rest = rest
rising-both g (e ∷ es) gs own r above are rest = (
  above-both e.0 es (listed gs) r.0 (above-listed e.0 gs (subst (λ h. AllAbove h gs) (sym own.0) above) are),
  rising-both g es gs own.1 r.1 above are rest,
)

pub rising-listed : (gs : Groups) → IsRising gs → ArePageGroups gs → IsRising (listed gs)
rising-listed [] r are = tt
rising-listed (g ∷ gs) r are = rising-both g.0 g.1 gs are.0.own (rising-of g.1 are.0.sorted) r.0 are.1 (rising-listed gs r.1 are.1)

-- the group at a number
pub group-at : (gs : Groups) (g : ℕ) (es : List (ℕ × ℕ)) → ArePageGroups gs → at gs g ≡ Some es → IsGroup g es
group-at [] g es are is = cc
group-at (h ∷ gs) g es are is = elim (same_or_not g h.0) [
  | inl same ↦ subst (λ k. IsGroup k es) (sym same) (subst (IsGroup h.0) (same_Some h.1 es (sym (at_first h gs g same) ∙ is)) are.0)
  | inr other ↦ group-at gs g es are.1 (sym (at_tail h gs g other) ∙ is)
]

-- another group in the place of one, a group more, and one less
pub are-written : (gs : Groups) (g : ℕ) (es : List (ℕ × ℕ)) → ArePageGroups gs → IsGroup g es → ArePageGroups (set_value (is_at (nat_cmp g)) gs es)
are-written [] g es are is = tt
are-written (h ∷ gs) g es are is = elim (same_or_not g h.0) [
  | inl same ↦ subst (λ b. ArePageGroups (cond b ((h.0, es) ∷ gs) (h ∷ set_value (is_at (nat_cmp g)) gs es))) (sym (is_there g h.0 same)) (subst (λ k. IsGroup k es) same is, are.1)
  | inr other ↦ subst (λ b. ArePageGroups (cond b ((h.0, es) ∷ gs) (h ∷ set_value (is_at (nat_cmp g)) gs es))) (sym (is_elsewhere g h.0 other)) (are.0, are-written gs g es are.1 is)
]

is_equal : (p k : ℕ) → nat_cmp p k ≡ Equal → p ≡ k
is_equal p k same = grind (arith, nat_tests)

pub are-inserted : (gs : Groups) (g : ℕ) (es : List (ℕ × ℕ)) → ArePageGroups gs → IsGroup g es → ArePageGroups (insert_entry nat_cmp gs g es)
are-inserted [] g es are is = (is, tt)
are-inserted (h ∷ gs) g es are is = elim (nat_cmp g h.0) as (λ o. nat_cmp g h.0 ≡ o → ArePageGroups (match_ordering o ((g, es) ∷ h ∷ gs) ((h.0, es) ∷ gs) (h ∷ insert_entry nat_cmp gs g es))) [
  | Less ↦ λ q. (is, are)
  | Equal ↦ λ q. (subst (λ k. IsGroup k es) (is_equal g h.0 q) is, are.1)
  | Greater ↦ λ q. (are.0, are-inserted gs g es are.1 is)
] refl

pub are-removed : (t : ℕ → Bool) (gs : Groups) → ArePageGroups gs → ArePageGroups (remove_entry t gs)
are-removed t [] are = tt
are-removed t (h ∷ gs) are = elim (t h.0) as (λ b. ArePageGroups (cond b gs (h ∷ remove_entry t gs))) [ true ↦ are.1 | false ↦ (are.0, are-removed t gs are.1) ]

-- a page and its slot more in a group
own-inserted : (g : ℕ) (es : List (ℕ × ℕ)) (p i : ℕ) → AreOfGroup g es → group_of p ≡ g → AreOfGroup g (insert_entry nat_cmp es p i)
own-inserted g [] p i own is = (is, tt)
own-inserted g (e ∷ es) p i own is = elim (nat_cmp p e.0) as (λ o. AreOfGroup g (match_ordering o ((p, i) ∷ e ∷ es) ((e.0, i) ∷ es) (e ∷ insert_entry nat_cmp es p i))) [
  | Less ↦ (is, own)
  | Equal ↦ own
  | Greater ↦ (own.0, own-inserted g es p i own.1 is)
]

pub group-inserted : (g : ℕ) (es : List (ℕ × ℕ)) (p i : ℕ) → IsGroup g es → group_of p ≡ g → IsGroup g (insert_entry nat_cmp es p i)
group-inserted g es p i is own = record { own = own-inserted g es p i is.own own; sorted = sorted-of _ (rising-inserted es p i (rising-of es is.sorted)) }

own-removed : (g : ℕ) (t : ℕ → Bool) (es : List (ℕ × ℕ)) → AreOfGroup g es → AreOfGroup g (remove_entry t es)
own-removed g t [] own = tt
own-removed g t (e ∷ es) own = elim (t e.0) as (λ b. AreOfGroup g (cond b es (e ∷ remove_entry t es))) [ true ↦ own.1 | false ↦ (own.0, own-removed g t es own.1) ]

pub group-removed : (g : ℕ) (t : ℕ → Bool) (es : List (ℕ × ℕ)) → IsGroup g es → IsGroup g (remove_entry t es)
group-removed g t es is = record { own = own-removed g t es is.own; sorted = sorted-of _ (rising-removed t es (rising-of es is.sorted)) }

module _ (gs : Groups) (r : IsRising gs) (are : ArePageGroups gs) where
  whole : IsRising (listed gs)
  whole = rising-listed gs r are

  -- a page more in its group
  pub put-in-group : (p i : ℕ) (es : List (ℕ × ℕ)) → at gs (group_of p) ≡ Some es
      → listed (set_value (is_at (nat_cmp (group_of p))) gs (insert_entry nat_cmp es p i)) ≡ insert_entry nat_cmp (listed gs) p i
  put-in-group p i es is =
      let new = insert_entry nat_cmp es p i in
      let own = group-inserted (group_of p) es p i (group-at gs (group_of p) es are is) refl in
      let gs' = set_value (is_at (nat_cmp (group_of p))) gs new in
      let r' = rising-written (is_at (nat_cmp (group_of p))) gs new r in
      let are' = are-written gs (group_of p) new are own in
      same-entries (listed gs') (insert_entry nat_cmp (listed gs) p i) (rising-listed gs' r' are') (rising-inserted (listed gs) p i whole)
      (λ q. at-listed gs' r' are' q ∙ ap (λ o. in_group o q) (at-written gs (group_of p) new (subst IsSome (sym is) refl) (group_of q))
      ∙ here q ∙ sym (at-inserted (listed gs) p i q ∙ ap (cond (eqb q p) (Some i)) (at-listed gs r are q)))
    where
      here : (q : ℕ) → in_group (cond (eqb (group_of q) (group_of p)) (Some (insert_entry nat_cmp es p i)) (at gs (group_of q))) q
          ≡ cond (eqb q p) (Some i) (in_group (at gs (group_of q)) q)
      here q = elim (same_or_not (group_of q) (group_of p)) [
        | inl same ↦
            ap (λ b. in_group (cond b (Some (insert_entry nat_cmp es p i)) (at gs (group_of q))) q) (yes (group_of q) (group_of p) same)
            ∙ at-inserted es p i q ∙ ap (cond (eqb q p) (Some i)) (sym (ap (λ o. in_group o q) (ap (at gs) same ∙ is)))
        | inr other ↦
            ap (λ b. in_group (cond b (Some (insert_entry nat_cmp es p i)) (at gs (group_of q))) q) (no (group_of q) (group_of p) other)
            ∙ sym (ap (λ b. cond b (Some i) (in_group (at gs (group_of q)) q)) (no q p (λ same. other (ap group_of same))))
      ]

  -- a page more, in a group of its own
  pub put-new-group : (p i : ℕ) → at gs (group_of p) ≡ None → listed (insert_entry nat_cmp gs (group_of p) ((p, i) ∷ [])) ≡ insert_entry nat_cmp (listed gs) p i
  put-new-group p i is =
      let new : List (ℕ × ℕ) = (p, i) ∷ [] in
      let gs' = insert_entry nat_cmp gs (group_of p) new in
      let r' = rising-inserted gs (group_of p) new r in
      let are' = are-inserted gs (group_of p) new are (record { own = (refl, tt); sorted = refl }) in
      same-entries (listed gs') (insert_entry nat_cmp (listed gs) p i) (rising-listed gs' r' are') (rising-inserted (listed gs) p i whole)
      (λ q. at-listed gs' r' are' q ∙ ap (λ o. in_group o q) (at-inserted gs (group_of p) new (group_of q))
      ∙ here q ∙ sym (at-inserted (listed gs) p i q ∙ ap (cond (eqb q p) (Some i)) (at-listed gs r are q)))
    where
      here : (q : ℕ) → in_group (cond (eqb (group_of q) (group_of p)) (Some ((p, i) ∷ [])) (at gs (group_of q))) q
          ≡ cond (eqb q p) (Some i) (in_group (at gs (group_of q)) q)
      here q = elim (same_or_not (group_of q) (group_of p)) [
        | inl same ↦
            ap (λ b. in_group (cond b (Some ((p, i) ∷ [])) (at gs (group_of q))) q) (yes (group_of q) (group_of p) same)
            ∙ ap (cond (eqb q p) (Some i)) (sym (ap (λ o. in_group o q) (ap (at gs) same ∙ is)))
        | inr other ↦
            ap (λ b. in_group (cond b (Some ((p, i) ∷ [])) (at gs (group_of q))) q) (no (group_of q) (group_of p) other)
            ∙ sym (ap (λ b. cond b (Some i) (in_group (at gs (group_of q)) q)) (no q p (λ same. other (ap group_of same))))
      ]

  -- a page less in its group
  less_here : (p : ℕ) (es : List (ℕ × ℕ)) → at gs (group_of p) ≡ Some es → (q : ℕ)
      → in_group (cond (eqb (group_of q) (group_of p)) (Some (remove_entry (is_at (nat_cmp p)) es)) (at gs (group_of q))) q ≡ cond (eqb q p) None (in_group (at gs (group_of q)) q)
  less_here p es is q = elim (same_or_not (group_of q) (group_of p)) [
    | inl same ↦
        ap (λ b. in_group (cond b (Some (remove_entry (is_at (nat_cmp p)) es)) (at gs (group_of q))) q) (yes (group_of q) (group_of p) same)
        ∙ at-removed es p (rising-of es (group-at gs (group_of p) es are is).sorted) q ∙ ap (cond (eqb q p) None) (sym (ap (λ o. in_group o q) (ap (at gs) same ∙ is)))
    | inr other ↦
        ap (λ b. in_group (cond b (Some (remove_entry (is_at (nat_cmp p)) es)) (at gs (group_of q))) q) (no (group_of q) (group_of p) other)
        ∙ sym (ap (λ b. cond b None (in_group (at gs (group_of q)) q)) (no q p (λ same. other (ap group_of same))))
  ]

  pub take-in-group : (p : ℕ) (es : List (ℕ × ℕ)) → at gs (group_of p) ≡ Some es
      → listed (set_value (is_at (nat_cmp (group_of p))) gs (remove_entry (is_at (nat_cmp p)) es)) ≡ remove_entry (is_at (nat_cmp p)) (listed gs)
  take-in-group p es is =
      let new = remove_entry (is_at (nat_cmp p)) es in
      let own = group-removed (group_of p) (is_at (nat_cmp p)) es (group-at gs (group_of p) es are is) in
      let gs' = set_value (is_at (nat_cmp (group_of p))) gs new in
      let r' = rising-written (is_at (nat_cmp (group_of p))) gs new r in
      let are' = are-written gs (group_of p) new are own in
      same-entries (listed gs') (remove_entry (is_at (nat_cmp p)) (listed gs)) (rising-listed gs' r' are') (rising-removed (is_at (nat_cmp p)) (listed gs) whole)
      (λ q. at-listed gs' r' are' q ∙ ap (λ o. in_group o q) (at-written gs (group_of p) new (subst IsSome (sym is) refl) (group_of q))
      ∙ less_here p es is q ∙ sym (at-removed (listed gs) p whole q ∙ ap (cond (eqb q p) None) (at-listed gs r are q)))

-- a group without pages gives nothing
pub drop-empty : (gs : Groups) (g : ℕ) → at gs g ≡ Some [] → listed (remove_entry (is_at (nat_cmp g)) gs) ≡ listed gs
drop-empty [] g is = refl
drop-empty (h ∷ gs) g is = elim (same_or_not g h.0) [
  | inl same ↦
      ap (λ b. listed (cond b gs (h ∷ remove_entry (is_at (nat_cmp g)) gs))) (is_there g h.0 same)
      ∙ ap (λ l. l ++ listed gs) (sym (same_Some h.1 [] (sym (at_first h gs g same) ∙ is)))
  | inr other ↦
      ap (λ b. listed (cond b gs (h ∷ remove_entry (is_at (nat_cmp g)) gs))) (is_elsewhere g h.0 other)
      ∙ ap (λ l. h.1 ++ l) (drop-empty gs g (sym (at_tail h gs g other) ∙ is))
]

-- the slots of the pages from one on, group by group
module _ (p : ℕ) where
  from_both : (a b : List (ℕ × ℕ)) → slots_from p (a ++ b) ≡ slots_from p a ++ slots_from p b
  from_both [] b = refl
  from_both (e ∷ a) b = elim (is_le (nat_cmp p e.0)) as (λ t. cond t (e ∷ slots_from p (a ++ b)) (slots_from p (a ++ b)) ≡ cond t (e ∷ slots_from p a) (slots_from p a) ++ slots_from p b) [
    | true ↦ ap (λ l. e ∷ l) (from_both a b)
    | false ↦ from_both a b
  ]

  all-from : (x : ℕ) (es : List (ℕ × ℕ)) → AllAbove x es → p ≤ x → slots_from p es ≡ es
  all-from x [] above le = refl
  all-from x (e ∷ es) above le =
      let yes : is_le (nat_cmp p e.0) ≡ true = (let lt = above.0 in grind (arith, nat_tests)) in
      ap (λ t. cond t (e ∷ slots_from p es) (slots_from p es)) yes ∙ ap (λ l. e ∷ l) (all-from x es above.1 le)

  none-from : (g : ℕ) (es : List (ℕ × ℕ)) → AreOfGroup g es → g < group_of p → slots_from p es ≡ []
  none-from g [] own lt = refl
  none-from g (e ∷ es) own lt =
      let before : e.0 < p = later e.0 p (subst (λ h. h < group_of p) (sym own.0) lt) in
      let no : is_le (nat_cmp p e.0) ≡ false = grind (arith, nat_tests) in
      ap (λ t. cond t (e ∷ slots_from p es) (slots_from p es)) no ∙ none-from g es own.1 lt

  own-from : (g : ℕ) (es : List (ℕ × ℕ)) → AreOfGroup g es → group_of p < g → slots_from p es ≡ es
  own-from g [] own lt = refl
  own-from g (e ∷ es) own lt =
      let after : p < e.0 = later p e.0 (subst (λ h. group_of p < h) (sym own.0) lt) in
      let yes : is_le (nat_cmp p e.0) ≡ true = grind (arith, nat_tests) in
      ap (λ t. cond t (e ∷ slots_from p es) (slots_from p es)) yes ∙ ap (λ l. e ∷ l) (own-from g es own.1 lt)

  later-from : (gs : Groups) → AllAbove (group_of p) gs → ArePageGroups gs → slots_from p (listed gs) ≡ listed gs
  later-from gs above are = all-from p (listed gs) (above-listed p gs above are) (omega arith)

  abbrev pub groups_from : Groups → Groups
  groups_from gs = behind (group_of p) gs

  groups-later : (gs : Groups) → AllAbove (group_of p) gs → groups_from gs ≡ gs
  groups-later [] above = refl
  groups-later (g ∷ gs) above =
      let yes : (is_le (nat_cmp (group_of p) g.0) && true) ≡ true = (let lt = above.0 in grind (arith, nat_tests)) in
      ap (λ t. cond t (g ∷ groups_from gs) (groups_from gs)) yes ∙ ap (λ l. g ∷ l) (groups-later gs above.1)

  above-trans : (x : ℕ) (gs : Groups) → AllAbove x gs → group_of p ≤ x → AllAbove (group_of p) gs
  above-trans x [] h le = tt
  above-trans x (g ∷ gs) h le = (let lt = h.0 in omega arith, above-trans x gs h.1 le)

  -- what is left of the first group, and all that follow
  abbrev pub rest_of : Groups → List (ℕ × ℕ)
  rest_of [] = []
  rest_of (g ∷ gs) = cond (eqb g.0 (group_of p)) (slots_from p g.1) g.1 ++ listed gs

  pub from-listed : (gs : Groups) → IsRising gs → ArePageGroups gs → slots_from p (listed gs) ≡ rest_of (groups_from gs)
  from-listed [] r are = refl
  from-listed (g ∷ gs) r are = elim (cases_lt g.0 (group_of p)) [
    | inl before ↦
        let out : (is_le (nat_cmp (group_of p) g.0) && true) ≡ false = grind (arith, nat_tests) in
        from_both g.1 (listed gs) ∙ ap (λ l. l ++ slots_from p (listed gs)) (none-from g.0 g.1 are.0.own before) ∙ from-listed gs r.1 are.1
        ∙ sym (ap (λ t. rest_of (cond t (g ∷ groups_from gs) (groups_from gs))) out)
    | inr from ↦
        let inside : (is_le (nat_cmp (group_of p) g.0) && true) ≡ true = grind (arith, nat_tests) in
        let above = above-trans g.0 gs r.0 from in
        from_both g.1 (listed gs) ∙ ap (λ l. slots_from p g.1 ++ l) (later-from gs above are.1)
        ∙ ap (λ l. l ++ listed gs) (first from)
        ∙ sym (ap (λ t. rest_of (cond t (g ∷ groups_from gs) (groups_from gs))) inside ∙ ap (λ l. cond (eqb g.0 (group_of p)) (slots_from p g.1) g.1 ++ listed l) (groups-later gs above))
  ]
    where
      first : group_of p ≤ g.0 → slots_from p g.1 ≡ cond (eqb g.0 (group_of p)) (slots_from p g.1) g.1
      first from = elim (same_or_not g.0 (group_of p)) [
        | inl same ↦ sym (ap (λ b. cond b (slots_from p g.1) g.1) (yes g.0 (group_of p) same))
        | inr other ↦ own-from g.0 g.1 are.0.own (omega arith) ∙ sym (ap (λ b. cond b (slots_from p g.1) g.1) (no g.0 (group_of p) other))
      ]

pub from-behind : (p : ℕ) (es : List (ℕ × ℕ)) → behind p es ≡ slots_from p es
from-behind p [] = refl
from-behind p (e ∷ es) = ap (λ l. cond (is_le (nat_cmp p e.0) && true) (e ∷ l) l) (from-behind p es) ∙ ap (λ b. cond b (e ∷ slots_from p es) (slots_from p es)) (drop-true (is_le (nat_cmp p e.0)))
  where
    drop-true : (b : Bool) → (b && true) ≡ b
    drop-true true = refl
    drop-true false = refl
