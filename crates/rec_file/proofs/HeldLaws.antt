-- What a tree of groups answers, and what it is after each edit.
use Rattle.std.proofs.Common.{◌≡◌, ℕ, ◌≢◌, ◌+◌, ◌<◌, ◌≤◌, ◌&&◌, ◌++◌, cond, eqb, Bool, true, false, List, [], ◌∷◌, length, get_or, slice_get, arith, Option, Some, None, IfSome, IsSome, is_some, option_map, refl, sym, ap, subst, ◌∙◌, inl, inr}
use Rattle.std.specs.Global.{Vec}
use Rattle.std.specs.Ordering.{nat_cmp, is_le, match_ordering}
use Rattle.std.specs.declared.cmp.Ordering.TheVariants.{Less, Equal, Greater}
use Rattle.std.specs.Map.{lookup, set_value, remove_entry}
use Rattle.std.specs.BTreeMap.{is_at, insert_entry}
use Rattle.std.specs.FinMap.{is_sorted}
use Rattle.std.proofs.lemmas.List.{length-map}
use Rattle.std.proofs.lemmas.Option.{same_Some}
use Rattle.slab.specs.Slab.{Slab, get}
use Rattle.rec_file.specs.Inner.Pages.{Cells, page_cell}
use Rattle.rec_file.specs.Inner.Sorted.{IsGapFor}
use Rattle.rec_file.specs.Inner.Slots.{group_of, listed, bare, HavePages, IsGroup, ArePageGroups, AreOfGroup, IsLastSlot, Clears, HasEmptied, slot_of, slots_from, with_slot}
use Rattle.rec_file.proofs.Rising.{at, IsRising, same_or_not, at_first, at_tail}
use Rattle.rec_file.proofs.Keyed.{lookup_is_at, behind, at-written, is_there, is_elsewhere, value_at, all-written, all-inserted, all-removed, rising-written, rising-inserted, rising-removed}
use Rattle.rec_file.proofs.Gaps.{numbers, ordered, at-gap, at-index, number_at}
use Rattle.rec_file.proofs.SlotsLaws.{yes, no, from-listed, rest_of, rising-of, sorted-of, rising-listed, at-listed, in_group, group-at, group-inserted, group-removed, are-written, are-inserted, are-removed, put-in-group, put-new-group, take-in-group, drop-empty}

pub no_items : {A : Type 0} (l : List A) → length l ≤ 0 → l ≡ []
no_items [] h = refl
no_items (x ∷ l) h = absurd (omega arith)

abbrev Kept : Type 0
Kept = List (ℕ × Vec (ℕ × ℕ))

at-bare : (es : Kept) (g : ℕ) → at (bare es) g ≡ option_map (λ v. v.items) (at es g)
at-bare [] g = refl
at-bare (e ∷ es) g = elim (same_or_not g e.0) [
  | inl same ↦ at_first (e.0, e.1.items) (bare es) g same ∙ sym (ap (option_map (λ v. v.items)) (at_first e es g same))
  | inr other ↦ at_tail (e.0, e.1.items) (bare es) g other ∙ at-bare es g ∙ sym (ap (option_map (λ v. v.items)) (at_tail e es g other))
]

bare-written : (t : ℕ → Bool) (es : Kept) (v : Vec (ℕ × ℕ)) → bare (set_value t es v) ≡ set_value t (bare es) v.items
bare-written t [] v = refl
bare-written t (e ∷ es) v = elim (t e.0) as (λ b. bare (cond b ((e.0, v) ∷ es) (e ∷ set_value t es v)) ≡ cond b ((e.0, v.items) ∷ bare es) ((e.0, e.1.items) ∷ set_value t (bare es) v.items)) [
  | true ↦ refl
  | false ↦ ap (λ l. (e.0, e.1.items) ∷ l) (bare-written t es v)
]

bare-inserted : (es : Kept) (g : ℕ) (v : Vec (ℕ × ℕ)) → bare (insert_entry nat_cmp es g v) ≡ insert_entry nat_cmp (bare es) g v.items
bare-inserted [] g v = refl
bare-inserted (e ∷ es) g v = elim (nat_cmp g e.0) as (λ o. bare (match_ordering o ((g, v) ∷ e ∷ es) ((e.0, v) ∷ es) (e ∷ insert_entry nat_cmp es g v))
    ≡ match_ordering o ((g, v.items) ∷ bare (e ∷ es)) ((e.0, v.items) ∷ bare es) ((e.0, e.1.items) ∷ insert_entry nat_cmp (bare es) g v.items)) [
      | Less ↦ refl
      | Equal ↦ refl
      | Greater ↦ ap (λ l. (e.0, e.1.items) ∷ l) (bare-inserted es g v)
    ]

bare-removed : (t : ℕ → Bool) (es : Kept) → bare (remove_entry t es) ≡ remove_entry t (bare es)
bare-removed t [] = refl
bare-removed t (e ∷ es) = elim (t e.0) as (λ b. bare (cond b es (e ∷ remove_entry t es)) ≡ cond b (bare es) ((e.0, e.1.items) ∷ remove_entry t (bare es))) [
  | true ↦ refl
  | false ↦ ap (λ l. (e.0, e.1.items) ∷ l) (bare-removed t es)
]

-- the same group in its place
same-written : (gs : List (ℕ × List (ℕ × ℕ))) (g : ℕ) (v : List (ℕ × ℕ)) → at gs g ≡ Some v → set_value (is_at (nat_cmp g)) gs v ≡ gs
same-written [] g v is = refl
same-written (h ∷ gs) g v is = elim (same_or_not g h.0) [
  | inl same ↦
      ap (λ b. cond b ((h.0, v) ∷ gs) (h ∷ set_value (is_at (nat_cmp g)) gs v)) (is_there g h.0 same)
      ∙ ap (λ w. (h.0, w) ∷ gs) (sym (same_Some h.1 v (sym (at_first h gs g same) ∙ is)))
  | inr other ↦
      ap (λ b. cond b ((h.0, v) ∷ gs) (h ∷ set_value (is_at (nat_cmp g)) gs v)) (is_elsewhere g h.0 other)
      ∙ ap (λ l. h ∷ l) (same-written gs g v (sym (at_tail h gs g other) ∙ is))
]

removed-written : (t : ℕ → Bool) (gs : List (ℕ × List (ℕ × ℕ))) (v : List (ℕ × ℕ)) → remove_entry t (set_value t gs v) ≡ remove_entry t gs
removed-written t [] v = refl
removed-written t (g ∷ gs) v = by (t g.0) refl (removed-written t gs v)
  where
    by : (b : Bool) → t g.0 ≡ b → remove_entry t (set_value t gs v) ≡ remove_entry t gs → remove_entry t (cond b ((g.0, v) ∷ gs) (g ∷ set_value t gs v)) ≡ cond b gs (g ∷ remove_entry t gs)
    by true is rest = ap (λ b. cond b gs ((g.0, v) ∷ remove_entry t gs)) is
    by false is rest = ap (λ b. cond b (set_value t gs v) (g ∷ remove_entry t (set_value t gs v))) is ∙ ap (λ l. g ∷ l) rest

bare-behind : (g : ℕ) (es : Kept) → bare (behind g es) ≡ behind g (bare es)
bare-behind g [] = refl
bare-behind g (e ∷ es) = elim (is_le (nat_cmp g e.0) && true) as (λ b. bare (cond b (e ∷ behind g es) (behind g es)) ≡ cond b ((e.0, e.1.items) ∷ behind g (bare es)) (behind g (bare es))) [
  | true ↦ ap (λ l. (e.0, e.1.items) ∷ l) (bare-behind g es)
  | false ↦ bare-behind g es
]

are-behind : (n : ℕ) (gs : List (ℕ × List (ℕ × ℕ))) → ArePageGroups gs → ArePageGroups (behind n gs)
are-behind n [] are = tt
are-behind n (g ∷ gs) are = elim (is_le (nat_cmp n g.0) && true) as (λ b. ArePageGroups (cond b (g ∷ behind n gs) (behind n gs))) [ true ↦ (are.0, are-behind n gs are.1) | false ↦ are-behind n gs are.1 ]

have-behind : (n : ℕ) (gs : List (ℕ × List (ℕ × ℕ))) → HavePages gs → HavePages (behind n gs)
have-behind n [] have = tt
have-behind n (g ∷ gs) have = elim (is_le (nat_cmp n g.0) && true) as (λ b. HavePages (cond b (g ∷ behind n gs) (behind n gs))) [ true ↦ (have.0, have-behind n gs have.1) | false ↦ have-behind n gs have.1 ]

own-at : (g : ℕ) (v : List (ℕ × ℕ)) → AreOfGroup g v → (p i : ℕ) → at v p ≡ Some i → group_of p ≡ g
own-at g [] own p i is = cc
own-at g (e ∷ v) own p i is = elim (same_or_not p e.0) [
  | inl same ↦ ap group_of same ∙ own.0
  | inr other ↦ own-at g v own.1 p i (sym (at_tail e v p other) ∙ is)
]

higher : (g e j : ℕ) → group_of e ≡ g → e < j → group_of j ≢ g → g < group_of j
higher g e j own lt other = omega arith

-- past the last of a group there is a gap
past_last : (v : List (ℕ × ℕ)) → IsRising v → (i : ℕ) (e : ℕ × ℕ) → slice_get v i ≡ Some e → i + 1 ≡ length v → (j : ℕ) → e.0 < j → IsGapFor (numbers v) j (i + 1)
past_last v s i e is last j lt =
    let size = length-map v (λ (e : ℕ × ℕ). e.0) in
    let same = number_at v i e is in
    record {
      in_range = omega arith;
      smaller_before = λ k below. elim (same_or_not k i) [
        | inl at_last ↦ let e = ap (λ m. get_or (numbers v) m 0) at_last in omega arith
        | inr before ↦ let up = ordered v s k i (omega arith) (omega arith) in omega arith
      ];
      greater_after = λ k ge in_range. absurd (omega arith);
    }

-- a tree of groups as it is kept
pub record Holds (es : Kept) : Type 0 where
  pub sorted : is_sorted nat_cmp (bare es) ≡ true
  pub are : ArePageGroups (bare es)
  pub have : HavePages (bare es)

abbrev Some_page : List (ℕ × ℕ) → Type 0
Some_page v = v ≢ []

not-empty : (v : List (ℕ × ℕ)) (p i : ℕ) → insert_entry nat_cmp v p i ≢ []
not-empty [] p i is = cc
not-empty (e ∷ v) p i is = elim (nat_cmp p e.0) as (λ o. match_ordering o ((p, i) ∷ e ∷ v) ((e.0, i) ∷ v) (e ∷ insert_entry nat_cmp v p i) ≡ [] → ⊥) [
  | Less ↦ λ h. cc
  | Equal ↦ λ h. cc
  | Greater ↦ λ h. cc
] is

module _ (es : Kept) (holds : Holds es) (m : List (ℕ × ℕ)) (view : listed (bare es) ≡ m) where
  abbrev gs : List (ℕ × List (ℕ × ℕ))
  gs = bare es

  r : IsRising gs
  r = rising-of gs holds.sorted

  pub slots-sorted : is_sorted nat_cmp m ≡ true
  slots-sorted = subst (λ l. is_sorted nat_cmp l ≡ true) view (sorted-of (listed gs) (rising-listed gs r holds.are))

  at-slots : (p : ℕ) → at m p ≡ in_group (at gs (group_of p)) p
  at-slots p = ap (λ l. at l p) (sym view) ∙ at-listed gs r holds.are p

  pub get-none : (p : ℕ) → lookup (is_at (nat_cmp (group_of p))) es ≡ None → None ≡ slot_of m p
  get-none p none = sym (lookup_is_at m p ∙ at-slots p ∙ ap (λ o. in_group o p) (at-bare es (group_of p) ∙ ap (option_map (λ v. v.items)) (sym (lookup_is_at es (group_of p)) ∙ none)))

  module _ (p : ℕ) (v : Vec (ℕ × ℕ)) (is : lookup (is_at (nat_cmp (group_of p))) es ≡ Some v) where
    here : at gs (group_of p) ≡ Some v.items
    here = at-bare es (group_of p) ∙ ap (option_map (λ v. v.items)) (sym (lookup_is_at es (group_of p)) ∙ is)

    group : IsGroup (group_of p) v.items
    group = group-at gs (group_of p) v.items holds.are here

    pub group-sorted : is_sorted nat_cmp v.items ≡ true
    group-sorted = group.sorted

    pub get-some : slot_of v.items p ≡ slot_of m p
    get-some = lookup_is_at v.items p ∙ sym (lookup_is_at m p ∙ at-slots p ∙ ap (λ o. in_group o p) here)

    -- another vector in the group's place
    module _ (w : Vec (ℕ × ℕ)) (es' : Kept) (made : es' ≡ set_value (is_at (nat_cmp (group_of p))) es w) where
      made' : bare es' ≡ set_value (is_at (nat_cmp (group_of p))) gs w.items
      made' = ap bare made ∙ bare-written (is_at (nat_cmp (group_of p))) es w

      pub holds-written : IsGroup (group_of p) w.items → Some_page w.items → Holds es'
      holds-written own some = record {
        sorted = subst (λ l. is_sorted nat_cmp l ≡ true) (sym made') (sorted-of _ (rising-written (is_at (nat_cmp (group_of p))) gs w.items r));
        are = subst ArePageGroups (sym made') (are-written gs (group_of p) w.items holds.are own);
        have = subst HavePages (sym made') (all-written Some_page (is_at (nat_cmp (group_of p))) gs w.items holds.have some);
      }

      pub put-same : w.items ≡ v.items → (listed (bare es') ≡ m) × Holds es'
      put-same same = (
        ap listed (made' ∙ ap (set_value (is_at (nat_cmp (group_of p))) gs) same ∙ same-written gs (group_of p) v.items here) ∙ view,
        holds-written (subst (IsGroup (group_of p)) (sym same) group) (subst Some_page (sym same) (value_at Some_page gs (group_of p) v.items holds.have here)),
      )

      pub put-some : (i : ℕ) → w.items ≡ with_slot v.items p i → (listed (bare es') ≡ with_slot m p i) × Holds es'
      put-some i same = by (slot_of v.items p) refl same
        where
          by : (o : Option ℕ) → slot_of v.items p ≡ o → w.items ≡ cond (is_some o) v.items (insert_entry nat_cmp v.items p i) → (listed (bare es') ≡ with_slot m p i) × Holds es'
          by (Some j) there same =
              let kept = put-same same in
              (kept.0 ∙ sym (ap (λ o. cond (is_some o) m (insert_entry nat_cmp m p i)) (sym get-some ∙ there)), kept.1)
          by None none same = (
            ap listed (made' ∙ ap (set_value (is_at (nat_cmp (group_of p))) gs) same) ∙ put-in-group gs r holds.are p i v.items here ∙ ap (λ l. insert_entry nat_cmp l p i) view
                ∙ sym (ap (λ o. cond (is_some o) m (insert_entry nat_cmp m p i)) (sym get-some ∙ none)),
            holds-written (subst (IsGroup (group_of p)) (sym same) (group-inserted (group_of p) v.items p i group refl)) (subst Some_page (sym same) (not-empty v.items p i)),
          )

  -- a group more
  pub put-none : (p i : ℕ) (w : Vec (ℕ × ℕ)) (es' : Kept) → lookup (is_at (nat_cmp (group_of p))) es ≡ None → es' ≡ insert_entry nat_cmp es (group_of p) w → w.items ≡ (p, i) ∷ []
      → (listed (bare es') ≡ with_slot m p i) × Holds es'
  put-none p i w es' none made is =
      let there : at gs (group_of p) ≡ None = at-bare es (group_of p) ∙ ap (option_map (λ v. v.items)) (sym (lookup_is_at es (group_of p)) ∙ none) in
      let made' : bare es' ≡ insert_entry nat_cmp gs (group_of p) ((p, i) ∷ []) = ap bare made ∙ bare-inserted es (group_of p) w ∙ ap (insert_entry nat_cmp gs (group_of p)) is in (
        ap listed made' ∙ put-new-group gs r holds.are p i there ∙ ap (λ l. insert_entry nat_cmp l p i) view
            ∙ ap (λ o. cond (is_some o) m (insert_entry nat_cmp m p i)) (get-none p none),
        record {
          sorted = subst (λ l. is_sorted nat_cmp l ≡ true) (sym made') (sorted-of _ (rising-inserted gs (group_of p) ((p, i) ∷ []) r));
          are = subst ArePageGroups (sym made') (are-inserted gs (group_of p) ((p, i) ∷ []) holds.are (record { own = (refl, tt); sorted = refl }));
          have = subst HavePages (sym made') (all-inserted Some_page gs (group_of p) ((p, i) ∷ []) holds.have (λ is. cc));
        },
      )

  -- a page less in its group
  module _ (p : ℕ) (v : Vec (ℕ × ℕ)) (is : lookup (is_at (nat_cmp (group_of p))) es ≡ Some v) (w : Vec (ℕ × ℕ)) (es' : Kept)
      (made : es' ≡ set_value (is_at (nat_cmp (group_of p))) es w) (less : w.items ≡ remove_entry (is_at (nat_cmp p)) v.items) where
    its-group : IsGroup (group_of p) w.items
    its-group = subst (IsGroup (group_of p)) (sym less) (group-removed (group_of p) (is_at (nat_cmp p)) v.items (group p v is))

    less-listed : listed (bare es') ≡ remove_entry (is_at (nat_cmp p)) m
    less-listed =
        ap listed (ap bare made ∙ bare-written (is_at (nat_cmp (group_of p))) es w ∙ ap (set_value (is_at (nat_cmp (group_of p))) gs) less) ∙ take-in-group gs r holds.are p v.items (here p v is)
        ∙ ap (remove_entry (is_at (nat_cmp p))) view

    take-some : w.items ≢ [] → (listed (bare es') ≡ remove_entry (is_at (nat_cmp p)) m) × Holds es'
    take-some some = (less-listed, holds-written p v is w es' made its-group some)

    -- and the group, where that was its last
    take-last : (es'' : Kept) → es'' ≡ remove_entry (is_at (nat_cmp (group_of p))) es' → w.items ≡ [] → (listed (bare es'') ≡ remove_entry (is_at (nat_cmp p)) m) × Holds es''
    take-last es'' dropped none =
        let t = is_at (nat_cmp (group_of p)) in
        let made' : bare es' ≡ set_value t gs w.items = ap bare made ∙ bare-written t es w in
        let dropped' : bare es'' ≡ remove_entry t (bare es') = ap bare dropped ∙ bare-removed t es' in
        let short : bare es'' ≡ remove_entry t gs = dropped' ∙ ap (remove_entry t) made' ∙ removed-written t gs w.items in
        let there : at (bare es') (group_of p) ≡ Some [] =
        ap (λ l. at l (group_of p)) made' ∙ at-written gs (group_of p) w.items (subst IsSome (sym (here p v is)) refl) (group_of p)
        ∙ ap (λ b. cond b (Some w.items) (at gs (group_of p))) (yes (group_of p) (group_of p) refl) ∙ ap (λ l. Some l) none in (
          ap listed dropped' ∙ drop-empty (bare es') (group_of p) there ∙ less-listed,
          record {
            sorted = subst (λ l. is_sorted nat_cmp l ≡ true) (sym short) (sorted-of _ (rising-removed t gs r));
            are = subst ArePageGroups (sym short) (are-removed t gs holds.are);
            have = subst HavePages (sym short) (all-removed Some_page t gs holds.have);
          },
        )

  -- a cell of a page is emptied
  module _ (p : ℕ) (v : Vec (ℕ × ℕ)) (is : lookup (is_at (nat_cmp (group_of p))) es ≡ Some v) (w : Vec (ℕ × ℕ)) (es' : Kept)
      (made : es' ≡ set_value (is_at (nat_cmp (group_of p))) es w) (pages pages' : Slab Cells) (k : ℕ) where
    abbrev its-page : HasEmptied v.items pages p k → HasEmptied m pages p k
    its-page e = record { slot = e.slot; has = sym (get-some p v is) ∙ e.has; cells = e.cells; there = e.there; occupied = e.occupied }

    pub clear-some : (b : Bool) → Clears v.items w.items pages pages' p k b → w.items ≢ [] → Clears m (listed (bare es')) pages pages' p k b × Holds es'
    clear-some true (e, inl stays) some =
        let kept = put-same p v is w es' made stays.slots in
        ((its-page e, inl (record { others = stays.others; slots = kept.0; written = stays.written })), kept.1)
    clear-some true (e, inr goes) some =
        let less = take-some p v is w es' made goes.slots some in
        ((its-page e, inr (record { none = goes.none; slots = less.0; free = goes.free; fewer = goes.fewer })), less.1)
    clear-some false (none, same, pages_same) some =
        let kept = put-same p v is w es' made same in
        ((subst (λ o. IfSome o (λ i. page_cell (get pages i) k ≡ None)) (get-some p v is) none, kept.0, pages_same), kept.1)

    -- the group was its page alone
    pub clear-last : (es'' : Kept) → es'' ≡ remove_entry (is_at (nat_cmp (group_of p))) es' → w.items ≡ [] → (b : Bool) → Clears v.items w.items pages pages' p k b
        → Clears m (listed (bare es'')) pages pages' p k b × Holds es''
    clear-last es'' dropped last true (e, inl stays) = absurd (value_at Some_page gs (group_of p) v.items holds.have (here p v is) (sym stays.slots ∙ last))
    clear-last es'' dropped last true (e, inr goes) =
        let less = take-last p v is w es' made goes.slots es'' dropped last in
        ((its-page e, inr (record { none = goes.none; slots = less.0; free = goes.free; fewer = goes.fewer })), less.1)
    clear-last es'' dropped last false (none, same, pages_same) = absurd (value_at Some_page gs (group_of p) v.items holds.have (here p v is) (sym same ∙ last))

  -- the last page is the last of the last group
  module _ (g : ℕ) (v : Vec (ℕ × ℕ)) (is : lookup (is_at (nat_cmp g)) es ≡ Some v) (above : (j : ℕ) → g < j → at es j ≡ None) where
    there : at gs g ≡ Some v.items
    there = at-bare es g ∙ ap (option_map (λ v. v.items)) (sym (lookup_is_at es g) ∙ is)

    pub last-page : (e : ℕ × ℕ) (i : ℕ) → slice_get v.items i ≡ Some e → i + 1 ≡ length v.items → IsLastSlot m e
    last-page e i at_i end =
        let its = group-at gs g v.items holds.are there in
        let s = rising-of v.items its.sorted in
        let in_v : at v.items e.0 ≡ Some e.1 = at-index v.items i e s at_i in
        let own : group_of e.0 ≡ g = own-at g v.items its.own e.0 e.1 in_v in
        record {
          here = lookup_is_at m e.0 ∙ at-slots e.0 ∙ ap (λ o. in_group o e.0) (ap (at gs) own ∙ there) ∙ in_v;
          none_above = λ j lt. lookup_is_at m j ∙ at-slots j ∙ elim (same_or_not (group_of j) g) [
            | inl same ↦ ap (λ o. in_group o j) (ap (at gs) same ∙ there) ∙ at-gap v.items j (i + 1) (past_last v.items s i e at_i end j lt)
            | inr other ↦ ap (λ o. in_group o j) (at-bare es (group_of j) ∙ ap (option_map (λ v. v.items)) (above (group_of j) (higher g e.0 j own lt other)))
          ];
        }

    pub last-there : v.items ≡ [] → ⊥
    last-there none = value_at Some_page gs g v.items holds.have there none

  -- the pages from one on
  module _ (p : ℕ) where
    pub from-none : behind (group_of p) es ≡ [] → [] ≡ slots_from p m
    from-none none = sym (ap (slots_from p) (sym view) ∙ from-listed p gs r holds.are ∙ ap (rest_of p) (sym (bare-behind (group_of p) es) ∙ ap bare none))

    module _ (g : ℕ) (v : Vec (ℕ × ℕ)) (t : Kept) (first : behind (group_of p) es ≡ (g, v) ∷ t) where
      are-first : ArePageGroups ((g, v.items) ∷ bare t)
      are-first = subst ArePageGroups (sym (bare-behind (group_of p) es) ∙ ap bare first) (are-behind (group_of p) gs holds.are)

      pub first-sorted : is_sorted nat_cmp v.items ≡ true
      first-sorted = are-first.0.sorted

      pub have-rest : HavePages (bare t)
      have-rest = (subst HavePages (sym (bare-behind (group_of p) es) ∙ ap bare first) (have-behind (group_of p) gs holds.have)).1

      whole-from : cond (eqb g (group_of p)) (slots_from p v.items) v.items ++ listed (bare t) ≡ slots_from p m
      whole-from = sym (ap (slots_from p) (sym view) ∙ from-listed p gs r holds.are ∙ ap (rest_of p) (sym (bare-behind (group_of p) es) ∙ ap bare first))

      pub from-own : g ≡ group_of p → (rest : List (ℕ × ℕ)) → rest ≡ slots_from p v.items → rest ++ listed (bare t) ≡ slots_from p m
      from-own same rest is = ap (λ l. l ++ listed (bare t)) (is ∙ sym (ap (λ b. cond b (slots_from p v.items) v.items) (yes g (group_of p) same))) ∙ whole-from

      pub from-other : g ≢ group_of p → (rest : List (ℕ × ℕ)) → rest ≡ v.items → rest ++ listed (bare t) ≡ slots_from p m
      from-other other rest is = ap (λ l. l ++ listed (bare t)) (is ∙ sym (ap (λ b. cond b (slots_from p v.items) v.items) (no g (group_of p) other))) ∙ whole-from
