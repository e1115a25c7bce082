use Rattle.std.proofs.Common.{◌≡◌, Option, Some, is_some, not, IfSome, IsSome, inl, inr, refl, sym, ap, subst, ◌∙◌}
use Rattle.std.specs.Prelude.{None}
use Rattle.slab.specs.Slab.{get, with_value, Updates, slab_len}
use Rattle.slab.proofs.SlabLemmas.{Updates-with_value}
use Rattle.rec_file.specs.Inner.Pages.{Cells, cell, page_cell}
use Rattle.rec_file.proofs.FileLaws.{copied_none, copied_some}
use Rattle.rec_file.proofs.PlacedLaws.{on-some, with-same}
use Rattle.rec_file.proofs.RelativeLaws.{not_true}
use Rattle.rec_file.proofs.SoughtLaws.{searchable, read-slot, gap-slot, taken-found}
use Rattle.rec_file.proofs.slots.clear_in.Goals as goal

missing : (o : Option Cells) → IsSome o → None ≡ o → ⊥
missing o some none = cc

pub seek-requires : goal.seek-requires
seek-requires c = rw c.deref.ensures.value (searchable c.args.group.now.items c.requires.sorted 0 0)

pub returns-in_default : goal.returns-in_default
returns-in_default c =
    let none = gap-slot c.args.group.now.items c.requires.sorted c.args.page _ (rw c.deref.ensures.value at c.in_default.ensures.gap) in
    (subst (λ o. IfSome o (λ i. page_cell (get c.args.pages.now i) c.args.cell ≡ None)) none tt, refl, refl)

pub unreachable-requires : goal.unreachable-requires
unreachable-requires c =
    let has = read-slot c.args.group.now.items c.requires.sorted c.args.page c.in-Ok.at (rw c.deref.ensures.value at c.in-Ok.ensures.found) c.index.result.now c.index.ensures in
    let some = subst (λ o. IfSome o (λ i. IsSome (get c.args.pages.now i))) (sym has) c.requires.stands in
    missing _ some c.in_default-get_mut.ensures.value

pub returns-then-is_none : goal.returns-then-is_none
returns-then-is_none c =
    let has = read-slot c.args.group.now.items c.requires.sorted c.args.page c.in-Ok.at (rw c.deref.ensures.value at c.in-Ok.ensures.found) c.index.result.now c.index.ensures in
    let none = copied_none c.get.result _ c.get.ensures (c.is_none.ensures ∙ ap not c.if-is_none.true) in (
      subst (λ o. IfSome o (λ i. page_cell (get c.args.pages.now i) c.args.cell ≡ None)) has (ap (λ o. page_cell o c.args.cell) (sym c.in-Some.ensures.value) ∙ sym none),
      refl,
      with-same c.args.pages.now c.index.result.now.1 c.in-Some.kept.now (sym c.in-Some.ensures.value),
    )

pub clear-requires-clause-occupied : goal.clear-requires-clause-occupied
clear-requires-clause-occupied c = copied_some c.get.result _ c.get.ensures (c.is_none.ensures ∙ ap not c.if-is_none.false)

pub returns-then-is_empty : goal.returns-then-is_empty
returns-then-is_empty c =
    let has = read-slot c.args.group.now.items c.requires.sorted c.args.page c.in-Ok.at (rw c.deref.ensures.value at c.in-Ok.ensures.found) c.index.result.now c.index.ensures in
    let there = sym c.in-Some.ensures.value in
    let removed : get (with_value c.args.pages.now c.index.result.now.1 c.clear.new.self) c.index.result.now.1 ≡ Some c.clear.new.self =
    (Updates-with_value c.args.pages.now c.index.result.now.1 c.clear.new.self (ap is_some there)).changed in (
      record { slot = c.index.result.now.1; has = sym has; cells = c.in-Some.kept.now; there = there; occupied = copied_some c.get.result _ c.get.ensures (c.is_none.ensures ∙ ap not c.if-is_none.false) },
      inr (record {
        none = λ j. ap (λ cs. cell cs j) (sym c.clear.ensures) ∙ c.is_empty.ensures.0 c.if-is_empty.true j;
        slots = c.remove.ensures.items ∙ taken-found c.args.group.now.items c.requires.sorted c.args.page c.in-Ok.at (rw c.deref.ensures.value at c.in-Ok.ensures.found);
        free = subst (λ cells. Updates (with_value c.args.pages.now c.index.result.now.1 cells) c.try_remove.new.self c.index.result.now.1 None) c.clear.ensures c.try_remove.ensures.updates;
        fewer = on-some c.try_remove.result c.clear.new.self (c.try_remove.ensures.value ∙ removed) c.try_remove.ensures.len ∙ ap (λ cells. slab_len (with_value c.args.pages.now c.index.result.now.1 cells)) c.clear.ensures;
      }),
    )

pub returns-else-is_empty : goal.returns-else-is_empty
returns-else-is_empty c =
    let has = read-slot c.args.group.now.items c.requires.sorted c.args.page c.in-Ok.at (rw c.deref.ensures.value at c.in-Ok.ensures.found) c.index.result.now c.index.ensures in (
      record { slot = c.index.result.now.1; has = sym has; cells = c.in-Some.kept.now; there = sym c.in-Some.ensures.value; occupied = copied_some c.get.result _ c.get.ensures (c.is_none.ensures ∙ ap not c.if-is_none.false) },
      inl (record {
        others = λ none. not_true c.is_empty.result c.if-is_empty.false (c.is_empty.ensures.1 (λ j. ap (λ cs. cell cs j) c.clear.ensures ∙ none j));
        slots = refl;
        written = ap (with_value c.args.pages.now c.index.result.now.1) c.clear.ensures;
      }),
    )
