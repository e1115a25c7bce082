use Rattle.std.proofs.Common.{◌≡◌, ◌+◌, ℕ, List, Some, None, cond, is_none, is_some, length, ap, sym, ◌∙◌}
use Rattle.std.specs.BTreeMap.{insert_entry}
use Rattle.std.specs.Ordering.{nat_cmp}
use Rattle.slab.specs.Slab.{get}
use Rattle.rec_file.specs.Inner.Pages.{page_cell}
use Rattle.rec_file.specs.Inner.Slots.{had_of, slot_of, with_slot}
use Rattle.rec_file.proofs.FileLaws.{copied_none, copied_some, not_none, wanted}
use Rattle.rec_file.proofs.Keyed.{lookup_is_at}
use Rattle.rec_file.proofs.PlacedLaws.{no-page, its-page, stands, put-kept, put-new, own-new, length-inserted}
use Rattle.rec_file.proofs.relative.put_in.Goals as goal

with-there : (es : List (ℕ × ℕ)) (p i j : ℕ) → slot_of es p ≡ Some j → with_slot es p i ≡ es
with-there es p i j is = ap (λ o. cond (is_some o) es (insert_entry nat_cmp es p i)) is

with-none : (es : List (ℕ × ℕ)) (p i : ℕ) → slot_of es p ≡ None → with_slot es p i ≡ insert_entry nat_cmp es p i
with-none es p i is = ap (λ o. cond (is_some o) es (insert_entry nat_cmp es p i)) is

pub returns-in_err-slot-clause-wanted : goal.returns-in_err-slot-clause-wanted
returns-in_err-slot-clause-wanted c = wanted _ (ap (λ o. page_cell o c.args.cell) (lookup_is_at _ c.args.at ∙ no-page (get c.args.pages.now) c.args.slots.now c.args.at (sym (lookup_is_at c.args.slots.now c.args.at) ∙ c.in_err-slot.ensures.wanted)))

pub unreachable-requires : goal.unreachable-requires
unreachable-requires c =
    let there = rw c.in_ok-slot.ensures.pages at c.in_default.ensures.value in
    stands (get c.args.pages.now) c.args.slots.now c.args.at c.in-Kept.slot c.requires.kept (sym (lookup_is_at c.args.slots.now c.args.at) ∙ (sym c.in_ok-slot.ensures.had ∙ ap had_of c.in-Kept.is)) (sym there)

pub returns-then-is_some-clause-empty : goal.returns-then-is_some-clause-empty
returns-then-is_some-clause-empty c =
    not_none _ (copied_some c.get.result _ (c.get.ensures ∙ (sym (ap (λ o. page_cell o c.args.cell) (lookup_is_at _ c.args.at ∙ its-page (get c.args.pages.now) c.args.slots.now c.args.at c.in-Kept.slot c.in-Some.page.now (sym (lookup_is_at c.args.slots.now c.args.at) ∙ (sym c.in_ok-slot.ensures.had ∙ ap had_of c.in-Kept.is)) (sym (rw c.in_ok-slot.ensures.pages at c.in-Some.ensures.value)))))) (sym c.is_some.ensures ∙ c.if-is_some.true))

pub returns-in_err-from_slice-in-Kept-clause-wanted : goal.returns-in_err-from_slice-in-Kept-clause-wanted
returns-in_err-from_slice-in-Kept-clause-wanted c =
    wanted _ (sym (copied_none c.get.result _ (c.get.ensures ∙ (sym (ap (λ o. page_cell o c.args.cell) (lookup_is_at _ c.args.at ∙ its-page (get c.args.pages.now) c.args.slots.now c.args.at c.in-Kept.slot c.in-Some.page.now (sym (lookup_is_at c.args.slots.now c.args.at) ∙ (sym c.in_ok-slot.ensures.had ∙ ap had_of c.in-Kept.is)) (sym (rw c.in_ok-slot.ensures.pages at c.in-Some.ensures.value)))))) (sym c.is_some.ensures ∙ c.if-is_some.false)))

pub returns-in_err-put-in-Kept-clause-wanted : goal.returns-in_err-put-in-Kept-clause-wanted
returns-in_err-put-in-Kept-clause-wanted c =
    wanted _ (sym (copied_none c.get.result _ (c.get.ensures ∙ (sym (ap (λ o. page_cell o c.args.cell) (lookup_is_at _ c.args.at ∙ its-page (get c.args.pages.now) c.args.slots.now c.args.at c.in-Kept.slot c.in-Some.page.now (sym (lookup_is_at c.args.slots.now c.args.at) ∙ (sym c.in_ok-slot.ensures.had ∙ ap had_of c.in-Kept.is)) (sym (rw c.in_ok-slot.ensures.pages at c.in-Some.ensures.value)))))) (sym c.is_some.ensures ∙ c.if-is_some.false)))

pub returns-in_ok-put-in-Kept-clause-empty : goal.returns-in_ok-put-in-Kept-clause-empty
returns-in_ok-put-in-Kept-clause-empty c =
    ap is_none (copied_none c.get.result _ (c.get.ensures ∙ (sym (ap (λ o. page_cell o c.args.cell) (lookup_is_at _ c.args.at ∙ its-page (get c.args.pages.now) c.args.slots.now c.args.at c.in-Kept.slot c.in-Some.page.now (sym (lookup_is_at c.args.slots.now c.args.at) ∙ (sym c.in_ok-slot.ensures.had ∙ ap had_of c.in-Kept.is)) (sym (rw c.in_ok-slot.ensures.pages at c.in-Some.ensures.value)))))) (sym c.is_some.ensures ∙ c.if-is_some.false))

pub returns-in_ok-put-in-Kept-clause-ok : goal.returns-in_ok-put-in-Kept-clause-ok
returns-in_ok-put-in-Kept-clause-ok c =
    rw c.in_ok-slot.ensures.pages
    (put-kept c.args.pages.now c.args.slots.now c.put.new.self c.args.at c.in-Kept.slot c.args.cell c.in-Some.page.now c.put-in-Kept.new.self c.args.body.now
    (c.in_ok-slot.ensures.ok ∙ with-there c.args.slots.now c.args.at c.args.pages.now.vacant_key c.in-Kept.slot (sym c.in_ok-slot.ensures.had ∙ ap had_of c.in-Kept.is)) c.put.ensures.sorted c.requires.own (sym c.in_ok-slot.ensures.had ∙ ap had_of c.in-Kept.is) (sym (rw c.in_ok-slot.ensures.pages at c.in-Some.ensures.value))
    (rw c.in_ok-from_slice-in-Kept.ensures.items at c.in_ok-put-in-Kept.ensures.ok))

pub returns-in-Begun-clause-empty : goal.returns-in-Begun-clause-empty
returns-in-Begun-clause-empty c = sym (ap is_none (ap (λ o. page_cell o c.args.cell) (lookup_is_at _ c.args.at ∙ no-page (get c.args.pages.now) c.args.slots.now c.args.at (sym (lookup_is_at c.args.slots.now c.args.at) ∙ (sym c.in_ok-slot.ensures.had ∙ ap had_of c.in-Begun.is)))))

pub returns-in-Begun-clause-ok : goal.returns-in-Begun-clause-ok
returns-in-Begun-clause-ok c =
    let free = rw c.in_ok-slot.ensures.pages at c.insert_reserved.ensures.was_vacant in
    let more = rw c.in_ok-slot.ensures.pages at c.insert_reserved.ensures.updates in
    let body = rw c.in-Begun.is at c.in_ok-slot.ensures.body in
    put-new c.args.pages.now c.insert_reserved.new.self c.args.slots.now c.put.new.self c.args.at c.insert_reserved.result c.args.cell c.with.result c.args.body.now
    ((c.in_ok-slot.ensures.ok ∙ with-none c.args.slots.now c.args.at c.args.pages.now.vacant_key (sym c.in_ok-slot.ensures.had ∙ ap had_of c.in-Begun.is)) ∙ ap (insert_entry nat_cmp c.args.slots.now c.args.at) (sym (rw c.in_ok-slot.ensures.pages at c.insert_reserved.ensures.key)))
    c.requires.kept (sym c.in_ok-slot.ensures.had ∙ ap had_of c.in-Begun.is) free (record { changed = more.changed; others = more.others }) (rw body at c.with.ensures)

pub returns-in-Begun-clause-own : goal.returns-in-Begun-clause-own
returns-in-Begun-clause-own c =
    let free = rw c.in_ok-slot.ensures.pages at c.insert_reserved.ensures.was_vacant in
    own-new c.args.pages.now c.args.slots.now c.put.new.self c.args.at c.insert_reserved.result
    ((c.in_ok-slot.ensures.ok ∙ with-none c.args.slots.now c.args.at c.args.pages.now.vacant_key (sym c.in_ok-slot.ensures.had ∙ ap had_of c.in-Begun.is)) ∙ ap (insert_entry nat_cmp c.args.slots.now c.args.at) (sym (rw c.in_ok-slot.ensures.pages at c.insert_reserved.ensures.key))) c.requires.kept free c.requires.own

pub returns-in-Begun-clause-as_many : goal.returns-in-Begun-clause-as_many
returns-in-Begun-clause-as_many c =
    let more = rw c.in_ok-slot.ensures.pages at c.insert_reserved.ensures.len in
    more ∙ ap (λ n. n + 1) c.requires.as_many ∙ sym (ap length (c.in_ok-slot.ensures.ok ∙ with-none c.args.slots.now c.args.at c.args.pages.now.vacant_key (sym c.in_ok-slot.ensures.had ∙ ap had_of c.in-Begun.is))
    ∙ length-inserted c.args.slots.now c.args.at c.args.pages.now.vacant_key (sym (lookup_is_at c.args.slots.now c.args.at) ∙ (sym c.in_ok-slot.ensures.had ∙ ap had_of c.in-Begun.is)))
