use Rattle.std.proofs.Common.{is_some, not, ap, sym, subst, ◌∙◌, arith}
use Rattle.slab.specs.Slab.{get}
use Rattle.rec_file.specs.Files.{IsFile}
use Rattle.rec_file.specs.Inner.Pages.{pages_at}
use Rattle.rec_file.proofs.FileLaws.{IsFile-replaced, copied_none, copied_some, wanted}
use Rattle.rec_file.proofs.Keyed.{lookup_is_at}
use Rattle.rec_file.proofs.RelativeLaws.{held, here, absent, zero_is_none, put_in_page}
use Rattle.rec_file.proofs.PlacedLaws.{no-page, its-page, stands, page-same, page-written, len-written}
use Rattle.rec_file.proofs.relative.RelFileOneWalk.replace_if_occupied.Goals as goal

pub returns-then-number-eq0-clause-occupied : goal.returns-then-number-eq0-clause-occupied
returns-then-number-eq0-clause-occupied c = rw c.if-number-eq0.true (ap is_some (zero_is_none _ _ c.args.self.now (held c.self.inside.shape (pages_at (get c.self.inside.pages) c.self.inside.slots) c.args.self.now c.self.view_is c.self.invariant.2 c.self.invariant.3)))

pub returns-in_default-clause-occupied : goal.returns-in_default-clause-occupied
returns-in_default-clause-occupied c =
    ap is_some (absent _ _ c.args.self.now (held c.self.inside.shape (pages_at (get c.self.inside.pages) c.self.inside.slots) c.args.self.now c.self.view_is c.self.invariant.2 c.self.invariant.3) c.args.number (omega (arith, c.if-number-eq0.false)) (no-page (get c.self.inside.pages) c.self.inside.slots _ (sym (lookup_is_at c.self.inside.slots _) ∙ sym (rw c.page_of.ensures at c.in_default.ensures))))

pub unreachable-requires : goal.unreachable-requires
unreachable-requires c =
    stands (get c.self.inside.pages) c.self.inside.slots _ c.in-Some.slot c.self.invariant.3 (sym (lookup_is_at c.self.inside.slots _) ∙ sym c.in-Some.ensures) (sym c.in_default-get_mut.ensures.value)

pub invariant_of-self : goal.invariant_of-self
invariant_of-self c =
    rw (page-same c.self.inside.pages c.self.inside.slots c.in-Some.slot c.in-Some-get_mut.page.now (sym c.in-Some-get_mut.ensures.value))
    (c.self.invariant.0, c.self.invariant.1, c.self.invariant.2, c.self.invariant.3, c.self.invariant.4, len-written c.self.inside.pages c.in-Some.slot c.in-Some-get_mut.page.now c.in-Some-get_mut.page.now (sym c.in-Some-get_mut.ensures.value) ∙ c.self.invariant.5)

pub returns-then-is_none-clause-occupied : goal.returns-then-is_none-clause-occupied
returns-then-is_none-clause-occupied c =
    ap is_some (copied_none c.get-2.result _ (rw c.cell_of-cell.ensures.same at c.get-2.ensures ∙ here _ _ c.args.self.now (held c.self.inside.shape (pages_at (get c.self.inside.pages) c.self.inside.slots) c.args.self.now c.self.view_is c.self.invariant.2 c.self.invariant.3) c.args.number c.in-Some-get_mut.page.now (omega (arith, c.if-number-eq0.false)) (its-page (get c.self.inside.pages) c.self.inside.slots _ c.in-Some.slot c.in-Some-get_mut.page.now (sym (lookup_is_at c.self.inside.slots _) ∙ sym (rw c.page_of.ensures at c.in-Some.ensures)) (sym c.in-Some-get_mut.ensures.value))) (c.is_none.ensures ∙ ap not c.if-is_none.true))

pub replace-requires-clause-occupied : goal.replace-requires-clause-occupied
replace-requires-clause-occupied c = copied_some c.get-2.result _ c.get-2.ensures (c.is_none.ensures ∙ ap not c.if-is_none.false)

pub invariant_of-self-in_err-from_slice : goal.invariant_of-self-in_err-from_slice
invariant_of-self-in_err-from_slice c =
    rw (page-same c.self.inside.pages c.self.inside.slots c.in-Some.slot c.in-Some-get_mut.page.now (sym c.in-Some-get_mut.ensures.value))
    (c.self.invariant.0, c.self.invariant.1, c.self.invariant.2, c.self.invariant.3, c.self.invariant.4, len-written c.self.inside.pages c.in-Some.slot c.in-Some-get_mut.page.now c.in-Some-get_mut.page.now (sym c.in-Some-get_mut.ensures.value) ∙ c.self.invariant.5)

pub returns-in_err-from_slice-clause-wanted : goal.returns-in_err-from_slice-clause-wanted
returns-in_err-from_slice-clause-wanted c =
    wanted _ (copied_some c.get-2.result _ (rw c.cell_of-cell.ensures.same at c.get-2.ensures ∙ here _ _ c.args.self.now (held c.self.inside.shape (pages_at (get c.self.inside.pages) c.self.inside.slots) c.args.self.now c.self.view_is c.self.invariant.2 c.self.invariant.3) c.args.number c.in-Some-get_mut.page.now (omega (arith, c.if-number-eq0.false)) (its-page (get c.self.inside.pages) c.self.inside.slots _ c.in-Some.slot c.in-Some-get_mut.page.now (sym (lookup_is_at c.self.inside.slots _) ∙ sym (rw c.page_of.ensures at c.in-Some.ensures)) (sym c.in-Some-get_mut.ensures.value))) (c.is_none.ensures ∙ ap not c.if-is_none.false))

pub returns-clause-occupied : goal.returns-clause-occupied
returns-clause-occupied c =
    sym (copied_some c.get-2.result _ (rw c.cell_of-cell.ensures.same at c.get-2.ensures ∙ here _ _ c.args.self.now (held c.self.inside.shape (pages_at (get c.self.inside.pages) c.self.inside.slots) c.args.self.now c.self.view_is c.self.invariant.2 c.self.invariant.3) c.args.number c.in-Some-get_mut.page.now (omega (arith, c.if-number-eq0.false)) (its-page (get c.self.inside.pages) c.self.inside.slots _ c.in-Some.slot c.in-Some-get_mut.page.now (sym (lookup_is_at c.self.inside.slots _) ∙ sym (rw c.page_of.ensures at c.in-Some.ensures)) (sym c.in-Some-get_mut.ensures.value))) (c.is_none.ensures ∙ ap not c.if-is_none.false))

pub invariant_of-self-2 : goal.invariant_of-self-2
invariant_of-self-2 c =
    let some = (copied_some c.get-2.result _ (rw c.cell_of-cell.ensures.same at c.get-2.ensures ∙ here _ _ c.args.self.now (held c.self.inside.shape (pages_at (get c.self.inside.pages) c.self.inside.slots) c.args.self.now c.self.view_is c.self.invariant.2 c.self.invariant.3) c.args.number c.in-Some-get_mut.page.now (omega (arith, c.if-number-eq0.false)) (its-page (get c.self.inside.pages) c.self.inside.slots _ c.in-Some.slot c.in-Some-get_mut.page.now (sym (lookup_is_at c.self.inside.slots _) ∙ sym (rw c.page_of.ensures at c.in-Some.ensures)) (sym c.in-Some-get_mut.ensures.value))) (c.is_none.ensures ∙ ap not c.if-is_none.false)) in
    let whole = put_in_page _ _ c.args.self.now (held c.self.inside.shape (pages_at (get c.self.inside.pages) c.self.inside.slots) c.args.self.now c.self.view_is c.self.invariant.2 c.self.invariant.3) c.args.number c.in-Some-get_mut.page.now c.args.body.now (omega (arith, c.if-number-eq0.false)) (its-page (get c.self.inside.pages) c.self.inside.slots _ c.in-Some.slot c.in-Some-get_mut.page.now (sym (lookup_is_at c.self.inside.slots _) ∙ sym (rw c.page_of.ensures at c.in-Some.ensures)) (sym c.in-Some-get_mut.ensures.value)) in
    let same = page-written c.self.inside.pages c.self.inside.slots _ c.in-Some.slot c.in-Some-get_mut.page.now c.replace.new.self _ c.self.invariant.4 (sym (rw c.page_of.ensures at c.in-Some.ensures)) (sym c.in-Some-get_mut.ensures.value) (rw (c.cell_of-cell.ensures.same, c.in_ok-from_slice.ensures.items) at c.replace.ensures) in
    rw same
    (subst IsFile (sym whole.same) (IsFile-replaced c.args.self.now c.args.number c.args.body.now (subst IsFile c.self.view_is c.self.invariant.0) some c.requires.length), c.self.invariant.1, whole.sorted, whole.all, c.self.invariant.4, len-written c.self.inside.pages c.in-Some.slot c.in-Some-get_mut.page.now c.replace.new.self (sym c.in-Some-get_mut.ensures.value) ∙ c.self.invariant.5)

pub returns-clause-ok : goal.returns-clause-ok
returns-clause-ok c =
    let whole = put_in_page _ _ c.args.self.now (held c.self.inside.shape (pages_at (get c.self.inside.pages) c.self.inside.slots) c.args.self.now c.self.view_is c.self.invariant.2 c.self.invariant.3) c.args.number c.in-Some-get_mut.page.now c.args.body.now (omega (arith, c.if-number-eq0.false)) (its-page (get c.self.inside.pages) c.self.inside.slots _ c.in-Some.slot c.in-Some-get_mut.page.now (sym (lookup_is_at c.self.inside.slots _) ∙ sym (rw c.page_of.ensures at c.in-Some.ensures)) (sym c.in-Some-get_mut.ensures.value)) in
    let same = page-written c.self.inside.pages c.self.inside.slots _ c.in-Some.slot c.in-Some-get_mut.page.now c.replace.new.self _ c.self.invariant.4 (sym (rw c.page_of.ensures at c.in-Some.ensures)) (sym c.in-Some-get_mut.ensures.value) (rw (c.cell_of-cell.ensures.same, c.in_ok-from_slice.ensures.items) at c.replace.ensures) in
    rw same whole.same
