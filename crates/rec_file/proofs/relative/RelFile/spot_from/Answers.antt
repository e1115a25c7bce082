use Rattle.std.proofs.Common.{sym, subst, ◌∙◌}
use Rattle.slab.specs.Slab.{get}
use Rattle.rec_file.specs.Files.{IsFile}
use Rattle.rec_file.specs.Pages.{page_of}
use Rattle.rec_file.specs.Inner.Pages.{pages_at}
use Rattle.rec_file.proofs.RelativeLaws.{held, no_page, first_fits, found_first, no_second, second_fits, second_has, found_second}
use Rattle.rec_file.proofs.FileLaws.{record_fits}
use Rattle.rec_file.proofs.SlotsLaws.{from-behind}
use Rattle.rec_file.proofs.PlacedLaws.{rest-none, rest-is, rest-stands, next-none, next-is, next-stands}
use Rattle.rec_file.proofs.relative.RelFile.spot_from.Goals as goal
use Rattle.rec_file.proofs.relative.RelFile.spot_from.Goals.{then-at-own, else-at-own}

pub returns-in_err-at-clause-none : goal.returns-in_err-at-clause-none
returns-in_err-at-clause-none c =
    rw c.from_residual.ensures (sym (no_page _ _ c.args.self.now (held c.self.inside.shape (pages_at (get c.self.inside.pages) c.self.inside.slots) c.args.self.now c.self.view_is c.self.invariant.2 c.self.invariant.3) c.args.number c.max-least.result c.max-least.ensures (rest-none (get c.self.inside.pages) c.self.inside.slots (page_of c.max-least.result) (from-behind (page_of c.max-least.result) c.self.inside.slots ∙ sym (rw c.page_of-own.ensures at c.from-rest.ensures) ∙ c.in_err-at.ensures.none))))

pub unreachable-requires : goal.unreachable-requires
unreachable-requires c =
    rest-stands (get c.self.inside.pages) c.self.inside.slots (page_of c.max-least.result) (c.in_ok-at.at, c.in_ok-at.slot) _ (from-behind (page_of c.max-least.result) c.self.inside.slots ∙ sym (rw c.page_of-own.ensures at c.from-rest.ensures) ∙ c.in_ok-at.ensures.some) c.self.invariant.3 (sym c.in_default.ensures)

pub first_in-requires-clause-page : goal.first_in-requires-clause-page
first_in-requires-clause-page c =
    first_fits _ _ c.args.self.now (held c.self.inside.shape (pages_at (get c.self.inside.pages) c.self.inside.slots) c.args.self.now c.self.view_is c.self.invariant.2 c.self.invariant.3) c.args.number c.max-least.result c.max-least.ensures c.in_ok-at.at c.in-Some.page.now _ (rest-is (get c.self.inside.pages) c.self.inside.slots (page_of c.max-least.result) (c.in_ok-at.at, c.in_ok-at.slot) _ (from-behind (page_of c.max-least.result) c.self.inside.slots ∙ sym (rw c.page_of-own.ensures at c.from-rest.ensures) ∙ c.in_ok-at.ensures.some) _ (sym c.in-Some.ensures)) (subst IsFile c.self.view_is c.self.invariant.0)

pub returns-in-Some-first_in-clause-spot : goal.returns-in-Some-first_in-clause-spot
returns-in-Some-first_in-clause-spot c =
    found_first _ _ c.args.self.now (held c.self.inside.shape (pages_at (get c.self.inside.pages) c.self.inside.slots) c.args.self.now c.self.view_is c.self.invariant.2 c.self.invariant.3) c.args.number c.max-least.result c.max-least.ensures c.in_ok-at.at c.in-Some.page.now _ (rest-is (get c.self.inside.pages) c.self.inside.slots (page_of c.max-least.result) (c.in_ok-at.at, c.in_ok-at.slot) _ (from-behind (page_of c.max-least.result) c.self.inside.slots ∙ sym (rw c.page_of-own.ensures at c.from-rest.ensures) ∙ c.in_ok-at.ensures.some) _ (sym c.in-Some.ensures)) c.if-at-own.from c.in-Some-first_in.first
    (elim c.if-at-own.branch [
      | then-at-own w ↦ (λ own. w.from-is ∙ w.cell_of-from.ensures.same, λ other. absurd (other (sym (w.if-at-own.true ∙ c.page_of-own.ensures))))
      | else-at-own w ↦ (λ own. absurd (w.if-at-own.false (sym (c.page_of-own.ensures ∙ own))), λ other. w.from-is)
    ])
    (subst IsFile c.self.view_is c.self.invariant.0) c.in-Some-first_in.ensures.some

pub returns-in_err-at-in-None-clause-none : goal.returns-in_err-at-in-None-clause-none
returns-in_err-at-in-None-clause-none c =
    rw c.from_residual-in_err-at-in-None.ensures (sym (no_second _ _ c.args.self.now (held c.self.inside.shape (pages_at (get c.self.inside.pages) c.self.inside.slots) c.args.self.now c.self.view_is c.self.invariant.2 c.self.invariant.3) c.args.number c.max-least.result c.max-least.ensures c.in_ok-at.at c.in-Some.page.now _ (rest-is (get c.self.inside.pages) c.self.inside.slots (page_of c.max-least.result) (c.in_ok-at.at, c.in_ok-at.slot) _ (from-behind (page_of c.max-least.result) c.self.inside.slots ∙ sym (rw c.page_of-own.ensures at c.from-rest.ensures) ∙ c.in_ok-at.ensures.some) _ (sym c.in-Some.ensures)) c.if-at-own.from
    (elim c.if-at-own.branch [
      | then-at-own w ↦ (λ own. w.from-is ∙ w.cell_of-from.ensures.same, λ other. absurd (other (sym (w.if-at-own.true ∙ c.page_of-own.ensures))))
      | else-at-own w ↦ (λ own. absurd (w.if-at-own.false (sym (c.page_of-own.ensures ∙ own))), λ other. w.from-is)
    ])
    c.in-None.ensures.none (next-none (get c.self.inside.pages) c.self.inside.slots (page_of c.max-least.result) (c.in_ok-at.at, c.in_ok-at.slot) _ (from-behind (page_of c.max-least.result) c.self.inside.slots ∙ sym (rw c.page_of-own.ensures at c.from-rest.ensures) ∙ c.in_ok-at.ensures.some) c.in_err-at-in-None.ensures.none)))

pub unreachable-requires-in_default-get : goal.unreachable-requires-in_default-get
unreachable-requires-in_default-get c =
    next-stands (get c.self.inside.pages) c.self.inside.slots (page_of c.max-least.result) (c.in_ok-at.at, c.in_ok-at.slot) _ (from-behind (page_of c.max-least.result) c.self.inside.slots ∙ sym (rw c.page_of-own.ensures at c.from-rest.ensures) ∙ c.in_ok-at.ensures.some) (c.in_ok-at-in-None.at, c.in_ok-at-in-None.slot) _ c.in_ok-at-in-None.ensures.some c.self.invariant.3 (sym c.in_default-get.ensures)

pub first_in-requires-in-None-clause-page : goal.first_in-requires-in-None-clause-page
first_in-requires-in-None-clause-page c =
    second_fits _ _ c.args.self.now (held c.self.inside.shape (pages_at (get c.self.inside.pages) c.self.inside.slots) c.args.self.now c.self.view_is c.self.invariant.2 c.self.invariant.3) c.args.number c.max-least.result c.max-least.ensures c.in_ok-at.at c.in-Some.page.now _ (rest-is (get c.self.inside.pages) c.self.inside.slots (page_of c.max-least.result) (c.in_ok-at.at, c.in_ok-at.slot) _ (from-behind (page_of c.max-least.result) c.self.inside.slots ∙ sym (rw c.page_of-own.ensures at c.from-rest.ensures) ∙ c.in_ok-at.ensures.some) _ (sym c.in-Some.ensures)) c.if-at-own.from
    (elim c.if-at-own.branch [
      | then-at-own w ↦ (λ own. w.from-is ∙ w.cell_of-from.ensures.same, λ other. absurd (other (sym (w.if-at-own.true ∙ c.page_of-own.ensures))))
      | else-at-own w ↦ (λ own. absurd (w.if-at-own.false (sym (c.page_of-own.ensures ∙ own))), λ other. w.from-is)
    ])
    c.in-None.ensures.none c.in_ok-at-in-None.at c.in-Some-get.page.now _ (next-is (get c.self.inside.pages) c.self.inside.slots (page_of c.max-least.result) (c.in_ok-at.at, c.in_ok-at.slot) _ (from-behind (page_of c.max-least.result) c.self.inside.slots ∙ sym (rw c.page_of-own.ensures at c.from-rest.ensures) ∙ c.in_ok-at.ensures.some) (c.in_ok-at-in-None.at, c.in_ok-at-in-None.slot) _ c.in_ok-at-in-None.ensures.some _ (sym c.in-Some-get.ensures)) (subst IsFile c.self.view_is c.self.invariant.0)

pub unreachable-requires-in_default-first_in : goal.unreachable-requires-in_default-first_in
unreachable-requires-in_default-first_in c =
    second_has _ _ c.args.self.now (held c.self.inside.shape (pages_at (get c.self.inside.pages) c.self.inside.slots) c.args.self.now c.self.view_is c.self.invariant.2 c.self.invariant.3) c.args.number c.max-least.result c.max-least.ensures c.in_ok-at.at c.in-Some.page.now _ (rest-is (get c.self.inside.pages) c.self.inside.slots (page_of c.max-least.result) (c.in_ok-at.at, c.in_ok-at.slot) _ (from-behind (page_of c.max-least.result) c.self.inside.slots ∙ sym (rw c.page_of-own.ensures at c.from-rest.ensures) ∙ c.in_ok-at.ensures.some) _ (sym c.in-Some.ensures)) c.if-at-own.from
    (elim c.if-at-own.branch [
      | then-at-own w ↦ (λ own. w.from-is ∙ w.cell_of-from.ensures.same, λ other. absurd (other (sym (w.if-at-own.true ∙ c.page_of-own.ensures))))
      | else-at-own w ↦ (λ own. absurd (w.if-at-own.false (sym (c.page_of-own.ensures ∙ own))), λ other. w.from-is)
    ])
    c.in-None.ensures.none c.in_ok-at-in-None.at c.in-Some-get.page.now _ (next-is (get c.self.inside.pages) c.self.inside.slots (page_of c.max-least.result) (c.in_ok-at.at, c.in_ok-at.slot) _ (from-behind (page_of c.max-least.result) c.self.inside.slots ∙ sym (rw c.page_of-own.ensures at c.from-rest.ensures) ∙ c.in_ok-at.ensures.some) (c.in_ok-at-in-None.at, c.in_ok-at-in-None.slot) _ c.in_ok-at-in-None.ensures.some _ (sym c.in-Some-get.ensures)) c.in_default-first_in.ensures.none

pub returns-in-Some-first_in-2-clause-spot : goal.returns-in-Some-first_in-2-clause-spot
returns-in-Some-first_in-2-clause-spot c =
    found_second _ _ c.args.self.now (held c.self.inside.shape (pages_at (get c.self.inside.pages) c.self.inside.slots) c.args.self.now c.self.view_is c.self.invariant.2 c.self.invariant.3) c.args.number c.max-least.result c.max-least.ensures c.in_ok-at.at c.in-Some.page.now _ (rest-is (get c.self.inside.pages) c.self.inside.slots (page_of c.max-least.result) (c.in_ok-at.at, c.in_ok-at.slot) _ (from-behind (page_of c.max-least.result) c.self.inside.slots ∙ sym (rw c.page_of-own.ensures at c.from-rest.ensures) ∙ c.in_ok-at.ensures.some) _ (sym c.in-Some.ensures)) c.if-at-own.from
    (elim c.if-at-own.branch [
      | then-at-own w ↦ (λ own. w.from-is ∙ w.cell_of-from.ensures.same, λ other. absurd (other (sym (w.if-at-own.true ∙ c.page_of-own.ensures))))
      | else-at-own w ↦ (λ own. absurd (w.if-at-own.false (sym (c.page_of-own.ensures ∙ own))), λ other. w.from-is)
    ])
    c.in-None.ensures.none c.in_ok-at-in-None.at c.in-Some-get.page.now _ (next-is (get c.self.inside.pages) c.self.inside.slots (page_of c.max-least.result) (c.in_ok-at.at, c.in_ok-at.slot) _ (from-behind (page_of c.max-least.result) c.self.inside.slots ∙ sym (rw c.page_of-own.ensures at c.from-rest.ensures) ∙ c.in_ok-at.ensures.some) (c.in_ok-at-in-None.at, c.in_ok-at-in-None.slot) _ c.in_ok-at-in-None.ensures.some _ (sym c.in-Some-get.ensures))
    c.in-Some-first_in-2.first (subst IsFile c.self.view_is c.self.invariant.0) c.in-Some-first_in-2.ensures.some

pub returns-in-Some-first_in-clause-short : goal.returns-in-Some-first_in-clause-short
returns-in-Some-first_in-clause-short c = record_fits c.args.self.now c.in-Some-first_in.first (subst IsFile c.self.view_is c.self.invariant.0)

pub returns-in-Some-first_in-2-clause-short : goal.returns-in-Some-first_in-2-clause-short
returns-in-Some-first_in-2-clause-short c = record_fits c.args.self.now c.in-Some-first_in-2.first (subst IsFile c.self.view_is c.self.invariant.0)
