use Rattle.std.proofs.Common.{sym, subst, ◌∙◌, arith}
use Rattle.slab.specs.Slab.{get}
use Rattle.rec_file.specs.Files.{IsFile}
use Rattle.rec_file.specs.Inner.Pages.{pages_at}
use Rattle.rec_file.proofs.FileLaws.{copied_fits}
use Rattle.rec_file.proofs.Keyed.{lookup_is_at}
use Rattle.rec_file.proofs.RelativeLaws.{held, here, absent, zero_is_none}
use Rattle.rec_file.proofs.PlacedLaws.{no-page, its-page, stands}
use Rattle.rec_file.proofs.relative.RelFileRecordFile.lookup.Goals as goal

pub returns-then-number-eq0-clause-same : goal.returns-then-number-eq0-clause-same
returns-then-number-eq0-clause-same c = rw c.if-number-eq0.true (zero_is_none _ _ c.args.self.now (held c.self.inside.shape (pages_at (get c.self.inside.pages) c.self.inside.slots) c.args.self.now c.self.view_is c.self.invariant.2 c.self.invariant.3))

pub returns-in_err-slot-clause-same : goal.returns-in_err-slot-clause-same
returns-in_err-slot-clause-same c =
    rw c.from_residual.ensures (absent _ _ c.args.self.now (held c.self.inside.shape (pages_at (get c.self.inside.pages) c.self.inside.slots) c.args.self.now c.self.view_is c.self.invariant.2 c.self.invariant.3) c.args.number (omega (arith, c.if-number-eq0.false))
    (no-page (get c.self.inside.pages) c.self.inside.slots _ (sym (lookup_is_at c.self.inside.slots _) ∙ sym (rw c.page_of.ensures at c.in_err-slot.ensures))))

pub unreachable-requires : goal.unreachable-requires
unreachable-requires c =
    stands (get c.self.inside.pages) c.self.inside.slots _ c.in_ok-slot.slot c.self.invariant.3
    (sym (lookup_is_at c.self.inside.slots _) ∙ sym c.in_ok-slot.ensures) (sym c.in_default.ensures)

pub returns-clause-same : goal.returns-clause-same
returns-clause-same c =
    rw (c.get-3.ensures, c.cell_of.ensures.same) (here _ _ c.args.self.now (held c.self.inside.shape (pages_at (get c.self.inside.pages) c.self.inside.slots) c.args.self.now c.self.view_is c.self.invariant.2 c.self.invariant.3) c.args.number c.in-Some.page.now (omega (arith, c.if-number-eq0.false))
    (its-page (get c.self.inside.pages) c.self.inside.slots _ c.in_ok-slot.slot c.in-Some.page.now (sym (lookup_is_at c.self.inside.slots _) ∙ sym (rw c.page_of.ensures at c.in_ok-slot.ensures)) (sym c.in-Some.ensures)))

pub returns-clause-short : goal.returns-clause-short
returns-clause-short c = copied_fits c.args.self.now c.args.number c.get-3.result (subst IsFile c.self.view_is c.self.invariant.0) (returns-clause-same c)
