use Rattle.std.proofs.Common.{Some, ap, sym, subst, ◌∙◌}
use Rattle.slab.specs.Slab.{get}
use Rattle.rec_file.specs.Files.{IsFile}
use Rattle.rec_file.specs.Inner.Pages.{pages_at}
use Rattle.rec_file.proofs.FileLaws.{not_both}
use Rattle.rec_file.proofs.Keyed.{lookup_is_at}
use Rattle.rec_file.proofs.RelativeLaws.{held, page_fits, page_is, highest_in_page, no_highest}
use Rattle.rec_file.proofs.PlacedLaws.{no-page, its-page, stands}
use Rattle.rec_file.proofs.relative.RelFileRecordFile.highest.Goals as goal

pub returns-in_default-clause-same : goal.returns-in_default-clause-same
returns-in_default-clause-same c =
    no_highest _ _ c.args.self.now (held c.self.inside.shape (pages_at (get c.self.inside.pages) c.self.inside.slots) c.args.self.now c.self.view_is c.self.invariant.2 c.self.invariant.3)
    (ap (pages_at (get c.self.inside.pages)) c.in_default.ensures.none)

pub last_in-requires : goal.last_in-requires
last_in-requires c =
    page_fits _ _ c.args.self.now (held c.self.inside.shape (pages_at (get c.self.inside.pages) c.self.inside.slots) c.args.self.now c.self.view_is c.self.invariant.2 c.self.invariant.3) c.in-Some.at c.in-Some-get.page.now
    (its-page (get c.self.inside.pages) c.self.inside.slots _ c.in-Some.slot _ (sym (lookup_is_at c.self.inside.slots c.in-Some.at) ∙ c.in-Some.ensures.some.here) (sym c.in-Some-get.ensures)) (subst IsFile c.self.view_is c.self.invariant.0)

pub unreachable-requires : goal.unreachable-requires
unreachable-requires c =
    stands (get c.self.inside.pages) c.self.inside.slots _ c.in-Some.slot c.self.invariant.3
    (sym (lookup_is_at c.self.inside.slots c.in-Some.at) ∙ c.in-Some.ensures.some.here) (sym c.in_default-get.ensures)

pub unreachable-requires-in_default-last_in : goal.unreachable-requires-in_default-last_in
unreachable-requires-in_default-last_in c =
    let page = page_is (pages_at (get c.self.inside.pages) c.self.inside.slots) c.in-Some.at c.in-Some-get.page.now c.self.invariant.3
    (its-page (get c.self.inside.pages) c.self.inside.slots _ c.in-Some.slot _ (sym (lookup_is_at c.self.inside.slots c.in-Some.at) ∙ c.in-Some.ensures.some.here) (sym c.in-Some-get.ensures)) in
    not_both _ (sym (c.in_default-last_in.ensures.none page.occupied.0)) page.occupied.1

pub returns-clause-same : goal.returns-clause-same
returns-clause-same c =
    (highest_in_page _ _ c.args.self.now (held c.self.inside.shape (pages_at (get c.self.inside.pages) c.self.inside.slots) c.args.self.now c.self.view_is c.self.invariant.2 c.self.invariant.3) c.in-Some.at c.in-Some-get.page.now (Some c.in-Some-last_in.highest)
    (its-page (get c.self.inside.pages) c.self.inside.slots _ c.in-Some.slot _ (sym (lookup_is_at c.self.inside.slots c.in-Some.at) ∙ c.in-Some.ensures.some.here) (sym c.in-Some-get.ensures))
    (λ j lt. no-page (get c.self.inside.pages) c.self.inside.slots j (sym (lookup_is_at c.self.inside.slots j) ∙ c.in-Some.ensures.some.none_above j lt))
    (subst IsFile c.self.view_is c.self.invariant.0) tt c.in-Some-last_in.ensures.some).0

pub returns-clause-within : goal.returns-clause-within
returns-clause-within c =
    (highest_in_page _ _ c.args.self.now (held c.self.inside.shape (pages_at (get c.self.inside.pages) c.self.inside.slots) c.args.self.now c.self.view_is c.self.invariant.2 c.self.invariant.3) c.in-Some.at c.in-Some-get.page.now (Some c.in-Some-last_in.highest)
    (its-page (get c.self.inside.pages) c.self.inside.slots _ c.in-Some.slot _ (sym (lookup_is_at c.self.inside.slots c.in-Some.at) ∙ c.in-Some.ensures.some.here) (sym c.in-Some-get.ensures))
    (λ j lt. no-page (get c.self.inside.pages) c.self.inside.slots j (sym (lookup_is_at c.self.inside.slots j) ∙ c.in-Some.ensures.some.none_above j lt))
    (subst IsFile c.self.view_is c.self.invariant.0) tt c.in-Some-last_in.ensures.some).1
