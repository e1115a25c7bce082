use Rattle.std.proofs.Common.{◌≤◌, IfSome, length, sym, subst, ◌∙◌}
use Rattle.rec_file.specs.Limits.{max_record}
use Rattle.rec_file.proofs.RecordsLaws.{lowest_occupied}
use Rattle.rec_file.proofs.relative.RelFileOneWalk.record_from.Goals as goal

pub unreachable-requires : goal.unreachable-requires
unreachable-requires c = lowest_occupied _ _ _ c.in_ok-first.ensures.spot.lowest (sym c.in_ok-first.ensures.spot.same ∙ sym (rw c.cell_of.ensures.same at c.in_default.ensures))

pub returns-clause-short : goal.returns-clause-short
returns-clause-short c =
    subst (λ o. IfSome o (λ body. length body ≤ max_record)) (sym c.in_ok-first.ensures.spot.same ∙ sym (rw c.cell_of.ensures.same at c.in-Some.ensures)) c.in_ok-first.ensures.short
