use Rattle.std.proofs.Common.{sym, subst, ◌∙◌}
use Rattle.slab.specs.Slab.{get}
use Rattle.rec_file.specs.Files.{IsFile}
use Rattle.rec_file.specs.Inner.Pages.{pages_at}
use Rattle.rec_file.proofs.RelativeLaws.{rising_pages}
use Rattle.rec_file.proofs.CountLaws.{kept_pages}
use Rattle.rec_file.proofs.PlacedLaws.{length-pages}
use Rattle.rec_file.proofs.relative.RelFile.page_count.Goals as goal

pub returns : goal.returns
returns c =
    c.len.ensures ∙ c.self.invariant.5 ∙ sym (length-pages (get c.self.inside.pages) c.self.inside.slots)
    ∙ kept_pages _ (pages_at (get c.self.inside.pages) c.self.inside.slots) c.args.self.now c.self.view_is (rising_pages _ c.self.invariant.2) c.self.invariant.3 (subst IsFile c.self.view_is c.self.invariant.0)
