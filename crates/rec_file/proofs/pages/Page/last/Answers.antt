use Rattle.rec_file.proofs.PageLaws.{none_at_all, last_is}
use Rattle.rec_file.proofs.PackedLaws.{opened}
use Rattle.rec_file.proofs.pages.Page.last.Goals as goal

pub returns-then-self-eq0-clause-none : goal.returns-then-self-eq0-clause-none
returns-then-self-eq0-clause-none c =
    let packed = opened c.self.invariant c.self.view_is in
    none_at_all c.self.inside.mask c.args.self.now packed.bits packed.size packed.fits c.if-self-eq0.true

pub returns-else-self-eq0-clause-some : goal.returns-else-self-eq0-clause-some
returns-else-self-eq0-clause-some c =
    let packed = opened c.self.invariant c.self.view_is in
    let last = last_is c.self.inside.mask c.args.self.now packed.bits packed.size packed.fits c.ilog2.result c.ilog2.ensures.power_le c.ilog2.ensures.next_power_gt c.ilog2.ensures.bound in record {
      within = c.ilog2.ensures.bound;
      occupied = last.0;
      none_after = last.1;
    }
