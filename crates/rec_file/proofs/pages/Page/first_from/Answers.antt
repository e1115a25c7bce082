use Rattle.std.proofs.Common.{arith}
use Rattle.rec_file.proofs.PageLaws.{none_from, first_is}
use Rattle.rec_file.proofs.PackedLaws.{opened}
use Rattle.rec_file.proofs.pages.Page.first_from.Goals as goal

pub returns-then-rest-eq0-clause-none : goal.returns-then-rest-eq0-clause-none
returns-then-rest-eq0-clause-none c =
    let packed = opened c.self.invariant c.self.view_is in
    none_from c.self.inside.mask c.args.self.now packed.bits packed.size packed.fits c.args.at c.if-rest-eq0.true

pub returns-else-rest-eq0-clause-some : goal.returns-else-rest-eq0-clause-some
returns-else-rest-eq0-clause-some c =
    let packed = opened c.self.invariant c.self.view_is in
    let first = first_is c.self.inside.mask c.args.self.now packed.bits packed.size packed.fits c.args.at (omega (arith, c.if-rest-eq0.false)) in record {
      from_on = omega arith;
      within = first.0;
      occupied = first.1;
      none_before = first.2;
    }
