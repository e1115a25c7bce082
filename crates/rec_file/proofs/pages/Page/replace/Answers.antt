use Rattle.std.proofs.Common.{ap, length, arith}
use Rattle.rec_file.proofs.PackedLaws.{opened, closed, made, index_inside, packs-replaced, refill-set}
use Rattle.rec_file.proofs.pages.Page.replace.Goals as goal

pub offset_bounds-as_mut_slice-rank : goal.offset_bounds-as_mut_slice-rank
offset_bounds-as_mut_slice-rank c =
    let index = index_inside (λ v. v.items) _ _ _ (opened c.self.invariant c.self.view_is) c.args.at c.requires.occupied in
    let same = ap length c.as_mut_slice.ensures.value in
    omega (arith, c.rank-rank.ensures, c.as_mut_slice.type_inv)

pub bounds-as_mut_slice-rank : goal.bounds-as_mut_slice-rank
bounds-as_mut_slice-rank c =
    let index = index_inside (λ v. v.items) _ _ _ (opened c.self.invariant c.self.view_is) c.args.at c.requires.occupied in
    let same = ap length c.as_mut_slice.ensures.value in
    omega (arith, c.rank-rank.ensures)

pub invariant_of-self : goal.invariant_of-self
invariant_of-self c =
    rw (c.as_mut_slice.ensures.value, refill-set, c.rank-rank.ensures) (closed (packs-replaced (λ v. v.items) _ _ _ (opened c.self.invariant c.self.view_is) c.args.at c.args.body c.requires.within c.requires.occupied))

pub returns : goal.returns
returns c =
    rw (c.as_mut_slice.ensures.value, refill-set, c.rank-rank.ensures) (made (packs-replaced (λ v. v.items) _ _ _ (opened c.self.invariant c.self.view_is) c.args.at c.args.body c.requires.within c.requires.occupied))
