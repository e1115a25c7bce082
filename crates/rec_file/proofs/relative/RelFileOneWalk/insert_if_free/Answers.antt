use Rattle.std.proofs.Common.{◌≡◌, None, is_none, subst}
use Rattle.std.specs.Prelude.{IfOk, OnErr}
use Rattle.slab.specs.Slab.{get}
use Rattle.rec_file.specs.Files.{IsFile}
use Rattle.rec_file.specs.Inner.Pages.{pages_at}
use Rattle.rec_file.proofs.FileLaws.{IsFile-placed}
use Rattle.rec_file.proofs.RelativeLaws.{held, held_cell, put_back, put_same, put_stands}
use Rattle.rec_file.proofs.relative.RelFileOneWalk.insert_if_free.Goals as goal

pub invariant_of-self : goal.invariant_of-self
invariant_of-self c =
    let put = rw (c.page_of-at.ensures, c.cell_of-cell.ensures.same) at c.put_in.ensures.ok in
    let file = subst IsFile c.self.view_is c.self.invariant.0 in
    let stands =
    put_stands _ _ c.args.self.now (held c.self.inside.shape (pages_at (get c.self.inside.pages) c.self.inside.slots) c.args.self.now c.self.view_is c.self.invariant.2 c.self.invariant.3) c.put_in.result (pages_at (get c.put_in.new.pages) c.put_in.new.slots) c.args.number c.args.body.now c.requires.above put c.put_in.ensures.err
    file (IsFile-placed c.args.self.now c.args.number c.args.body.now file c.requires.above c.requires.within c.requires.next c.requires.length) in
    (stands.0, c.self.invariant.1, stands.1, stands.2, c.put_in.ensures.own, c.put_in.ensures.as_many)

pub returns-clause-free : goal.returns-clause-free
returns-clause-free c =
    subst (λ o. IfOk c.put_in.result (λ free. free ≡ is_none o))
    (held_cell _ _ c.args.self.now (held c.self.inside.shape (pages_at (get c.self.inside.pages) c.self.inside.slots) c.args.self.now c.self.view_is c.self.invariant.2 c.self.invariant.3) c.args.number c.requires.above)
    (rw (c.page_of-at.ensures, c.cell_of-cell.ensures.same) at c.put_in.ensures.empty)

pub returns-clause-ok : goal.returns-clause-ok
returns-clause-ok c =
    let put = rw (c.page_of-at.ensures, c.cell_of-cell.ensures.same) at c.put_in.ensures.ok in
    put_same _ _ c.args.self.now (held c.self.inside.shape (pages_at (get c.self.inside.pages) c.self.inside.slots) c.args.self.now c.self.view_is c.self.invariant.2 c.self.invariant.3) c.put_in.result (pages_at (get c.put_in.new.pages) c.put_in.new.slots) c.args.number c.args.body.now c.requires.above put c.put_in.ensures.err

pub returns-clause-err : goal.returns-clause-err
returns-clause-err c =
    let put = rw (c.page_of-at.ensures, c.cell_of-cell.ensures.same) at c.put_in.ensures.ok in
    put_back _ _ c.args.self.now (held c.self.inside.shape (pages_at (get c.self.inside.pages) c.self.inside.slots) c.args.self.now c.self.view_is c.self.invariant.2 c.self.invariant.3) c.put_in.result (pages_at (get c.put_in.new.pages) c.put_in.new.slots) c.args.number c.args.body.now c.requires.above put c.put_in.ensures.err

pub returns-clause-wanted : goal.returns-clause-wanted
returns-clause-wanted c =
    subst (λ o. OnErr c.put_in.result (o ≡ None))
    (held_cell _ _ c.args.self.now (held c.self.inside.shape (pages_at (get c.self.inside.pages) c.self.inside.slots) c.args.self.now c.self.view_is c.self.invariant.2 c.self.invariant.3) c.args.number c.requires.above)
    (rw (c.page_of-at.ensures, c.cell_of-cell.ensures.same) at c.put_in.ensures.wanted)
