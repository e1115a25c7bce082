use Rattle.std.proofs.Common.{◌≡◌, ◌+◌, ◌<◌, length, ap, arith, Some}
use Rattle.std.specs.Prelude.{slice_get}
use Rattle.std.proofs.lemmas.List.{length-map}
use Rattle.nsp_link.specs.Link.{LinkValue}
use Rattle.nsp_link.specs.Inner.Pieces.{piece as piece_in, piece_values}
use Rattle.nsp_link.proofs.Writing.{writes_segment}
use Rattle.nsp_link.proofs.Queued.{if_ok_map, piece_read, packet_is, spelling_same}
use Rattle.nsp_link.proofs.link.LinkEnd.segment_at.Goals as goal

pub returns-clause-ok : goal.returns-clause-ok
returns-clause-ok c =
    let items = c.self.inside.queue.items in
    let queue-is : piece_values items ≡ c.args.self.now.queue = ap (λ (v : LinkValue). v.queue) c.self.view_is in
    let lt : c.args.index < length items = omega (arith, c.requires, ap length queue-is, length-map items piece_in) in
    if_ok_map c.written.result _ _ c.written.ensures.ok
    (λ v spelled piece at.
    let inside : slice_get (piece_values items) c.args.index ≡ Some piece = rw queue-is at in
    let same = piece_read items c.args.index c.index-segment.result.now piece lt c.index-segment.ensures inside in
    spelling_same _ _ v.items
    (packet_is c.args.self.now c.index-segment.result.now piece c.acknowledgement.result c.self.inside.setup.remote c.self.inside.setup.local c.of.result (c.args.self.now.acked + 1 + c.args.index) c.deref.result.now
    same c.deref.ensures c.acknowledgement.ensures (rw (← c.self.view_is) c.of.ensures) (ap (λ (w : LinkValue). w.setup.remote) c.self.view_is) (ap (λ (w : LinkValue). w.setup.local) c.self.view_is))
    spelled)

pub returns-clause-carries : goal.returns-clause-carries
returns-clause-carries c =
    if_ok_map c.written.result _ _ (returns-clause-ok c)
    (λ v spelled messages sends. writes_segment c.args.self.now messages v.items c.args.index c.requires spelled sends)
