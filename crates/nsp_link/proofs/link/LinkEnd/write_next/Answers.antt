use Rattle.std.proofs.Common.{◌≡◌, ◌+◌, ◌-◌, ℕ, ap, arith, subst}
use Rattle.nsp_link.specs.Link.{LinkValue, IsSpelling}
use Rattle.nsp_link.specs.Sending.{segment_packet}
use Rattle.nsp_link.proofs.link.LinkEnd.write_next.Goals as goal

pub returns-clause-segment : goal.returns-clause-segment
returns-clause-segment c =
    let now = c.args.self.now in
    let valid = c.unacked.ensures.valid in
    let index = c.unacked.result in
    let value : index ≡ now.sent - now.acked = c.unacked.ensures.value in
    let number : now.acked + 1 + index ≡ now.sent + 1 = omega (arith, valid.acked, value) in (
      c.requires.may,
      ap (λ (v : LinkValue). record v { sent = v.sent + 1 }) c.self.view_is,
      (λ piece at. subst (λ (n : ℕ). IsSpelling (segment_packet now piece n) c.in_ok-packet.packet.items) number (c.in_ok-packet.ensures.ok piece (rw value at))),
    )
