-- What is near is told by its 12-bit number.
use Rattle.std.proofs.Common.{◌≡◌, ℕ, ◌+◌, ◌≤◌, arith}
use Rattle.nsp_seg.specs.Numbers.{residue}
use Rattle.nsp_link.specs.Limits.{max_age}
use Rattle.nsp_link.specs.Link.{LinkValue, IsLink}
use Rattle.nsp_link.specs.Separation.{IsSegmentNear, IsAckNear}

pub segment-near : (from to : LinkValue) (k : ℕ) → IsLink from → from.acked ≤ to.coming.received → k ≤ from.sent → to.coming.received + 1 ≤ k + max_age → IsSegmentNear to.coming.received k
segment-near from to k link taken sent fresh = (fresh, omega (arith, link.within, link.setup.3))

pub ack-near : (v : LinkValue) (a : ℕ) → IsLink v → a ≤ v.sent → v.acked ≤ a + max_age → IsAckNear v.acked a
ack-near v a link sent fresh = (fresh, omega (arith, link.within, link.setup.3))

pub segments-apart : (received k l : ℕ) → IsSegmentNear received k → IsSegmentNear received l → residue k ≡ residue l → k ≡ l
unfolding residue
segments-apart received k l near also same = omega arith

pub acks-apart : (acked a b : ℕ) → IsAckNear acked a → IsAckNear acked b → residue a ≡ residue b → a ≡ b
unfolding residue
acks-apart acked a b near also same = omega arith
