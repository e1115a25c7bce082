use Rattle.nsp_link.proofs.Separating.{segment-near, ack-near, segments-apart, acks-apart}
use Rattle.nsp_link.proofs.laws.distances_separate.Goals as goal

pub returns-clause-segment : goal.returns-clause-segment
returns-clause-segment c = segment-near

pub returns-clause-ack : goal.returns-clause-ack
returns-clause-ack c = ack-near

pub returns-clause-segments_apart : goal.returns-clause-segments_apart
returns-clause-segments_apart c = segments-apart

pub returns-clause-acks_apart : goal.returns-clause-acks_apart
returns-clause-acks_apart c = acks-apart
