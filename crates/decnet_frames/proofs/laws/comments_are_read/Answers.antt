use Rattle.decnet_frames.proofs.WrittenLemmas.{comment_read}
use Rattle.decnet_frames.proofs.laws.comments_are_read.Goals as goal

pub returns : goal.returns
returns c = λ number time nodes small source destination. comment_read number time nodes small source destination
