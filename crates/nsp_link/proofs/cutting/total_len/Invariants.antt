use Rattle.std.proofs.Common.{◌≡◌, take}
use Rattle.nsp_link.specs.Cutting.{total_length}
use Rattle.nsp_link.specs.Inner.Pieces.{vec_bodies}
use Rattle.nsp_link.proofs.cutting.total_len.Given as goal

abbrev pub invariant-loop-message : goal.invariant-loop-message
invariant-loop-message l = l.total ≡ total_length (vec_bodies (take l.message-index l.messages))
