use Rattle.std.proofs.Common.{◌≡◌, ◌+◌, length, take}
use Rattle.nsp_link.specs.Cutting.{cut}
use Rattle.nsp_link.specs.Inner.Pieces.{vec_bodies}
use Rattle.nsp_link.proofs.cutting.check_all.Given as goal

abbrev pub invariant-loop-message : goal.invariant-loop-message
invariant-loop-message l = l.left + length (cut l.size (vec_bodies (take l.message-index l.messages))) ≡ l.room
