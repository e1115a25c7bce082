use Rattle.std.proofs.Common.{arith}
use Rattle.dap_shared.specs.Nodes.{node_after}
use Rattle.dap_shared.proofs.Events.{history-shares, holds-still}
use Rattle.dap_shared.proofs.laws.an_open_file_stays.Goals as goal

pub returns : goal.returns
returns c = λ own first links events link other item held o lt d is.
    (let h = history-shares own first links events o in let n = h.1 in holds-still own (node_after own first links events) link item (omega (arith, n, lt)) h.0 other d held is)
