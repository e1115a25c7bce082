use Rattle.std.proofs.Common.{rules}
use Rattle.linewise.proofs.InputLemmas.{has_taken, ok_apart, takes_then, takes_up_to_then}
use Rattle.linewise.proofs.input.read_input.Goals as goal

pub returns-in_err-came-clause-taken : goal.returns-in_err-came-clause-taken
returns-in_err-came-clause-taken g c =
    takes_then c.chunks.count _ _ _ (has_taken c.chunks.count _ _ c.chunks.input.items (search rules) c.chunks.invariant.consumed) c.read_some.ensures.taken

pub returns-in_err-came-clause-within : goal.returns-in_err-came-clause-within
returns-in_err-came-clause-within g c small =
    takes_up_to_then c.chunks.count _ _ _ (has_taken c.chunks.count _ _ c.chunks.input.items (search rules) c.chunks.invariant.consumed) (c.read_some.ensures.within (λ is. small (search rules)))

pub returns-in_err-extend_from_slice-clause-taken : goal.returns-in_err-extend_from_slice-clause-taken
returns-in_err-extend_from_slice-clause-taken g c =
    takes_then c.chunks.count _ _ _ (has_taken c.chunks.count _ _ c.chunks.input.items (search rules) c.chunks.invariant.consumed) c.read_some.ensures.taken

pub returns-in_err-extend_from_slice-clause-within : goal.returns-in_err-extend_from_slice-clause-within
returns-in_err-extend_from_slice-clause-within g c small =
    takes_up_to_then c.chunks.count _ _ _ (has_taken c.chunks.count _ _ c.chunks.input.items (search rules) c.chunks.invariant.consumed) (c.read_some.ensures.within (ok_apart c.read_some.result c.in_ok-came.came _ (search rules)))
