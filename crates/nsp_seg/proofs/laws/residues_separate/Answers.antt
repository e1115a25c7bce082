-- The two laws of residues.
use Rattle.nsp_seg.proofs.Residues.{ahead_of-residues, residue-apart}
use Rattle.nsp_seg.proofs.laws.residues_separate.Goals as goal

pub returns-clause-ahead : goal.returns-clause-ahead
returns-clause-ahead c = ahead_of-residues

pub returns-clause-apart : goal.returns-clause-apart
returns-clause-apart c = residue-apart
