use Rattle.dap_follow.proofs.ShownLemmas.{shown}
use Rattle.dap_follow.proofs.laws.bare_segments_are_shown.Goals as goal

pub returns : goal.returns
returns c = shown
