use Rattle.std.proofs.Common.{◌∙◌, append_assoc}
use Rattle.std.proofs.lemmas.List.{append-nil}
use Rattle.std.proofs.lemmas.Result.{on_ok_weaker}
use Rattle.dap_live.proofs.answers.push_batch_line.Goals as goal

pub returns : goal.returns
returns c =
    on_ok_weaker c.push_ending.result (λ adds. adds ∙ simp (c.in_ok-push_str.ensures.added, c.in_ok-push_number.ensures.added, append_assoc, append-nil)) c.push_ending.ensures
