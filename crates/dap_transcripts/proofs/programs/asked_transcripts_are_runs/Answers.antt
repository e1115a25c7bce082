use Rattle.std.proofs.Common.{ℕ, List}
use Rattle.std.specs.Prelude.{Option}
use Rattle.std.specs.Io.BufRead.{first_line}
use Rattle.linewise.specs.declared.talking.Became.{Became}
use Rattle.linewise.specs.Talks.{AnswersInput, no_line_more, one_line_more}
use Rattle.dap_live.specs.declared.asking.Asking.{Asking}
use Rattle.dap_live.specs.Asking.{answered, waiting}
use Rattle.dap_transcripts.specs.AskLines.{RunsByLine, no_line_ran, one_line_ran}
use Rattle.dap_transcripts.proofs.AskLines.{by_line}
use Rattle.dap_transcripts.proofs.programs.asked_transcripts_are_runs.Goals as goal

asks_by_line : (one new : Asking) (input rest text : List ℕ) (lines : List (Option Became)) → AnswersInput answered waiting one input new rest text lines → RunsByLine one input new rest text lines
asks_by_line one new input rest text lines no_line_more = no_line_ran
asks_by_line one new input _ _ _ (one_line_more now rest said more lines became before some says) =
    one_line_ran now rest said more lines became (asks_by_line one now input rest said lines before) (by_line (first_line rest) now new says.text more became says.answers says.says)

pub returns : goal.returns
returns c = λ one new input rest text lines talk. asks_by_line one new input rest text lines talk
