use Rattle.std.proofs.Common.{rules, ap, ◌∙◌, codes, ◌++◌, ◌≡◌}
use Rattle.std.proofs.lemmas.Result.{IfOk-weaker}
use Rattle.dap_capture.proofs.PlayLemmas.{nothing_said, bad_sizes, played_from}
use Rattle.dap_capture.specs.Played.{refusal_line}
use Rattle.dap_orders.specs.Schedules.{numbered_lines}
use Rattle.dap_capture.proofs.play.play_lines.Goals as goal

pub returns-in_default-clause-played : goal.returns-in_default-clause-played
returns-in_default-clause-played c = nothing_said (numbered_lines c.args.input.now) c.new.result.items (search rules) (search rules)

pub returns-in-Ok-clause-played : goal.returns-in-Ok-clause-played
returns-in-Ok-clause-played c =
    IfOk-weaker c.play_events.result _ _ (λ p run. played_from (numbered_lines c.args.input.now) c.next.new.self (c.in-Some.at, c.in-Some.first.now) c.in-Some-read_setup.setup c.in-Ok.world p.0 p.1.items (search rules) (search rules) c.in-Ok.ensures.ok.0 c.in-Ok.ensures.ok.1 run) c.play_events.ensures.played

pub returns-in_ok-push_refusal-in-Err-BadSetup-clause-played : goal.returns-in_ok-push_refusal-in-Err-BadSetup-clause-played
returns-in_ok-push_refusal-in-Err-BadSetup-clause-played c =
    let text : c.push_refusal.new.text.items ≡ refusal_line 0 (codes "bad-setup") =
    c.in_ok-push_refusal-in-Err-BadSetup.ensures ∙ ap (λ t. t ++ refusal_line 0 (codes "bad-setup")) c.new-refusal.ensures.items in
    bad_sizes (numbered_lines c.args.input.now) c.next.new.self (c.in-Some.at, c.in-Some.first.now) c.in-Some-read_setup.setup c.push_refusal.new.text.items (search rules) (search rules) (search rules) text
