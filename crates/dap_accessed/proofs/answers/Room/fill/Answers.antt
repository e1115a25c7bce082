use Rattle.std.proofs.Common.{◌∷◌, ◌++◌, [], ap, ◌∙◌, subst, List, ℕ, arith, length, ◌≤◌}
use Rattle.std.specs.Global.{Vec}
use Rattle.dap_msg.specs.Canon.{canon}
use Rattle.dap_msg.specs.BothEnds.{min_buffer}
use Rattle.dap_msg.specs.declared.message.Message.{Message}
use Rattle.dap_msg.specs.Blocked.{bodies}
use Rattle.dap_msg.specs.Written.{Appends, no_memory}
use Rattle.dap_accessed.specs.Inner.Written.{reply_message, most_bytes}
use Rattle.dap_accessed.specs.Served.{AreAnswers}
use Rattle.dap_accessed.proofs.Writing.{answered_one, filled, short_most}
use Rattle.dap_accessed.proofs.answers.Room.fill.Goals as goal

pub returns : goal.returns
returns c =
    let answer = c.coded-answer.result in
    let m = reply_message answer in
    let most : length (canon m) ≤ most_bytes answer = c.message.ensures.within in
    let short : length (canon m) ≤ min_buffer = omega (arith, most, short_most answer (c.coded-answer.ensures.short c.requires.short)) in
    let appends : Appends no_memory (canon m) c.self.inside.bytes c.encode_value-written.new.out c.encode_value-written.result =
    subst (λ (m : Message). Appends no_memory (canon m) c.self.inside.bytes c.encode_value-written.new.out c.encode_value-written.result) c.message.ensures.same c.encode_value-written.ensures in
    subst (λ (m : Message). AreAnswers c.args.limit (m ∷ []) c.push_reserved.new.self) c.coded-answer.ensures.message
    (answered_one c.args.limit m c.push_reserved.new.self c.message.ensures.fits (omega (arith, short, c.requires.room))
    (ap bodies c.push_reserved.ensures.items ∙ ap (λ (l : List (Vec ℕ)). bodies (l ++ c.encode_value-written.new.out ∷ [])) c.self.invariant.0.0
    ∙ ap (λ (x : List ℕ). x ∷ []) (filled (canon m) c.self.inside.bytes c.encode_value-written.new.out c.encode_value-written.result appends c.self.invariant.1.0 c.self.invariant.1.1 short)))
