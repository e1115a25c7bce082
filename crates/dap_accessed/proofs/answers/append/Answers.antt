use Rattle.std.proofs.Common.{ap, ◌∙◌, ◌≤◌, ℕ, length, arith}
use Rattle.dap_msg.specs.Canon.{canon}
use Rattle.dap_msg.specs.declared.message.Message.{Message}
use Rattle.dap_msg.specs.Blocked.{bodies, block_one}
use Rattle.dap_accessed.specs.Inner.Written.{reply_message, most_bytes}
use Rattle.dap_accessed.proofs.Writing.{answered_more}
use Rattle.dap_accessed.proofs.answers.append.Goals as goal

pub returns : goal.returns
returns c =
    λ messages before.
    let m = reply_message c.args.answer in
    let most : length (canon m) ≤ most_bytes c.args.answer = c.message.ensures.within in
    answered_more c.args.limit messages m c.args.answers.now c.append_message.new.list c.message.ensures.fits (omega (arith, most, c.requires.1)) before
    (c.in_ok-append_message.ensures
    ∙ ap (λ (n : ℕ). block_one n (bodies c.args.answers.now.items) (canon c.message.result)) c.from.ensures
    ∙ ap (λ (m : Message). block_one c.args.limit (bodies c.args.answers.now.items) (canon m)) c.message.ensures.same)
