use Rattle.std.proofs.Common.{Bool, ap, ◌∙◌, inl, inr}
use Rattle.std.specs.Prelude.{if◌then◌else◌}
use Rattle.live_cli.proofs.RunLemmas.{some_from}
use Rattle.live_cli.proofs.running.converse.Goals as goal

pub returns-in-Ok : goal.returns-in-Ok
returns-in-Ok g c = some_from _ c.in-Ok.ensures.whole (λ input said. inl (c.talk.new.end, said.0, said.1, said.2, said.3, c.status.ensures ∙ ap (λ (bad : Bool). if bad then 1 else 0) said.4))

pub returns-in-Err : goal.returns-in-Err
returns-in-Err g c = some_from _ c.in-Err.ensures.fault (λ input fails. inr (c.talk.new.end, c.in-Err.fault, fails, c.tell.ensures))
