use Rattle.std.proofs.Common.{◌<◌, ◌-◌, ◌+◌, ℕ, Some, ap, inl, inr}
use Rattle.std.proofs.lemmas.Bool.{cases_lt}
use Rattle.dap_world.proofs.Steps.Put.{wrote_put}
use Rattle.dap_world.proofs.side.again.Goals as goal

pub returns-clause-ok : goal.returns-clause-ok
returns-clause-ok c =
    let writes = rw c.in-Ok.is at c.requires.wrote in
    let there : c.args.index < c.args.link.now.sent - c.args.link.now.acked = elim (cases_lt c.args.index (c.args.link.now.sent - c.args.link.now.acked)) [
      | inl lt ↦ lt
      | inr le ↦ let none = rw c.in-Ok.is at (c.requires.missing le) in absurd cc
    ] in (
      there,
      wrote_put c.args.link.now c.args.wire.now.items c.reserve.new.self.items c.put.new.wire.items _ _ c.put.result c.in_ok-reserve.ensures.items c.put.ensures.wire c.put.ensures.index
          (ap (λ (n : ℕ). Some (n + 1 + c.args.index)) c.acked_count.ensures.value) c.received_count.ensures.value writes,
    )
