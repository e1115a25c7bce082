use Rattle.std.proofs.Common.{◌-◌, ℕ, length}
use Rattle.dap_events.specs.declared.event.End.TheVariants.{A}
use Rattle.dap_world.specs.Machine.{arrived_at}
use Rattle.dap_world.specs.Inner.Worlds.{IsWorld}
use Rattle.dap_world.proofs.Stretch.Emptying.{ReadSome}
use Rattle.dap_world.proofs.world.World.read_every.Given as goal

abbrev pub invariant-answers : goal.invariant-answers
invariant-answers l = record { so_far : (n : ℕ) × ReadSome l.fn.self l.self n; world : IsWorld l.self }

abbrev pub decreases-answers : goal.decreases-answers
decreases-answers l = length (arrived_at l.self A) - l.self.read
