use Rattle.std.proofs.Common.{◌≡◌, ◌<◌, ◌^◌, [], subst}
use Rattle.std.specs.Prelude.{◌≢◌}
use Rattle.dap_accessing.specs.Told.{due_after, Wrong}
use Rattle.dap_world.specs.Machine.{State, answers_read}
use Rattle.dap_world.specs.Inner.WorldView.{parts_of}
use Rattle.dap_world.specs.Inner.Settling.{IsOneDue, IsQuiet}
use Rattle.dap_world.proofs.Stretch.Exhausting.{quiet_parts}
use Rattle.dap_world.proofs.Stretch.Few.{few_served, one_due, none_out_of_sequence}
use Rattle.dap_world.proofs.Steps.ReadingOne.{few_read}
use Rattle.dap_world.proofs.world.World.few.Goals as goal

pub returns-clause-served : goal.returns-clause-served
returns-clause-served c = subst (λ (s : State). s.served < 2 ^ 56) c.self.view_is (few_served (parts_of c.self.inside) c.self.invariant)

pub returns-clause-read : goal.returns-clause-read
returns-clause-read c = subst (λ (s : State). s.read < 2 ^ 56) c.self.view_is (few_read (parts_of c.self.inside) c.self.invariant)

pub returns-clause-due : goal.returns-clause-due
returns-clause-due c = subst (λ (s : State). IsOneDue s) c.self.view_is (one_due (parts_of c.self.inside) c.self.invariant)

pub returns-clause-in_sequence : goal.returns-clause-in_sequence
returns-clause-in_sequence c = subst (λ (s : State). due_after s.requests (answers_read s) ≢ Wrong) c.self.view_is (none_out_of_sequence (parts_of c.self.inside) c.self.invariant)

pub returns-clause-quiet : goal.returns-clause-quiet
returns-clause-quiet c = subst (λ (s : State). s.requests ≡ [] → IsQuiet s) c.self.view_is (quiet_parts (parts_of c.self.inside))
