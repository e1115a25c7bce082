use Rattle.dap_events.specs.declared.event.WorldFault.TheVariants.{NoMemory, NothingToDo}
use Rattle.dap_world.specs.Inner.WorldView.{parts_of}
use Rattle.std.proofs.Common.{arith}
use Rattle.dap_world.proofs.Stretch.Few.{few_served}
use Rattle.dap_world.proofs.Steps.Serving.{served_step, not_served, serves_nothing, serves_later}
use Rattle.dap_world.proofs.world.World.serve.Goals as goal

pub invariant_of-self : goal.invariant_of-self
invariant_of-self c = (served_step (parts_of c.self.inside) c.serve.new.self c.in-Ok-Some.count c.self.invariant (rw c.in-Ok-Some.field-0-is at c.in-Ok-Some.ensures.ok)).0

pub returns-in-Ok-Some : goal.returns-in-Ok-Some
returns-in-Ok-Some c = rw (← c.self.view_is) (served_step (parts_of c.self.inside) c.serve.new.self c.in-Ok-Some.count c.self.invariant (rw c.in-Ok-Some.field-0-is at c.in-Ok-Some.ensures.ok)).1

pub invariant_of-self-in-Ok-None : goal.invariant_of-self-in-Ok-None
invariant_of-self-in-Ok-None c = (let none = rw c.in-Ok-None.field-0-is at c.in-Ok-None.ensures.ok in not_served (parts_of c.self.inside) c.serve.new.self NothingToDo c.self.invariant none.0 (serves_nothing (parts_of c.self.inside) c.self.invariant none.1)).0

pub returns-in-Ok-None : goal.returns-in-Ok-None
returns-in-Ok-None c = rw (← c.self.view_is) (let none = rw c.in-Ok-None.field-0-is at c.in-Ok-None.ensures.ok in not_served (parts_of c.self.inside) c.serve.new.self NothingToDo c.self.invariant none.0 (serves_nothing (parts_of c.self.inside) c.self.invariant none.1)).1

pub invariant_of-self-in-Err : goal.invariant_of-self-in-Err
invariant_of-self-in-Err c = (not_served (parts_of c.self.inside) c.serve.new.self NoMemory c.self.invariant c.in-Err.ensures.no_memory.0 (serves_later (parts_of c.self.inside) c.self.invariant c.in-Err.ensures.no_memory.1)).0

pub returns-in-Err : goal.returns-in-Err
returns-in-Err c = rw (← c.self.view_is) (not_served (parts_of c.self.inside) c.serve.new.self NoMemory c.self.invariant c.in-Err.ensures.no_memory.0 (serves_later (parts_of c.self.inside) c.self.invariant c.in-Err.ensures.no_memory.1)).1

pub overflow_add-self : goal.overflow_add-self
overflow_add-self c = omega (arith, few_served (parts_of c.self.inside) c.self.invariant)
