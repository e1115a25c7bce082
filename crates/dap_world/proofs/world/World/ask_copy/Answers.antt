use Rattle.dap_world.specs.Inner.WorldView.{parts_of}
use Rattle.dap_world.proofs.Steps.AskingOne.{asked_done}
use Rattle.dap_world.proofs.world.World.ask_copy.Goals as goal

pub invariant_of-self : goal.invariant_of-self
invariant_of-self c = (asked_done (parts_of c.self.inside) c.args.request.now c.copy_and_ask.new.end c.copy_and_ask.new.requests.items c.copy_and_ask.result c.self.invariant c.copy_and_ask.ensures.ok c.copy_and_ask.ensures.told c.copy_and_ask.ensures.err).0

pub returns : goal.returns
returns c = rw (← c.self.view_is) (asked_done (parts_of c.self.inside) c.args.request.now c.copy_and_ask.new.end c.copy_and_ask.new.requests.items c.copy_and_ask.result c.self.invariant c.copy_and_ask.ensures.ok c.copy_and_ask.ensures.told c.copy_and_ask.ensures.err).1
