use Rattle.dap_events.specs.declared.event.End.TheVariants.{A, B}
use Rattle.dap_msg.specs.Blocked.{bodies}
use Rattle.dap_world.specs.Inner.WorldView.{parts_of}
use Rattle.dap_world.proofs.Steps.Wrote.{is_running}
use Rattle.dap_world.proofs.Steps.Growing.{few_posted}
use Rattle.dap_world.proofs.Steps.Posted.{post_a, post_b}
use Rattle.dap_world.proofs.world.World.post.Goals as goal

pub post_a-requires : goal.post_a-requires
post_a-requires c = record { running = is_running (parts_of c.self.inside) A c.self.invariant; short = c.self.invariant.from_a.short; few = few_posted (parts_of c.self.inside).a (parts_of c.self.inside).b _ _ c.self.invariant.from_a }

pub invariant_of-self : goal.invariant_of-self
invariant_of-self c = (post_a (parts_of c.self.inside) c.post_a.new.end c.post_a.new.posted (bodies c.post_a.new.sent.items) c.post_a.result c.self.invariant c.post_a.ensures.ok c.post_a.ensures.handed c.post_a.ensures.sent c.post_a.ensures.same c.post_a.ensures.err).0

pub returns-in-A : goal.returns-in-A
returns-in-A c = rw (← c.self.view_is, c.in-A.is) (post_a (parts_of c.self.inside) c.post_a.new.end c.post_a.new.posted (bodies c.post_a.new.sent.items) c.post_a.result c.self.invariant c.post_a.ensures.ok c.post_a.ensures.handed c.post_a.ensures.sent c.post_a.ensures.same c.post_a.ensures.err).1

pub post_b-requires : goal.post_b-requires
post_b-requires c = record { running = is_running (parts_of c.self.inside) B c.self.invariant; short = c.self.invariant.from_b.short; few = few_posted (parts_of c.self.inside).b (parts_of c.self.inside).a _ _ c.self.invariant.from_b }

pub invariant_of-self-in-B : goal.invariant_of-self-in-B
invariant_of-self-in-B c = (post_b (parts_of c.self.inside) c.post_b.new.end c.post_b.new.posted c.post_b.result c.self.invariant c.post_b.ensures.ok c.post_b.ensures.handed c.post_b.ensures.same c.post_b.ensures.err).0

pub returns-in-B : goal.returns-in-B
returns-in-B c = rw (← c.self.view_is, c.in-B.is) (post_b (parts_of c.self.inside) c.post_b.new.end c.post_b.new.posted c.post_b.result c.self.invariant c.post_b.ensures.ok c.post_b.ensures.handed c.post_b.ensures.same c.post_b.ensures.err).1
