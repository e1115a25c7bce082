use Rattle.std.proofs.Common.{sym}
use Rattle.nsp_link.proofs.Held.{leads_none, leads_slot}
use Rattle.nsp_link.proofs.ring.held_at.Goals as goal

pub returns-in-Some-clause-leads : goal.returns-in-Some-clause-leads
returns-in-Some-clause-leads c = leads_slot c.args.ring.now.items c.args.index c.in-Some.slot.now c.as_ref.result (sym c.in-Some.ensures) c.as_ref.ensures.value

pub returns-in-None-clause-leads : goal.returns-in-None-clause-leads
returns-in-None-clause-leads c = leads_none c.args.ring.now.items c.args.index c.get.result c.get.ensures c.in-None.is
