use Rattle.std.proofs.Common.{refl}
use Rattle.dap_world.proofs.calls.post_b.Goals as goal

pub returns-in-Ok-clause-handed : goal.returns-in-Ok-clause-handed
returns-in-Ok-clause-handed c = (c.in-Ok.ensures.ok.0, c.in-Ok.ensures.ok.1, refl)
