use Rattle.std.proofs.Common.{subst, sym}
use Rattle.dap_accessed.specs.Sessions.{SessionValue, IsOpenIn}
use Rattle.dap_accessed.proofs.session.Session.answer_item.Goals as goal

pub step-requires-clause-there : goal.step-requires-clause-there
step-requires-clause-there c = (c.args.files.now, subst (λ (s : SessionValue). IsOpenIn c.args.files.now s.phase) (sym c.self.view_is) c.requires.there)

pub act-requires : goal.act-requires
act-requires c = c.in-Ok.ensures.can c.args.files.now (subst (λ (s : SessionValue). IsOpenIn c.args.files.now s.phase) (sym c.self.view_is) c.requires.there)
