use Rattle.std.proofs.Common.{◌<◌, length, subst, sym}
use Rattle.std.specs.Prelude.{set}
use Rattle.dap_accessed.specs.Sessions.{SessionValue}
use Rattle.dap_shared.specs.Shared.{SharedValue, SharedBegins}
use Rattle.dap_shared.specs.Inner.Held.{IsHeld}
use Rattle.dap_shared.proofs.Held.{begins-held, is-setup}
use Rattle.dap_shared.proofs.Stepping.{begins-shared}
use Rattle.dap_shared.proofs.shared.SharedFiles.begin.Goals as goal

pub with_setup-requires : goal.with_setup-requires
with_setup-requires c = is-setup c.args.most c.self.inside.setup c.self.invariant.setup

pub invariant_of-self : goal.invariant_of-self
invariant_of-self c =
    let v : SharedValue = record { own = c.self.inside.setup.identity.bufsiz; setup = c.self.inside.setup; files = c.self.inside.files; sessions = c.self.inside.sessions.items } in
    let lt = subst (λ (w : SharedValue). c.args.link < length w.sessions) (sym c.self.view_is) c.requires in
    subst (λ (s : SessionValue). IsHeld (record v { sessions = set v.sessions c.args.link s })) (sym c.with_setup.ensures) (begins-held v c.args.link c.args.most c.self.invariant lt)

pub returns : goal.returns
returns c =
    let v : SharedValue = record { own = c.self.inside.setup.identity.bufsiz; setup = c.self.inside.setup; files = c.self.inside.files; sessions = c.self.inside.sessions.items } in
    let lt = subst (λ (w : SharedValue). c.args.link < length w.sessions) (sym c.self.view_is) c.requires in
    subst (λ (w : SharedValue). SharedBegins c.args.link c.args.most w (record v { sessions = set v.sessions c.args.link c.with_setup.result })) c.self.view_is
    (subst (λ (s : SessionValue). SharedBegins c.args.link c.args.most v (record v { sessions = set v.sessions c.args.link s })) (sym c.with_setup.ensures) (begins-shared v c.args.link c.args.most lt))
