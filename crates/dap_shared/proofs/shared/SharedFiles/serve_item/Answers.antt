use Rattle.std.proofs.Common.{◌<◌, List, length, sym, subst, ◌∙◌}
use Rattle.std.specs.Vec.{with_items}
use Rattle.std.proofs.lemmas.Result.{IfOk-weaker, on_err_weaker}
use Rattle.dap_accessed.specs.Sessions.{SessionValue, IsOpenIn}
use Rattle.std.specs.Prelude.{IsOk}
use Rattle.dap_accessed.specs.Standing.{Files}
use Rattle.dap_shared.specs.Nodes.{Event, IsSilentOn}
use Rattle.dap_shared.specs.Shared.{SharedAfter, SharedValue, SharedServes}
use Rattle.dap_shared.specs.Inner.Held.{IsHeld, IsSilentAmong, MovesOn, session_at}
use Rattle.dap_shared.proofs.Held.{held-open, on-shared, open-alike, refilled, served-held, served-many}
use Rattle.dap_shared.proofs.Stepping.{silent-kept}
use Rattle.dap_shared.proofs.shared.SharedFiles.serve_item.Goals as goal

pub serve_on-requires-clause-there : goal.serve_on-requires-clause-there
serve_on-requires-clause-there c =
    let v : SharedValue = record { own = c.self.inside.setup.identity.bufsiz; setup = c.self.inside.setup; files = c.self.inside.files; sessions = c.self.inside.sessions.items } in
    let lt = subst (λ (w : SharedValue). c.args.link < length w.sessions) (sym c.self.view_is) c.requires.link in
    λ own. subst (λ (l : List SessionValue). IsOpenIn v.files (session_at own c.args.link l).phase) (sym c.deref_mut.ensures.value)
    (open-alike v.files v.setup own c.args.link v.sessions lt (held-open v c.args.link c.self.invariant))

pub invariant_of-self : goal.invariant_of-self
invariant_of-self c =
    let v : SharedValue = record { own = c.self.inside.setup.identity.bufsiz; setup = c.self.inside.setup; files = c.self.inside.files; sessions = c.self.inside.sessions.items } in
    let lt = subst (λ (w : SharedValue). c.args.link < length w.sessions) (sym c.self.view_is) c.requires.link in
    let ok = IfOk-weaker c.serve_on.result _ _
    (λ served m. subst (λ (l : List SessionValue). MovesOn v.setup c.args.link c.args.item v.files l c.serve_on.new.files c.serve_on.new.sessions served.answers) c.deref_mut.ensures.value (m v.setup))
    c.serve_on.ensures.ok in
    let err = on_err_weaker c.serve_on.result (λ h. (h.0, h.1 ∙ c.deref_mut.ensures.value)) c.serve_on.ensures.err in
    let many = served-many v.setup c.args.link c.args.item v.files c.serve_on.new.files v.sessions c.serve_on.new.sessions c.serve_on.result ok err in
    subst (λ (l : List SessionValue). IsHeld (record { own = v.own; setup = v.setup; files = c.serve_on.new.files; sessions = l })) (sym (refilled c.self.inside.sessions c.serve_on.new.sessions many))
    (served-held v c.args.link c.args.item c.serve_on.new.files c.serve_on.new.sessions c.serve_on.result c.self.invariant lt ok err)

pub returns-clause-serves : goal.returns-clause-serves
returns-clause-serves c =
    let v : SharedValue = record { own = c.self.inside.setup.identity.bufsiz; setup = c.self.inside.setup; files = c.self.inside.files; sessions = c.self.inside.sessions.items } in
    let lt = subst (λ (w : SharedValue). c.args.link < length w.sessions) (sym c.self.view_is) c.requires.link in
    let ok = IfOk-weaker c.serve_on.result _ _
    (λ served m. subst (λ (l : List SessionValue). MovesOn v.setup c.args.link c.args.item v.files l c.serve_on.new.files c.serve_on.new.sessions served.answers) c.deref_mut.ensures.value (m v.setup))
    c.serve_on.ensures.ok in
    let err = on_err_weaker c.serve_on.result (λ h. (h.0, h.1 ∙ c.deref_mut.ensures.value)) c.serve_on.ensures.err in
    let many = served-many v.setup c.args.link c.args.item v.files c.serve_on.new.files v.sessions c.serve_on.new.sessions c.serve_on.result ok err in
    IfOk-weaker c.serve_on.result _ _
    (λ served m. subst (λ (w : SharedValue). SharedServes c.args.link c.args.item w (record { own = v.own; setup = v.setup; files = c.serve_on.new.files; sessions = (with_items c.self.inside.sessions c.serve_on.new.sessions).items }) served.answers) c.self.view_is
    (subst (λ (l : List SessionValue). SharedServes c.args.link c.args.item v (record { own = v.own; setup = v.setup; files = c.serve_on.new.files; sessions = l }) served.answers) (sym (refilled c.self.inside.sessions c.serve_on.new.sessions many))
    (on-shared v c.args.link c.args.item c.serve_on.new.files c.serve_on.new.sessions served.answers c.self.invariant lt m)))
    ok

pub returns-clause-unrefused : goal.returns-clause-unrefused
returns-clause-unrefused c =
    let v : SharedValue = record { own = c.self.inside.setup.identity.bufsiz; setup = c.self.inside.setup; files = c.self.inside.files; sessions = c.self.inside.sessions.items } in
    subst (λ (w : SharedValue). (first : Files) (events : List Event) → SharedAfter first events w → IsSilentOn c.args.link w.setup first (length w.sessions) events c.args.item → IsOk c.serve_on.result) c.self.view_is
    (λ first events h silent. c.serve_on.ensures.unrefused v.setup
    (subst (λ (l : List SessionValue). IsSilentAmong v.setup c.args.link c.args.item v.files l) (sym c.deref_mut.ensures.value) (silent-kept v c.args.link c.args.item first events h silent)))
