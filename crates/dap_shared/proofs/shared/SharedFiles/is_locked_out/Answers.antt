use Rattle.std.proofs.Common.{◌≡◌, ◌<◌, ap, sym, subst, ◌∙◌, length, List}
use Rattle.std.proofs.lemmas.List.{get_or_read}
use Rattle.dap_accessed.specs.Standing.{Files}
use Rattle.dap_accessed.specs.Sessions.{SessionValue}
use Rattle.dap_shared.specs.Nodes.{Event, is_locked_out, node_after}
use Rattle.dap_shared.specs.Shared.{SharedAfter, SharedValue, no_session}
use Rattle.dap_shared.specs.Inner.Beside.{is_barred}
use Rattle.dap_shared.proofs.Stepping.{asked_by, locked-kept}
use Rattle.dap_shared.proofs.shared.SharedFiles.is_locked_out.Goals as goal

pub returns : goal.returns
returns c =
    let v : SharedValue = record { own = c.self.inside.setup.identity.bufsiz; setup = c.self.inside.setup; files = c.self.inside.files; sessions = c.self.inside.sessions.items } in
    let lt = subst (λ (w : SharedValue). c.args.link < length w.sessions) (sym c.self.view_is) c.requires in
    let one = get_or_read v.sessions _ _ lt c.index.ensures (no_session v.setup) in
    let is =
    c.is_barred.ensures
    ∙ ap (λ (l : List SessionValue). is_barred l c.asked.result) c.deref.ensures.value
    ∙ ap (is_barred v.sessions) (c.asked.ensures ∙ ap (λ (s : SessionValue). asked_by s v.files c.args.item.now) one) in
    subst
    (λ (w : SharedValue). (first : Files) (events : List Event) → SharedAfter first events w → c.is_barred.result ≡ is_locked_out w.setup c.args.link (node_after w.setup first (length w.sessions) events) c.args.item.now)
    c.self.view_is
    (λ first events h. is ∙ locked-kept v c.args.link c.args.item.now first events h)
