use Rattle.std.proofs.Common.{◌≡◌, ◌<◌, ap, sym, subst, ◌∙◌, length, List}
use Rattle.std.proofs.lemmas.List.{get_or_read}
use Rattle.dap_accessed.specs.Standing.{Files}
use Rattle.dap_accessed.specs.Sessions.{SessionValue}
use Rattle.dap_shared.specs.Nodes.{Event, exchange_at, node_after}
use Rattle.dap_shared.specs.Shared.{SharedAfter, SharedValue, no_session, rights_on}
use Rattle.dap_shared.proofs.Stepping.{rights-kept}
use Rattle.dap_shared.proofs.shared.SharedFiles.rights.Goals as goal

pub returns-clause-held : goal.returns-clause-held
returns-clause-held c =
    let v : SharedValue = record { own = c.self.inside.setup.identity.bufsiz; setup = c.self.inside.setup; files = c.self.inside.files; sessions = c.self.inside.sessions.items } in
    let lt = subst (λ (w : SharedValue). c.args.link < length w.sessions) (sym c.self.view_is) c.requires in
    let one = get_or_read v.sessions _ _ lt c.index.ensures (no_session v.setup) in
    subst (λ (w : SharedValue). c.rights.result ≡ rights_on c.args.link w) c.self.view_is (c.rights.ensures ∙ ap (λ (s : SessionValue). s.setup.most) one)

pub returns-clause-after : goal.returns-clause-after
returns-clause-after c =
    let v : SharedValue = record { own = c.self.inside.setup.identity.bufsiz; setup = c.self.inside.setup; files = c.self.inside.files; sessions = c.self.inside.sessions.items } in
    let lt = subst (λ (w : SharedValue). c.args.link < length w.sessions) (sym c.self.view_is) c.requires in
    let one = get_or_read v.sessions _ _ lt c.index.ensures (no_session v.setup) in
    subst
    (λ (w : SharedValue). (first : Files) (events : List Event) → SharedAfter first events w → c.rights.result ≡ (exchange_at c.args.link (node_after w.setup first (length w.sessions) events)).most)
    c.self.view_is
    (λ first events h. c.rights.ensures ∙ ap (λ (s : SessionValue). s.setup.most) one ∙ rights-kept v c.args.link first events h)
