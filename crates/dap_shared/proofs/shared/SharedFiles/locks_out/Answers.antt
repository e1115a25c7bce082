use Rattle.std.proofs.Common.{◌≡◌, ◌<◌, ap, sym, subst, ◌∙◌, length, List}
use Rattle.std.proofs.lemmas.List.{get_or_read}
use Rattle.dap_accessed.specs.declared.phase.OpenFile.{OpenFile}
use Rattle.dap_accessed.specs.Standing.{Files}
use Rattle.dap_shared.specs.Nodes.{Event, locks_out, node_after}
use Rattle.dap_shared.specs.Shared.{SharedAfter, SharedValue, no_session}
use Rattle.dap_shared.specs.Sharing.{barred_by}
use Rattle.dap_shared.proofs.Stepping.{asked_by, locks-told}
use Rattle.dap_shared.proofs.shared.SharedFiles.locks_out.Goals as goal
use Rattle.std.specs.Prelude.{Option}

pub returns-then-other-link : goal.returns-then-other-link
returns-then-other-link c =
    let v : SharedValue = record { own = c.self.inside.setup.identity.bufsiz; setup = c.self.inside.setup; files = c.self.inside.files; sessions = c.self.inside.sessions.items } in
    let one-lt = subst (λ (w : SharedValue). c.args.link < length w.sessions) (sym c.self.view_is) c.requires.link in
    let two-lt = subst (λ (w : SharedValue). c.args.other < length w.sessions) (sym c.self.view_is) c.requires.other in
    let one = get_or_read v.sessions _ _ one-lt c.index.ensures (no_session v.setup) in
    let two = get_or_read v.sessions _ _ two-lt c.index-then-other-link.ensures (no_session v.setup) in
    let is =
    c.is_barred_by_file.ensures
    ∙ ap (λ (a : Option OpenFile). barred_by a c.open_file.result) c.asked-asked.ensures
    ∙ ap (λ (a : Option OpenFile). barred_by (asked_by c.index.result.now v.files c.args.item.now) a) c.open_file.ensures in
    subst
    (λ (w : SharedValue). (first : Files) (events : List Event) → SharedAfter first events w → c.is_barred_by_file.result ≡ locks_out w.setup c.args.other c.args.link (node_after w.setup first (length w.sessions) events) c.args.item.now)
    c.self.view_is
    (locks-told v c.args.other c.args.link c.args.item.now c.index.result.now c.index-then-other-link.result.now c.is_barred_by_file.result c.if-other-link.true one two is)
