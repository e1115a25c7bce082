use Rattle.std.proofs.Common.{◌≡◌, inl, subst, ℕ}
use Rattle.nsp_link.specs.declared.link.LinkSetup.{LinkSetup}
use Rattle.dap_accessed.specs.declared.setup.ServerSetup.{ServerSetup}
use Rattle.dap_live.specs.Node.{IsNewNode}
use Rattle.live_cli.specs.Running.{server_of, link_setup}
use Rattle.live_cli.proofs.RunLemmas.{some_from}
use Rattle.live_cli.proofs.running.serve.Goals as goal

pub returns-in-Ok : goal.returns-in-Ok
returns-in-Ok g c =
    let o = c.args.options in
    let own : c.server_setup.result ≡ server_of o = c.server_setup.ensures.is in
    let setup : c.link_setup.result ≡ link_setup o = c.link_setup.ensures in
    let most : c.from-most_waiting.result ≡ o.waiting = c.from-most_waiting.ensures in
    let new = c.in-Ok.ensures.ok in
    let as-set = subst (λ (s : ServerSetup). IsNewNode s o.links c.link_setup.result c.from-most_waiting.result c.in-Ok.node) own new in
    let as-linked = subst (λ (s : LinkSetup). IsNewNode (server_of o) o.links s c.from-most_waiting.result c.in-Ok.node) setup as-set in
    let first = subst (λ (n : ℕ). IsNewNode (server_of o) o.links (link_setup o) n c.in-Ok.node) most as-linked in
    some_from _ c.converse.ensures (λ input answers. inl (c.in-Ok.node, first, answers))
