use Rattle.std.proofs.Common.{◌≡◌, List, ◌∙◌, ap}
use Rattle.std.specs.Prelude.{Option, Some, set}
use Rattle.dap_end.specs.Moved.{with_link}
use Rattle.dap_end.specs.Node.{NodeLinkValue, without_notes}
use Rattle.dap_end.specs.Ports.{PortValue}
use Rattle.dap_network.proofs.Kept.{peer_refused}
use Rattle.dap_network.proofs.Sets.{set_same}
use Rattle.dap_network.proofs.any_peers.a_regular_peer_is_taken_in.Goals as goal

pub returns : goal.returns
returns c = λ first events old mid new link most size messages bytes out all f n r every on one.
    let t = on.does.0 in
    let p = peer_refused first events old mid link size messages on.before on.after.link bytes f n r on.there every one t.receives in
    let after : on.after ≡ on.before = ap (λ (v : NodeLinkValue). v.port) t.rest ∙ ap (λ l. with_link on.before l) p.1 in
    let noted : new.noted ≡ without_notes mid.noted = ap (λ (v : NodeLinkValue). v.present) t.rest in
    let ports : new.ports ≡ mid.ports = on.ports ∙ ap (λ (q : PortValue). set mid.ports link (Some q)) after ∙ set_same mid.ports link (Some on.before) on.there in
    (p.0, on.does.1, ap (λ (n : _). record new { noted = n }) noted ∙ ap (λ (q : List (Option PortValue)). record mid { noted = without_notes mid.noted; ports = q }) ports)
