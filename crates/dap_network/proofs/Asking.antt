-- Calls of the peer of a link are events of the network.
use Rattle.std.proofs.Common.{◌≡◌, ℕ, refl, sym, ◌∙◌, subst, ap, append_assoc, List, [], ◌∷◌, ◌++◌, map}
use Rattle.std.specs.Prelude.{Option, Some, set, slice_get}
use Rattle.std.specs.List.{AllByRecursion}
use Rattle.std.proofs.lemmas.List.{append-nil}
use Rattle.dap_accessing.specs.Request.{Request}
use Rattle.dap_accessing.specs.declared.report.Report.{Report}
use Rattle.dap_end.specs.Calls.{AskingEvent, AskingRuns, AskingStepped, requests_in}
use Rattle.dap_end.specs.Done.{AskingValue}
use Rattle.dap_end.specs.Headline.{Arrival, WrittenPacket}
use Rattle.dap_end.specs.Joined.{IsBrought}
use Rattle.dap_end.specs.Runs.{RunsBy}
use Rattle.dap_end.proofs.ForCallers.{SoFar, asked_as, after_these, requests_of, runs_then}
use Rattle.dap_network.specs.Calls.{Leads, peer_then}
use Rattle.dap_network.specs.Network.{AtPeer, Network, NetworkRuns, NetworkStepped, Peer, PeerStepped}
use Rattle.dap_network.proofs.Sets.{set_again, set_here, set_same}

module _ (link : ℕ) where
  -- the network with this peer on the link
  abbrev with_the_peer : Network → Peer → Network
  with_the_peer net peer = record net { peers = set net.peers link (Some peer) }

  -- the peer after these requests, with what it has done so far
  abbrev peer_after : Peer → List Request → SoFar → Peer
  peer_after peer requests now = record peer { client = now.0; from_peer = now.2; requests = peer.requests ++ requests; reports = now.1 }

  asking_events : (old : Network) (peer : Peer) (events : List AskingEvent) (now : SoFar) → slice_get old.peers link ≡ Some (Some peer) → RunsBy (AskingStepped (IsBrought peer.from_node)) (peer.client, peer.reports, peer.from_peer) events now
      → NetworkRuns old (map (AtPeer link) events) (with_the_peer old (peer_after peer (requests_in events) now))
  asking_events old peer [] now at r =
      ap (λ (x : SoFar). with_the_peer old (peer_after peer [] x)) r ∙ ap (λ (l : List Request). with_the_peer old (record peer { requests = l })) (append-nil peer.requests) ∙ ap (λ (l : List (Option Peer)). record old { peers = l }) (set_same old.peers link (Some peer) at)
  asking_events old peer (event ∷ events) now at r =
      let q = peer_after peer (requests_in (event ∷ [])) r.0 in
      let step : PeerStepped link old event r.1 (with_the_peer old q) = record { peer = peer; with_peer = at; then = q; steps = r.2; requests = refl; same = refl; is = refl } in
      let rest = asking_events (with_the_peer old q) q events now (set_here old.peers link (Some peer) (Some q) at) r.3 in
      let last = peer_after q (requests_in events) now in
      let requests = append_assoc peer.requests (requests_in (event ∷ [])) (requests_in events) ∙ ap (λ (l : List Request). peer.requests ++ l) (requests_of event events) in
      let is : with_the_peer (with_the_peer old q) last ≡ with_the_peer old (peer_after peer (requests_in (event ∷ events)) now) = ap (λ (l : List (Option Peer)). record old { peers = l }) (set_again old.peers link (Some q) (Some last)) ∙ ap (λ (l : List Request). with_the_peer old (record last { requests = l })) requests in
      (with_the_peer old q, r.1, step, subst (NetworkRuns (with_the_peer old q) (map (AtPeer link) events)) is rest)

  pub peer_leads : (old : Network) (peer : Peer) (client : AskingValue) (came : List Arrival) (requests : List Request) (reports : List Report) (wrote : List WrittenPacket) → slice_get old.peers link ≡ Some (Some peer) → AllByRecursion (λ c. IsBrought peer.from_node c.0 c.1) came
      → AskingRuns came requests peer.client client reports wrote → Leads old (peer_then old link peer client requests reports wrote)
  peer_leads old peer client came requests reports wrote at brought run =
      let r = asked_as (IsBrought peer.from_node) came requests peer.client client reports wrote brought run in
      let now : SoFar = (client, peer.reports ++ reports, peer.from_peer ++ wrote) in
      let all = asking_events old peer r.0 now at (after_these (IsBrought peer.from_node) r.0 peer.client client peer.reports reports peer.from_peer wrote r.2) in
      (map (AtPeer link) r.0, subst (λ (l : List Request). NetworkRuns old (map (AtPeer link) r.0) (with_the_peer old (peer_after peer l now))) (sym r.1) all)

pub leads_on : (old mid new : Network) → Leads old mid → Leads mid new → Leads old new
leads_on old mid new r q = (r.0 ++ q.0, runs_then NetworkStepped r.0 q.0 old mid new r.1 q.1)
