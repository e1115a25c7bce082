use Rattle.std.proofs.Common.{◌≡◌, ℕ, refl, sym, subst, List, [], ◌∷◌, ◌++◌, length}
use Rattle.std.specs.Prelude.{Some, slice_get}
use Rattle.std.proofs.lemmas.List.{append-nil}
use Rattle.dap_accessed.specs.Apart.{NamesAreApart}
use Rattle.dap_accessed.specs.Sound.{AreFiles}
use Rattle.dap_accessed.specs.Standing.{Files}
use Rattle.dap_accessed.specs.declared.setup.ServerSetup.{ServerSetup}
use Rattle.dap_shared.specs.Keeping.{AreOf}
use Rattle.dap_shared.specs.Nodes.{AnswersOn, Event, FilesAfter, items_on, new_node}
use Rattle.dap_end.specs.Node.{HasPort}
use Rattle.dap_end.specs.Ports.{PortValue}
use Rattle.dap_network.specs.GivenFiles.{AreGiven}
use Rattle.dap_network.specs.Happening.{NodeEvent, came_since, wrote_since}
use Rattle.dap_network.specs.Headline.{AreKept, IsKeptAlong, LinkHeadline, NetworkHeadline}
use Rattle.dap_network.specs.Network.{AtNode, AtPeer, Network, NetworkEvent, NetworkRuns, Peer, node_events}
use Rattle.dap_network.specs.Served.{BlockedOn, IsOrder}
use Rattle.dap_network.proofs.Kept.{NetworkStands, all_done, all_stands, are_served, at_first, by_itself, client_at, next, on_peer}
use Rattle.dap_network.proofs.Linked.{kept}
use Rattle.dap_network.proofs.laws.many_links_keep_the_headline.Goals as goal

module _ (own : ServerSetup) (links : ℕ) (first : Files) where
  abbrev Stands : List NodeEvent → List Event → Network → Type 0
  Stands done history net = NetworkStands own links first done history net

  headline_at : (done : List NodeEvent) (history : List Event) (net : Network) → Stands done history net → (link : ℕ) (port : PortValue) (peer : Peer) → HasPort link net.node port → slice_get net.peers link ≡ Some (Some peer) → LinkHeadline link own first links history peer
  headline_at done history net h link port peer at with_peer =
      let l = client_at own links first done history net h link port peer at with_peer in
      let k = kept (came_since link [] done) (wrote_since link [] done) (items_on link history) (BlockedOn link own first links history) (AnswersOn link own first links history) port peer l.any l.joined in
      record { taken = k.taken; served = k.served; taken_in_order = k.taken_in_order; read = k.read; read_in_order = k.read_in_order; reports_told = k.reports_told }

  -- ---- At last.

  module _ (sound : (history : List Event) → AreOf links history → AreGiven own (new_node own first links) history → AreFiles first → AreFiles (FilesAfter own first links history))
      (apart : (history : List Event) → AreGiven own (new_node own first links) history → NamesAreApart own.names first → NamesAreApart own.names (FilesAfter own first links history)) where
    told_by : (events : List NetworkEvent) (history : List Event) (net : Network) → IsOrder (node_events events) history → Stands (node_events events) history net → NetworkHeadline first events net
    unfolding by_itself
    told_by events history net tells h =
        let v = net.node.noted.shared in
        let done = node_events events in
        record {
          node = by_itself own links first sound apart done history net tells h;
          links = λ link port peer at with_peer. subst (λ (n : ℕ). LinkHeadline link v.setup first n history peer) (sym h.holds.as_many)
              (subst (λ (o : ServerSetup). LinkHeadline link o first links history peer) (sym h.holds.is_own) (headline_at done history net h link port peer at with_peer));
          sent = λ link port peer at with_peer. (client_at own links first done history net h link port peer at with_peer).joined.sent;
        }

  -- ---- At every moment.

  kept_at : (done : List NodeEvent) (history : List Event) (net : Network) → Stands done history net → AreKept own first links done history net
  kept_at done history net h = record { node = are_served own links first done history net h; clients = headline_at done history net h }

  along : (events : List NetworkEvent) (done : List NodeEvent) (history : List Event) (old new : Network) → NetworkRuns old events new → Stands done history old → IsKeptAlong own first links done history old events new
  along [] done history old new r h = (kept_at done history old h, r)
  along (AtPeer link event ∷ events) done history old new r h =
      let stands : Stands (done ++ []) (history ++ []) r.0 =
      subst (λ (l : List NodeEvent). Stands l (history ++ []) r.0) (sym (append-nil done)) (subst (λ (l : List Event). Stands done l r.0) (sym (append-nil history)) (on_peer own links first link history done old r.0 event r.1 r.2 h)) in
      (kept_at done history old h, [], r.0, r.1, refl, r.2, along events (done ++ []) (history ++ []) r.0 new r.3 stands)
  along (AtNode event ∷ events) done history old new r h =
      let one = next own links first event history done old r.0 r.2.0 r.2.1 h in
      let stands : Stands (done ++ event ∷ []) (history ++ one.told) r.0 = subst (λ (l : List Event). Stands (done ++ event ∷ []) l r.0) one.is one.stands in
      (kept_at done history old h, one.told, r.0, r.1, (one.told, [], sym (append-nil one.told), one.tells, refl), r.2, along events (done ++ event ∷ []) (history ++ one.told) r.0 new r.3 stands)

pub returns-clause-at_last : goal.returns-clause-at_last
returns-clause-at_last c = λ first events old new n r.
    let own = old.node.noted.shared.setup in
    let links = length old.node.noted.shared.sessions in
    let law = c.files_stay_sound.ensures in
    told_by own links first (λ history. law.sound own first links history) (λ history. law.apart own first links history) events (all_done own links first events old new n refl refl r).told new
    (all_done own links first events old new n refl refl r).tells (all_stands own links first events old new n refl refl r)

pub returns-clause-along : goal.returns-clause-along
returns-clause-along c = λ first events old new n r.
    let own = old.node.noted.shared.setup in
    let links = length old.node.noted.shared.sessions in along own links first events [] [] old new r (at_first own links first old n refl refl)
