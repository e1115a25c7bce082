use Rattle.std.proofs.Common.{ℕ, refl, sym, ◌∙◌, subst, ap, List, [], ◌∷◌, ◌++◌, length}
use Rattle.std.specs.Prelude.{Option, option_map, slice_get}
use Rattle.dap_accessed.specs.declared.setup.ServerSetup.{ServerSetup}
use Rattle.dap_accessed.specs.Sound.{AreFiles}
use Rattle.dap_accessed.specs.Standing.{Files}
use Rattle.dap_shared.specs.Keeping.{AreOf}
use Rattle.dap_shared.specs.Nodes.{Drops, Event, FilesAfter, Gives, GivesRecord, new_node}
use Rattle.dap_shared.specs.Shared.{SharedValue}
use Rattle.dap_end.specs.Agreement.{IsBufsiz}
use Rattle.dap_network.specs.GivenFiles.{AreGiven}
use Rattle.dap_network.specs.Happening.{Continued, GotFile, GotLink, GotRecord, LostFile, LostLink, NodeEvent, NodeStepped, PacketCame, WroteAgain}
use Rattle.dap_network.specs.Network.{AtNode, AtPeer, Network, NetworkEvent, NetworkRuns, Peer, PeersStepped, client_on, peer_sent}
use Rattle.dap_network.proofs.Expecting.{keeps_drop, keeps_file, keeps_record}
use Rattle.dap_network.proofs.Kept.{at_first, next}
use Rattle.dap_network.proofs.NoneUnexpected.{AreHeard, HasNext, heard_expects, on_begin, on_end, on_files, on_link, on_peer, peers_go_on, peers_stay}
use Rattle.dap_network.proofs.Sets.{set_other}
use Rattle.dap_network.proofs.expected.no_answer_is_unexpected_on_any_link.Goals as goal

module _ (own : ServerSetup) (links : ℕ) (first : Files) (bufsiz : IsBufsiz own.identity.bufsiz) (sound : (history : List Event) → AreOf links history → AreGiven own (new_node own first links) history → AreFiles (FilesAfter own first links history)) where
  on_event : (event : NodeEvent) (done : List NodeEvent) (history : List Event) (old new : Network) → NodeStepped old.node event new.node → PeersStepped old.peers event new.peers → AreHeard own links first done history old → HasNext own links first done event new
  on_event (PacketCame link c) done history old new s q h =
      let n = next own links first (PacketCame link c) history done old new s q h.stands in
      on_link own links first bufsiz sound link done history old new (PacketCame link c) [] s.before s.after s.there s.ports (λ j apart. ap (λ (l : List (Option Peer)). slice_get l j) q.1) (peers_stay link old.peers new.peers q.1) h n n.tells
  on_event (Continued link wrote) done history old new s q h =
      let n = next own links first (Continued link wrote) history done old new s q h.stands in
      on_link own links first bufsiz sound link done history old new (Continued link wrote) n.tells.0 s.before s.after s.there s.ports
      (λ j apart. ap (λ (l : List (Option Peer)). slice_get l j) q ∙ set_other old.peers link j (option_map (peer_sent wrote) (client_on link old.peers)) apart) (peers_go_on link old.peers new.peers wrote q) h n n.tells.1
  on_event (WroteAgain link index w) done history old new s q h =
      let n = next own links first (WroteAgain link index w) history done old new s q h.stands in
      on_link own links first bufsiz sound link done history old new (WroteAgain link index w) [] s.before s.after s.there s.ports
      (λ j apart. ap (λ (l : List (Option Peer)). slice_get l j) q ∙ set_other old.peers link j (option_map (peer_sent (w ∷ [])) (client_on link old.peers)) apart) (peers_go_on link old.peers new.peers (w ∷ []) q) h n n.tells
  on_event (GotLink link setup most) done history old new s q h = on_begin own links first bufsiz sound link setup most done history old new s.1 q h (next own links first (GotLink link setup most) history done old new s q h.stands)
  on_event (LostLink link) done history old new s q h = on_end own links first bufsiz sound link done history old new s q h (next own links first (LostLink link) history done old new s q h.stands)
  on_event (GotFile name shape) done history old new s q h =
      let n = next own links first (GotFile name shape) history done old new s q h.stands in on_files own links first bufsiz sound (GotFile name shape) (Gives name shape) done history old new s.3 q (λ j. keeps_file own links first j history name shape) h n n.tells
  on_event (GotRecord at number body) done history old new s q h =
      let n = next own links first (GotRecord at number body) history done old new s q h.stands in
      on_files own links first bufsiz sound (GotRecord at number body) (GivesRecord at number body) done history old new s.3 q (λ j. keeps_record own links first j history at number body) h n n.tells
  on_event (LostFile at) done history old new s q h =
      let n = next own links first (LostFile at) history done old new s q h.stands in on_files own links first bufsiz sound (LostFile at) (Drops at) done history old new s.1 q (λ j. keeps_drop own links first j history at) h n n.tells

  -- after all events
  abbrev AtEnd : Network → Type 0
  AtEnd new = (done : List NodeEvent) × (history : List Event) × AreHeard own links first done history new

  all_events : (events : List NetworkEvent) (done : List NodeEvent) (history : List Event) (old new : Network) → NetworkRuns old events new → AreHeard own links first done history old → AtEnd new
  all_events [] done history old new r h = (done, history, subst (AreHeard own links first done history) (sym r) h)
  all_events (AtPeer link event ∷ events) done history old new r h = all_events events done history r.0 new r.3 (on_peer own links first link done history old r.0 event r.1 r.2 h)
  all_events (AtNode event ∷ events) done history old new r h =
      let one = on_event event done history old r.0 r.2.0 r.2.1 h in
      all_events events (done ++ event ∷ []) one.0 r.0 new r.3 one.1

pub returns : goal.returns
returns c = λ first events old new link peer after f good n alone bufsiz r at own_fits fits none.
    let own = old.node.noted.shared.setup in
    let links = length old.node.noted.shared.sessions in
    let own_bufsiz = subst IsBufsiz (ap (λ (x : SharedValue). x.own) n.shared.stands) bufsiz in
    let sound : (history : List Event) → AreOf links history → AreGiven own (new_node own first links) history → AreFiles (FilesAfter own first links history) =
    λ history of given. c.files_stay_sound.ensures.sound own first links history of given good in
    -- at first no link is there, and no client
    let start : AreHeard own links first [] [] old = record { stands = at_first own links first old n refl refl; each = λ link peer at. absurd (alone link peer at) } in
    let end = all_events own links first own_bufsiz sound events [] [] old new r start in
    heard_expects own links first own_bufsiz sound end.0 end.1 new link peer end.2 at (end.2.each link peer at) own_fits fits after f none
