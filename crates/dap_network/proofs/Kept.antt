-- A network, and the one history by which its node served, whoever the peers are.
use Rattle.std.proofs.Common.{◌≡◌, ◌≢◌, ℕ, zero, suc, ◌+◌, ◌<◌, ◌≤◌, refl, sym, ◌∙◌, subst, ap, append_assoc, List, [], ◌∷◌, ◌++◌, length, map, inl, inr}
use Rattle.std.specs.Prelude.{IfSome, Option, Some, None, get_or, option_map, set, slice_get, ◌⊎◌, ◌-◌, Err}
use Rattle.std.proofs.lemmas.Bool.{cases_eq}
use Rattle.std.proofs.lemmas.List.{append-nil, get_or-set_other, length-map}
use Rattle.dap_msg.specs.declared.items.Item.{Item}
use Rattle.dap_msg.specs.declared.message.Message.{Message}
use Rattle.dap_msg.specs.Blocked.{NspMessage}
use Rattle.nsp_link.specs.declared.link.LinkSetup.{LinkSetup}
use Rattle.nsp_link.specs.declared.fault.LinkFault.{LinkFault}
use Rattle.nsp_link.specs.declared.fault.LinkFault.TheVariants as fault
use Rattle.nsp_link.specs.Link.{LinkValue}
use Rattle.nsp_link.specs.Receiving.{Receives}
use Rattle.rec_file.specs.declared.picks.Rights.{Rights}
use Rattle.dap_accessed.specs.Apart.{NamesAreApart}
use Rattle.dap_accessed.specs.Setup.{all_rights}
use Rattle.dap_accessed.specs.Sessions.{SessionValue}
use Rattle.dap_accessed.specs.Sound.{AreFiles}
use Rattle.dap_accessed.specs.Standing.{Files}
use Rattle.dap_accessed.specs.declared.setup.ServerSetup.{ServerSetup}
use Rattle.dap_shared.specs.Keeping.{AreOf}
use Rattle.dap_shared.specs.Nodes.{AnswersOn, Begins, Drops, Event, FilesAfter, Gives, GivesRecord, Serves, items_on, new_node, node_after}
use Rattle.dap_shared.specs.Shared.{SharedBegins, SharedDrops, SharedGiven, SharedValue, session_without}
use Rattle.dap_end.specs.Calls.{AskingEvent}
use Rattle.dap_end.specs.Headline.{Arrival, IsFromPeer, WrittenPacket}
use Rattle.dap_end.specs.Joined.{IsBrought}
use Rattle.dap_end.specs.Moved.{with_link}
use Rattle.dap_end.specs.Node.{BeganOn, EndedOn, HasPort, NodeValue}
use Rattle.dap_end.specs.Ports.{EndValue, PortValue, new_port}
use Rattle.dap_end.proofs.ForCallers.{again_sent, refused_due, some_peer, some_size}
use Rattle.dap_network.specs.GivenFiles.{AreGiven, IsGiven}
use Rattle.dap_network.specs.Happening.{Continued, GotFile, GotLink, GotRecord, IsNodeWithoutLinks, LostFile, LostLink, NodeEvent, NodeRuns, NodeStepped, PacketCame, WroteAgain, came_since, end_of_link, all_written, wrote_since}
use Rattle.dap_network.specs.Network.{AtNode, AtPeer, IsNewNetwork, Network, NetworkEvent, NetworkRuns, Peer, PeerStepped, PeersStepped, client_on, node_events, peers_sent, peer_sent}
use Rattle.dap_network.specs.Served.{AddsTo, AreServed, BlockedOn, IsOrder, LinkIsServed, NodeIsServed}
use Rattle.dap_network.proofs.AnyLink.{FromPeer, any_front}
use Rattle.dap_network.proofs.AnyNode.{Alike, Stays, alike, files_are, may_file, may_record, worked}
use Rattle.dap_network.proofs.Blocks.{blocked_begin, blocked_beside, blocked_dropped, blocked_given, blocked_left, blocked_recorded}
use Rattle.dap_network.proofs.Histories.{another_begins, answers_begin, file_dropped, file_given, items_begin, others_serve, record_given}
use Rattle.dap_network.proofs.Linked.{LinkStands, link_again, link_called, link_came, link_new, link_went}
use Rattle.dap_network.proofs.Sets.{set_here, set_other, set_there, there_is}
use Rattle.dap_network.proofs.SoundNode.{given_more}
use Rattle.dap_network.proofs.Traffic.{came_more, of_another, of_it, wrote_more}

-- ---- The client of a link.

-- what is set by what was there, where nothing is left nothing
set_by : {A : Type 0} (f : A → A) (xs : List (Option A)) (i : ℕ) → get_or (set xs i (option_map f (get_or xs i None))) i None ≡ option_map f (get_or xs i None)
set_by f [] i = refl
set_by f (x ∷ xs) zero = refl
set_by f (x ∷ xs) (suc i) = set_by f xs i

-- what is set is there, or nothing
set_or : {A : Type 0} (P : Option A → Type 0) (xs : List (Option A)) (i : ℕ) (a : Option A) → P None → P a → P (get_or (set xs i a) i None)
set_or P [] i a none some = none
set_or P (x ∷ xs) zero a none some = some
set_or P (x ∷ xs) (suc i) a none some = set_or P xs i a none some

-- a packet that is written again has a segment that was sent
was_sent : (v : LinkValue) (index : Option ℕ) → IfSome index (λ i. i < v.sent - v.acked) → IfSome (option_map (λ i. v.acked + 1 + i) index) (λ n. n ≤ v.sent)
was_sent v None lt = tt
was_sent v (Some i) lt = again_sent v i lt

if_at : (client : Option Peer) (v w : LinkValue) (bytes : List ℕ) → v ≡ w → IfSome client (λ peer. IsBrought peer.from_peer w bytes) → IfSome client (λ peer. IsBrought peer.from_peer v bytes)
if_at client v w bytes e b = subst (λ (x : LinkValue). IfSome client (λ peer. IsBrought peer.from_peer x bytes)) (sym e) b

-- ---- A node alone.

-- a node whose peers are all strangers
abbrev pub alone : NodeValue → Network
alone node = record { node = node; peers = [] }

pub stays_alone : (event : NodeEvent) → PeersStepped [] event []
stays_alone (PacketCame link c) = (tt, refl)
stays_alone (Continued link wrote) = refl
stays_alone (WroteAgain link index w) = refl
stays_alone (GotLink link setup most) = (None, tt, refl)
stays_alone (LostLink link) = refl
stays_alone (GotFile name shape) = refl
stays_alone (GotRecord at number body) = refl
stays_alone (LostFile at) = refl

pub runs_alone : (events : List NodeEvent) (old new : NodeValue) → NodeRuns old events new → NetworkRuns (alone old) (map AtNode events) (alone new)
runs_alone [] old new r = ap alone r
runs_alone (event ∷ events) old new r = (alone r.0, all_written (event ∷ []), (r.1, stays_alone event, refl), runs_alone events r.0 new r.2)

pub events_alone : (events : List NodeEvent) → node_events (map AtNode events) ≡ events
events_alone [] = refl
events_alone (event ∷ events) = ap (λ (l : List NodeEvent). event ∷ l) (events_alone events)

module _ (own : ServerSetup) (links : ℕ) (first : Files) where
  -- ---- A link, and all of them.

  abbrev pub LinkAt : (done : List NodeEvent) (history : List Event) (link : ℕ) → PortValue → Option Peer → Type 0
  LinkAt done history link port client =
      LinkStands (came_since link [] done) (wrote_since link [] done) (items_on link history) (BlockedOn link own first links history) (AnswersOn link own first links history) port client

  pub record NetworkStands (done : List NodeEvent) (history : List Event) (net : Network) : Type 0 where
    pub holds : Stays own links first history net.node.noted.shared
    pub each : (link : ℕ) (port : PortValue) → HasPort link net.node port → LinkAt done history link port (client_on link net.peers)

  -- the link is so by the numbers of the node
  so : (link : ℕ) (after : List NodeEvent) (now : List Event) (came : List Arrival) (wrote : List WrittenPacket) (items : List Item) (packets : List NspMessage) (answers : List Message) (port next : PortValue) (client then : Option Peer)
      → came_since link [] after ≡ came → wrote_since link [] after ≡ wrote → items_on link now ≡ items → BlockedOn link own first links now ≡ packets → AnswersOn link own first links now ≡ answers → next ≡ port → then ≡ client
      → LinkStands came wrote items packets answers port client → LinkAt after now link next then
  so link after now came wrote items packets answers port next client then a b c d e f g h =
      let w = wrote_since link [] after in
      let i = items_on link now in
      let p = BlockedOn link own first links now in
      let m = AnswersOn link own first links now in
      subst (λ (l : List Arrival). LinkStands l w i p m next then) (sym a)
      (subst (λ (l : List WrittenPacket). LinkStands came l i p m next then) (sym b)
      (subst (λ (l : List Item). LinkStands came wrote l p m next then) (sym c)
      (subst (λ (l : List NspMessage). LinkStands came wrote items l m next then) (sym d)
      (subst (λ (l : List Message). LinkStands came wrote items packets l next then) (sym e)
      (subst (λ (x : PortValue). LinkStands came wrote items packets answers x then) (sym f)
      (subst (λ (o : Option Peer). LinkStands came wrote items packets answers port o) (sym g) h))))))

  -- with the same history
  same_so : (link : ℕ) (after : List NodeEvent) (history : List Event) (came : List Arrival) (wrote : List WrittenPacket) (port next : PortValue) (client then : Option Peer) → came_since link [] after ≡ came → wrote_since link [] after ≡ wrote → next ≡ port → then ≡ client
      → LinkStands came wrote (items_on link history) (BlockedOn link own first links history) (AnswersOn link own first links history) port client → LinkAt after history link next then
  same_so link after history came wrote port next client then a b f g h = so link after history came wrote _ _ _ port next client then a b refl refl refl f g h

  -- where nothing passed on it, and it has the same client, items and answers
  still : (done after : List NodeEvent) (old new : List Event) (link : ℕ) (port : PortValue) (client then : Option Peer) → came_since link [] after ≡ came_since link [] done → wrote_since link [] after ≡ wrote_since link [] done → then ≡ client → Alike own links first link old new → LinkAt done old link port client
      → LinkAt after new link port then
  still done after old new link port client then came wrote same a h = so link after new _ _ _ _ _ port port client then came wrote a.both.items a.blocks a.both.answers refl same h

  -- One link moved. On no other did anything pass, and no other has other items, answers, or another client.
  record Moved (link : ℕ) (done : List NodeEvent) (history : List Event) (event : NodeEvent) (now : List Event) (old new : Network) : Type 0 where
    holds : Stays own links first now new.node.noted.shared
    ports : (other : ℕ) → other ≢ link → slice_get new.node.ports other ≡ slice_get old.node.ports other
    clients : (other : ℕ) → other ≢ link → client_on other new.peers ≡ client_on other old.peers
    came : (other : ℕ) → other ≢ link → came_since other [] (done ++ event ∷ []) ≡ came_since other [] done
    wrote : (other : ℕ) → other ≢ link → wrote_since other [] (done ++ event ∷ []) ≡ wrote_since other [] done
    others : (other : ℕ) → other ≢ link → Alike own links first other history now
    here : (port : PortValue) → HasPort link new.node port → LinkAt (done ++ event ∷ []) now link port (client_on link new.peers)

  moved : (link : ℕ) (done : List NodeEvent) (history : List Event) (event : NodeEvent) (now : List Event) (old new : Network) → Moved link done history event now old new → NetworkStands done history old → NetworkStands (done ++ event ∷ []) now new
  moved link done history event now old new m h =
      record {
        holds = m.holds;
        each = λ j port at. elim (cases_eq j link) [
          | inl is ↦ subst (λ (k : ℕ). LinkAt (done ++ event ∷ []) now k port (client_on k new.peers)) (sym is) (m.here port (subst (λ (k : ℕ). HasPort k new.node port) is at))
          | inr apart ↦
              still done (done ++ event ∷ []) history now j port (client_on j old.peers) (client_on j new.peers) (m.came j apart) (m.wrote j apart) (m.clients j apart) (m.others j apart)
              (h.each j port (sym (m.ports j apart) ∙ at))
        ];
      }

  -- after one event of the node
  pub record Next (done : List NodeEvent) (event : NodeEvent) (history : List Event) (new : Network) : Type 0 where
    pub told : List Event
    pub tells : AddsTo event told
    pub now : List Event
    pub is : now ≡ history ++ told
    pub stands : NetworkStands (done ++ event ∷ []) now new

  -- ---- On a link.

  other_ports : (link : ℕ) (old new : NodeValue) (o : Option PortValue) → new.ports ≡ set old.ports link o → (j : ℕ) → j ≢ link → slice_get new.ports j ≡ slice_get old.ports j
  other_ports link old new o e j apart = ap (λ (l : List (Option PortValue)). slice_get l j) e ∙ set_other old.ports link j o apart

  own_port : (link : ℕ) (old new : NodeValue) (port after : PortValue) → new.ports ≡ set old.ports link (Some after) → HasPort link new port → after ≡ port
  own_port link old new port after e at =
      let p : Some port ≡ Some after = set_there old.ports link (Some after) (Some port) (sym (ap (λ (l : List (Option PortValue)). slice_get l link) e) ∙ at) in
      let same_port : after ≡ port = cc in same_port

  other_clients : (link : ℕ) (old new : List (Option Peer)) (o : Option Peer) → new ≡ set old link o → (j : ℕ) → j ≢ link → client_on j new ≡ client_on j old
  other_clients link old new o e j apart = ap (client_on j) e ∙ get_or-set_other old link j o None apart

  own_client : (link : ℕ) (old new : List (Option Peer)) (wrote : List WrittenPacket) → new ≡ peers_sent link wrote old → client_on link new ≡ option_map (peer_sent wrote) (client_on link old)
  own_client link old new wrote e = ap (client_on link) e ∙ set_by (peer_sent wrote) old link

  came_at : (link : ℕ) (history : List Event) (done : List NodeEvent) (old new : Network) (c : Arrival) → NodeStepped old.node (PacketCame link c) new.node → PeersStepped old.peers (PacketCame link c) new.peers → NetworkStands done history old → Next done (PacketCame link c) history new
  came_at link history done old new c s q h =
      let t = s.steps in
      let event = PacketCame link c in
      let client = client_on link old.peers in
      let after : s.after ≡ with_link s.before t.1 = ap (λ (v : EndValue SharedValue). v.port) t.3 in
      let shared : new.node.noted.shared ≡ old.node.noted.shared = ap (λ (v : EndValue SharedValue). v.present) t.3 in
      let one = link_came (came_since link [] done) (wrote_since link [] done) (items_on link history) (BlockedOn link own first links history) (AnswersOn link own first links history) s.before client t.1 c.1 t.0 t.2 (if_at client s.before.link c.0 c.1 t.6 q.0) (h.each link s.before s.there) in
      let is_came : came_since link [] (done ++ event ∷ []) ≡ came_since link [] done ++ (s.before.link, c.1) ∷ [] = came_more link [] done (event ∷ []) ∙ of_it link (came_since link [] done ++ c ∷ []) (came_since link [] done)
      ∙ ap (λ (v : _). came_since link [] done ++ (v, c.1) ∷ []) (sym t.6) in
      record {
        told = [];
        tells = refl;
        now = history;
        is = sym (append-nil history);
        stands = moved link done history event history old new
            (record {
              holds = subst (Stays own links first history) (sym shared) h.holds;
              ports = other_ports link old.node new.node (Some s.after) s.ports;
              clients = λ j apart. ap (client_on j) q.1;
              came = λ j apart. came_more j [] done (event ∷ []) ∙ of_another j link (came_since j [] done ++ c ∷ []) (came_since j [] done) apart;
              wrote = λ j apart. wrote_more j [] done (event ∷ []);
              others = λ j apart. alike own links first j history;
              here = λ port at. same_so link (done ++ event ∷ []) history _ _ (with_link s.before t.1) port client (client_on link new.peers) is_came (wrote_more link [] done (event ∷ []))
                  (sym (own_port link old.node new.node port s.after s.ports at) ∙ after) (ap (client_on link) q.1) one;
            })
            h;
      }

  again_at : (link : ℕ) (history : List Event) (done : List NodeEvent) (old new : Network) (index : Option ℕ) (w : WrittenPacket) → NodeStepped old.node (WroteAgain link index w) new.node → PeersStepped old.peers (WroteAgain link index w) new.peers → NetworkStands done history old
      → Next done (WroteAgain link index w) history new
  again_at link history done old new index w s q h =
      let t = s.steps in
      let event = WroteAgain link index w in
      let client = client_on link old.peers in
      let after : s.after ≡ s.before = ap (λ (v : EndValue SharedValue). v.port) t.3 in
      let shared : new.node.noted.shared ≡ old.node.noted.shared = ap (λ (v : EndValue SharedValue). v.present) t.3 in
      let one = link_again (came_since link [] done) (wrote_since link [] done) (items_on link history) (BlockedOn link own first links history) (AnswersOn link own first links history) s.before client _ t.0 t.2 (was_sent s.before.link index t.1) (h.each link s.before s.there) in
      let is_wrote : wrote_since link [] (done ++ event ∷ []) ≡ wrote_since link [] done ++ t.0 ∷ [] = wrote_more link [] done (event ∷ []) ∙ of_it link (wrote_since link [] done ++ w ∷ []) (wrote_since link [] done)
      ∙ ap (λ (l : List WrittenPacket). wrote_since link [] done ++ l) t.4 in
      let then : client_on link new.peers ≡ option_map (peer_sent (t.0 ∷ [])) client = own_client link old.peers new.peers (w ∷ []) q ∙ ap (λ (l : List WrittenPacket). option_map (peer_sent l) client) t.4 in
      record {
        told = [];
        tells = refl;
        now = history;
        is = sym (append-nil history);
        stands = moved link done history event history old new
            (record {
              holds = subst (Stays own links first history) (sym shared) h.holds;
              ports = other_ports link old.node new.node (Some s.after) s.ports;
              clients = other_clients link old.peers new.peers _ q;
              came = λ j apart. came_more j [] done (event ∷ []);
              wrote = λ j apart. wrote_more j [] done (event ∷ []) ∙ of_another j link (wrote_since j [] done ++ w ∷ []) (wrote_since j [] done) apart;
              others = λ j apart. alike own links first j history;
              here = λ port at. same_so link (done ++ event ∷ []) history _ _ s.before port _ (client_on link new.peers) (came_more link [] done (event ∷ [])) is_wrote
                  (sym (own_port link old.node new.node port s.after s.ports at) ∙ after) then one;
            })
            h;
      }

  went_at : (link : ℕ) (history : List Event) (done : List NodeEvent) (old new : Network) (wrote : List WrittenPacket) → NodeStepped old.node (Continued link wrote) new.node → PeersStepped old.peers (Continued link wrote) new.peers → NetworkStands done history old
      → Next done (Continued link wrote) history new
  went_at link history done old new wrote s q h =
      let t = s.steps in
      let event = Continued link wrote in
      let client = client_on link old.peers in
      let before = h.each link s.before s.there in
      let w = worked own links first link history before.any.given before.any.handed (end_of_link s.before old.node) t.0 t.2 h.holds before.any.stands in
      let one = link_went (came_since link [] done) (wrote_since link [] done) (items_on link history) (BlockedOn link own first links history) (AnswersOn link own first links history) s.before client before
      w.left w.passed (BlockedOn link own first links w.now) (items_on link w.now) (AnswersOn link own first links w.now) t.0.port s.after t.1 w.stands w.grew t.3 in
      let holds : Stays own links first w.now new.node.noted.shared = subst (Stays own links first w.now) (sym (ap (λ (v : EndValue SharedValue). v.present) t.4)) w.holds in
      let is_wrote : wrote_since link [] (done ++ event ∷ []) ≡ wrote_since link [] done ++ _ = wrote_more link [] done (event ∷ []) ∙ of_it link (wrote_since link [] done ++ wrote) (wrote_since link [] done)
      ∙ ap (λ (l : List WrittenPacket). wrote_since link [] done ++ l) t.5 in
      let then : client_on link new.peers ≡ option_map (peer_sent _) client = own_client link old.peers new.peers wrote q ∙ ap (λ (l : List WrittenPacket). option_map (peer_sent l) client) t.5 in
      record {
        told = map (Serves link) w.items;
        tells = (w.items, refl);
        now = w.now;
        is = w.is;
        stands = moved link done history event w.now old new
            (record {
              holds = holds;
              ports = other_ports link old.node new.node (Some s.after) s.ports;
              clients = other_clients link old.peers new.peers _ q;
              came = λ j apart. came_more j [] done (event ∷ []);
              wrote = λ j apart. wrote_more j [] done (event ∷ []) ∙ of_another j link (wrote_since j [] done ++ wrote) (wrote_since j [] done) apart;
              others = λ j apart. subst (Alike own links first j history) (sym w.is) (record { both = others_serve own links first j link history w.items apart; blocks = blocked_beside own first links j link history w.items apart });
              here = λ port at. same_so link (done ++ event ∷ []) w.now _ _ s.after port _ (client_on link new.peers) (came_more link [] done (event ∷ [])) is_wrote
                  (sym (own_port link old.node new.node port s.after s.ports at)) then one;
            })
            h;
      }

  -- ---- Links that begin and end.

  held_on : (link : ℕ) (most : Rights) (history : List Event) (old new : SharedValue) → SharedBegins link most old new → Stays own links first history old → Stays own links first (history ++ Begins link most ∷ []) new
  held_on link most history old new b h = record { after = b.stands first history h.after; is_own = b.same_setup ∙ h.is_own; as_many = b.same_links ∙ h.as_many; given = given_more own (new_node own first links) history (Begins link most) h.given tt }

  left_alone : (j link : ℕ) (most : Rights) (history : List Event) → j ≢ link → Alike own links first j history (history ++ Begins link most ∷ [])
  left_alone j link most history apart = record { both = another_begins own links first j link most history apart; blocks = blocked_left own first links j link most history apart }

  begun_at : (link : ℕ) (history : List Event) (done : List NodeEvent) (old new : Network) (setup : LinkSetup) (most : Rights) → BeganOn link setup most old.node new.node → PeersStepped old.peers (GotLink link setup most) new.peers → NetworkStands done history old
      → Next done (GotLink link setup most) history new
  begun_at link history done old new setup most b (client, is_new, q) h =
      let event = GotLink link setup most in
      let now = history ++ Begins link most ∷ [] in
      let fresh : LinkStands [] [] [] [] [] (new_port setup) (client_on link new.peers) =
      subst (λ (l : List (Option Peer)). LinkStands [] [] [] [] [] (new_port setup) (client_on link l)) (sym q)
      (set_or (LinkStands [] [] [] [] [] (new_port setup)) old.peers link client (link_new setup None tt) (link_new setup client is_new)) in
      record {
        told = Begins link most ∷ [];
        tells = refl;
        now = now;
        is = refl;
        stands = moved link done history event now old new
            (record {
              holds = held_on link most history old.node.noted.shared new.node.noted.shared b.shared h.holds;
              ports = other_ports link old.node new.node (Some (new_port setup)) b.ports;
              clients = other_clients link old.peers new.peers client q;
              came = λ j apart. came_more j [] done (event ∷ []) ∙ of_another j link [] (came_since j [] done) apart;
              wrote = λ j apart. wrote_more j [] done (event ∷ []) ∙ of_another j link [] (wrote_since j [] done) apart;
              others = λ j apart. left_alone j link most history apart;
              here = λ port at. so link (done ++ event ∷ []) now [] [] [] [] [] (new_port setup) port (client_on link new.peers) (client_on link new.peers)
                  (came_more link [] done (event ∷ []) ∙ of_it link [] (came_since link [] done)) (wrote_more link [] done (event ∷ []) ∙ of_it link [] (wrote_since link [] done))
                  (items_begin link most history) (blocked_begin own first links link most history) (answers_begin own links first link most history)
                  (sym (own_port link old.node new.node port (new_port setup) b.ports at)) refl fresh;
            })
            h;
      }

  ended_at : (link : ℕ) (history : List Event) (done : List NodeEvent) (old new : Network) → EndedOn link old.node new.node → new.peers ≡ old.peers → NetworkStands done history old → Next done (LostLink link) history new
  ended_at link history done old new e q h =
      let event = LostLink link in
      let now = history ++ Begins link all_rights ∷ [] in
      record {
        told = Begins link all_rights ∷ [];
        tells = refl;
        now = now;
        is = refl;
        stands = moved link done history event now old new
            (record {
              holds = held_on link all_rights history old.node.noted.shared new.node.noted.shared e.shared h.holds;
              ports = other_ports link old.node new.node None e.ports;
              clients = λ j apart. ap (client_on j) q;
              came = λ j apart. came_more j [] done (event ∷ []) ∙ of_another j link [] (came_since j [] done) apart;
              wrote = λ j apart. wrote_more j [] done (event ∷ []) ∙ of_another j link [] (wrote_since j [] done) apart;
              others = λ j apart. left_alone j link all_rights history apart;
              here = λ port at. (let p : Some port ≡ None = set_there old.node.ports link None (Some port) (sym (ap (λ (l : List (Option PortValue)). slice_get l link) e.ports) ∙ at) in
                  let none : ⊥ = cc in absurd none);
            })
            h;
      }

  -- ---- Files that are given and dropped.

  given_at : (event : NodeEvent) (given : Event) (history : List Event) (done : List NodeEvent) (old new : Network) → AddsTo event (given ∷ []) → ((link : ℕ) → Alike own links first link history (history ++ given ∷ [])) → ((link : ℕ) → came_since link [] (done ++ event ∷ []) ≡ came_since link [] done)
      → ((link : ℕ) → wrote_since link [] (done ++ event ∷ []) ≡ wrote_since link [] done) → SharedGiven given old.node.noted.shared new.node.noted.shared → IsGiven own (node_after own first links history) given → new.node.ports ≡ old.node.ports → new.peers ≡ old.peers → NetworkStands done history old
      → Next done event history new
  given_at event given history done old new tells all came wrote g may ports q h =
      let now = history ++ given ∷ [] in
      record {
        told = given ∷ [];
        tells = tells;
        now = now;
        is = refl;
        stands = record {
          holds = record {
            after = g.stands first history h.holds.after;
            is_own = g.same_setup ∙ h.holds.is_own;
            as_many = ap (λ (l : List SessionValue). length l) g.same_sessions ∙ h.holds.as_many;
            given = given_more own (new_node own first links) history given h.holds.given may;
          };
          each = λ j port at. still done (done ++ event ∷ []) history now j port (client_on j old.peers) (client_on j new.peers) (came j) (wrote j) (ap (client_on j) q) (all j)
              (h.each j port (sym (ap (λ (l : List (Option PortValue)). slice_get l j) ports) ∙ at));
        };
      }

  dropped_at : (at : ℕ) (history : List Event) (done : List NodeEvent) (old new : Network) → SharedDrops at old.node.noted.shared new.node.noted.shared → new.node.ports ≡ old.node.ports → new.peers ≡ old.peers → NetworkStands done history old → Next done (LostFile at) history new
  dropped_at at history done old new d ports q h =
      let now = history ++ Drops at ∷ [] in
      let event = LostFile at in
      record {
        told = Drops at ∷ [];
        tells = refl;
        now = now;
        is = refl;
        stands = record {
          holds = record {
            after = d.stands first history h.holds.after;
            is_own = d.same_setup ∙ h.holds.is_own;
            as_many = ap (λ (l : List SessionValue). length l) d.sessions ∙ length-map old.node.noted.shared.sessions (session_without at) ∙ h.holds.as_many;
            given = given_more own (new_node own first links) history (Drops at) h.holds.given tt;
          };
          each = λ j port here. still done (done ++ event ∷ []) history now j port (client_on j old.peers) (client_on j new.peers) (came_more j [] done (event ∷ [])) (wrote_more j [] done (event ∷ [])) (ap (client_on j) q)
              (record { both = file_dropped own links first j history at; blocks = blocked_dropped own first links j history at }) (h.each j port (sym (ap (λ (l : List (Option PortValue)). slice_get l j) ports) ∙ here));
        };
      }

  -- ---- All events.

  pub next : (event : NodeEvent) (history : List Event) (done : List NodeEvent) (old new : Network) → NodeStepped old.node event new.node → PeersStepped old.peers event new.peers → NetworkStands done history old → Next done event history new
  next (PacketCame link c) history done old new s q h = came_at link history done old new c s q h
  next (Continued link wrote) history done old new s q h = went_at link history done old new wrote s q h
  next (WroteAgain link index w) history done old new s q h = again_at link history done old new index w s q h
  next (GotLink link setup most) history done old new s q h = begun_at link history done old new setup most s.1 q h
  next (LostLink link) history done old new s q h = ended_at link history done old new s q h
  next (GotFile name shape) history done old new s q h =
      given_at (GotFile name shape) (Gives name shape) history done old new refl (λ j. record { both = file_given own links first j history name shape; blocks = blocked_given own first links j history name shape })
      (λ j. came_more j [] done (GotFile name shape ∷ [])) (λ j. wrote_more j [] done (GotFile name shape ∷ [])) s.2 (may_file own links first history old.node.noted.shared name shape h.holds s.0 s.1) s.3 q h
  next (GotRecord at number body) history done old new s q h =
      given_at (GotRecord at number body) (GivesRecord at number body) history done old new refl (λ j. record { both = record_given own links first j history at number body; blocks = blocked_recorded own first links j history at number body })
      (λ j. came_more j [] done (GotRecord at number body ∷ [])) (λ j. wrote_more j [] done (GotRecord at number body ∷ [])) s.2 (may_record own links first history old.node.noted.shared at number body h.holds s.0 s.1) s.3 q h
  next (LostFile at) history done old new s q h = dropped_at at history done old new s.0 s.1 q h

  -- the peer of a link is called
  pub on_peer : (link : ℕ) (history : List Event) (done : List NodeEvent) (old new : Network) (event : AskingEvent) (more : List WrittenPacket) → PeerStepped link old event more new → NetworkStands done history old → NetworkStands done history new
  on_peer link history done old new event more s h =
      let nodes : new.node ≡ old.node = ap (λ (n : Network). n.node) s.is in
      let peers : new.peers ≡ set old.peers link (Some s.then) = ap (λ (n : Network). n.peers) s.is in
      let was : client_on link old.peers ≡ Some s.peer = there_is old.peers link (Some s.peer) None s.with_peer in
      let then : client_on link new.peers ≡ Some s.then = ap (client_on link) peers ∙ there_is (set old.peers link (Some s.then)) link (Some s.then) None (set_here old.peers link (Some s.peer) (Some s.then) s.with_peer) in
      record {
        holds = subst (λ (n : NodeValue). Stays own links first history n.noted.shared) (sym nodes) h.holds;
        each = λ j port at. (let before = h.each j port (sym (ap (λ (n : NodeValue). slice_get n.ports j) nodes) ∙ at) in
            elim (cases_eq j link) [
              | inl is ↦
                  let client : client_on j new.peers ≡ Some s.then = ap (λ (k : ℕ). client_on k new.peers) is ∙ then in
                  let own_before : LinkAt done history j port (Some s.peer) = subst (LinkAt done history j port) (ap (λ (k : ℕ). client_on k old.peers) is ∙ was) before in
                  subst (LinkAt done history j port) (sym client)
                  (link_called (came_since j [] done) (wrote_since j [] done) (items_on j history) (BlockedOn j own first links history) (AnswersOn j own first links history) port s.peer s.then event more s.steps s.requests s.same own_before)
              | inr apart ↦ subst (LinkAt done history j port) (sym (other_clients link old.peers new.peers (Some s.then) peers j apart)) before
            ]);
      }

  -- after all events
  pub record AllDone (events : List NetworkEvent) (done : List NodeEvent) (history : List Event) (new : Network) : Type 0 where
    pub told : List Event
    pub tells : IsOrder (node_events events) told
    pub now : List Event
    pub is : now ≡ history ++ told
    pub stands : NetworkStands (done ++ node_events events) now new

  runs : (events : List NetworkEvent) (done : List NodeEvent) (history : List Event) (old new : Network) → NetworkRuns old events new → NetworkStands done history old → AllDone events done history new
  runs [] done history old new r h =
      record { told = []; tells = refl; now = history; is = sym (append-nil history); stands = subst (λ (l : List NodeEvent). NetworkStands l history new) (sym (append-nil done)) (subst (NetworkStands done history) (sym r) h) }
  runs (AtPeer link event ∷ events) done history old new r h =
      let rest = runs events done history r.0 new r.3 (on_peer link history done old r.0 event r.1 r.2 h) in
      record { told = rest.told; tells = rest.tells; now = rest.now; is = rest.is; stands = rest.stands }
  runs (AtNode event ∷ events) done history old new r h =
      let one = next event history done old r.0 r.2.0 r.2.1 h in
      let rest = runs events (done ++ event ∷ []) one.now r.0 new r.3 one.stands in
      record {
        told = one.told ++ rest.told;
        tells = (one.told, rest.told, refl, one.tells, rest.tells);
        now = rest.now;
        is = rest.is ∙ ap (λ (l : List Event). l ++ rest.told) one.is ∙ append_assoc history one.told rest.told;
        stands = subst (λ (l : List NodeEvent). NetworkStands l rest.now new) (append_assoc done (event ∷ []) (node_events events)) rest.stands;
      }

  -- ---- What it comes to.

  served : (done : List NodeEvent) (history : List Event) (link : ℕ) (port : PortValue) (client : Option Peer) → LinkAt done history link port client → LinkIsServed own first links link history (came_since link [] done) (wrote_since link [] done) port
  served done history link port client h =
      record {
        given = h.any.given;
        handed = h.any.handed;
        made = h.any.made;
        spelled = h.any.stands.gone;
        answered = h.any.stands.waiting;
        sends = h.any.stands.sends;
        carried = h.any.carried;
        in_order = any_front (came_since link [] done) (wrote_since link [] done) (items_on link history) (BlockedOn link own first links history) (AnswersOn link own first links history) port h.any;
      }

  pub are_served : (done : List NodeEvent) (history : List Event) (net : Network) → NetworkStands done history net → AreServed own first links done history net.node
  are_served done history net h =
      record { files = files_are own links first history net.node.noted.shared h.holds; each = λ link port at. served done history link port (client_on link net.peers) (h.each link port at) }

  -- What is said of the node, by its own numbers, and by what is said of the files after any history.
  unfoldable pub by_itself : (sound : (history : List Event) → AreOf links history → AreGiven own (new_node own first links) history → AreFiles first → AreFiles (FilesAfter own first links history))
      → (apart : (history : List Event) → AreGiven own (new_node own first links) history → NamesAreApart own.names first → NamesAreApart own.names (FilesAfter own first links history)) → (events : List NodeEvent) (history : List Event) (net : Network)
      → IsOrder events history → NetworkStands events history net → NodeIsServed first events net.node
  by_itself sound apart events history net tells h =
      let v = net.node.noted.shared in
      let a = are_served events history net h in
      let there = subst (λ (k : ℕ). AreOf k history) h.holds.as_many h.holds.after.links in
      let by_own : own ≡ v.setup = sym h.holds.is_own in
      let by_many : links ≡ length v.sessions = sym h.holds.as_many in
      record {
        history = history;
        in_order = tells;
        served = subst (λ (o : ServerSetup). AreServed o first (length v.sessions) events history net.node) by_own (subst (λ (k : ℕ). AreServed own first k events history net.node) by_many a);
        files_sound = λ good. subst AreFiles (sym a.files) (sound history there h.holds.given good);
        names_apart = λ differ. subst (λ (o : ServerSetup). NamesAreApart o.names v.files) by_own
            (subst (NamesAreApart own.names) (sym a.files) (apart history h.holds.given (subst (λ (o : ServerSetup). NamesAreApart o.names first) h.holds.is_own differ)));
      }

  -- the client of a link that is there
  pub client_at : (done : List NodeEvent) (history : List Event) (net : Network) → NetworkStands done history net → (link : ℕ) (port : PortValue) (peer : Peer) → HasPort link net.node port → slice_get net.peers link ≡ Some (Some peer) → LinkAt done history link port (Some peer)
  client_at done history net h link port peer at with_peer = subst (LinkAt done history link port) (there_is net.peers link (Some peer) None with_peer) (h.each link port at)

  pub at_first : (net : Network) → IsNewNetwork first net → net.node.noted.shared.setup ≡ own → length net.node.noted.shared.sessions ≡ links → NetworkStands [] [] net
  at_first net n is_own as_many = record { holds = record { after = n.shared; is_own = is_own; as_many = as_many; given = tt }; each = λ link port at. absurd (n.none link port at) }

  pub all_done : (events : List NetworkEvent) (old new : Network) → IsNewNetwork first old → old.node.noted.shared.setup ≡ own → length old.node.noted.shared.sessions ≡ links → NetworkRuns old events new → AllDone events [] [] new
  all_done events old new n is_own as_many r = runs events [] [] old new r (at_first old n is_own as_many)

  -- after all events of a network, and of a node alone
  pub all_stands : (events : List NetworkEvent) (old new : Network) (n : IsNewNetwork first old) (is_own : old.node.noted.shared.setup ≡ own) (as_many : length old.node.noted.shared.sessions ≡ links) → (r : NetworkRuns old events new)
      → NetworkStands (node_events events) (all_done events old new n is_own as_many r).told new
  all_stands events old new n is_own as_many r = let end = all_done events old new n is_own as_many r in subst (λ (l : List Event). NetworkStands (node_events events) l new) end.is end.stands

-- A packet of a peer that keeps the rules is refused where memory is, or at 2^40 segments, and then nothing moves.
pub peer_refused : (first : Files) (events : List NodeEvent) (old mid : NodeValue) (link size : ℕ) (messages : List (List ℕ)) (port : PortValue) (next : LinkValue) (bytes : List ℕ) (f : LinkFault) → IsNodeWithoutLinks first old → NodeRuns old events mid → HasPort link mid port
    → FromPeer size messages (came_since link [] events) → IsFromPeer size messages port.link bytes → Receives port.link next bytes (Err f) → ((f ≡ fault.NoMemory) ⊎ (f ≡ fault.Exhausted)) × (next ≡ port.link)
peer_refused first events old mid link size messages port next bytes f n r at every one h =
    let own = old.noted.shared.setup in
    let links = length old.noted.shared.sessions in
    let end = all_done own links first (map AtNode events) (alone old) (alone mid) n refl refl (runs_alone events old mid r) in
    let l = (end.stands.each link port at).any in
    let came : FromPeer size messages (came_since link [] (node_events (map AtNode events))) = subst (λ (x : List NodeEvent). FromPeer size messages (came_since link [] x)) (sym (events_alone events)) every in
    refused_due port.link next (some_size size) messages l.given bytes f (l.peer size messages came) (some_peer size messages port.link bytes one) h
