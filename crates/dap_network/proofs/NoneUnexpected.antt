-- No answer that a node gives to one of its clients is unexpected: after any events.
use Rattle.std.proofs.Common.{◌≡◌, ◌≢◌, ℕ, refl, sym, ◌∙◌, subst, ap, append_assoc, List, [], ◌∷◌, ◌++◌, map, inl, inr}
use Rattle.std.specs.Prelude.{IfSome, Option, Some, None, option_map, set, slice_get}
use Rattle.std.proofs.lemmas.Bool.{cases_eq}
use Rattle.rec_file.specs.declared.picks.Rights.{Rights}
use Rattle.dap_fields.specs.Spelling.{AreBytes}
use Rattle.nsp_link.specs.declared.link.LinkSetup.{LinkSetup}
use Rattle.dap_msg.specs.declared.items.Item.{Item}
use Rattle.dap_msg.specs.declared.items.Item.TheVariants.{Whole}
use Rattle.dap_accessed.specs.declared.setup.ServerSetup.{ServerSetup}
use Rattle.dap_accessed.specs.Groups.{answers_in}
use Rattle.dap_accessed.specs.Setup.{all_rights}
use Rattle.dap_accessed.specs.Sound.{AreFiles}
use Rattle.dap_accessed.specs.Standing.{Files}
use Rattle.dap_accessing.specs.Asked.{Asked}
use Rattle.dap_accessing.specs.Request.{Request}
use Rattle.dap_accessing.specs.declared.fault.ReadFault.{ReadFault}
use Rattle.dap_accessing.specs.declared.fault.ReadFault.TheVariants as read_fault
use Rattle.dap_shared.specs.Keeping.{AreOf}
use Rattle.dap_shared.specs.Nodes.{AnswersOn, Begins, Event, Exchange, FilesAfter, Serves, exchange_at, items_on, new_exchange, new_node, node_after}
use Rattle.dap_end.specs.Agreement.{IsBufsiz}
use Rattle.dap_end.specs.Asking.{ReadNone}
use Rattle.dap_end.specs.Calls.{AskingEvent}
use Rattle.dap_end.specs.Done.{AskingValue}
use Rattle.dap_end.specs.Going.{oldest_message}
use Rattle.dap_end.specs.Headline.{WrittenPacket}
use Rattle.dap_end.specs.Node.{BeganOn, EndedOn, HasPort, NodeValue}
use Rattle.dap_end.specs.Ports.{PortValue, new_port}
use Rattle.dap_network.specs.GivenFiles.{AreGiven}
use Rattle.dap_network.specs.Happening.{GotLink, LostLink, NodeEvent, came_since, wrote_since}
use Rattle.dap_network.specs.Network.{IsNewPeer, Network, Peer, PeerStepped, PeersStepped, client_on, peer_sent, peers_sent}
use Rattle.dap_network.specs.Served.{BlockedOn}
use Rattle.dap_network.proofs.Expecting.{ClientAt, IsClient, Keeps, all_items, client_called, client_expects, keeps_begin, keeps_items, new_client, own_items, starts_client}
use Rattle.dap_network.proofs.Kept.{NetworkStands, Next, client_at, on_peer as peer_stands}
use Rattle.dap_network.proofs.Linked.{link_called, link_new}
use Rattle.dap_network.proofs.ReadFronts.{ClientStands, taken_front}
use Rattle.dap_network.proofs.Sets.{is_there, set_here, set_other, set_there}

-- ---- The client of a link, where the node goes on there.

-- a client was there before, of which the same was asked
pub record WasAsked (link : ℕ) (old : List (Option Peer)) (peer : Peer) : Type 0 where
  pub was : Peer
  pub there : slice_get old link ≡ Some (Some was)
  pub client : was.client ≡ peer.client
  pub requests : was.requests ≡ peer.requests

-- so the client of a link, where it has one
abbrev pub WereAsked : ℕ → (old new : List (Option Peer)) → Type 0
WereAsked link old new = (peer : Peer) → slice_get new link ≡ Some (Some peer) → WasAsked link old peer

pub peers_stay : (link : ℕ) (old new : List (Option Peer)) → new ≡ old → WereAsked link old new
peers_stay link old new e = λ peer at. record { was = peer; there = sym (ap (λ (l : List (Option Peer)). slice_get l link) e) ∙ at; client = refl; requests = refl }

sent_to : (link : ℕ) (old : List (Option Peer)) (wrote : List WrittenPacket) (peer : Peer) (o : Option Peer) → client_on link old ≡ o → Some peer ≡ option_map (peer_sent wrote) o → WasAsked link old peer
sent_to link old wrote peer None is e = let none : ⊥ = cc in absurd none
sent_to link old wrote peer (Some was) is e =
    let same : peer_sent wrote was ≡ peer = cc in
    record { was = was; there = is_there old link was is; client = ap (λ (p : Peer). p.client) same; requests = ap (λ (p : Peer). p.requests) same }

pub peers_go_on : (link : ℕ) (old new : List (Option Peer)) (wrote : List WrittenPacket) → new ≡ peers_sent link wrote old → WereAsked link old new
peers_go_on link old new wrote e = λ peer at.
    sent_to link old wrote peer (client_on link old) refl
    (set_there old link (option_map (peer_sent wrote) (client_on link old)) (Some peer) (sym (ap (λ (l : List (Option Peer)). slice_get l link) e) ∙ at))

module _ (own : ServerSetup) (links : ℕ) (first : Files) where
  -- ---- What holds of each client.

  -- its link is there
  pub record IsLive (history : List Event) (node : NodeValue) (link : ℕ) (peer : Peer) : Type 0 where
    pub port : PortValue
    pub there : HasPort link node port
    pub client : ClientAt own links first link history peer

  -- its link ended: this was there then
  pub record HasEnded (node : NodeValue) (link : ℕ) (peer : Peer) : Type 0 where
    pub none : (port : PortValue) → HasPort link node port → ⊥
    pub port : PortValue
    pub items : List Item
    pub exchange : Exchange
    pub stands : ClientStands items (answers_in exchange.past) port peer
    pub client : IsClient own peer.client.present.identity peer.requests items exchange

  pub data IsHeard (history : List Event) (node : NodeValue) (link : ℕ) (peer : Peer) : Type 0 where
    live : IsLive history node link peer → IsHeard history node link peer
    has_ended : HasEnded node link peer → IsHeard history node link peer

  pub record AreHeard (done : List NodeEvent) (history : List Event) (net : Network) : Type 0 where
    pub stands : NetworkStands own links first done history net
    pub each : (link : ℕ) (peer : Peer) → slice_get net.peers link ≡ Some (Some peer) → IsHeard history net.node link peer

  -- a link that is there, and its client
  stands_there : (done : List NodeEvent) (history : List Event) (net : Network) → NetworkStands own links first done history net → (link : ℕ) (port : PortValue) (peer : Peer) → HasPort link net.node port → slice_get net.peers link ≡ Some (Some peer)
      → ClientStands (items_on link history) (answers_in (exchange_at link (node_after own first links history)).past) port peer
  stands_there done history net h link port peer at with_peer =
      record { came = came_since link [] done; wrote = wrote_since link [] done; packets = BlockedOn link own first links history; stands = client_at own links first done history net h link port peer at with_peer }

  -- ---- Other links.

  still_heard : (j : ℕ) (history now : List Event) (old new : NodeValue) (peer : Peer) → slice_get new.ports j ≡ slice_get old.ports j → Keeps own links first j history now → IsHeard history old j peer → IsHeard now new j peer
  still_heard j history now old new peer ports keeps (live h) = live (record { port = h.port; there = ports ∙ h.there; client = keeps peer h.client })
  still_heard j history now old new peer ports keeps (has_ended h) =
      has_ended (record { none = λ port at. h.none port (sym ports ∙ at); port = h.port; items = h.items; exchange = h.exchange; stands = h.stands; client = h.client })

  -- one link moved, and of no other anything changed but what others do
  pub record MovedOn (link : ℕ) (history now : List Event) (old new : Network) : Type 0 where
    pub ports : (j : ℕ) → j ≢ link → slice_get new.node.ports j ≡ slice_get old.node.ports j
    pub peers : (j : ℕ) → j ≢ link → slice_get new.peers j ≡ slice_get old.peers j
    pub keeps : (j : ℕ) → j ≢ link → Keeps own links first j history now
    pub here : (peer : Peer) → slice_get new.peers link ≡ Some (Some peer) → IsHeard now new.node link peer

  all_heard : (link : ℕ) (done : List NodeEvent) (history now : List Event) (old new : Network) → MovedOn link history now old new → AreHeard done history old → (j : ℕ) (peer : Peer) → slice_get new.peers j ≡ Some (Some peer) → IsHeard now new.node j peer
  all_heard link done history now old new m h j peer at =
      elim (cases_eq j link) [
        | inl is ↦ subst (λ (k : ℕ). IsHeard now new.node k peer) (sym is) (m.here peer (subst (λ (k : ℕ). slice_get new.peers k ≡ Some (Some peer)) is at))
        | inr apart ↦ still_heard j history now old.node new.node peer (m.ports j apart) (m.keeps j apart) (h.each j peer (sym (m.peers j apart) ∙ at))
      ]

  -- after an event of the node
  abbrev pub HasNext : List NodeEvent → NodeEvent → Network → Type 0
  HasNext done event new = (now : List Event) × AreHeard (done ++ event ∷ []) now new

  -- ---- The client of a link is called.

  pub on_peer : (link : ℕ) (done : List NodeEvent) (history : List Event) (old new : Network) (event : AskingEvent) (more : List WrittenPacket) → PeerStepped link old event more new → AreHeard done history old → AreHeard done history new
  on_peer link done history old new event more s h =
      let nodes : new.node ≡ old.node = ap (λ (net : Network). net.node) s.is in
      let peers : new.peers ≡ set old.peers link (Some s.then) = ap (λ (net : Network). net.peers) s.is in
      let ports : (j : ℕ) → slice_get new.node.ports j ≡ slice_get old.node.ports j = λ j. ap (λ (node : NodeValue). slice_get node.ports j) nodes in
      let called : IsHeard history old.node link s.peer → IsHeard history new.node link s.then = λ k.
      elim k [
        | live l ↦ live
            (record {
              port = l.port;
              there = ports link ∙ l.there;
              client = client_called own s.peer s.then (items_on link history) (exchange_at link (node_after own first links history)) l.port (stands_there done history old h.stands link l.port s.peer l.there s.with_peer) l.client event more s.steps s.requests;
            })
        | has_ended e ↦ has_ended
            (record {
              none = λ port at. e.none port (sym (ports link) ∙ at);
              port = e.port;
              items = e.items;
              exchange = e.exchange;
              stands = record {
                came = e.stands.came;
                wrote = e.stands.wrote;
                packets = e.stands.packets;
                stands = link_called e.stands.came e.stands.wrote e.items e.stands.packets (answers_in e.exchange.past) e.port s.peer s.then event more s.steps s.requests s.same e.stands.stands;
              };
              client = client_called own s.peer s.then e.items e.exchange e.port e.stands e.client event more s.steps s.requests;
            })
      ] in
      record {
        stands = peer_stands own links first link history done old new event more s h.stands;
        each = all_heard link done history history old new
            (record {
              ports = λ j apart. ports j;
              peers = λ j apart. ap (λ (l : List (Option Peer)). slice_get l j) peers ∙ set_other old.peers link j (Some s.then) apart;
              keeps = λ j apart peer k. k;
              here = λ peer at. (let q : Some peer ≡ Some s.then = set_there old.peers link (Some s.then) (Some peer) (sym (ap (λ (l : List (Option Peer)). slice_get l link) peers) ∙ at) in
                  let same_peer : s.then ≡ peer = cc in
                  subst (IsHeard history new.node link) same_peer (called (h.each link s.peer s.with_peer)));
            })
            h;
      }

  module _ (bufsiz : IsBufsiz own.identity.bufsiz) (sound : (history : List Event) → AreOf links history → AreGiven own (new_node own first links) history → AreFiles (FilesAfter own first links history)) where
    of_here : (done : List NodeEvent) (history : List Event) (net : Network) → NetworkStands own links first done history net → AreOf links history
    of_here done history net s = subst (λ (n : ℕ). AreOf n history) s.holds.as_many s.holds.after.links

    -- ---- The node goes on, on a link.

    asked_so : (link : ℕ) (history : List Event) (old : List (Option Peer)) (peer : Peer) → (w : WasAsked link old peer) → ClientAt own links first link history w.was → ClientAt own links first link history peer
    asked_so link history old peer w h =
        subst (λ (v : AskingValue). IsClient own v.present.identity peer.requests (items_on link history) (exchange_at link (node_after own first links history))) w.client
        (subst (λ (l : List Request). IsClient own w.was.client.present.identity l (items_on link history) (exchange_at link (node_after own first links history))) w.requests h)

    -- a packet came, or items were served, or packets were written
    pub on_link : (link : ℕ) (done : List NodeEvent) (history : List Event) (old new : Network) (event : NodeEvent) (items : List Item) (before after : PortValue) → HasPort link old.node before → new.node.ports ≡ set old.node.ports link (Some after)
        → ((j : ℕ) → j ≢ link → slice_get new.peers j ≡ slice_get old.peers j) → WereAsked link old.peers new.peers → AreHeard done history old → (n : Next own links first done event history new) → n.told ≡ map (Serves link) items → HasNext done event new
    on_link link done history old new event items before after there_before ports peers were h n told =
        let now = history ++ map (Serves link) items in
        let next_done = done ++ event ∷ [] in
        let same : n.now ≡ now = n.is ∙ ap (λ (l : List Event). history ++ l) told in
        let stands : NetworkStands own links first next_done now new = subst (λ (l : List Event). NetworkStands own links first next_done l new) same n.stands in
        let there : HasPort link new.node after = ap (λ (l : List (Option PortValue)). slice_get l link) ports ∙ set_here old.node.ports link (Some before) (Some after) there_before in
        let called : (peer : Peer) → slice_get new.peers link ≡ Some (Some peer) → (w : WasAsked link old.peers peer) → IsHeard history old.node link w.was → IsHeard now new.node link peer = λ peer at w k.
        (let taken = taken_front (items_on link now) (AnswersOn link own first links now) after peer (stands_there next_done now new stands link after peer there at) in
        let split : items_on link history ++ (items ++ taken.0) ≡ map Whole (Asked peer.client.present.identity peer.requests) =
        sym (append_assoc (items_on link history) items taken.0) ∙ ap (λ (l : List Item). l ++ taken.0) (sym (all_items link history items)) ∙ taken.1 in
        elim k [
          | live l ↦ live
              (record {
                port = after;
                there = there;
                client = own_items own links first bufsiz sound link history items peer taken.0 (of_here next_done now new stands) h.stands.holds.given split (asked_so link history old.peers peer w l.client);
              })
          | has_ended e ↦ absurd (e.none before there_before)
        ]) in (
          now,
          record {
            stands = stands;
            each = all_heard link done history now old new
                (record {
                  ports = λ j apart. ap (λ (l : List (Option PortValue)). slice_get l j) ports ∙ set_other old.node.ports link j (Some after) apart;
                  peers = peers;
                  keeps = λ j apart. keeps_items own links first j link history items apart;
                  here = λ peer at. (let w = were peer at in called peer at w (h.each link w.was w.there));
                })
                h;
          },
        )

    -- ---- Links that begin and end.

    module _ (link : ℕ) (setup : LinkSetup) (most : Rights) (history : List Event) (new : Network) (peer : Peer) (fresh : IsNewPeer setup peer) where
      unlinked : ((port : PortValue) → HasPort link new.node port → ⊥) → HasEnded new.node link peer
      unlinked none =
          record {
            none = none;
            port = new_port setup;
            items = [];
            exchange = new_exchange most;
            stands = record { came = []; wrote = []; packets = []; stands = link_new setup (Some peer) fresh };
            client = starts_client own most peer (ap (λ (p : Peer). p.requests) fresh.none);
          }

      none_there : (o : Option (Option PortValue)) (port : PortValue) → o ≡ Some (Some port) → o ≡ None → ⊥
      none_there o port a b = cc

      gone_there : (o : Option (Option PortValue)) (port : PortValue) → o ≡ Some (Some port) → o ≡ Some None → ⊥
      gone_there o port a b = cc

      -- it is there, where the node has such a link
      begun_on : AreOf links (history ++ Begins link most ∷ []) → (o : Option (Option PortValue)) → slice_get new.node.ports link ≡ o → IsHeard (history ++ Begins link most ∷ []) new.node link peer
      begun_on of None is = has_ended (unlinked (λ port there. none_there (slice_get new.node.ports link) port there is))
      begun_on of (Some None) is = has_ended (unlinked (λ port there. gone_there (slice_get new.node.ports link) port there is))
      begun_on of (Some (Some port)) is = live (record { port = port; there = is; client = new_client own links first link most history peer of (ap (λ (p : Peer). p.requests) fresh.none) })

    pub on_begin : (link : ℕ) (setup : LinkSetup) (most : Rights) (done : List NodeEvent) (history : List Event) (old new : Network) → BeganOn link setup most old.node new.node → PeersStepped old.peers (GotLink link setup most) new.peers → AreHeard done history old
        → Next own links first done (GotLink link setup most) history new → HasNext done (GotLink link setup most) new
    on_begin link setup most done history old new b (client, is_new, q) h n =
        let now = history ++ Begins link most ∷ [] in
        let next_done = done ++ GotLink link setup most ∷ [] in
        let same : n.now ≡ now = n.is ∙ ap (λ (l : List Event). history ++ l) n.tells in
        let stands : NetworkStands own links first next_done now new = subst (λ (l : List Event). NetworkStands own links first next_done l new) same n.stands in
        let fresh : (peer : Peer) → slice_get new.peers link ≡ Some (Some peer) → IsNewPeer setup peer = λ peer at. subst (λ (o : Option Peer). IfSome o (IsNewPeer setup))
        (sym (set_there old.peers link client (Some peer) (sym (ap (λ (l : List (Option Peer)). slice_get l link) q) ∙ at))) is_new in (
          now,
          record {
            stands = stands;
            each = all_heard link done history now old new
                (record {
                  ports = λ j apart. ap (λ (l : List (Option PortValue)). slice_get l j) b.ports ∙ set_other old.node.ports link j (Some (new_port setup)) apart;
                  peers = λ j apart. ap (λ (l : List (Option Peer)). slice_get l j) q ∙ set_other old.peers link j client apart;
                  keeps = λ j apart. keeps_begin own links first j link most history apart;
                  here = λ peer at. begun_on link setup most history new peer (fresh peer at) (of_here next_done now new stands) (slice_get new.node.ports link) refl;
                })
                h;
          },
        )

    no_end : (port : PortValue) → ◌≡◌ {A = Option PortValue} (Some port) None → ⊥
    no_end port e = cc

    pub on_end : (link : ℕ) (done : List NodeEvent) (history : List Event) (old new : Network) → EndedOn link old.node new.node → new.peers ≡ old.peers → AreHeard done history old → Next own links first done (LostLink link) history new → HasNext done (LostLink link) new
    on_end link done history old new e peers h n =
        let now = history ++ Begins link all_rights ∷ [] in
        let next_done = done ++ LostLink link ∷ [] in
        let same : n.now ≡ now = n.is ∙ ap (λ (l : List Event). history ++ l) n.tells in
        let none : (port : PortValue) → HasPort link new.node port → ⊥ = λ port at.
        no_end port (set_there old.node.ports link None (Some port) (sym (ap (λ (l : List (Option PortValue)). slice_get l link) e.ports) ∙ at)) in
        let left : (peer : Peer) → slice_get old.peers link ≡ Some (Some peer) → IsHeard history old.node link peer → IsHeard now new.node link peer = λ peer at k.
        elim k [
          | live l ↦ has_ended
              (record {
                none = none;
                port = l.port;
                items = items_on link history;
                exchange = exchange_at link (node_after own first links history);
                stands = stands_there done history old h.stands link l.port peer l.there at;
                client = l.client;
              })
          | has_ended d ↦ has_ended (record { none = none; port = d.port; items = d.items; exchange = d.exchange; stands = d.stands; client = d.client })
        ] in (
          now,
          record {
            stands = subst (λ (l : List Event). NetworkStands own links first next_done l new) same n.stands;
            each = all_heard link done history now old new
                (record {
                  ports = λ j apart. ap (λ (l : List (Option PortValue)). slice_get l j) e.ports ∙ set_other old.node.ports link j None apart;
                  peers = λ j apart. ap (λ (l : List (Option Peer)). slice_get l j) peers;
                  keeps = λ j apart. keeps_begin own links first j link all_rights history apart;
                  here = λ peer at. (let before = sym (ap (λ (l : List (Option Peer)). slice_get l link) peers) ∙ at in left peer before (h.each link peer before));
                })
                h;
          },
        )

    -- ---- Files.

    -- what happens is an event on no link, and leaves each client
    pub on_files : (event : NodeEvent) (told : Event) (done : List NodeEvent) (history : List Event) (old new : Network) → new.node.ports ≡ old.node.ports → new.peers ≡ old.peers → ((j : ℕ) → Keeps own links first j history (history ++ told ∷ []))
        → AreHeard done history old → (n : Next own links first done event history new) → n.told ≡ told ∷ [] → HasNext done event new
    on_files event told done history old new ports peers keeps h n tells =
        let now = history ++ told ∷ [] in
        let next_done = done ++ event ∷ [] in
        let same : n.now ≡ now = n.is ∙ ap (λ (l : List Event). history ++ l) tells in (
          now,
          record {
            stands = subst (λ (l : List Event). NetworkStands own links first next_done l new) same n.stands;
            each = λ j peer at. still_heard j history now old.node new.node peer (ap (λ (l : List (Option PortValue)). slice_get l j) ports) (keeps j)
                (h.each j peer (sym (ap (λ (l : List (Option Peer)). slice_get l j) peers) ∙ at));
          },
        )

    -- ---- The next answer.

    pub heard_expects : (done : List NodeEvent) (history : List Event) (new : Network) (link : ℕ) (peer : Peer) → AreHeard done history new → slice_get new.peers link ≡ Some (Some peer) → IsHeard history new.node link peer → IsBufsiz peer.client.present.own
        → AreBytes (oldest_message peer.client.port.link.coming.inbox) → (after : AskingValue) (f : ReadFault) → ReadNone peer.client after f → f ≢ read_fault.Unexpected
    heard_expects done history new link peer h at (live l) own_fits fits after f n =
        client_expects own peer peer (items_on link history) (exchange_at link (node_after own first links history)) l.port (stands_there done history new h.stands link l.port peer l.there at) l.client own_fits fits after f n
    heard_expects done history new link peer h at (has_ended e) own_fits fits after f n = client_expects own peer peer e.items e.exchange e.port e.stands e.client own_fits fits after f n
