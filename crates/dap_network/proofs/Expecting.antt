-- What each event leaves of the clients' requests and the exchanges of their links.
use Rattle.std.proofs.Common.{◌≡◌, ◌≢◌, ℕ, ◌<◌, arith, refl, sym, ◌∙◌, true, false, Bool, subst, ap, append_assoc, List, [], ◌∷◌, ◌++◌, map}
use Rattle.std.specs.Prelude.{Option, Some, None, get_or, if◌then◌else◌}
use Rattle.std.proofs.Math.ListN.{get_or-map}
use Rattle.std.proofs.lemmas.List.{append-nil, get_or-set_other, get_or-set_same, length-map}
use Rattle.rec_file.specs.declared.picks.Rights.{Rights}
use Rattle.dap_accessed.specs.declared.asked.Asked.{Asked as NewFile}
use Rattle.dap_fields.specs.Spelling.{AreBytes}
use Rattle.dap_msg.specs.declared.message.Configuration.{Configuration}
use Rattle.dap_msg.specs.declared.items.Item.{Item}
use Rattle.dap_msg.specs.declared.items.Item.TheVariants.{Whole}
use Rattle.dap_accessed.specs.declared.phase.OpenFile.{OpenFile}
use Rattle.dap_accessed.specs.declared.setup.ServerSetup.{ServerSetup}
use Rattle.dap_accessed.specs.Groups.{answers_in}
use Rattle.dap_accessed.specs.Setup.{all_rights}
use Rattle.dap_accessed.specs.Sound.{AreFiles}
use Rattle.dap_accessed.specs.Standing.{Files}
use Rattle.dap_accessing.specs.Asked.{Asked}
use Rattle.dap_accessing.specs.Request.{Request}
use Rattle.dap_accessing.specs.Phase.{IsAdmissible}
use Rattle.dap_accessing.specs.Told.{is_unexpected}
use Rattle.dap_accessing.specs.declared.fault.ReadFault.{ReadFault}
use Rattle.dap_accessing.specs.declared.fault.ReadFault.TheVariants as read_fault
use Rattle.dap_shared.specs.Keeping.{AreOf}
use Rattle.dap_shared.specs.Nodes.{Begins, Drops, Event, Exchange, FilesAfter, Gives, GivesRecord, Node, Serves, after_event, asked_on, end_at, exchange_at, exchange_moved_up, exchange_of, exchange_without, is_open, items_on, more_beside, new_exchange, new_node, no_exchange, node_after, open_beside, removed_by, setup_on, setup_with, without_file}
use Rattle.dap_shared.proofs.ForCallers.{all-more, history-shares, new-stays}
use Rattle.dap_end.specs.Agreement.{IsBufsiz}
use Rattle.dap_end.specs.Asking.{ReadNone}
use Rattle.dap_end.specs.Calls.{AskingEvent, AskingStepped, Asks, By, requests_in}
use Rattle.dap_end.specs.Done.{AskingValue}
use Rattle.dap_end.specs.Going.{oldest_message}
use Rattle.dap_end.specs.Headline.{WrittenPacket}
use Rattle.dap_end.specs.Joined.{IsBrought}
use Rattle.dap_end.specs.Ports.{PortValue}
use Rattle.dap_end.proofs.ForCallers.{IsFollowed, follows-asked, follows-expected, follows-moved, follows-served, identity-stays, new-follows}
use Rattle.dap_network.specs.GivenFiles.{AreGiven}
use Rattle.dap_network.specs.Network.{Peer}
use Rattle.dap_network.proofs.Histories.{another_begins, file_dropped, file_given, items_begin, items_own, others_serve, record_given}
use Rattle.dap_network.proofs.ReadFronts.{ClientStands, next_front, read_front}
use Rattle.dap_network.proofs.SoundNode.{given_more}

-- ---- Histories of links that the node has.

of_before : (links : ℕ) (xs ys : List Event) → AreOf links (xs ++ ys) → AreOf links xs
of_before links [] ys h = tt
of_before links (Serves link item ∷ xs) ys h = (h.0, of_before links xs ys h.1)
of_before links (Begins link most ∷ xs) ys h = (h.0, of_before links xs ys h.1)
of_before links (Gives name shape ∷ xs) ys h = of_before links xs ys h
of_before links (GivesRecord at number body ∷ xs) ys h = of_before links xs ys h
of_before links (Drops at ∷ xs) ys h = of_before links xs ys h

of_after : (links : ℕ) (xs ys : List Event) → AreOf links (xs ++ ys) → AreOf links ys
of_after links [] ys h = h
of_after links (Serves link item ∷ xs) ys h = of_after links xs ys h.1
of_after links (Begins link most ∷ xs) ys h = of_after links xs ys h.1
of_after links (Gives name shape ∷ xs) ys h = of_after links xs ys h
of_after links (GivesRecord at number body ∷ xs) ys h = of_after links xs ys h
of_after links (Drops at ∷ xs) ys h = of_after links xs ys h

-- ---- A client, its requests, and the exchange of its link.

module _ (own : ServerSetup) where
  -- Of a client with this Configuration these items were served, and the requests were asked that lead to this
  -- exchange: where its BUFSIZ is one that an end may have.
  abbrev pub IsClient : (own_a : Configuration) (rs : List Request) (items : List Item) (x : Exchange) → Type 0
  IsClient own_a rs items x = IsBufsiz own_a.bufsiz → IsFollowed own_a (setup_with x.most own) rs items x

  client_moved : (removed : Option OpenFile) (own_a : Configuration) (rs : List Request) (items : List Item) (x : Exchange) → IsClient own_a rs items x → IsClient own_a rs items (exchange_moved_up removed x)
  client_moved None own_a rs items x h = h
  client_moved (Some removed) own_a rs items x h = λ fits. follows-moved own_a (setup_with x.most own) (Some removed) rs items x (h fits)

  module _ (old now : Peer) (items : List Item) (x : Exchange) (port : PortValue) (j : ClientStands items (answers_in x.past) port old) (h : IsClient old.client.present.identity old.requests items x) where
    abbrev identity : Configuration
    identity = old.client.present.identity

    asked_more : (event : AskingEvent) (more : List WrittenPacket) → AskingStepped (IsBrought old.from_node) (old.client, old.reports, old.from_peer) event more (now.client, now.reports, now.from_peer) → now.requests ≡ old.requests ++ requests_in (event ∷ [])
        → IsClient identity now.requests items x
    asked_more (Asks request) more s e =
        let c = j.stands.joined.joined in
        let may : IsAdmissible identity old.requests c.asked.answers request =
        subst (λ (l : List Request). IsAdmissible identity l c.asked.answers request) c.requests (s.1.asks.admissible c.asked.requests c.asked.answers c.asking.asking) in
        let front = read_front items (answers_in x.past) port old j in
        λ fits. subst (λ (l : List Request). IsFollowed identity (setup_with x.most own) l items x) (sym e)
        (follows-asked identity (setup_with x.most own) old.requests items x request c.asked.answers front.0 front.1 may (h fits))
    asked_more (By event) more s e = subst (λ (l : List Request). IsClient identity l items x) (sym (e ∙ append-nil old.requests)) h

    -- the client is called
    pub client_called : (event : AskingEvent) (more : List WrittenPacket) → AskingStepped (IsBrought old.from_node) (old.client, old.reports, old.from_peer) event more (now.client, now.reports, now.from_peer) → now.requests ≡ old.requests ++ requests_in (event ∷ [])
        → IsClient now.client.present.identity now.requests items x
    client_called event more s e =
        let same : now.client.present.identity ≡ identity = identity-stays (IsBrought old.from_node) old.client now.client old.reports now.reports old.from_peer now.from_peer more event s in
        subst (λ (c : Configuration). IsClient c now.requests items x) (sym same) (asked_more event more s e)

    -- the next answer of which all bytes are there is expected
    pub client_expects : IsBufsiz old.client.present.own → AreBytes (oldest_message old.client.port.link.coming.inbox) → (after : AskingValue) (f : ReadFault) → ReadNone old.client after f → f ≢ read_fault.Unexpected
    client_expects own_fits fits after read_fault.Unexpected n =
        let c = j.stands.joined.joined in
        let there = n.refused.3 in
        let bytes : AreBytes n.bytes = subst (λ (l : List (List ℕ)). AreBytes (oldest_message l)) n.came fits in
        let wrong : is_unexpected c.asked.requests c.asked.answers there.0 ≡ true = there.3 c.asked.requests c.asked.answers c.asking.asking in
        let front = next_front items (answers_in x.past) port old j n.bytes n.later there.0 there.1 bytes n.came there.2 in
        let never = follows-expected identity (setup_with x.most own) old.requests items x (h (subst IsBufsiz c.asking.asking.own own_fits)) c.asked.answers front.0 there.0 front.1 in
        λ same. never (subst (λ (l : List Request). is_unexpected l c.asked.answers there.0 ≡ true) c.requests wrong)
    client_expects own_fits fits after read_fault.Failed n = λ same. cc same
    client_expects own_fits fits after read_fault.NoMemory n = λ same. cc same

-- ---- What the events of a node leave of the client of a link.

dropped_at : (node : Node) (at j : ℕ) (b : Bool) → (removed : Option OpenFile) × (exchange_at j (if b then node else without_file at node) ≡ exchange_moved_up removed (exchange_at j node))
dropped_at node at j true = (None, refl)
dropped_at node at j false = (Some (record { at = at; is_new = true; rights = all_rights }), get_or-map (exchange_without at) node.exchanges j no_exchange)

-- all items of a link
pub all_items : (link : ℕ) (history : List Event) (items : List Item) → items_on link (history ++ map (Serves link) items) ≡ items_on link history ++ items
all_items link history [] = ap (items_on link) (append-nil history) ∙ sym (append-nil (items_on link history))
all_items link history (item ∷ items) =
    ap (items_on link) (sym (append_assoc history (Serves link item ∷ []) (map (Serves link) items))) ∙ all_items link (history ++ Serves link item ∷ []) items
    ∙ ap (λ (l : List Item). l ++ items) (items_own link history item) ∙ append_assoc (items_on link history) (item ∷ []) items

-- nothing was asked, and nothing served
pub starts_client : (own : ServerSetup) (most : Rights) (peer : Peer) → peer.requests ≡ [] → IsClient own peer.client.present.identity peer.requests [] (new_exchange most)
starts_client own most peer none = λ fits. new-follows peer.client.present.identity (setup_with most own) most peer.requests none

module _ (own : ServerSetup) (links : ℕ) (first : Files) where
  abbrev node_at : List Event → Node
  node_at history = node_after own first links history

  -- the items of its link were served so, by this history
  abbrev pub ClientAt : ℕ → List Event → Peer → Type 0
  ClientAt link history peer = IsClient own peer.client.present.identity peer.requests (items_on link history) (exchange_at link (node_at history))

  -- what happened since leaves the client of the link
  abbrev pub Keeps : ℕ → (history now : List Event) → Type 0
  Keeps link history now = (peer : Peer) → ClientAt link history peer → ClientAt link now peer

  keeps_by : (j : ℕ) (history : List Event) (event : Event) → items_on j (history ++ event ∷ []) ≡ items_on j history → (removed : Option OpenFile) → exchange_at j (after_event own (node_at history) event) ≡ exchange_moved_up removed (exchange_at j (node_at history))
      → Keeps j history (history ++ event ∷ [])
  keeps_by j history event items removed e = λ peer h.
      let now = history ++ event ∷ [] in
      let x = exchange_at j (node_at history) in
      let moved = client_moved own removed peer.client.present.identity peer.requests (items_on j history) x h in
      subst (λ (n : Node). IsClient own peer.client.present.identity peer.requests (items_on j now) (exchange_at j n)) (sym (all-more own (new_node own first links) history event))
      (subst (IsClient own peer.client.present.identity peer.requests (items_on j now)) (sym e)
      (subst (λ (l : List Item). IsClient own peer.client.present.identity peer.requests l (exchange_moved_up removed x)) (sym items) moved))

  keeps_item : (j link : ℕ) (history : List Event) (item : Item) → j ≢ link → Keeps j history (history ++ Serves link item ∷ [])
  keeps_item j link history item apart =
      let node = node_at history in
      let c = end_at link node in
      let d = more_beside (setup_on own link node) (open_beside link node.exchanges) c item in
      let removed = removed_by (asked_on own link node item) c d in
      keeps_by j history (Serves link item) (others_serve own links first j link history (item ∷ []) apart).items removed
      (get_or-set_other (map (exchange_moved_up removed) node.exchanges) link j (exchange_of (exchange_at link node).most d) no_exchange apart
      ∙ ap (get_or (map (exchange_moved_up removed) node.exchanges) j) (sym (new-stays removed))
      ∙ get_or-map (exchange_moved_up removed) node.exchanges j no_exchange)

  -- items of another link were served
  pub keeps_items : (j link : ℕ) (history : List Event) (items : List Item) → j ≢ link → Keeps j history (history ++ map (Serves link) items)
  keeps_items j link history [] apart = λ peer h. subst (λ (l : List Event). ClientAt j l peer) (sym (append-nil history)) h
  keeps_items j link history (item ∷ items) apart = λ peer h.
      subst (λ (l : List Event). ClientAt j l peer) (append_assoc history (Serves link item ∷ []) (map (Serves link) items))
      (keeps_items j link (history ++ Serves link item ∷ []) items apart peer (keeps_item j link history item apart peer h))

  -- another link began, or ended
  pub keeps_begin : (j link : ℕ) (most : Rights) (history : List Event) → j ≢ link → Keeps j history (history ++ Begins link most ∷ [])
  keeps_begin j link most history apart =
      keeps_by j history (Begins link most) (another_begins own links first j link most history apart).items None (get_or-set_other (node_at history).exchanges link j (new_exchange most) no_exchange apart)

  -- a file was given, or a record, or a file was dropped
  pub keeps_file : (j : ℕ) (history : List Event) (name : List ℕ) (asked : NewFile) → Keeps j history (history ++ Gives name asked ∷ [])
  keeps_file j history name shape = keeps_by j history (Gives name shape) (file_given own links first j history name shape).items None refl

  pub keeps_record : (j : ℕ) (history : List Event) (at number : ℕ) (body : List ℕ) → Keeps j history (history ++ GivesRecord at number body ∷ [])
  keeps_record j history at number body = keeps_by j history (GivesRecord at number body) (record_given own links first j history at number body).items None refl

  pub keeps_drop : (j : ℕ) (history : List Event) (at : ℕ) → Keeps j history (history ++ Drops at ∷ [])
  keeps_drop j history at =
      let r = dropped_at (node_at history) at j (is_open at (node_at history)) in
      keeps_by j history (Drops at) (file_dropped own links first j history at).items r.0 r.1

  -- ---- Items of the client's own link.

  module _ (bufsiz : IsBufsiz own.identity.bufsiz) (sound : (history : List Event) → AreOf links history → AreGiven own (new_node own first links) history → AreFiles (FilesAfter own first links history)) where
    own_item : (link : ℕ) (history : List Event) (item : Item) (peer : Peer) (back : List Item) → AreOf links (history ++ Serves link item ∷ []) → AreGiven own (new_node own first links) history
        → items_on link history ++ item ∷ back ≡ map Whole (Asked peer.client.present.identity peer.requests) → ClientAt link history peer → ClientAt link (history ++ Serves link item ∷ []) peer
    own_item link history item peer back o given split h =
        let node = node_at history in
        let now = history ++ Serves link item ∷ [] in
        let x = exchange_at link node in
        let its = setup_on own link node in
        let others = open_beside link node.exchanges in
        let c = end_at link node in
        let d = more_beside its others c item in
        let before = of_before links history (Serves link item ∷ []) o in
        let there : link < links = (of_after links history (Serves link item ∷ []) o).0 in
        let files = sound history before given in
        let count = (history-shares own first links history before).1 in
        let removed = removed_by (asked_on own link node item) c d in
        let n = length-map node.exchanges (exchange_moved_up removed) in
        let here : exchange_at link (after_event own node (Serves link item)) ≡ exchange_of x.most d =
        get_or-set_same (map (exchange_moved_up removed) node.exchanges) link (exchange_of x.most d) no_exchange (omega (arith, there, count, n)) in
        let client : IsClient own peer.client.present.identity peer.requests (items_on link history ++ item ∷ []) (exchange_of x.most d) =
        λ fits. follows-served peer.client.present.identity its fits bufsiz node.files files.files others x.most peer.requests (items_on link history) x item back split (h fits) in
        subst (λ (n : Node). IsClient own peer.client.present.identity peer.requests (items_on link now) (exchange_at link n)) (sym (all-more own (new_node own first links) history (Serves link item)))
        (subst (IsClient own peer.client.present.identity peer.requests (items_on link now)) (sym here)
        (subst (λ (l : List Item). IsClient own peer.client.present.identity peer.requests l (exchange_of x.most d)) (sym (items_own link history item)) client))

    -- items of the link were served, of those that the requests ask
    pub own_items : (link : ℕ) (history : List Event) (items : List Item) (peer : Peer) (back : List Item) → AreOf links (history ++ map (Serves link) items) → AreGiven own (new_node own first links) history
        → items_on link history ++ (items ++ back) ≡ map Whole (Asked peer.client.present.identity peer.requests) → ClientAt link history peer → ClientAt link (history ++ map (Serves link) items) peer
    own_items link history [] peer back o given split h = subst (λ (l : List Event). ClientAt link l peer) (sym (append-nil history)) h
    own_items link history (item ∷ items) peer back o given split h =
        let mid = history ++ Serves link item ∷ [] in
        let all : AreOf links (mid ++ map (Serves link) items) = subst (AreOf links) (sym (append_assoc history (Serves link item ∷ []) (map (Serves link) items))) o in
        let one = own_item link history item peer (items ++ back) (of_before links mid (map (Serves link) items) all) given split h in
        let rest : items_on link mid ++ (items ++ back) ≡ map Whole (Asked peer.client.present.identity peer.requests) =
        ap (λ (l : List Item). l ++ (items ++ back)) (items_own link history item) ∙ append_assoc (items_on link history) (item ∷ []) (items ++ back) ∙ split in
        subst (λ (l : List Event). ClientAt link l peer) (append_assoc history (Serves link item ∷ []) (map (Serves link) items))
        (own_items link mid items peer back all (given_more own (new_node own first links) history (Serves link item) given tt) rest one)

  -- a link began
  pub new_client : (link : ℕ) (most : Rights) (history : List Event) (peer : Peer) → AreOf links (history ++ Begins link most ∷ []) → peer.requests ≡ [] → ClientAt link (history ++ Begins link most ∷ []) peer
  new_client link most history peer o none =
      let node = node_at history in
      let now = history ++ Begins link most ∷ [] in
      let before = of_before links history (Begins link most ∷ []) o in
      let there : link < links = (of_after links history (Begins link most ∷ []) o).0 in
      let count = (history-shares own first links history before).1 in
      let here : exchange_at link (after_event own node (Begins link most)) ≡ new_exchange most = get_or-set_same node.exchanges link (new_exchange most) no_exchange (omega (arith, there, count)) in
      let client = starts_client own most peer none in
      subst (λ (n : Node). IsClient own peer.client.present.identity peer.requests (items_on link now) (exchange_at link n)) (sym (all-more own (new_node own first links) history (Begins link most)))
      (subst (IsClient own peer.client.present.identity peer.requests (items_on link now)) (sym here)
      (subst (λ (l : List Item). IsClient own peer.client.present.identity peer.requests l (new_exchange most)) (sym (items_begin link most history)) client))
