-- What a node keeps of all links, and the history of what was served.
use Rattle.std.proofs.Common.{◌≡◌, ℕ, ◌<◌, refl, sym, ◌∙◌, subst, ap, append_assoc, List, [], ◌∷◌, ◌++◌, length, map}
use Rattle.std.specs.Global.{Vec}
use Rattle.std.proofs.lemmas.List.{append-nil, map-append}
use Rattle.dap_msg.specs.declared.items.Item.{Item}
use Rattle.dap_msg.specs.declared.message.Message.{Message}
use Rattle.dap_msg.specs.Blocked.{NspMessage, bodies}
use Rattle.dap_msg.specs.Items.{ItemAt}
use Rattle.dap_accessed.specs.Served.{AreAnswers}
use Rattle.dap_accessed.specs.Standing.{Files, file_at}
use Rattle.dap_accessed.specs.declared.setup.ServerSetup.{ServerSetup}
use Rattle.dap_shared.specs.Keeping.{AreOf}
use Rattle.dap_shared.specs.Nodes.{AnswersOn, Event, FilesAfter, Gives, GivesRecord, Serves, added_on, items_on, limit_on, new_node, node_after}
use Rattle.dap_shared.specs.Shared.{SharedAfter, SharedServed, SharedValue}
use Rattle.dap_shared.proofs.ForCallers.{answers-grow}
use Rattle.dap_end.specs.By.{ServedBy}
use Rattle.dap_end.specs.Going.{processed_after}
use Rattle.dap_end.specs.Ports.{EndValue, HandsOver, PortValue, gone_on}
use Rattle.dap_network.specs.Happening.{WorkedBy, hands_over, rests, serves_one}
use Rattle.dap_network.specs.Served.{BlockedOn}
use Rattle.dap_network.proofs.Blocks.{block_of, blocked_own}
use Rattle.dap_network.proofs.Histories.{IsSame, items_own, link_there, same}
use Rattle.dap_network.specs.GivenFiles.{AreGiven, IsGiven}
use Rattle.dap_network.proofs.SoundNode.{given_more}
use Rattle.dap_accessed.specs.declared.asked.Asked.{Asked}
use Rattle.dap_accessed.specs.Asked.{IsAsked}
use Rattle.dap_accessed.specs.Adding.{MayGive, MayStore}
use Rattle.dap_network.proofs.Standing.{PortGrew, PortStands, grew_none, grew_on, grew_posted, grew_served, stands_posted, stands_served}

module _ (own : ServerSetup) (links : ℕ) (first : Files) where
  -- What is kept of all links stands after this history, and what was given in it may be given.
  pub record Stays (history : List Event) (v : SharedValue) : Type 0 where
    pub after : SharedAfter first history v
    pub is_own : v.setup ≡ own
    pub as_many : length v.sessions ≡ links
    pub given : AreGiven own (new_node own first links) history

  -- the files are those of the history
  pub files_are : (history : List Event) (v : SharedValue) → Stays history v → v.files ≡ FilesAfter own first links history
  files_are history v h =
      ap (λ (x : SharedValue). x.files) h.after.stands
      ∙ ap (λ (o : ServerSetup). FilesAfter o first (length v.sessions) history) h.is_own
      ∙ ap (λ (n : ℕ). FilesAfter own first n history) h.as_many

  -- what is given of the files may be given after the history
  pub may_file : (history : List Event) (v : SharedValue) (name : List ℕ) (shape : Asked) → Stays history v → IsAsked shape → MayGive v.setup.names name v.files → IsGiven own (node_after own first links history) (Gives name shape)
  may_file history v name shape h good none =
      (good, subst (λ (l : Files). MayGive own.names name l) (files_are history v h) (subst (λ (o : ServerSetup). MayGive o.names name v.files) h.is_own none))

  pub may_record : (history : List Event) (v : SharedValue) (at number : ℕ) (body : List ℕ) → Stays history v → at < length v.files → MayStore (file_at at v.files) number body → IsGiven own (node_after own first links history) (GivesRecord at number body)
  may_record history v at number body h lt may =
      (subst (λ (l : Files). at < length l) (files_are history v h) lt, subst (λ (l : Files). MayStore (file_at at l) number body) (files_are history v h) may)

  -- the answers by the numbers of the node
  answered_here : (v : SharedValue) (link : ℕ) (history : List Event) (item : Item) (out : Vec (Vec ℕ)) → Stays history v
      → AreAnswers (limit_on link v.setup first (length v.sessions) history) (added_on link v.setup first (length v.sessions) history item) out
      → AreAnswers (limit_on link own first links history) (added_on link own first links history item) out
  answered_here v link history item out h a =
      subst (λ (n : ℕ). AreAnswers (limit_on link own first n history) (added_on link own first n history item) out) h.as_many
      (subst (λ (o : ServerSetup). AreAnswers (limit_on link o first (length v.sessions) history) (added_on link o first (length v.sessions) history item) out) h.is_own a)

  held_item : (link : ℕ) (history : List Event) (old new : EndValue SharedValue) (n : ℕ) → (s : ServedBy (SharedServed link) old new n) → Stays history old.present → Stays (history ++ Serves link s.by.item ∷ []) new.present
  held_item link history old new n s h =
      let serves = s.by.serves in record { after = serves.stands first history h.after; is_own = serves.same_setup ∙ h.is_own; as_many = serves.same_links ∙ h.as_many; given = given_more own (new_node own first links) history (Serves link s.by.item) h.given tt }

  -- ---- A link goes on.

  abbrev StandsAt : (link : ℕ) → List Event → (given handed : List (List ℕ)) → PortValue → Type 0
  StandsAt link history given handed port = PortStands given handed (BlockedOn link own first links history) (items_on link history) (AnswersOn link own first links history) port

  -- Some items of the link were served, and what waited was passed on: so the port grew.
  pub record Went (link : ℕ) (history : List Event) (given handed : List (List ℕ)) (old new : EndValue SharedValue) : Type 0 where
    pub items : List Item
    pub now : List Event
    pub is : now ≡ history ++ map (Serves link) items
    pub holds : Stays now new.present
    pub left : List (List ℕ)
    pub passed : List (List ℕ)
    pub stands : StandsAt link now left passed new.port
    pub grew : PortGrew given handed left passed old.port new.port

  one_item : (link : ℕ) (history : List Event) (given handed : List (List ℕ)) (old new : EndValue SharedValue) (n : ℕ) → ServedBy (SharedServed link) old new n → Stays history old.present
      → StandsAt link history given handed old.port → Went link history given handed old new
  one_item link history given handed old new n s h stands =
      let item = s.by.item in
      let serves = s.by.serves in
      let now = history ++ Serves link item ∷ [] in
      let holds : Stays now new.present = held_item link history old new n s h in
      let there : link < links = link_there links link history item (subst (λ (k : ℕ). AreOf k now) holds.as_many holds.after.links) in
      let limit = limit_on link own first links history in
      let more = added_on link own first links history item in
      let reads : ItemAt s.one.bytes old.port.offset item s.one.next = subst (ItemAt s.one.bytes old.port.offset item) s.next s.by.reads in
      let before = BlockedOn link own first links history in
      let served = stands_served given handed before (items_on link history) (AnswersOn link own first links history) old.port stands s.one.bytes s.one.later item s.one.next limit more s.served.answers s.one.fits s.one.came reads s.within s.idle
      (answered_here old.present link history item s.served.answers h (serves.answered first history h.after)) in
      let left = processed_after given s.one.bytes s.one.next in
      let to : PortValue = record (gone_on old.port s.one.bytes s.one.later s.one.next) { outbox = bodies s.served.answers.items } in
      record {
        items = item ∷ [];
        now = now;
        is = refl;
        holds = holds;
        left = left;
        passed = handed;
        stands =
            subst (λ (p : PortValue). StandsAt link now left handed p) (sym s.port)
            (subst (λ (l : List NspMessage). PortStands left handed l (items_on link now) (AnswersOn link own first links now) to) (sym (blocked_own own first links link history item))
            (subst (λ (l : List Item). PortStands left handed (before ++ block_of own first links link history item) l (AnswersOn link own first links now) to) (sym (items_own link history item))
            (subst (λ (l : List Message). PortStands left handed (before ++ block_of own first links link history item) (items_on link history ++ item ∷ []) l to) (sym (answers-grow own first links history link item there)) served)));
        grew = subst (λ (p : PortValue). PortGrew given handed left handed old.port p) (sym s.port) (grew_served given handed old.port s.one.bytes s.one.later (bodies s.served.answers.items) s.one.next s.one.came);
      }

  went_none : (link : ℕ) (history : List Event) (given handed : List (List ℕ)) (v : EndValue SharedValue) → Stays history v.present → StandsAt link history given handed v.port → Went link history given handed v v
  went_none link history given handed v h stands =
      record { items = []; now = history; is = sym (append-nil history); holds = h; left = given; passed = handed; stands = stands; grew = grew_none given handed v.port }

  went_posted : (link : ℕ) (history : List Event) (given handed : List (List ℕ)) (old new : EndValue SharedValue) (n : ℕ) → HandsOver old new n → Stays history old.present → StandsAt link history given handed old.port
      → Went link history given handed old new
  went_posted link history given handed old new n p h stands =
      subst (Went link history given handed old) (sym p.1)
      (record {
        items = [];
        now = history;
        is = sym (append-nil history);
        holds = h;
        left = given;
        passed = handed ++ old.port.outbox;
        stands = stands_posted given handed (BlockedOn link own first links history) (items_on link history) (AnswersOn link own first links history) old.port stands;
        grew = grew_posted given handed old new n p;
      })

  went_on : (link : ℕ) (history : List Event) (given handed : List (List ℕ)) (a b c : EndValue SharedValue) → (one : Went link history given handed a b) → Went link one.now one.left one.passed b c → Went link history given handed a c
  went_on link history given handed a b c one two =
      record {
        items = one.items ++ two.items;
        now = two.now;
        is =
            two.is ∙ ap (λ (l : List Event). l ++ map (Serves link) two.items) one.is ∙ append_assoc history (map (Serves link) one.items) (map (Serves link) two.items)
            ∙ ap (λ (l : List Event). history ++ l) (sym (map-append (Serves link) one.items two.items));
        holds = two.holds;
        left = two.left;
        passed = two.passed;
        stands = two.stands;
        grew = grew_on given handed one.left one.passed two.left two.passed a.port b.port c.port one.grew two.grew;
      }

  pub worked : (link : ℕ) (history : List Event) (given handed : List (List ℕ)) (a b : EndValue SharedValue) → WorkedBy (SharedServed link) a b → Stays history a.present → StandsAt link history given handed a.port
      → Went link history given handed a b
  worked link history given handed a b rests h stands = went_none link history given handed a h stands
  worked link history given handed a b (serves_one mid n s on) h stands =
      let one = one_item link history given handed a mid n s h stands in
      went_on link history given handed a mid b one (worked link one.now one.left one.passed mid b on one.holds one.stands)
  worked link history given handed a b (hands_over mid n p on) h stands =
      let one = went_posted link history given handed a mid n p h stands in
      went_on link history given handed a mid b one (worked link one.now one.left one.passed mid b on one.holds one.stands)

  -- ---- A link that has the same.

  -- a link has the same items and answers
  pub record Alike (link : ℕ) (old new : List Event) : Type 0 where
    pub both : IsSame own links first link old new
    pub blocks : BlockedOn link own first links new ≡ BlockedOn link own first links old

  pub alike : (link : ℕ) (history : List Event) → Alike link history history
  alike link history = record { both = same own links first link history; blocks = refl }
