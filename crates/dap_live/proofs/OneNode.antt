-- What a node does by a line, and says, follows from the node and the line, out of memory aside.
use Rattle.std.proofs.Common.{◌≡◌, ◌≢◌, ℕ, zero, suc, ◌==◌, refl, sym, ◌∙◌, subst, ap, Bool, true, false, true≢false, List, [], ◌∷◌, ◌++◌, length, inl, inr}
use Rattle.std.specs.Prelude.{◌⊎◌, IsSome, MatchBool, MatchOption, MatchResult, Option, Some, None, Result, Ok, Err, codes, if◌then◌else◌, option_map, replicate, set, slice_get}
use Rattle.std.specs.List.{position}
use Rattle.hex.specs.Hex.{IsBytes as AreBytes}
use Rattle.nsp_seg.specs.declared.packet.Packet.{Packet}
use Rattle.nsp_seg.proofs.ForCallers.{spells-one, spells-apart, fault-one}
use Rattle.nsp_link.specs.declared.link.Got.{Got}
use Rattle.nsp_link.specs.declared.link.LinkSetup.{LinkSetup}
use Rattle.nsp_link.specs.declared.fault.LinkFault.{LinkFault}
use Rattle.nsp_link.specs.declared.fault.LinkFault.TheVariants as fault
use Rattle.nsp_link.specs.declared.fault.LinkFault.TheVariants.{Failed}
use Rattle.nsp_seg.specs.declared.packet.SegFault.{SegFault}
use Rattle.nsp_link.proofs.ForCallers.{sends_new}
use Rattle.rec_file.specs.declared.picks.Rights.{Rights}
use Rattle.rec_file.specs.declared.refusals.Refusal.{Refusal}
use Rattle.dap_accessed.specs.declared.fault.AddFault.{AddFault}
use Rattle.dap_accessed.specs.declared.fault.AddFault.TheVariants as add
use Rattle.dap_accessed.specs.declared.setup.Names.{Names}
use Rattle.dap_accessed.specs.declared.setup.ServerSetup.{ServerSetup}
use Rattle.dap_accessed.specs.declared.asked.Asked.{Asked}
use Rattle.dap_accessed.specs.Standing.{Files, file_at}
use Rattle.dap_accessed.specs.Naming.{index_by, number_given}
use Rattle.dap_accessed.specs.Adding.{MayGive, MayStore, with_new_file}
use Rattle.dap_accessed.specs.Storing.{StoreRefused}
use Rattle.dap_accessed.specs.Setup.{all_rights}
use Rattle.dap_shared.specs.declared.fault.RemoveFault.{RemoveFault}
use Rattle.dap_shared.specs.declared.fault.RemoveFault.TheVariants as removing
use Rattle.dap_shared.specs.Nodes.{Begins, Drops, Event, Gives, GivesRecord, with_record_at}
use Rattle.dap_shared.specs.Noted.{NotedValue}
use Rattle.dap_shared.specs.Shared.{NotAdded, NotRemoved, RecordNotAdded, SharedBegins, SharedDrops, SharedValue, is_held, rights_on}
use Rattle.dap_end.specs.declared.fault.EndFault.{EndFault}
use Rattle.dap_end.specs.declared.fault.TakeFault.{TakeFault}
use Rattle.dap_end.specs.Ports.{PortValue, new_port}
use Rattle.dap_end.specs.Node.{AtPort, HasAddress, HasPort, NodeLinkValue, NodeNotGiven, NodeValue, NoneHasCome, OnLink, SomeHasCome, without_notes, has_local, is_between, is_free_link}
use Rattle.dap_text.specs.declared.fault.FileFault.{FileFault}
use Rattle.dap_text.specs.declared.fault.FileFault.TheVariants as file_fault
use Rattle.dap_text.specs.declared.filed.RecordLine.{RecordLine}
use Rattle.dap_text.proofs.ForCallers.{one-asked}
use Rattle.dap_msg.specs.Codes.{reasons, stscode}
use Rattle.dap_text.specs.Tables.{files_lines}
use Rattle.texts.specs.Words.{Words, ends, hex_of, words_of}
use Rattle.dap_text.specs.Filed.{file_line_of, record_line_of}
use Rattle.linewise.specs.declared.talking.Became.{Became}
use Rattle.linewise.specs.declared.talking.Became.TheVariants.{BadLine, Done, NoMemory}
use Rattle.linewise.specs.Talks.{HaveOneText}
use Rattle.linewise.proofs.ForCallers.{comes_one, one_text}
use Rattle.dap_live.specs.declared.node.Node.{Node}
use Rattle.dap_live.specs.declared.node_orders.NodeOrder.{NodeOrder}
use Rattle.dap_live.specs.declared.node_orders.NodeOrder.TheVariants as order
use Rattle.dap_live.specs.declared.orders.Between.{Between}
use Rattle.dap_live.specs.NodeOrders.{address_alone, filing_forms, links_order_of, node_order_of, one_order_of, text_alone}
use Rattle.dap_live.specs.Orders.{anew_of, between_of, hex_alone, most_anew, most_beside, setup_anew, setup_beside}
use Rattle.dap_live.specs.Texts.{LineAnswer, add_refusal, done_said, link_refusal, locked_text, packets_text, remove_refusal, taken_said, status_line}
use Rattle.dap_live.specs.Both.{DoneOr, LeavesEnd}
use Rattle.dap_live.specs.Node.{AddsAsked, AddsLink, AddsRecordTo, BeginsOn, NodeDoes, DoesNodeOrder, DropsFile, DropsNamedFile, EndsOn, FileNotGiven, FindsLink, GivenTo, GivesFile, GivesNext, GivesRecordTo, GoesOnWith, HasRun, HasSent, IsNewNode, NoLink, RecordNotGiven, RefusesLink, RenewsOn, ResendsOn, Says, TakesOn, TakesPacketBy, about, answered, before_line, first_events, is_alone, is_work_left_at, is_used, meant, one_link, receiver_of, sender_of, node_without_file, used_by, waiting, waits_on}
use Rattle.dap_live.specs.Inner.OneText.{AreSameNodes, HasCarried}
use Rattle.dap_live.proofs.OneLine.{HexFits, ack_one, all_again, gone_wants, hex_fits, setup_apart, setup_one, taken_wants}
use Rattle.dap_live.proofs.OneLine.{one_answer}
use Rattle.dap_live.proofs.Forms.{AllFit, all_fit, also, ends_fit, field_fits, form_fits, none_fit}
use Rattle.dap_live.proofs.OneTurn.{going_same, noted_parts, shared_one, taking_same}

-- what a line leaves and says: one node, which came so by its calls, one text, and one outcome
abbrev Same : (one two : Node) → (said more : List ℕ) → (b c : Became) → Type 0
Same one two said more b c = (one ≡ two) × (said ≡ more) × (b ≡ c) × HasRun one.node

-- ---- The links of a node.

-- what is at an index of a list in which one element was set
set-get : (xs : List (Option PortValue)) (i j : ℕ) (a : Option PortValue) (p : PortValue) (P : PortValue → Type 0) → ((q : PortValue) → a ≡ Some q → P q) → (slice_get xs j ≡ Some (Some p) → P p) → slice_get (set xs i a) j ≡ Some (Some p) → P p
set-get [] i j a p P n h e = h e
set-get (x ∷ xs) zero zero a p P n h e = n p (let same : a ≡ Some p = cc in same)
set-get (x ∷ xs) zero (suc j) a p P n h e = h e
set-get (x ∷ xs) (suc i) zero a p P n h e = h e
set-get (x ∷ xs) (suc i) (suc j) a p P n h e = set-get xs i j a p P n h e

abbrev AllSent : List (Option PortValue) → Type 0
AllSent ports = (link : ℕ) (p : PortValue) → slice_get ports link ≡ Some (Some p) → HasSent p.link

set-sent : (ports : List (Option PortValue)) (link : ℕ) (a : Option PortValue) → ((q : PortValue) → a ≡ Some q → HasSent q.link) → AllSent ports → AllSent (set ports link a)
set-sent ports link a n h = λ j p e. set-get ports link j a p (λ q. HasSent q.link) n (h j p) e

some-port : (p q : PortValue) → Some p ≡ Some q → p ≡ q
some-port p q e = cc

one-port : (ports : List (Option PortValue)) (link : ℕ) (p q : PortValue) → slice_get ports link ≡ Some (Some p) → slice_get ports link ≡ Some (Some q) → p ≡ q
one-port ports link p q e f = (let both : Some (Some p) ≡ Some (Some q) = sym e ∙ f in cc)

node-parts : (one two : NodeValue) → one.noted ≡ two.noted → one.ports ≡ two.ports → one ≡ two
node-parts one two noted ports = ap (λ (n : NotedValue). record one { noted = n }) noted ∙ ap (λ (l : List (Option PortValue)). record two { ports = l }) ports

-- one link moved
on-link : (link : ℕ) (old one two : NodeValue) (Goes Went : NodeLinkValue → NodeLinkValue → Type 0) (Told : Type 0) → HasRun old
    → OnLink link Goes old one → OnLink link Went old two
    → ((before a b : NodeLinkValue) → HasCarried before → Goes before a → Went before b → (a ≡ b) × Told × HasCarried a)
    → (one ≡ two) × Told × HasRun one
on-link link old one two Goes Went Told h x y f =
    let before : y.before ≡ x.before = one-port old.ports link y.before x.before y.there x.there in
    let went : Went (record { port = x.before; present = without_notes old.noted }) (record { port = y.after; present = two.noted }) =
    subst (λ (p : PortValue). Went (record { port = p; present = without_notes old.noted }) (record { port = y.after; present = two.noted })) before y.does in
    let t = f (record { port = x.before; present = without_notes old.noted }) (record { port = x.after; present = one.noted }) (record { port = y.after; present = two.noted })
    (h.0, h.1, h.2, h.3 link x.before x.there) x.does went in
    let noted : one.noted ≡ two.noted = ap (λ (v : NodeLinkValue). v.present) t.0 in
    let port : x.after ≡ y.after = ap (λ (v : NodeLinkValue). v.port) t.0 in
    let ports : one.ports ≡ two.ports = x.ports ∙ ap (λ (p : PortValue). set old.ports link (Some p)) port ∙ sym y.ports in (
      node-parts one two noted ports,
      t.1,
      (
        t.2.0,
        t.2.1,
        t.2.2,
        subst AllSent (sym x.ports) (set-sent old.ports link (Some x.after) (λ q is. subst (λ (p : PortValue). HasSent p.link) (some-port x.after q is) t.2.3) h.3),
      ),
    )

-- ---- A packet.

take-one : (link : ℕ) (old one two : Node) (bytes said more : List ℕ) (b c : Became) → AreBytes bytes → HasRun old.node → b ≢ NoMemory → c ≢ NoMemory
    → TakesOn link old bytes one said b → TakesOn link old bytes two more c → Same one two said more b c
take-one link old one two bytes said more b c fits h nb nc x y =
    let t = on-link link old.node one.node two.node _ _ ((x.taken ≡ y.taken) × (x.packets ≡ y.packets)) h x.took y.took
    (λ before p q k u v.
    let s = taking_same link old.most_waiting before p q bytes x.taken y.taken x.packets y.packets fits k (taken_wants x.taken (locked_text one.node.noted.locked) x.packets (λ e. nb (x.ended ∙ e)))
    (taken_wants y.taken (locked_text two.node.noted.locked) y.packets (λ e. nc (y.ended ∙ e))) u v in (s.0, (s.1, s.2), s.3)) in
    let says : taken_said x.taken (locked_text one.node.noted.locked) x.packets ≡ taken_said y.taken (locked_text two.node.noted.locked) y.packets =
    ap (λ (r : Result Got TakeFault). taken_said r (locked_text one.node.noted.locked) x.packets) t.1.0
    ∙ ap (λ (l : List (List ℕ)). taken_said y.taken (locked_text one.node.noted.locked) l) t.1.1
    ∙ ap (λ (n : NodeValue). taken_said y.taken (locked_text n.noted.locked) y.packets) t.0 in
    let used : one.used ≡ two.used = x.used ∙ ap (λ (r : Result Got TakeFault). used_by r link old.used) t.1.0 ∙ sym y.used in (
      x.rest ∙ ap (λ (n : NodeValue). record (about link old) { node = n; used = one.used }) t.0
          ∙ ap (λ (u : List Bool). record (about link old) { node = two.node; used = u }) used ∙ sym y.rest,
      x.says ∙ ap (λ (k : LineAnswer). k.0) says ∙ sym y.says,
      x.ended ∙ ap (λ (k : LineAnswer). k.1) says ∙ sym y.ended,
      t.2,
    )

says-one : (answer : LineAnswer) (base one two : Node) (said more : List ℕ) (b c : Became) → HasRun base.node → Says answer base one said b → Says answer base two more c → Same one two said more b c
says-one answer base one two said more b c h x y = (x.0 ∙ sym y.0, x.1 ∙ sym y.1, x.2 ∙ sym y.2, subst (λ (n : Node). HasRun n.node) (sym x.0) h)

abbrev found_by : ℕ → Result ℕ LinkFault
found_by link = Ok link

abbrev missed_by : LinkFault → Result ℕ LinkFault
missed_by f = Err f

found-one : (ports : List (Option PortValue)) (bytes : List ℕ) (r s : Result ℕ LinkFault) → AreBytes bytes → FindsLink ports bytes r → FindsLink ports bytes s → r ≡ s
found-one ports bytes (Ok i) (Ok j) fits x y =
    let packet : y.0 ≡ x.0 = spells-one y.0 x.0 bytes y.1 x.1 in
    let there = subst (λ (p : Packet). position (is_between (receiver_of p) (sender_of p)) ports ≡ Some j) packet y.2 in
    let same : i ≡ j = (let both = sym x.2 ∙ there in cc) in
    ap found_by same
found-one ports bytes (Ok i) (Err g) fits x (inl y) = absurd (spells-apart x.0 y.0 bytes fits x.1 y.1)
found-one ports bytes (Ok i) (Err g) fits x (inr y) =
    let packet : y.0 ≡ x.0 = spells-one y.0 x.0 bytes y.1 x.1 in
    let there = subst (λ (p : Packet). position (is_between (receiver_of p) (sender_of p)) ports ≡ None) packet y.2 in
    let none : ⊥ = (let both = sym x.2 ∙ there in cc) in
    absurd none
found-one ports bytes (Err f) (Ok j) fits (inl x) y = absurd (spells-apart y.0 x.0 bytes fits y.1 x.1)
found-one ports bytes (Err f) (Ok j) fits (inr x) y =
    let packet : x.0 ≡ y.0 = spells-one x.0 y.0 bytes x.1 y.1 in
    let there = subst (λ (p : Packet). position (is_between (receiver_of p) (sender_of p)) ports ≡ None) packet x.2 in
    let none : ⊥ = (let both = sym y.2 ∙ there in cc) in
    absurd none
found-one ports bytes (Err f) (Err g) fits (inl x) (inl y) =
    ap missed_by (x.2 ∙ ap (λ (k : SegFault). fault.Malformed k) (fault-one x.0 y.0 bytes fits x.1 y.1) ∙ sym y.2)
found-one ports bytes (Err f) (Err g) fits (inl x) (inr y) = absurd (spells-apart y.0 x.0 bytes fits y.1 x.1)
found-one ports bytes (Err f) (Err g) fits (inr x) (inl y) = absurd (spells-apart x.0 y.0 bytes fits x.1 y.1)
found-one ports bytes (Err f) (Err g) fits (inr x) (inr y) = ap missed_by (x.3 ∙ sym y.3)

packet-by : (found : Result ℕ LinkFault) (old one two : Node) (bytes said more : List ℕ) (b c : Became) → AreBytes bytes → HasRun old.node → b ≢ NoMemory → c ≢ NoMemory
    → MatchResult found (λ link. TakesOn link old bytes one said b) (λ f. RefusesLink f old one said b)
    → MatchResult found (λ link. TakesOn link old bytes two more c) (λ f. RefusesLink f old two more c) → Same one two said more b c
packet-by (Ok link) old one two bytes said more b c fits h nb nc x y = take-one link old one two bytes said more b c fits h nb nc x y
packet-by (Err f) old one two bytes said more b c fits h nb nc x y = says-one (link_refusal f) old one two said more b c h x y

packet-found : (old one two : Node) (bytes said more : List ℕ) (b c : Became) → AreBytes bytes → HasRun old.node → b ≢ NoMemory → c ≢ NoMemory
    → TakesPacketBy old bytes one said b → TakesPacketBy old bytes two more c → Same one two said more b c
packet-found old one two bytes said more b c fits h nb nc x y =
    packet-by x.0 old one two bytes said more b c fits h nb nc x.2
    (subst (λ (r : Result ℕ LinkFault). MatchResult r (λ link. TakesOn link old bytes two more c) (λ f. RefusesLink f old two more c))
    (found-one old.node.ports bytes y.0 x.0 fits y.1 x.1) y.2)

packet-one : (o : Option ℕ) (old one two : Node) (bytes said more : List ℕ) (b c : Became) → AreBytes bytes → HasRun old.node → b ≢ NoMemory → c ≢ NoMemory
    → MatchOption o (TakesPacketBy old bytes one said b) (λ link. TakesOn link old bytes one said b)
    → MatchOption o (TakesPacketBy old bytes two more c) (λ link. TakesOn link old bytes two more c) → Same one two said more b c
packet-one None old one two bytes said more b c fits h nb nc x y = packet-found old one two bytes said more b c fits h nb nc x y
packet-one (Some link) old one two bytes said more b c fits h nb nc x y = take-one link old one two bytes said more b c fits h nb nc x y

-- ---- Going on.

gone-one : (link : ℕ) (old one two : Node) (front said more : List ℕ) (b c : Became) → HasRun old.node → b ≢ NoMemory → c ≢ NoMemory
    → GoesOnWith link old front one said b → GoesOnWith link old front two more c → Same one two said more b c
gone-one link old one two front said more b c h nb nc x y =
    let t = on-link link old.node one.node two.node _ _ ((x.gone ≡ y.gone) × (x.packets ≡ y.packets)) h x.went y.went
    (λ before p q k u v.
    let s = going_same link old.most_waiting before p q x.packets y.packets x.gone y.gone k (gone_wants x.gone (locked_text one.node.noted.locked) x.packets (λ e. nb (x.ended ∙ e)))
    (gone_wants y.gone (locked_text two.node.noted.locked) y.packets (λ e. nc (y.ended ∙ e))) u v in (s.0, (s.1, s.2), s.3)) in
    let says : done_said (locked_text one.node.noted.locked) x.packets x.gone ≡ done_said (locked_text two.node.noted.locked) y.packets y.gone =
    ap (λ (r : Result (Unit {0}) EndFault). done_said (locked_text one.node.noted.locked) x.packets r) t.1.0
    ∙ ap (λ (l : List (List ℕ)). done_said (locked_text one.node.noted.locked) l y.gone) t.1.1
    ∙ ap (λ (n : NodeValue). done_said (locked_text n.noted.locked) y.packets y.gone) t.0 in (
      x.rest ∙ ap (λ (n : NodeValue). record (about link old) { node = n }) t.0 ∙ sym y.rest,
      x.says ∙ ap (λ (k : LineAnswer). front ++ k.0) says ∙ sym y.says,
      x.ended ∙ ap (λ (k : LineAnswer). k.1) says ∙ sym y.ended,
      t.2,
    )

gone-if : (left : Bool) (link : ℕ) (old one two : Node) (packets : List (List ℕ)) (said more : List ℕ) (b c : Became) → HasRun old.node → b ≢ NoMemory → c ≢ NoMemory
    → MatchBool left (GoesOnWith link old (packets_text packets) one said b) (Says (packets_text packets, Done) (about link old) one said b)
    → MatchBool left (GoesOnWith link old (packets_text packets) two more c) (Says (packets_text packets, Done) (about link old) two more c) → Same one two said more b c
gone-if true link old one two packets said more b c h nb nc x y = gone-one link old one two (packets_text packets) said more b c h nb nc x y
gone-if false link old one two packets said more b c h nb nc x y = says-one (packets_text packets, Done) (about link old) one two said more b c h x y

abbrev GoesOnIf : (link : ℕ) → PortValue → List (List ℕ) → (old new : Node) → List ℕ → Became → Type 0
GoesOnIf link port packets old new text became =
    MatchBool (is_work_left_at old.most_waiting port) (GoesOnWith link old (packets_text packets) new text became) (Says (packets_text packets, Done) (about link old) new text became)

resend-by : (failed : Bool) (link : ℕ) (port : PortValue) (old one two : Node) (said more : List ℕ) (b c : Became) → HasSent port.link → HasRun old.node → b ≢ NoMemory → c ≢ NoMemory
    → MatchBool failed (LeavesEnd Done (about link old) one b × (said ≡ (link_refusal Failed).0)) (ResendsOn link port old one said b)
    → MatchBool failed (LeavesEnd Done (about link old) two c × (more ≡ (link_refusal Failed).0)) (ResendsOn link port old two more c) → Same one two said more b c
resend-by true link port old one two said more b c sent h nb nc x y =
    (x.0.0 ∙ sym y.0.0, x.1 ∙ sym y.1, x.0.1 ∙ sym y.0.1, subst (λ (n : Node). HasRun n.node) (sym x.0.0) h)
resend-by false link port old one two said more b c sent h nb nc x y =
    let same = all_again port.link sent.0 x.0 y.0 sent.1 x.1 y.1 in
    gone-if (is_work_left_at old.most_waiting port) link old one two x.0 said more b c h nb nc x.2
    (subst (λ (l : List (List ℕ)). GoesOnIf link port l old two more c) (sym same) y.2)

-- ---- On the link that is meant.

local-by : (o : Option ℕ) (old one two : Node) (said more : List ℕ) (b c : Became) (P Q : ℕ → Type 0) → HasRun old.node
    → MatchOption o (RefusesLink fault.WrongLink old one said b) P → MatchOption o (RefusesLink fault.WrongLink old two more c) Q
    → ((link : ℕ) → P link → Q link → Same one two said more b c) → Same one two said more b c
local-by None old one two said more b c P Q h x y f = says-one (link_refusal fault.WrongLink) old one two said more b c h x y
local-by (Some link) old one two said more b c P Q h x y f = f link x y

at-one : {R : Type 0} (link : ℕ) (v : NodeValue) (P Q : PortValue → Type 0) → AtPort link v P → AtPort link v Q → ((p : PortValue) → HasPort link v p → P p → Q p → R) → R
at-one link v P Q x y f = f x.0 x.1 x.2 (subst Q (one-port v.ports link y.0 x.0 y.1 x.1) y.2)

resend-one : (local : Option ℕ) (old one two : Node) (said more : List ℕ) (b c : Became) → HasRun old.node → b ≢ NoMemory → c ≢ NoMemory → NodeDoes old (order.Resend local) one said b → NodeDoes old (order.Resend local) two more c → Same one two said more b c
resend-one local old one two said more b c h nb nc x y =
    local-by (meant local old.node.ports) old one two said more b c _ _ h x y
    (λ link u v. at-one link old.node _ _ u v (λ p there i j. resend-by p.link.failed link p old one two said more b c (h.3 link p there) h nb nc i j))

stays-one : (base one two : Node) (said more : List ℕ) (b c : Became) → HasRun base.node → LeavesEnd Done base one b → LeavesEnd Done base two c → said ≡ more → Same one two said more b c
stays-one base one two said more b c h x y e = (x.0 ∙ sym y.0, e, x.1 ∙ sym y.1, subst (λ (n : Node). HasRun n.node) (sym x.0) h)

ack-line-one : (local : Option ℕ) (old one two : Node) (said more : List ℕ) (b c : Became) → HasRun old.node → NodeDoes old (order.Ack local) one said b → NodeDoes old (order.Ack local) two more c → Same one two said more b c
ack-line-one local old one two said more b c h x y =
    local-by (meant local old.node.ports) old one two said more b c _ _ h x y
    (λ link u v. at-one link old.node _ _ u v (λ p there i j. stays-one (about link old) one two said more b c h i.0 j.0 (ack_one p.link said more i.1 j.1)))

-- ---- Links that begin and end.

began-one : (link address : ℕ) (most : Rights) (port : Option PortValue) (old one two : NodeValue) → HasRun old → ((q : PortValue) → port ≡ Some q → HasSent q.link)
    → SharedBegins link most old.noted.shared one.noted.shared → HasAddress link address old.noted one.noted → one.ports ≡ set old.ports link port
    → SharedBegins link most old.noted.shared two.noted.shared → HasAddress link address old.noted two.noted → two.ports ≡ set old.ports link port → (one ≡ two) × HasRun one
began-one link address most port old one two h sent x a p y d q =
    let after = x.stands h.0 h.1 h.2 in
    let shared = shared_one h.0 (h.1 ++ Begins link most ∷ []) one.noted.shared two.noted.shared (x.same_setup ∙ sym y.same_setup) (x.same_links ∙ sym y.same_links) after (y.stands h.0 h.1 h.2) in (
      node-parts one two (noted_parts one.noted two.noted shared (a.addresses ∙ sym d.addresses) (a.locked ∙ sym d.locked)) (p ∙ sym q),
      (h.0, h.1 ++ Begins link most ∷ [], after, subst AllSent (sym p) (set-sent old.ports link port sent h.3)),
    )

new-sent : (setup : LinkSetup) (q : PortValue) → Some (new_port setup) ≡ Some q → HasSent q.link
new-sent setup q is = subst (λ (p : PortValue). HasSent p.link) (some-port (new_port setup) q is) ([], sends_new setup)

none-sent : (q : PortValue) → None ≡ Some q → HasSent q.link
none-sent q is = (let none : ⊥ = cc in absurd none)

-- the table and what is used are one
moved-one : (base one two : Node) → one ≡ record base { node = one.node; used = one.used } → two ≡ record base { node = two.node; used = two.used } → one.node ≡ two.node → one.used ≡ two.used → one ≡ two
moved-one base one two x y node used =
    x ∙ ap (λ (n : NodeValue). record base { node = n; used = one.used }) node ∙ ap (λ (u : List Bool). record base { node = two.node; used = u }) used ∙ sym y

end-one : (link : ℕ) (old one two : Node) (said more : List ℕ) (b c : Became) → HasRun old.node → EndsOn link old one × (said ≡ []) × (b ≡ Done) → EndsOn link old two × (more ≡ []) × (c ≡ Done) → Same one two said more b c
end-one link old one two said more b c h (x, sx, bx) (y, sy, by) =
    let t = began-one link 0 all_rights None old.node one.node two.node h none-sent x.ended.shared x.ended.address x.ended.ports y.ended.shared y.ended.address y.ended.ports in
    (moved-one old one two x.rest y.rest t.0 (x.used ∙ sym y.used), sx ∙ sym sy, bx ∙ sym by, t.1)

close-one : (local : ℕ) (old one two : Node) (said more : List ℕ) (b c : Became) → HasRun old.node → NodeDoes old (order.Close local) one said b → NodeDoes old (order.Close local) two more c → Same one two said more b c
close-one local old one two said more b c h x y =
    local-by (position (has_local local) old.node.ports) old one two said more b c _ _ h x y (λ link u v. end-one link old one two said more b c h u v)

begin-one : (link : ℕ) (setup : LinkSetup) (most : Rights) (old one two : Node) (said more : List ℕ) (b c : Became) → HasRun old.node → b ≢ NoMemory → c ≢ NoMemory → BeginsOn link setup most old one said b
    → BeginsOn link setup most old two more c → Same one two said more b c
begin-one link setup most old one two said more b c h nb nc (inl x) (inl y) =
    let t = began-one link setup.local most (Some (new_port setup)) old.node one.node two.node h (new-sent setup) x.0.began.shared x.0.began.address x.0.began.ports y.0.began.shared y.0.began.address y.0.began.ports in
    (moved-one (about link old) one two x.0.rest y.0.rest t.0 (x.0.used ∙ sym y.0.used), x.1 ∙ sym y.1, x.2 ∙ sym y.2, t.1)
begin-one link setup most old one two said more b c h nb nc (inl x) (inr y) = absurd (setup_apart setup y.0 (λ e. nc (y.2.2 ∙ e)) x.0.is_setup y.1)
begin-one link setup most old one two said more b c h nb nc (inr x) (inl y) = absurd (setup_apart setup x.0 (λ e. nb (x.2.2 ∙ e)) y.0.is_setup x.1)
begin-one link setup most old one two said more b c h nb nc (inr x) (inr y) =
    let f = setup_one setup x.0 y.0 (λ e. nb (x.2.2 ∙ e)) (λ e. nc (y.2.2 ∙ e)) x.1 y.1 in
    says-one (link_refusal x.0) old one two said more b c h x.2 (subst (λ (k : LinkFault). RefusesLink k old two more c) (sym f) y.2)

no-link-one : (setup : LinkSetup) (s t : LineAnswer) → NoLink setup s → NoLink setup t → s ≡ t
no-link-one setup s t (inl x) (inl y) = x.1 ∙ sym y.1
no-link-one setup s t (inl x) (inr y) = absurd (x.0 y.0)
no-link-one setup s t (inr x) (inl y) = absurd (y.0 x.0)
no-link-one setup s t (inr x) (inr y) = x.1 ∙ sym y.1

added-by : (o : Option ℕ) (setup : LinkSetup) (most : Rights) (old one two : Node) (said more : List ℕ) (b c : Became) → HasRun old.node → b ≢ NoMemory → c ≢ NoMemory
    → MatchOption o ((s : LineAnswer) × NoLink setup s × Says s old one said b) (λ link. BeginsOn link setup most old one said b)
    → MatchOption o ((s : LineAnswer) × NoLink setup s × Says s old two more c) (λ link. BeginsOn link setup most old two more c) → Same one two said more b c
added-by None setup most old one two said more b c h nb nc x y =
    says-one x.0 old one two said more b c h x.2 (subst (λ (s : LineAnswer). Says s old two more c) (no-link-one setup y.0 x.0 y.1 x.1) y.2)
added-by (Some link) setup most old one two said more b c h nb nc x y = begin-one link setup most old one two said more b c h nb nc x y

renew-on-one : (link : ℕ) (anew : Option Between) (old one two : Node) (said more : List ℕ) (b c : Became) → HasRun old.node → b ≢ NoMemory → c ≢ NoMemory
    → RenewsOn link anew old one said b → RenewsOn link anew old two more c → Same one two said more b c
renew-on-one link anew old one two said more b c h nb nc x y =
    at-one link old.node _ _ x y
    (λ p there i j. begin-one link (setup_anew p.link.setup anew) (most_anew (rights_on link old.node.noted.shared) anew) (about link old) one two said more b c h nb nc i j)

renew-by : (o : Option ℕ) (between : Between) (old one two : Node) (said more : List ℕ) (b c : Became) → HasRun old.node → b ≢ NoMemory → c ≢ NoMemory
    → MatchOption o (AddsLink (setup_beside old.usual between) (most_beside all_rights between) old one said b) (λ link. RenewsOn link (Some between) old one said b)
    → MatchOption o (AddsLink (setup_beside old.usual between) (most_beside all_rights between) old two more c) (λ link. RenewsOn link (Some between) old two more c) → Same one two said more b c
renew-by None between old one two said more b c h nb nc x y =
    added-by (position is_free_link old.node.ports) (setup_beside old.usual between) (most_beside all_rights between) old one two said more b c h nb nc x y
renew-by (Some link) between old one two said more b c h nb nc x y = renew-on-one link (Some between) old one two said more b c h nb nc x y

-- ---- Files that it is given.

given-one : (made : Files) (event : Event) (old one two : NodeValue) → HasRun old → GivenTo made event old one → GivenTo made event old two → (one ≡ two) × HasRun one
given-one made event old one two h x y =
    let after = x.given.stands h.0 h.1 h.2 in
    let shared = shared_one h.0 (h.1 ++ event ∷ []) one.noted.shared two.noted.shared (x.given.same_setup ∙ sym y.given.same_setup)
    (ap length x.given.same_sessions ∙ sym (ap length y.given.same_sessions)) after (y.given.stands h.0 h.1 h.2) in
    let noted : one.noted ≡ two.noted = x.notes ∙ ap (λ (s : SharedValue). record old.noted { shared = s }) shared ∙ sym y.notes in
    (node-parts one two noted (x.ports ∙ sym y.ports), (h.0, h.1 ++ event ∷ [], after, subst AllSent (sym x.ports) h.3))

some-none : (v : NodeValue) → SomeHasCome v.ports → NoneHasCome v.ports → ⊥
some-none v some none = none some.0 some.1 some.2 some.3

add-want : (f : AddFault) → (add_refusal f).1 ≢ NoMemory → f ≢ add.NoMemory
add-want f want e = want (ap (λ k. (add_refusal k).1) e)

-- nothing was done, for one reason
why-one : {F : Type 0} (told : F → LineAnswer) (base one two : Node) (said more : List ℕ) (b c : Became) (f g : F) → HasRun base.node → f ≡ g → (one ≡ base) × (said ≡ (told f).0) × (b ≡ (told f).1)
    → (two ≡ base) × (more ≡ (told g).0) × (c ≡ (told g).1) → Same one two said more b c
why-one {F} told base one two said more b c f g h e x y =
    (x.0 ∙ sym y.0, x.1 ∙ ap (λ (k : F). (told k).0) e ∙ sym y.1, x.2 ∙ ap (λ (k : F). (told k).1) e ∙ sym y.2, subst (λ (n : Node). HasRun n.node) (sym x.0) h)

-- a file or a record is given, or isn't: which of them, and why not, is determined
module _ (May : Type 0) (Refused : AddFault → Type 0) (apart : (f : AddFault) → f ≢ add.NoMemory → May → Refused f → ⊥)
    (one-why : (f g : AddFault) → f ≢ add.NoMemory → g ≢ add.NoMemory → Refused f → Refused g → f ≡ g) where
  not-given : (v : NodeValue) (f : AddFault) → f ≢ add.NoMemory → NoneHasCome v.ports → May → NodeNotGiven v Refused f → ⊥
  not-given v add.Busy want idle may h = some-none v h idle
  not-given v add.FileExists want idle may h = apart add.FileExists want may h.1
  not-given v add.NoFile want idle may h = apart add.NoFile want may h.1
  not-given v (add.Record why) want idle may h = apart (add.Record why) want may h.1
  not-given v add.NoMemory want idle may h = want refl

  open-why : (v : NodeValue) (f : AddFault) → f ≢ add.NoMemory → NodeNotGiven v Refused f → ((f ≡ add.Busy) × SomeHasCome v.ports) ⊎ (NoneHasCome v.ports × Refused f)
  open-why v add.Busy want h = inl (refl, h)
  open-why v add.FileExists want h = inr h
  open-why v add.NoFile want h = inr h
  open-why v (add.Record why) want h = inr h
  open-why v add.NoMemory want h = absurd (want refl)

  why-by : (v : NodeValue) (f g : AddFault) → f ≢ add.NoMemory → g ≢ add.NoMemory → ((f ≡ add.Busy) × SomeHasCome v.ports) ⊎ (NoneHasCome v.ports × Refused f)
      → ((g ≡ add.Busy) × SomeHasCome v.ports) ⊎ (NoneHasCome v.ports × Refused g) → f ≡ g
  why-by v f g nf ng (inl x) (inl y) = x.0 ∙ sym y.0
  why-by v f g nf ng (inl x) (inr y) = absurd (some-none v x.1 y.0)
  why-by v f g nf ng (inr x) (inl y) = absurd (some-none v y.1 x.0)
  why-by v f g nf ng (inr x) (inr y) = one-why f g nf ng x.1 y.1

  given-why : (v : NodeValue) (f g : AddFault) → f ≢ add.NoMemory → g ≢ add.NoMemory → NodeNotGiven v Refused f → NodeNotGiven v Refused g → f ≡ g
  given-why v f g nf ng x y = why-by v f g nf ng (open-why v f nf x) (open-why v g ng y)

-- where no link is used, the reason is the other one
not-used : (used : Bool) (Busy Why : Type 0) → used ≡ false → MatchBool used Busy Why → Why
not-used false Busy Why idle h = h
not-used true Busy Why idle h = absurd (true≢false idle)

-- one reason, whether a link is used or not
used-why : (used : Bool) (f g : AddFault) (P Q : Type 0) → (P → Q → f ≡ g) → MatchBool used (f ≡ add.Busy) P → MatchBool used (g ≡ add.Busy) Q → f ≡ g
used-why true f g P Q same x y = x ∙ sym y
used-why false f g P Q same x y = same x y

-- ---- A file.

none-given : (o : Option ℕ) → o ≡ None → IsSome o → ⊥
none-given None none some = let no : ⊥ = cc in no
none-given (Some n) none some = let no : ⊥ = cc in no

file-apart : (names : Names) (files : Files) (name : List ℕ) (f : AddFault) → f ≢ add.NoMemory → MayGive names name files → NotAdded names files name f → ⊥
file-apart names files name add.FileExists want may h = none-given (number_given names name files) h may
file-apart names files name add.NoMemory want may h = want refl
file-apart names files name f want may h = absurd h

file-why : (names : Names) (files : Files) (name : List ℕ) (f g : AddFault) → f ≢ add.NoMemory → g ≢ add.NoMemory → NotAdded names files name f → NotAdded names files name g → f ≡ g
file-why names files name add.FileExists add.FileExists nf ng x y = refl
file-why names files name add.FileExists add.NoMemory nf ng x y = absurd (ng refl)
file-why names files name add.FileExists g nf ng x y = absurd y
file-why names files name add.NoMemory g nf ng x y = absurd (nf refl)
file-why names files name f g nf ng x y = absurd x

module _ (old : Node) (name : List ℕ) (asked : Asked) where
  abbrev names : Names
  names = old.node.noted.shared.setup.names

  abbrev files : Files
  files = old.node.noted.shared.files

  file-not : (one : Node) (f : AddFault) → f ≢ add.NoMemory → GivesFile name asked old one → FileNotGiven name old f → ⊥
  file-not one f want x h =
      not-given (MayGive names name files) (NotAdded names files name) (file-apart names files name) (file-why names files name) old.node f want x.given.idle x.first
      (not-used (is_used old) _ _ x.idle h)

  files-why : (f g : AddFault) → f ≢ add.NoMemory → g ≢ add.NoMemory → FileNotGiven name old f → FileNotGiven name old g → f ≡ g
  files-why f g nf ng x y =
      used-why (is_used old) f g _ _
      (λ u v. given-why (MayGive names name files) (NotAdded names files name) (file-apart names files name) (file-why names files name) old.node f g nf ng u v) x y

  give-file : (one two : Node) (said more : List ℕ) (b c : Became) → HasRun old.node → b ≢ NoMemory → c ≢ NoMemory
      → DoneOr (λ became. became) (GivesFile name asked old one) (FileNotGiven name old) add_refusal (node_without_file old) one said b
      → DoneOr (λ became. became) (GivesFile name asked old two) (FileNotGiven name old) add_refusal (node_without_file old) two more c → Same one two said more b c
  give-file one two said more b c h nb nc (inl x) (inl y) =
      let t = given-one (with_new_file names name asked files) (Gives name asked) old.node one.node two.node h x.0.given y.0.given in (
        x.0.rest ∙ ap (λ (n : NodeValue). record old { node = n; given = one.given }) t.0
            ∙ ap (λ (g : Option (List ℕ)). record old { node = two.node; given = g }) (x.0.named ∙ sym y.0.named) ∙ sym y.0.rest,
        x.1 ∙ sym y.1,
        x.2 ∙ sym y.2,
        t.1,
      )
  give-file one two said more b c h nb nc (inl x) (inr y) = absurd (file-not one y.0 (add-want y.0 (λ e. nc (y.4 ∙ e))) x.0 y.1)
  give-file one two said more b c h nb nc (inr x) (inl y) = absurd (file-not two x.0 (add-want x.0 (λ e. nb (x.4 ∙ e))) y.0 x.1)
  give-file one two said more b c h nb nc (inr x) (inr y) =
      why-one add_refusal (node_without_file old) one two said more b c x.0 y.0 h
      (files-why x.0 y.0 (add-want x.0 (λ e. nb (x.4 ∙ e))) (add-want y.0 (λ e. nc (y.4 ∙ e))) x.1 y.1) (x.2, x.3, x.4) (y.2, y.3, y.4)

file-by : (o : Result Asked FileFault) (old one two : Node) (name said more : List ℕ) (b c : Became) → HasRun old.node → b ≢ NoMemory → c ≢ NoMemory
    → AddsAsked old name o one said b → AddsAsked old name o two more c → Same one two said more b c
file-by (Ok asked) old one two name said more b c h nb nc x y = give-file old name asked one two said more b c h nb nc x y
file-by (Err file_fault.BadKept) old one two name said more b c h nb nc x y = says-one ([], BadLine) old one two said more b c h x y
file-by (Err file_fault.BadAttributes) old one two name said more b c h nb nc x y =
    says-one (status_line stscode.access_refused reasons.bad_attributes, Done) (node_without_file old) one two said more b c h x y
file-by (Err file_fault.NoMemory) old one two name said more b c h nb nc x y =
    says-one (status_line stscode.access_refused reasons.bad_attributes, Done) (node_without_file old) one two said more b c h x y

-- ---- A record.

two-why : (o : Option Refusal) (v w : Refusal) → o ≡ Some v → o ≡ Some w → v ≡ w
two-why o v w e f = (let both = sym e ∙ f in cc)

none-why : (o : Option Refusal) (v : Refusal) → o ≡ None → o ≡ Some v → ⊥
none-why o v e f = (let both = sym e ∙ f in cc)

-- one index of a name
one-index : (o : Option ℕ) (i j : ℕ) → o ≡ Some i → o ≡ Some j → i ≡ j
one-index o i j e f = (let both : Some i ≡ Some j = sym e ∙ f in cc)

no-index : (o : Option ℕ) (i : ℕ) → o ≡ Some i → o ≡ None → ⊥
no-index o i e f = (let both : Some i ≡ None = sym e ∙ f in cc)

-- one name
one-name : (o : Option (List ℕ)) (x y : List ℕ) → o ≡ Some x → o ≡ Some y → x ≡ y
one-name o x y e f = (let both : Some x ≡ Some y = sym e ∙ f in cc)

module _ (v : SharedValue) (name : List ℕ) (n : ℕ) (body : List ℕ) where
  abbrev index : Option ℕ
  index = index_by v.setup.names name v.files

  abbrev May : Type 0
  May = (at : ℕ) × (index ≡ Some at) × MayStore (file_at at v.files) n body

  record-apart : (f : AddFault) → f ≢ add.NoMemory → May → RecordNotAdded v name n body f → ⊥
  record-apart add.NoFile want may h = no-index index may.0 may.1 h
  record-apart (add.Record why) want may h =
      let same : may.0 ≡ h.0 = one-index index may.0 h.0 may.1 h.1 in
      none-why _ why (subst (λ (i : ℕ). MayStore (file_at i v.files) n body) same may.2) h.2
  record-apart add.NoMemory want may h = want refl
  record-apart add.Busy want may h = absurd h
  record-apart add.FileExists want may h = absurd h

  record-why : (f g : AddFault) → f ≢ add.NoMemory → g ≢ add.NoMemory → RecordNotAdded v name n body f → RecordNotAdded v name n body g → f ≡ g
  record-why add.NoFile add.NoFile nf ng x y = refl
  record-why add.NoFile (add.Record w) nf ng x y = absurd (no-index index y.0 y.1 x)
  record-why (add.Record u) add.NoFile nf ng x y = absurd (no-index index x.0 x.1 y)
  record-why (add.Record u) (add.Record w) nf ng x y =
      let same : y.0 ≡ x.0 = one-index index y.0 x.0 y.1 x.1 in
      ap (λ (r : Refusal). add.Record r) (two-why _ u w x.2 (subst (λ (i : ℕ). StoreRefused (file_at i v.files) n body (add.Record w)) same y.2))
  record-why add.Busy g nf ng x y = absurd x
  record-why add.FileExists g nf ng x y = absurd x
  record-why add.NoMemory g nf ng x y = absurd (nf refl)
  record-why add.NoFile add.Busy nf ng x y = absurd y
  record-why add.NoFile add.FileExists nf ng x y = absurd y
  record-why add.NoFile add.NoMemory nf ng x y = absurd (ng refl)
  record-why (add.Record u) add.Busy nf ng x y = absurd y
  record-why (add.Record u) add.FileExists nf ng x y = absurd y
  record-why (add.Record u) add.NoMemory nf ng x y = absurd (ng refl)

-- why a record isn't given to the file of the last `file` line
abbrev NotGivenTo : Option (List ℕ) → NodeValue → RecordLine → AddFault → Type 0
NotGivenTo given node r f = MatchOption given (f ≡ add.NoFile) (λ name. NodeNotGiven node (RecordNotAdded node.noted.shared name r.number r.body) f)

named-why : (given : Option (List ℕ)) (name : List ℕ) (node : NodeValue) (r : RecordLine) (f : AddFault) → given ≡ Some name → NotGivenTo given node r f → NodeNotGiven node (RecordNotAdded node.noted.shared name r.number r.body) f
named-why (Some last) name node r f named h = subst (λ (l : List ℕ). NodeNotGiven node (RecordNotAdded node.noted.shared l r.number r.body) f) (let same : last ≡ name = cc in same) h
named-why None name node r f named h = absurd (let none : ⊥ = cc in none)

to-why : (given : Option (List ℕ)) (node : NodeValue) (r : RecordLine) (f g : AddFault) → f ≢ add.NoMemory → g ≢ add.NoMemory → NotGivenTo given node r f → NotGivenTo given node r g → f ≡ g
to-why None node r f g nf ng x y = x ∙ sym y
to-why (Some name) node r f g nf ng x y =
    given-why (May node.noted.shared name r.number r.body) (RecordNotAdded node.noted.shared name r.number r.body) (record-apart node.noted.shared name r.number r.body) (record-why node.noted.shared name r.number r.body) node f g nf ng x y

module _ (old : Node) (r : RecordLine) where
  record-not : (one : Node) (f : AddFault) → f ≢ add.NoMemory → GivesNext r old one → RecordNotGiven r old f → ⊥
  record-not one f want x h =
      let v = old.node.noted.shared in
      not-given (May v x.name r.number r.body) (RecordNotAdded v x.name r.number r.body) (record-apart v x.name r.number r.body) (record-why v x.name r.number r.body) old.node f want x.given.2.1.idle
      (x.given.0, x.given.1, x.given.2.0) (named-why old.given x.name old.node r f x.named (not-used (is_used old) _ _ x.idle h))

  records-why : (f g : AddFault) → f ≢ add.NoMemory → g ≢ add.NoMemory → RecordNotGiven r old f → RecordNotGiven r old g → f ≡ g
  records-why f g nf ng x y = used-why (is_used old) f g _ _ (to-why old.given old.node r f g nf ng) x y

  record-one : (one two : Node) (said more : List ℕ) (b c : Became) → HasRun old.node → b ≢ NoMemory → c ≢ NoMemory → AddsRecordTo old r one said b → AddsRecordTo old r two more c → Same one two said more b c
  record-one one two said more b c h nb nc (inl x) (inl y) =
      let v = old.node.noted.shared in
      let name : y.0.name ≡ x.0.name = one-name old.given y.0.name x.0.name y.0.named x.0.named in
      let there : GivesRecordTo x.0.name r.number r.body old.node two.node = subst (λ (l : List ℕ). GivesRecordTo l r.number r.body old.node two.node) name y.0.given in
      let at : there.0 ≡ x.0.given.0 = one-index (index_by v.setup.names x.0.name v.files) there.0 x.0.given.0 there.1 x.0.given.1 in
      let made : GivenTo (with_record_at x.0.given.0 r.number r.body v.files) (GivesRecord x.0.given.0 r.number r.body) old.node two.node =
      subst (λ (i : ℕ). GivenTo (with_record_at i r.number r.body v.files) (GivesRecord i r.number r.body) old.node two.node) at there.2.1 in
      let t = given-one (with_record_at x.0.given.0 r.number r.body v.files) (GivesRecord x.0.given.0 r.number r.body) old.node one.node two.node h x.0.given.2.1 made in
      (x.0.rest ∙ ap (λ (n : NodeValue). record old { node = n }) t.0 ∙ sym y.0.rest, x.1 ∙ sym y.1, x.2 ∙ sym y.2, t.1)
  record-one one two said more b c h nb nc (inl x) (inr y) = absurd (record-not one y.0 (add-want y.0 (λ e. nc (y.4 ∙ e))) x.0 y.1)
  record-one one two said more b c h nb nc (inr x) (inl y) = absurd (record-not two x.0 (add-want x.0 (λ e. nb (x.4 ∙ e))) y.0 x.1)
  record-one one two said more b c h nb nc (inr x) (inr y) =
      why-one add_refusal old one two said more b c x.0 y.0 h
      (records-why x.0 y.0 (add-want x.0 (λ e. nb (x.4 ∙ e))) (add-want y.0 (λ e. nc (y.4 ∙ e))) x.1 y.1) (x.2, x.3, x.4) (y.2, y.3, y.4)

-- ---- A file that is dropped.

module _ (old : Node) (name : List ℕ) where
  abbrev shared : SharedValue
  shared = old.node.noted.shared

  abbrev at-name : Option ℕ
  at-name = index_by shared.setup.names name shared.files

  drop-not : (one : Node) (f : RemoveFault) → DropsNamedFile name old one → NotRemoved shared name f → ⊥
  drop-not one removing.NoFile x h = no-index at-name x.drops.0 x.drops.1 h
  drop-not one removing.Busy x h =
      let same : h.0 ≡ x.drops.0 = one-index at-name h.0 x.drops.0 h.1 x.drops.1 in
      true≢false (sym (subst (λ (i : ℕ). is_held i shared.sessions ≡ true) same h.2) ∙ x.drops.2.closed)

  drop-why : (f g : RemoveFault) → NotRemoved shared name f → NotRemoved shared name g → f ≡ g
  drop-why removing.NoFile removing.NoFile x y = refl
  drop-why removing.NoFile removing.Busy x y = absurd (no-index at-name y.0 y.1 x)
  drop-why removing.Busy removing.NoFile x y = absurd (no-index at-name x.0 x.1 y)
  drop-why removing.Busy removing.Busy x y = refl

  drop-one : (one two : Node) (said more : List ℕ) (b c : Became) → HasRun old.node → DropsFile old name one said b → DropsFile old name two more c → Same one two said more b c
  drop-one one two said more b c h (inl x) (inl y) =
      let same : y.0.drops.0 ≡ x.0.drops.0 = one-index at-name y.0.drops.0 x.0.drops.0 y.0.drops.1 x.0.drops.1 in
      let d : SharedDrops x.0.drops.0 shared two.node.noted.shared = subst (λ (i : ℕ). SharedDrops i shared two.node.noted.shared) same y.0.drops.2 in
      let after = x.0.drops.2.stands h.0 h.1 h.2 in
      let one-shared = shared_one h.0 (h.1 ++ Drops x.0.drops.0 ∷ []) one.node.noted.shared two.node.noted.shared (x.0.drops.2.same_setup ∙ sym d.same_setup)
      (ap length (x.0.drops.2.sessions ∙ sym d.sessions)) after (d.stands h.0 h.1 h.2) in
      let noted : one.node.noted ≡ two.node.noted = x.0.notes ∙ ap (λ (s : SharedValue). record old.node.noted { shared = s }) one-shared ∙ sym y.0.notes in
      let node = node-parts one.node two.node noted (x.0.ports ∙ sym y.0.ports) in (
        x.0.rest ∙ ap (λ (n : NodeValue). record old { node = n; given = one.given }) node
            ∙ ap (λ (g : Option (List ℕ)). record old { node = two.node; given = g }) (x.0.given ∙ sym y.0.given) ∙ sym y.0.rest,
        x.1 ∙ sym y.1,
        x.2 ∙ sym y.2,
        (h.0, h.1 ++ Drops x.0.drops.0 ∷ [], after, subst AllSent (sym x.0.ports) h.3),
      )
  drop-one one two said more b c h (inl x) (inr y) = absurd (drop-not one y.0 x.0 y.1)
  drop-one one two said more b c h (inr x) (inl y) = absurd (drop-not two x.0 y.0 x.1)
  drop-one one two said more b c h (inr x) (inr y) = why-one remove_refusal old one two said more b c x.0 y.0 h (drop-why x.0 y.0 x.1 y.1) (x.2, x.3, x.4) (y.2, y.3, y.4)

-- ---- A packet's line says bytes.

abbrev Fits : Option NodeOrder → Type 0
Fits (Some (order.Packet bytes)) = AreBytes bytes
Fits _ = Unit {0}

packet-fits : (o : Option (List ℕ)) → HexFits o → Fits (option_map order.Packet o)
packet-fits None h = tt
packet-fits (Some bytes) h = h

map-fits : {X : Type 0} (of : X → NodeOrder) → ((x : X) → Fits (Some (of x))) → (o : Option X) → Fits (option_map of o)
map-fits of h None = tt
map-fits of h (Some x) = h x

-- the one word of a packet
alone-fits : (words : Words) → HexFits (hex_alone words)
alone-fits = field_fits HexFits tt hex_of ends (λ w bytes read more. ends_fit HexFits tt bytes more (subst HexFits read (hex_fits w)))

packet-form : (words : Words) → Fits (option_map order.Packet (hex_alone words))
packet-form words = packet-fits (hex_alone words) (alone-fits words)

filing-fits : (line : List ℕ) → AllFit Fits tt (filing_forms line)
filing-fits line =
    also Fits tt _ _ (form_fits Fits tt (codes "files") (ends order.Files) (λ words. ends_fit Fits tt order.Files words tt))
    (also Fits tt _ _ (form_fits Fits tt (codes "file") (λ words. option_map order.File (file_line_of line)) (λ words. map-fits order.File (λ file. tt) (file_line_of line)))
    (also Fits tt _ _ (form_fits Fits tt [] (λ words. option_map order.Record (record_line_of line)) (λ words. map-fits order.Record (λ r. tt) (record_line_of line)))
    (also Fits tt _ _ (form_fits Fits tt (codes "drop") (λ words. option_map order.Drop (text_alone words)) (λ words. map-fits order.Drop (λ name. tt) (text_alone words)))
    (none_fit Fits tt))))

one-line-fits : (line : List ℕ) → Fits (one_order_of line)
one-line-fits line = all_fit Fits tt _
    (also Fits tt _ _ (form_fits Fits tt (codes ">") (λ words. option_map order.Packet (hex_alone words)) packet-form)
    (also Fits tt _ _ (form_fits Fits tt (codes "resend") (ends (order.Resend None)) (λ words. ends_fit Fits tt (order.Resend None) words tt))
    (also Fits tt _ _ (form_fits Fits tt (codes "ack") (ends (order.Ack None)) (λ words. ends_fit Fits tt (order.Ack None) words tt))
    (also Fits tt _ _ (form_fits Fits tt (codes "new") (λ words. option_map order.Renew (anew_of words)) (λ words. map-fits order.Renew (λ anew. tt) (anew_of words)))
    (filing-fits line))))) (words_of line)

links-line-fits : (line : List ℕ) → Fits (links_order_of line)
links-line-fits line = all_fit Fits tt _
    (also Fits tt _ _ (form_fits Fits tt (codes ">") (λ words. option_map order.Packet (hex_alone words)) packet-form)
    (also Fits tt _ _ (form_fits Fits tt (codes "resend") (λ words. option_map (λ local. order.Resend (Some local)) (address_alone words)) (λ words. map-fits (λ local. order.Resend (Some local)) (λ local. tt) (address_alone words)))
    (also Fits tt _ _ (form_fits Fits tt (codes "ack") (λ words. option_map (λ local. order.Ack (Some local)) (address_alone words)) (λ words. map-fits (λ local. order.Ack (Some local)) (λ local. tt) (address_alone words)))
    (also Fits tt _ _ (form_fits Fits tt (codes "close") (λ words. option_map order.Close (address_alone words)) (λ words. map-fits order.Close (λ local. tt) (address_alone words)))
    (also Fits tt _ _ (form_fits Fits tt (codes "new") (λ words. option_map order.New (between_of words)) (λ words. map-fits order.New (λ between. tt) (between_of words)))
    (filing-fits line)))))) (words_of line)

line-fits : (alone : Bool) (line : List ℕ) → Fits (node_order_of alone line)
line-fits true line = one-line-fits line
line-fits false line = links-line-fits line

-- ---- A line.

does-one : (o : NodeOrder) (old one two : Node) (said more : List ℕ) (b c : Became) → Fits (Some o) → HasRun old.node → b ≢ NoMemory → c ≢ NoMemory → NodeDoes old o one said b → NodeDoes old o two more c → Same one two said more b c
does-one (order.Packet bytes) old one two said more b c fits h nb nc x y = packet-one (one_link old.node.ports) old one two bytes said more b c fits h nb nc x y
does-one (order.Resend local) old one two said more b c fits h nb nc x y = resend-one local old one two said more b c h nb nc x y
does-one (order.Ack local) old one two said more b c fits h nb nc x y = ack-line-one local old one two said more b c h x y
does-one (order.Close local) old one two said more b c fits h nb nc x y = close-one local old one two said more b c h x y
does-one (order.Renew anew) old one two said more b c fits h nb nc x y =
    local-by (one_link old.node.ports) old one two said more b c _ _ h x y (λ link u v. renew-on-one link anew old one two said more b c h nb nc u v)
does-one (order.New between) old one two said more b c fits h nb nc x y =
    renew-by (position (has_local between.local) old.node.ports) between old one two said more b c h nb nc x y
does-one order.Files old one two said more b c fits h nb nc x y =
    let listed = comes_one (files_lines old.node.noted.shared.files) said more b c nb nc x.1 y.1 in
    (x.0 ∙ sym y.0, listed.0, listed.1, subst (λ (n : Node). HasRun n.node) (sym x.0) h)
does-one (order.File file) old one two said more b c fits h nb nc x y =
    let same : y.0 ≡ x.0 = one-asked file x.0 y.0 x.1 y.1 in
    file-by x.0 old one two file.name said more b c h nb nc x.2 (subst (λ (r : Result Asked FileFault). AddsAsked old file.name r two more c) same y.2)
does-one (order.Record r) old one two said more b c fits h nb nc x y = record-one old r one two said more b c h nb nc x y
does-one (order.Drop name) old one two said more b c fits h nb nc x y = drop-one old name one two said more b c h x y

order-one : (o : Option NodeOrder) (old one two : Node) (said more : List ℕ) (b c : Became) → Fits o → HasRun old.node → b ≢ NoMemory → c ≢ NoMemory → DoesNodeOrder old o one said b → DoesNodeOrder old o two more c → Same one two said more b c
order-one None old one two said more b c fits h nb nc x y = (x.0 ∙ sym y.0, x.1 ∙ sym y.1, x.2 ∙ sym y.2, subst (λ (n : Node). HasRun n.node) (sym x.0) h)
order-one (Some o) old one two said more b c fits h nb nc (inl x) (inl y) = does-one o old one two said more b c fits h nb nc x y
order-one (Some o) old one two said more b c fits h nb nc (inl x) (inr y) = absurd (nc y.2)
order-one (Some o) old one two said more b c fits h nb nc (inr x) y = absurd (nb x.2)

-- nodes of one value, before a line
begun-one : (one other : Node) → AreSameNodes one other → before_line one ≡ before_line other
begun-one one other same =
    ap (λ (n : NodeValue). record (before_line one) { node = n; last = one_link n.ports }) same.0
    ∙ ap (λ (s : ServerSetup). record (before_line one) { node = other.node; last = one_link other.node.ports; own = s }) same.1
    ∙ ap (λ (s : LinkSetup). record (before_line one) { node = other.node; last = one_link other.node.ports; own = other.own; usual = s }) same.2
    ∙ ap (λ (n : ℕ). record (before_line one) { node = other.node; last = one_link other.node.ports; own = other.own; usual = other.usual; most_waiting = n }) same.3
    ∙ ap (λ (u : List Bool). record (before_line one) { node = other.node; last = one_link other.node.ports; own = other.own; usual = other.usual; most_waiting = other.most_waiting; used = u }) same.5
    ∙ ap (λ (g : Option (List ℕ)). record (before_line one) { node = other.node; last = one_link other.node.ports; own = other.own; usual = other.usual; most_waiting = other.most_waiting; used = other.used; given = g }) same.6

-- what is one in both
parts-of : (one two : Node) → one ≡ two → HasRun one.node → AreSameNodes one two
parts-of one two e h = (
  ap (λ (n : Node). n.node) e,
  ap (λ (n : Node). n.own) e,
  ap (λ (n : Node). n.usual) e,
  ap (λ (n : Node). n.most_waiting) e,
  ap (λ (n : Node). n.last) e,
  ap (λ (n : Node). n.used) e,
  ap (λ (n : Node). n.given) e,
  h,
)

node-answers : (one other new end : Node) (line said more : List ℕ) (b c : Became) → AreSameNodes one other → b ≢ NoMemory → c ≢ NoMemory → answered one (Some line) new said b → answered other (Some line) end more c
    → AreSameNodes new end × (said ≡ more) × (b ≡ c)
node-answers one other new end line said more b c same nb nc x y =
    let alone = subst (λ (v : NodeValue). DoesNodeOrder (before_line other) (node_order_of (is_alone v) line) end more c) (sym same.0) y in
    let there = subst (λ (n : Node). DoesNodeOrder n (node_order_of (is_alone one.node) line) end more c) (sym (begun-one one other same)) alone in
    let t = order-one (node_order_of (is_alone one.node) line) (before_line one) new end said more b c (line-fits (is_alone one.node) line) same.7 nb nc x there in
    (parts-of new end t.0 t.3, t.1, t.2)

-- and after a line that they miss
node-misses : (one other new end : Node) (said more : List ℕ) (b c : Became) → AreSameNodes one other → answered one None new said b → answered other None end more c → AreSameNodes new end
node-misses one other new end said more b c same x y =
    parts-of new end (x ∙ begun-one one other same ∙ sym y) (subst (λ (n : Node). HasRun n.node) (sym x) same.7)

-- both wait for as many packets
waits-one : (one other : Node) → AreSameNodes one other → waiting one ≡ waiting other
waits-one one other same =
    ap (λ (n : ℕ). Some n)
    (ap (λ (v : NodeValue). waits_on one.most_waiting one.last v) same.0 ∙ ap (λ (n : ℕ). waits_on n one.last other.node) same.3
    ∙ ap (λ (l : Option ℕ). waits_on other.most_waiting l other.node) same.4)

pub node_text : HaveOneText answered waiting AreSameNodes
node_text = one_text answered waiting AreSameNodes (one_answer answered waiting AreSameNodes node-answers node-misses waits-one)

-- ---- A new node.

none-there : (links j : ℕ) (p : PortValue) → slice_get (replicate links None) j ≡ Some (Some p) → ⊥
none-there zero j p e = cc
none-there (suc links) zero p e = cc
none-there (suc links) (suc j) p e = none-there links j p e

none-run : (links : ℕ) → AllSent (replicate links None)
none-run links = λ j p e. absurd (none-there links j p e)

only-run : (usual : LinkSetup) (j : ℕ) (p : PortValue) → slice_get (Some (new_port usual) ∷ []) j ≡ Some (Some p) → HasSent p.link
only-run usual zero p e = new-sent usual p (let same : Some (new_port usual) ≡ Some p = cc in same)
only-run usual (suc j) p e = (let none : ⊥ = cc in absurd none)

first-run : (is-one : Bool) (links : ℕ) (usual : LinkSetup) → AllSent (if is-one then Some (new_port usual) ∷ [] else replicate links None)
first-run true links usual = only-run usual
first-run false links usual = none-run links

-- new nodes that are set up alike
pub new_node : (own : ServerSetup) (links : ℕ) (usual : LinkSetup) (most : ℕ) (one other : Node) → IsNewNode own links usual most one → IsNewNode own links usual most other → AreSameNodes one other
new_node own links usual most one other x y =
    let shared = shared_one [] (first_events links) one.node.noted.shared other.node.noted.shared (x.setup ∙ sym y.setup) (x.sessions ∙ sym y.sessions) x.stands y.stands in
    let noted = noted_parts one.node.noted other.node.noted shared (x.addresses ∙ sym y.addresses) (x.locked ∙ sym y.locked) in (
      node-parts one.node other.node noted (x.ports ∙ sym y.ports),
      x.its ∙ sym y.its,
      x.is_usual ∙ sym y.is_usual,
      x.most_waiting ∙ sym y.most_waiting,
      x.last ∙ sym y.last,
      x.used ∙ sym y.used,
      x.given ∙ sym y.given,
      ([], first_events links, x.stands, subst AllSent (sym x.ports) (first-run (links == 1) links usual)),
    )
