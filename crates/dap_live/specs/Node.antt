-- What a server does by a line, and what it answers. A line concerns one link, or none; where there is room for one
-- link alone, that link.
use Rattle.std.specs.Prelude.{◌≡◌, ◌⊎◌, ◌++◌, ◌==◌, Bool, false, true, ℕ, bytes_eq, length, MatchBool, MatchOption, MatchResult, List, [], ◌∷◌, codes, replicate, set, slice_get, if◌then◌else◌, Option, Some, None, Result, Ok, Err}
use Rattle.std.specs.List.{list_any, position}
use Rattle.rec_file.specs.declared.picks.Rights.{Rights}
use Rattle.nsp_seg.specs.declared.packet.Packet.{Packet}
use Rattle.nsp_seg.specs.declared.packet.Packet.TheVariants.{Segment, DataAck}
use Rattle.nsp_seg.specs.declared.packet.SegFault.{SegFault}
use Rattle.nsp_seg.specs.Packets.{HasFault, Spells}
use Rattle.nsp_link.specs.declared.link.Got.{Got}
use Rattle.nsp_link.specs.declared.link.LinkSetup.{LinkSetup}
use Rattle.nsp_link.specs.declared.fault.LinkFault.{LinkFault}
use Rattle.nsp_link.specs.declared.fault.LinkFault.TheVariants as fault
use Rattle.nsp_link.specs.Link.{IsSetup, LinkValue, Sends, SetupFault}
use Rattle.dap_msg.specs.Codes.{stscode, reasons}
use Rattle.dap_accessed.specs.declared.fault.AddFault.{AddFault}
use Rattle.dap_accessed.specs.declared.fault.AddFault.TheVariants as add
use Rattle.dap_accessed.specs.declared.setup.Names.{Names}
use Rattle.dap_accessed.specs.declared.setup.Names.TheVariants.{Exact}
use Rattle.dap_accessed.specs.declared.setup.ServerSetup.{ServerSetup}
use Rattle.dap_accessed.specs.Adding.{MayGive, MayStore, with_new_file}
use Rattle.dap_accessed.specs.declared.asked.Asked.{Asked}
use Rattle.dap_accessed.specs.Setup.{all_rights}
use Rattle.dap_accessed.specs.Standing.{Files, file_at}
use Rattle.dap_accessed.specs.Naming.{is_alike}
use Rattle.dap_shared.specs.Nodes.{Begins, Event, Gives, GivesRecord, with_record_at}
use Rattle.dap_shared.specs.Shared.{AtFile, NotAdded, NotRemoved, RecordNotAdded, SharedAfter, SharedDrops, SharedGiven, rights_on}
use Rattle.dap_end.specs.declared.fault.EndFault.{EndFault}
use Rattle.dap_end.specs.declared.fault.TakeFault.{TakeFault}
use Rattle.dap_end.specs.declared.fault.TakeFault.TheVariants as take
use Rattle.dap_end.specs.Ports.{PortValue, new_port}
use Rattle.dap_end.specs.Node.{AtPort, BeganOn, EndedOn, HasPort, NodeNotGiven, NodeValue, NoneHasCome, OnLink, has_local, is_between, is_free_link, serves_on}
use Rattle.dap_end.specs.Turns.{TakesPacket, WentOn}
use Rattle.dap_text.specs.declared.fault.FileFault.{FileFault}
use Rattle.dap_text.specs.declared.fault.FileFault.TheVariants as file_fault
use Rattle.dap_text.specs.declared.filed.FileLine.{FileLine}
use Rattle.dap_text.specs.declared.filed.RecordLine.{RecordLine}
use Rattle.dap_text.specs.declared.tables.FilesCursor.{FilesCursor}
use Rattle.dap_text.specs.Kept.{LineAsks}
use Rattle.dap_text.specs.Tables.{files_lines, lines_from}
use Rattle.linewise.specs.Talks.{ComesIn}
use Rattle.linewise.specs.declared.talking.Became.{Became}
use Rattle.linewise.specs.declared.talking.Became.TheVariants.{Done, BadLine, NoMemory}
use Rattle.dap_live.specs.declared.node.Node.{Node}
use Rattle.dap_live.specs.declared.node_orders.NodeOrder.{NodeOrder}
use Rattle.dap_live.specs.declared.node_orders.NodeOrder.TheVariants as order
use Rattle.dap_live.specs.declared.orders.Between.{Between}
use Rattle.dap_live.specs.NodeOrders.{node_order_of}
use Rattle.dap_live.specs.Orders.{most_anew, most_beside, setup_anew, setup_beside}
use Rattle.dap_live.specs.Sending.{AllAgain, SaysAck, UnlessFailed, is_left, may_serve_next, waits_of}
use Rattle.dap_live.specs.Texts.{LineAnswer, add_refusal, done_said, link_refusal, locked_text, packets_text, refused_with, remove_refusal, status_line, taken_said}
use Rattle.dap_live.specs.Both.{DoneOr, LeavesEnd}

-- ---- A new node.

-- what became of a link that is there from the start
abbrev pub first_events : (links : ℕ) → List Event
first_events links = if links == 1 then Begins 0 all_rights ∷ [] else []

-- the links to begin with: the only one, or room for more
abbrev pub first_ports : (links : ℕ) → LinkSetup → List (Option PortValue)
first_ports links usual = if links == 1 then Some (new_port usual) ∷ [] else replicate links None

-- A node without files that is set up so, with room for this many links. Where that is one, it is there, with every
-- right and a setup in its limits.
pub record IsNewNode (own : ServerSetup) (links : ℕ) (usual : LinkSetup) (most : ℕ) (node : Node) : Type 0 where
  pub stands : SharedAfter [] (first_events links) node.node.noted.shared
  pub setup : node.node.noted.shared.setup ≡ own
  pub sessions : length node.node.noted.shared.sessions ≡ links
  pub locked : node.node.noted.locked ≡ []
  pub addresses : node.node.noted.addresses ≡ (if links == 1 then usual.local ∷ [] else replicate links 0)
  pub ports : node.node.ports ≡ first_ports links usual
  pub its : node.own ≡ own
  pub is_usual : node.usual ≡ usual
  pub only_setup : links ≡ 1 → IsSetup usual
  pub most_waiting : node.most_waiting ≡ most
  pub last : node.last ≡ (if links == 1 then Some 0 else None)
  pub used : node.used ≡ replicate links false
  pub given : node.given ≡ None

-- ---- What it came by.

-- some messages are sent on the link
abbrev pub HasSent : LinkValue → Type 0
HasSent link = (handed : List (List ℕ)) × Sends link handed

-- some history left what is kept of the links, and on each of them some messages are sent
abbrev pub HasRun : NodeValue → Type 0
HasRun v = (first : Files) × (events : List Event) × SharedAfter first events v.noted.shared
    × ((link : ℕ) (p : PortValue) → HasPort link v p → HasSent p.link)

-- ---- The link of a line.

-- the line concerns this link, and nothing else changed
abbrev pub about : (link : ℕ) → Node → Node
about link node = record node { last = Some link }

-- the line concerns this link, where it names one that is there
abbrev pub about_any : Option ℕ → Node → Node
about_any None node = node
about_any (Some link) node = about link node

-- the node is as this one, and this is answered
abbrev pub Says : LineAnswer → (base new : Node) → List ℕ → Became → Type 0
Says said base new text became = (new ≡ base) × (text ≡ said.0) × (became ≡ said.1)

-- a link is refused so, and nothing changed
abbrev pub RefusesLink : LinkFault → (base new : Node) → List ℕ → Became → Type 0
RefusesLink f = Says (link_refusal f)

-- there is room for one link alone
abbrev pub is_alone : NodeValue → Bool
is_alone v = length v.ports == 1

-- the only link, where there is room for one alone
abbrev pub one_link : List (Option PortValue) → Option ℕ
one_link (Some p ∷ []) = Some 0
one_link ports = None

-- the link that a line means: the one that has this local address; or the only one, where the line names none
abbrev pub meant : (local : Option ℕ) → List (Option PortValue) → Option ℕ
meant None ports = one_link ports
meant (Some local) ports = position (has_local local) ports

-- what is done on the link that is meant; where there is none, the line is refused as of a wrong link
abbrev pub OnMeant : Option ℕ → (Does : ℕ → Type 0) → (old new : Node) → List ℕ → Became → Type 0
OnMeant link Does old new text became = MatchOption link (RefusesLink fault.WrongLink old new text became) Does

-- a packet came on the link that it didn't refuse
abbrev pub used_by : Result Got TakeFault → (link : ℕ) → List Bool → List Bool
used_by (Err (take.Refused f)) link used = used
used_by _ link used = set used link true

-- such a packet came on some link since it began
abbrev pub is_used : Node → Bool
is_used node = list_any (λ used. used) node.used

-- ---- A packet.

-- whom a packet is sent to
abbrev pub receiver_of : Packet → ℕ
receiver_of (Segment s) = s.dst
receiver_of (DataAck a) = a.dst

-- whom it is from
abbrev pub sender_of : Packet → ℕ
sender_of (Segment s) = s.src
sender_of (DataAck a) = a.src

-- The link of a packet, by its addresses; or the bytes are none, or of no link.
abbrev pub FindsLink : List (Option PortValue) → List ℕ → Result ℕ LinkFault → Type 0
FindsLink ports bytes (Ok link) = (p : Packet) × Spells p bytes × (position (is_between (receiver_of p) (sender_of p)) ports ≡ Some link)
FindsLink ports bytes (Err f) =
    ((why : SegFault) × HasFault why bytes × (f ≡ fault.Malformed why))
    ⊎ ((p : Packet) × Spells p bytes × (position (is_between (receiver_of p) (sender_of p)) ports ≡ None) × (f ≡ fault.WrongLink))

-- A packet was received on a link, and all was done that it lets the node do there; or the link refuses it.
pub record TakesOn (link : ℕ) (old : Node) (bytes : List ℕ) (new : Node) (text : List ℕ) (became : Became) : Type 0 where
  pub taken : Result Got TakeFault
  pub packets : List (List ℕ)
  pub took : OnLink link (λ before after. TakesPacket (serves_on link old.most_waiting) before after bytes [] packets taken) old.node new.node
  pub rest : new ≡ record (about link old) { node = new.node; used = new.used }
  pub used : new.used ≡ used_by taken link old.used
  pub says : text ≡ (taken_said taken (locked_text new.node.noted.locked) packets).0
  pub ended : became ≡ (taken_said taken (locked_text new.node.noted.locked) packets).1

-- a packet on the link that it is of by its addresses, or refused where there is none
abbrev pub TakesPacketBy : Node → List ℕ → Node → List ℕ → Became → Type 0
TakesPacketBy old bytes new text became = (found : Result ℕ LinkFault) × FindsLink old.node.ports bytes found
    × MatchResult found (λ link. TakesOn link old bytes new text became) (λ f. RefusesLink f old new text became)

-- a packet on the only link there is room for, or on the one that it is of by its addresses
abbrev pub TakesPacketOf : Node → List ℕ → Node → List ℕ → Became → Type 0
TakesPacketOf old bytes new text became =
    MatchOption (one_link old.node.ports) (TakesPacketBy old bytes new text became) (λ link. TakesOn link old bytes new text became)

-- ---- Going on.

-- apart from memory, the node would do something by going on with this link
abbrev pub is_work_left_at : (most : ℕ) → PortValue → Bool
is_work_left_at most p = is_left p.link p.outbox (may_serve_next most p.link)

-- what the node answers by going on with a link, after this text
pub record GoesOnWith (link : ℕ) (old : Node) (front : List ℕ) (new : Node) (text : List ℕ) (became : Became) : Type 0 where
  pub gone : Result (Unit {0}) EndFault
  pub packets : List (List ℕ)
  pub went : OnLink link (λ before after. WentOn (serves_on link old.most_waiting) before after [] packets gone) old.node new.node
  pub rest : new ≡ record (about link old) { node = new.node }
  pub says : text ≡ front ++ (done_said (locked_text new.node.noted.locked) packets gone).0
  pub ended : became ≡ (done_said (locked_text new.node.noted.locked) packets gone).1

-- the packets of all segments of a link that aren't acknowledged, then what going on does, if something is left
abbrev pub ResendsOn : (link : ℕ) → PortValue → Node → Node → List ℕ → Became → Type 0
ResendsOn link port old new text became = (packets : List (List ℕ)) × AllAgain port.link packets
    × MatchBool (is_work_left_at old.most_waiting port)
    (GoesOnWith link old (packets_text packets) new text became)
    (Says (packets_text packets, Done) (about link old) new text became)

-- ---- Links that begin and end.

-- The link began with this setup and these rights, it isn't used, and the line concerns it.
pub record BeginsNow (link : ℕ) (setup : LinkSetup) (most : Rights) (old new : Node) : Type 0 where
  pub is_setup : IsSetup setup
  pub began : BeganOn link setup most old.node new.node
  pub rest : new ≡ record (about link old) { node = new.node; used = new.used }
  pub used : new.used ≡ set old.used link false

-- it began so, or that is refused
abbrev pub BeginsOn : (link : ℕ) → LinkSetup → (most : Rights) → Node → Node → List ℕ → Became → Type 0
BeginsOn link setup most old new text became =
    (BeginsNow link setup most old new × (text ≡ []) × (became ≡ Done))
    ⊎ ((f : LinkFault) × SetupFault setup f × RefusesLink f old new text became)

-- why no link is added where all are there: a bad setup comes first
abbrev pub NoLink : LinkSetup → LineAnswer → Type 0
NoLink setup said =
    ((IsSetup setup → ⊥) × (said ≡ link_refusal fault.BadSetup)) ⊎ (IsSetup setup × (said ≡ refused_with (codes "no-links")))

-- a link is added
abbrev pub AddsLink : LinkSetup → (most : Rights) → Node → Node → List ℕ → Became → Type 0
AddsLink setup most old new text became = MatchOption (position is_free_link old.node.ports)
    ((said : LineAnswer) × NoLink setup said × Says said old new text became)
    (λ link. BeginsOn link setup most old new text became)

-- The link is renewed: what isn't named is as before. The line concerns it also where that is refused.
abbrev pub RenewsOn : (link : ℕ) → Option Between → Node → Node → List ℕ → Became → Type 0
RenewsOn link anew old new text became = AtPort link old.node (λ p.
    BeginsOn link (setup_anew p.link.setup anew) (most_anew (rights_on link old.node.noted.shared) anew) (about link old) new text became)

-- the link that has this local address is renewed; or one is added, with the usual setup and every right where nothing
-- else is named
abbrev pub Renews : Between → Node → Node → List ℕ → Became → Type 0
Renews b old new text became = MatchOption (position (has_local b.local) old.node.ports)
    (AddsLink (setup_beside old.usual b) (most_beside all_rights b) old new text became)
    (λ link. RenewsOn link (Some b) old new text became)

-- The link ended, and it isn't used.
pub record EndsOn (link : ℕ) (old new : Node) : Type 0 where
  pub ended : EndedOn link old.node new.node
  pub rest : new ≡ record old { node = new.node; used = new.used }
  pub used : new.used ≡ set old.used link false

-- ---- Files that it is given.

-- no file takes records
abbrev pub node_without_file : Node → Node
node_without_file node = record node { given = None }

-- A file or record was added, these are the files now, and no link moved.
pub record GivenTo (made : Files) (event : Event) (old new : NodeValue) : Type 0 where
  pub files : new.noted.shared.files ≡ made
  pub idle : NoneHasCome old.ports
  pub given : SharedGiven event old.noted.shared new.noted.shared
  pub notes : new.noted ≡ record old.noted { shared = new.noted.shared }
  pub ports : new.ports ≡ old.ports

-- A file was added, while no link is used: it may be given under its name. The next records are added to it.
pub record GivesFile (name : List ℕ) (asked : Asked) (old new : Node) : Type 0 where
  pub idle : is_used old ≡ false
  pub first : MayGive old.node.noted.shared.setup.names name old.node.noted.shared.files
  pub given : GivenTo (with_new_file old.node.noted.shared.setup.names name asked old.node.noted.shared.files) (Gives name asked) old.node new.node
  pub named : new.given ≡ Some name
  pub rest : new ≡ record old { node = new.node; given = new.given }

-- why none was: a link is used, or the table refuses it
abbrev pub FileNotGiven : (name : List ℕ) → Node → AddFault → Type 0
FileNotGiven name node f = MatchBool (is_used node) (f ≡ add.Busy)
    (NodeNotGiven node.node (NotAdded node.node.noted.shared.setup.names node.node.noted.shared.files name) f)

-- The file is added that is asked for, or the reason why not is answered, and no file takes records. A line that says
-- something is kept which isn't is no line.
abbrev pub AddsAsked : Node → (name : List ℕ) → Result Asked FileFault → Node → List ℕ → Became → Type 0
AddsAsked old name (Ok asked) new text became =
    DoneOr (λ became. became) (GivesFile name asked old new) (FileNotGiven name old) add_refusal (node_without_file old) new text became
AddsAsked old name (Err file_fault.BadKept) new text became = Says ([], BadLine) old new text became
AddsAsked old name (Err f) new text became =
    Says (status_line stscode.access_refused reasons.bad_attributes, Done) (node_without_file old) new text became

-- the file of a line is added, by what the line asks for
abbrev pub AddsFileTo : Node → FileLine → Node → List ℕ → Became → Type 0
AddsFileTo old file new text became =
    (asks : Result Asked FileFault) × LineAsks file asks × AddsAsked old file.name asks new text became

-- a record was added to the file of this name
abbrev pub GivesRecordTo : (name : List ℕ) → (number : ℕ) → (body : List ℕ) → NodeValue → NodeValue → Type 0
GivesRecordTo name number body old new = AtFile name old.noted.shared (λ at.
    MayStore (file_at at old.noted.shared.files) number body
    × GivenTo (with_record_at at number body old.noted.shared.files) (GivesRecord at number body) old new)

-- a record for the file of the last `file` line, while no link is used
pub record GivesNext (r : RecordLine) (old new : Node) : Type 0 where
  pub idle : is_used old ≡ false
  pub name : List ℕ
  pub named : old.given ≡ Some name
  pub given : GivesRecordTo name r.number r.body old.node new.node
  pub rest : new ≡ record old { node = new.node }

-- why it isn't: a link is used, there is no such file, or the table refuses it
abbrev pub RecordNotGiven : RecordLine → Node → AddFault → Type 0
RecordNotGiven r node f = MatchBool (is_used node) (f ≡ add.Busy)
    (MatchOption node.given (f ≡ add.NoFile)
    (λ name. NodeNotGiven node.node (RecordNotAdded node.node.noted.shared name r.number r.body) f))

-- a record is added, or the reason why not is answered
abbrev pub AddsRecordTo : Node → RecordLine → Node → List ℕ → Became → Type 0
AddsRecordTo old r new text became = DoneOr (λ became. became) (GivesNext r old new) (RecordNotGiven r old) add_refusal old new text became

-- ---- A file that is dropped.

-- two names may find one file: byte by byte, or by their folds
abbrev pub may_be_one : Names → (one other : List ℕ) → Bool
may_be_one Exact one other = bytes_eq one other
may_be_one names one other = is_alike one other

-- no file takes records where that may be the one that was dropped
abbrev pub given_beside : Names → (dropped : List ℕ) → Option (List ℕ) → Option (List ℕ)
given_beside names dropped None = None
given_beside names dropped (Some given) = if may_be_one names dropped given then None else Some given

-- The file of this name was dropped: no link had it open.
pub record DropsNamedFile (name : List ℕ) (old new : Node) : Type 0 where
  pub drops : AtFile name old.node.noted.shared (λ at. SharedDrops at old.node.noted.shared new.node.noted.shared)
  pub notes : new.node.noted ≡ record old.node.noted { shared = new.node.noted.shared }
  pub ports : new.node.ports ≡ old.node.ports
  pub given : new.given ≡ given_beside old.own.names name old.given
  pub rest : new ≡ record old { node = new.node; given = new.given }

-- it is dropped, or the reason why not is answered
abbrev pub DropsFile : Node → (name : List ℕ) → Node → List ℕ → Became → Type 0
DropsFile old name new text became =
    DoneOr (λ became. became) (DropsNamedFile name old new) (NotRemoved old.node.noted.shared name) remove_refusal old new text became

-- ---- A line.

-- What the node does by each order, and its answer. It comes with the only link, or none, and then the line concerns
-- that.
abbrev pub NodeDoes : Node → NodeOrder → Node → List ℕ → Became → Type 0
NodeDoes old (order.Packet bytes) new text became = TakesPacketOf old bytes new text became
NodeDoes old (order.Resend local) new text became = OnMeant (meant local old.node.ports) (λ link. AtPort link old.node (λ p.
    UnlessFailed p.link text (LeavesEnd Done (about link old) new became) (ResendsOn link p old new text became))) old new text became
NodeDoes old (order.Ack local) new text became = OnMeant (meant local old.node.ports) (λ link. AtPort link old.node (λ p.
    LeavesEnd Done (about link old) new became × SaysAck p.link text)) old new text became
NodeDoes old (order.Close local) new text became =
    OnMeant (position (has_local local) old.node.ports)
    (λ link. EndsOn link old new × (text ≡ []) × (became ≡ Done)) old new text became
NodeDoes old (order.Renew anew) new text became = OnMeant (one_link old.node.ports) (λ link. RenewsOn link anew old new text became) old new text became
NodeDoes old (order.New between) new text became = Renews between old new text became
NodeDoes old order.Files new text became = (new ≡ old) × ComesIn (files_lines old.node.noted.shared.files) text became
NodeDoes old (order.File file) new text became = AddsFileTo old file new text became
NodeDoes old (order.Record r) new text became = AddsRecordTo old r new text became
NodeDoes old (order.Drop name) new text became = DropsFile old name new text became

-- the link that an order means before its bytes are read: those of a packet have to be read first
abbrev pub named_by : Node → NodeOrder → Option ℕ
named_by node (order.Resend local) = meant local node.node.ports
named_by node (order.Ack local) = meant local node.node.ports
named_by node (order.Renew anew) = one_link node.node.ports
named_by node (order.New between) = position (has_local between.local) node.node.ports
named_by node o = None

-- the node where an order isn't done: the line concerns the link that it means, and a file that isn't added takes no
-- records
abbrev pub node_after_refusal : Node → NodeOrder → Node
node_after_refusal old (order.File file) = node_without_file old
node_after_refusal old o = about_any (named_by old o) old

-- nothing is done
abbrev pub IsNotDone : Node → NodeOrder → Node → Type 0
IsNotDone old o new = new ≡ node_after_refusal old o

-- the node before a line, which concerns the only link, or none so far
abbrev pub before_line : Node → Node
before_line node = record node { last = one_link node.node.ports }

-- memory may be refused to an order: not where a link that is there is closed, since nothing is answered to that
abbrev pub MayWantMemory : Node → NodeOrder → Type 0
MayWantMemory old (order.Close local) = position (has_local local) old.node.ports ≡ None
MayWantMemory old o = Unit {0}

-- A line that is no order changes nothing and is a bad line. Otherwise the order is done; or memory is refused to its
-- answer, and nothing else is answered, whether it was done or not.
abbrev pub DoesNodeOrder : Node → Option NodeOrder → Node → List ℕ → Became → Type 0
DoesNodeOrder old None new text became = (new ≡ old) × (text ≡ []) × (became ≡ BadLine)
DoesNodeOrder old (Some o) new text became =
    NodeDoes old o new text became
    ⊎ ((IsNotDone old o new ⊎ ((said : List ℕ) × (came : Became) × NodeDoes old o new said came)) × (text ≡ []) × (became ≡ NoMemory) × MayWantMemory old o)

-- what a node does by a line; one that it misses changes nothing but what link a line concerns
abbrev pub answered : Node → Option (List ℕ) → Node → List ℕ → Became → Type 0
answered old None new text became = new ≡ before_line old
answered old (Some line) new text became = DoesNodeOrder (before_line old) (node_order_of (is_alone old.node) line) new text became

-- the lines of what is left to list of the files
abbrev pub pieces : Node → FilesCursor → List (List ℕ)
pieces node cursor = lines_from node.node.noted.shared.files cursor

-- the packets of a link that aren't acknowledged, and one more where something is left
abbrev pub port_waits : (most : ℕ) → Option (Option PortValue) → ℕ
port_waits most (Some (Some p)) = waits_of p.link (is_work_left_at most p)
port_waits most _ = 0

-- those of the link that the last line concerns
abbrev pub waits_on : (most : ℕ) → Option ℕ → NodeValue → ℕ
waits_on most None v = 0
waits_on most (Some link) v = port_waits most (slice_get v.ports link)

-- what `waits` returns after an answer
abbrev pub waiting : Node → Option ℕ
waiting node = Some (waits_on node.most_waiting node.last node.node)
