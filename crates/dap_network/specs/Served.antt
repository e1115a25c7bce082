-- What a serving node did, whoever its peers are: the law `any_peers_are_served`.
use Rattle.std.specs.Prelude.{◌≡◌, ℕ, ◌+◌, ◌==◌, if◌then◌else◌, List, [], ◌∷◌, ◌++◌, length, map}
use Rattle.std.specs.List.{AllByRecursion}
use Rattle.nsp_seg.specs.declared.packet.Packet.TheVariants.{Segment}
use Rattle.nsp_seg.specs.declared.packet.SegmentFields.{SegmentFields}
use Rattle.nsp_seg.specs.Packets.{Spells}
use Rattle.nsp_link.specs.Coming.{nothing_came, with_all_taken}
use Rattle.nsp_link.specs.Cutting.{Piece}
use Rattle.nsp_link.specs.Link.{LinkValue, Sends, piece_of}
use Rattle.nsp_link.specs.Receiving.{segment_number}
use Rattle.dap_msg.specs.declared.items.Item.{Item}
use Rattle.dap_msg.specs.Blocked.{Blocked, NspMessage, all_joined}
use Rattle.dap_accessed.specs.Apart.{NamesAreApart}
use Rattle.dap_accessed.specs.declared.setup.ServerSetup.{ServerSetup}
use Rattle.dap_accessed.specs.Setup.{all_rights}
use Rattle.dap_accessed.specs.Sound.{AreFiles}
use Rattle.dap_accessed.specs.Standing.{Files}
use Rattle.dap_shared.specs.Nodes.{Begins, Drops, Event, FilesAfter, Gives, GivesRecord, Serves, added_on, items_on, limit_on}
use Rattle.dap_end.specs.Going.{AreFrontOf, GoneThrough}
use Rattle.dap_end.specs.Headline.{AreWrittenOf, Arrival, IsFromPeer, WrittenPacket}
use Rattle.dap_end.specs.Node.{HasPort, NodeValue}
use Rattle.dap_end.specs.Ports.{PortValue}
use Rattle.dap_network.specs.Happening.{GotFile, GotRecord, GotLink, LostLink, LostFile, NodeEvent, NodeStepped, PacketCame, Continued, WroteAgain, came_on, wrote_on}

-- ---- The order in which all was served.

-- What an event adds to a history. Where the node goes on, on a link, that is some items of this link.
abbrev pub AddsTo : NodeEvent → List Event → Type 0
AddsTo (PacketCame link c) told = told ≡ []
AddsTo (Continued link wrote) told = (items : List Item) × (told ≡ map (Serves link) items)
AddsTo (WroteAgain link index w) told = told ≡ []
AddsTo (GotLink link setup most) told = told ≡ Begins link most ∷ []
AddsTo (LostLink link) told = told ≡ Begins link all_rights ∷ []
AddsTo (GotFile name asked) told = told ≡ Gives name asked ∷ []
AddsTo (GotRecord at number body) told = told ≡ GivesRecord at number body ∷ []
AddsTo (LostFile at) told = told ≡ Drops at ∷ []

-- the history of all these events, in their order
abbrev pub IsOrder : List NodeEvent → List Event → Type 0
IsOrder [] history = history ≡ []
IsOrder (event ∷ events) history = (told rest : List Event) × (history ≡ told ++ rest) × AddsTo event told × IsOrder events rest

-- ---- The segments that came.

-- one of these packets, by its own addresses or others, is the segment of this number, as the link then counted
pub record CameAs (came : List Arrival) (number : ℕ) (piece : Piece) : Type 0 where
  pub before : LinkValue
  pub bytes : List ℕ
  pub front : List Arrival
  pub back : List Arrival
  pub there : came ≡ front ++ (before, bytes) ∷ back
  pub segment : SegmentFields
  pub spelled : Spells (Segment segment) bytes
  pub numbered : segment_number before segment.number ≡ number
  pub is : piece ≡ piece_of segment

-- segments from a number on, each of which came
abbrev pub EachCame : List Arrival → (from : ℕ) → List Piece → Type 0
EachCame came from [] = Unit {0}
EachCame came from (piece ∷ pieces) = CameAs came from piece × EachCame came (from + 1) pieces

-- The NSP messages that left the link, those that wait and the one that is begun are made of the segments 1, 2, .. that
-- came, each once and in order. What is held came under its number.
pub record IsMadeOf (came : List Arrival) (link : LinkValue) (given : List (List ℕ)) : Type 0 where
  pub pieces : List Piece
  pub all : EachCame came 1 pieces
  pub taken : with_all_taken nothing_came pieces ≡ record link.coming { inbox = given ++ link.coming.inbox }
  pub held : AllByRecursion (λ h. CameAs came h.0 h.1) link.held

-- ---- The answers, as NSP messages.

-- The answers to each item of a link since it began, joined within the limit that its peer had then, where these were
-- there before and this is the history so far.
abbrev pub blocked_since : (own : ServerSetup) (first : Files) (links link : ℕ) → (before : List NspMessage) → (past later : List Event) → List NspMessage
blocked_since own first links link before past [] = before
blocked_since own first links link before past (Serves other item ∷ later) =
    blocked_since own first links link
    (if other == link then before ++ Blocked (limit_on link own first links past) (added_on link own first links past item) else before)
    (past ++ Serves other item ∷ []) later
blocked_since own first links link before past (Begins other most ∷ later) =
    blocked_since own first links link (if other == link then [] else before) (past ++ Begins other most ∷ []) later
blocked_since own first links link before past (event ∷ later) = blocked_since own first links link before (past ++ event ∷ []) later

-- the answers on a link since it began, as NSP messages, in order
abbrev pub BlockedOn : (link : ℕ) → ServerSetup → Files → (links : ℕ) → List Event → List NspMessage
BlockedOn link own first links history = blocked_since own first links link [] [] history

-- ---- What holds.

-- Of a link that is there, whoever its peer is: since it began these packets came on it, and these were written.
pub record LinkIsServed (own : ServerSetup) (first : Files) (links link : ℕ) (history : List Event) (came : List Arrival) (wrote : List WrittenPacket) (port : PortValue) : Type 0 where
  pub given : List (List ℕ)  -- the NSP messages that were served whole
  pub handed : List (List ℕ)  -- the NSP messages that were passed on to the link
  -- its NSP messages are those that its own segments make
  pub made : IsMadeOf came port.link given
  -- what was served are their items: all of those that were served whole, and a front of the next one's
  pub spelled : GoneThrough given port.link.coming.inbox port.offset (items_on link history)
  -- what was passed on to the link, and what waits, are the answers that the history gives on this link, in order
  pub answered : handed ++ port.outbox ≡ all_joined (BlockedOn link own first links history)
  pub sends : Sends port.link handed
  -- each packet that was written has its segment of that
  pub carried : AreWrittenOf port.link handed wrote
  -- Where the packets that came are those of one peer that keeps the rules, lost, repeated and reordered as they may
  -- be, what was served are the first items of what it sends, each once and in order.
  pub in_order : (size : ℕ) (messages : List (List ℕ)) → AllByRecursion (λ c. IsFromPeer size messages c.0 c.1) came → AreFrontOf messages (items_on link history)

-- The files of this node are those after what happened so far, by this history, and each link that is there was served
-- by it.
pub record AreServed (own : ServerSetup) (first : Files) (links : ℕ) (done : List NodeEvent) (past : List Event) (node : NodeValue) : Type 0 where
  pub files : node.noted.shared.files ≡ FilesAfter own first links past
  pub each : (link : ℕ) (port : PortValue) → HasPort link node port → LinkIsServed own first links link past (came_on link done) (wrote_on link done) port

-- There is one history of all that happened, in that order, by which the node served. Where the files at first obeyed
-- their shapes and had different names, as the node compares names, so do those that are there.
pub record NodeIsServed (first : Files) (events : List NodeEvent) (node : NodeValue) : Type 0 where
  pub history : List Event
  pub in_order : IsOrder events history
  pub served : AreServed node.noted.shared.setup first (length node.noted.shared.sessions) events history node
  pub files_sound : AreFiles first → AreFiles node.noted.shared.files
  pub names_apart : NamesAreApart node.noted.shared.setup.names first → NamesAreApart node.noted.shared.setup.names node.noted.shared.files

-- ---- At every moment.

-- There is one history, to which each event adds, and of which all of this holds before and after each: so also of
-- links that ended since.
abbrev pub IsServedAlong : (own : ServerSetup) (first : Files) (links : ℕ) → (done : List NodeEvent) (past : List Event) → NodeValue → List NodeEvent → NodeValue → Type 0
IsServedAlong own first links done past old [] new = AreServed own first links done past old × (new ≡ old)
IsServedAlong own first links done past old (event ∷ events) new =
    AreServed own first links done past old
    × (told : List Event) × (mid : NodeValue) × AddsTo event told × NodeStepped old event mid × IsServedAlong own first links (done ++ event ∷ []) (past ++ told) mid events new
