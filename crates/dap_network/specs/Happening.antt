-- A serving node, whoever its peers are: what happens to it, one after another.
use Rattle.std.specs.Prelude.{◌≡◌, ℕ, ◌<◌, ◌==◌, if◌then◌else◌, List, [], ◌∷◌, ◌++◌, length, map, set, Option, Some}
use Rattle.dap_accessed.specs.declared.asked.Asked.{Asked}
use Rattle.rec_file.specs.declared.picks.Rights.{Rights}
use Rattle.dap_accessed.specs.Asked.{IsAsked}
use Rattle.nsp_link.specs.declared.link.LinkSetup.{LinkSetup}
use Rattle.nsp_link.specs.Link.{IsSetup, LinkValue}
use Rattle.dap_accessed.specs.Adding.{MayGive, MayStore}
use Rattle.dap_accessed.specs.Standing.{Files, file_at}
use Rattle.dap_shared.specs.Nodes.{Gives, GivesRecord}
use Rattle.dap_shared.specs.Shared.{SharedAfter, SharedDrops, SharedGiven, SharedServed, SharedValue}
use Rattle.dap_end.specs.By.{ServedBy, ServesAt, end_with}
use Rattle.dap_end.specs.Calls.{Came, EndEvent, EndStepped, GoesOn, Repeats}
use Rattle.dap_end.specs.Headline.{Arrival, WrittenPacket}
use Rattle.dap_end.specs.Node.{BeganOn, EndedOn, HasPort, NodeValue}
use Rattle.dap_end.specs.Ports.{EndValue, HandsOver, PortValue}

-- ---- A link goes on.

-- items that came were served so, and what waited was passed on, in any order
pub data WorkedBy {P : Type 0} (serves : ServesAt P) : EndValue P → EndValue P → Type 0 where
  rests : {v : EndValue P} → WorkedBy serves v v
  serves_one : {old new : EndValue P} (mid : EndValue P) (n : ℕ) → ServedBy serves old mid n → WorkedBy serves mid new → WorkedBy serves old new
  hands_over : {old new : EndValue P} (mid : EndValue P) (n : ℕ) → HandsOver old mid n → WorkedBy serves mid new → WorkedBy serves old new

-- a port of a node, before what the node keeps of all links
abbrev pub end_of_link : PortValue → NodeValue → EndValue SharedValue
end_of_link port node = end_with port node.noted.shared

-- On a link there is an event of the node, and it writes these packets. No other port moves. What comes, comes so.
pub record LinkStepped (link : ℕ) (comes : LinkValue → List ℕ → Type 0) (old : NodeValue) (event : EndEvent) (more : List WrittenPacket) (new : NodeValue) : Type 0 where
  pub before : PortValue
  pub after : PortValue
  pub there : HasPort link old before
  pub steps : EndStepped (Unit {0}) (WorkedBy (SharedServed link)) comes (end_of_link before old) event (end_of_link after new) more
  pub ports : new.ports ≡ set old.ports link (Some after)

-- ---- What happens.

-- A packet came on a link: its bytes, and the link before it. Or items of a link were served, what waited was passed on
-- to the link, and these packets of its next segments were written, of each there may be none; or a segment of a link was
-- written again, by its index among those that aren't acknowledged, or an acknowledgement. Or a link began with a setup,
-- and the rights that an Access on it may ask for, or ended; a file without records was given, or a record of the file
-- at an index; or the file at an index was dropped.
pub data NodeEvent : Type 0 where
  PacketCame : (link : ℕ) → Arrival → NodeEvent
  Continued : (link : ℕ) → (wrote : List WrittenPacket) → NodeEvent
  WroteAgain : (link : ℕ) → (index : Option ℕ) → WrittenPacket → NodeEvent
  GotLink : (link : ℕ) → LinkSetup → (most : Rights) → NodeEvent
  LostLink : (link : ℕ) → NodeEvent
  GotFile : (name : List ℕ) → Asked → NodeEvent
  GotRecord : (at number : ℕ) → (body : List ℕ) → NodeEvent
  LostFile : (at : ℕ) → NodeEvent

-- What each of these does. Anything may come. A file may be given under its name, and be made so, and a record is one
-- that its file takes.
abbrev pub NodeStepped : NodeValue → NodeEvent → NodeValue → Type 0
NodeStepped old (PacketCame link c) new = LinkStepped link (λ v bytes. v ≡ c.0) old (Came c.1) [] new
NodeStepped old (Continued link wrote) new = LinkStepped link (λ v bytes. Unit {0}) old GoesOn wrote new
NodeStepped old (WroteAgain link index w) new = LinkStepped link (λ v bytes. Unit {0}) old (Repeats index) (w ∷ []) new
NodeStepped old (GotLink link setup most) new = IsSetup setup × BeganOn link setup most old new
NodeStepped old (LostLink link) new = EndedOn link old new
NodeStepped old (GotFile name asked) new =
    let v = old.noted.shared in
    IsAsked asked × MayGive v.setup.names name v.files × SharedGiven (Gives name asked) v new.noted.shared × (new.ports ≡ old.ports)
NodeStepped old (GotRecord at number body) new =
    let v = old.noted.shared in
    (at < length v.files) × MayStore (file_at at v.files) number body × SharedGiven (GivesRecord at number body) v new.noted.shared × (new.ports ≡ old.ports)
NodeStepped old (LostFile at) new = SharedDrops at old.noted.shared new.noted.shared × (new.ports ≡ old.ports)

-- all of it, one after another
abbrev pub NodeRuns : NodeValue → List NodeEvent → NodeValue → Type 0
NodeRuns old [] new = new ≡ old
NodeRuns old (event ∷ events) new = (mid : NodeValue) × NodeStepped old event mid × NodeRuns mid events new

-- a node with these files, of which no link is there
pub record IsNodeWithoutLinks (first : Files) (node : NodeValue) : Type 0 where
  pub shared : SharedAfter first [] node.noted.shared
  pub none : (link : ℕ) (port : PortValue) → HasPort link node port → ⊥

-- ---- What passed on a link.

-- the packets that came on a link since it began, where these came before
abbrev pub came_since : (link : ℕ) → (before : List Arrival) → List NodeEvent → List Arrival
came_since link before [] = before
came_since link before (PacketCame other c ∷ events) = came_since link (if other == link then before ++ c ∷ [] else before) events
came_since link before (GotLink other setup most ∷ events) = came_since link (if other == link then [] else before) events
came_since link before (LostLink other ∷ events) = came_since link (if other == link then [] else before) events
came_since link before (event ∷ events) = came_since link before events

-- the packets that came on a link since it began
abbrev pub came_on : ℕ → List NodeEvent → List Arrival
came_on link events = came_since link [] events

-- the packets that were written on a link since it began, where these were before
abbrev pub wrote_since : (link : ℕ) → (before : List WrittenPacket) → List NodeEvent → List WrittenPacket
wrote_since link before [] = before
wrote_since link before (Continued other wrote ∷ events) = wrote_since link (if other == link then before ++ wrote else before) events
wrote_since link before (WroteAgain other index w ∷ events) = wrote_since link (if other == link then before ++ w ∷ [] else before) events
wrote_since link before (GotLink other setup most ∷ events) = wrote_since link (if other == link then [] else before) events
wrote_since link before (LostLink other ∷ events) = wrote_since link (if other == link then [] else before) events
wrote_since link before (event ∷ events) = wrote_since link before events

-- the packets that were written on a link since it began
abbrev pub wrote_on : ℕ → List NodeEvent → List WrittenPacket
wrote_on link events = wrote_since link [] events

-- ---- What passed on all links.

-- all packets that were written, on whatever link
abbrev pub all_written : List NodeEvent → List WrittenPacket
all_written [] = []
all_written (Continued link wrote ∷ events) = wrote ++ all_written events
all_written (WroteAgain link index w ∷ events) = w ∷ all_written events
all_written (event ∷ events) = all_written events

-- the bytes of all packets that came, on whatever link
abbrev pub all_came : List NodeEvent → List (List ℕ)
all_came [] = []
all_came (PacketCame link c ∷ events) = c.1 ∷ all_came events
all_came (event ∷ events) = all_came events

-- ---- Calls on a link.

-- Whatever passed on the links before, these packets then came on this link, and these were written on it, and none on
-- another.
pub record PassedOn (link : ℕ) (came : List Arrival) (wrote : List WrittenPacket) (events : List NodeEvent) : Type 0 where
  pub came_here : (before : List Arrival) → came_since link before events ≡ before ++ came
  pub wrote_here : (before : List WrittenPacket) → wrote_since link before events ≡ before ++ wrote
  pub came_elsewhere : (other : ℕ) → (other ≡ link → ⊥) → (before : List Arrival) → came_since other before events ≡ before
  pub wrote_elsewhere : (other : ℕ) → (other ≡ link → ⊥) → (before : List WrittenPacket) → wrote_since other before events ≡ before
  pub came_all : all_came events ≡ map (λ c. c.1) came
  pub wrote_all : all_written events ≡ wrote

-- by some of these events, in which these packets came on a link and these were written
abbrev pub HappensOn : (link : ℕ) → NodeValue → List Arrival → List WrittenPacket → NodeValue → Type 0
HappensOn link old came wrote new = (events : List NodeEvent) × NodeRuns old events new × PassedOn link came wrote events
