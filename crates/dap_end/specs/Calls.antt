-- Calls of an end, one after another, as events: what they do to the end, which packets they write, and which reports
-- they make. By the laws `calls_are_runs` and `asking_calls_are_runs` each call is a run, except one in which an
-- answer is unexpected.
use Rattle.std.specs.Prelude.{◌≡◌, ◌⊎◌, ℕ, ◌+◌, ◌-◌, ◌<◌, List, [], ◌∷◌, ◌++◌, Option, Some, Result, IfSome, option_map}
use Rattle.nsp_link.specs.declared.link.Got.{Got}
use Rattle.nsp_link.specs.declared.fault.LinkFault.{LinkFault}
use Rattle.nsp_link.specs.Link.{LinkValue}
use Rattle.nsp_link.specs.Receiving.{Receives}
use Rattle.nsp_link.specs.Sending.{WritesSent}
use Rattle.dap_accessing.specs.Request.{Request}
use Rattle.dap_accessing.specs.declared.report.Report.{Report}
use Rattle.dap_end.specs.Ports.{EndValue, HandsOver}
use Rattle.dap_end.specs.Moved.{with_link}
use Rattle.dap_end.specs.Done.{ServingValue, AskingValue}
use Rattle.dap_end.specs.Serving.{ServedOne}
use Rattle.dap_end.specs.Asking.{AskedOne}
use Rattle.dap_end.specs.Hearing.{ReadOn}
use Rattle.dap_end.specs.Writing.{Extends, WroteMore}
use Rattle.dap_end.specs.Runs.{RunsBy}
use Rattle.dap_end.specs.Headline.{Arrival, WrittenPacket}
use Rattle.dap_end.specs.Joined.{Pair, IsBrought}

-- these packets, of the segments from this number on
abbrev pub numbered_packets : (k acks : ℕ) → List (List ℕ) → List WrittenPacket
numbered_packets k acks [] = []
numbered_packets k acks (bytes ∷ packets) = record { bytes = bytes; segment = Some k; acks = acks } ∷ numbered_packets (k + 1) acks packets

-- the packet has the segment of this number, or none, and acknowledges all segments that the link has received
abbrev pub WroteOne : LinkValue → Option ℕ → WrittenPacket → Type 0
WroteOne v k w = (w.segment ≡ k) × (w.acks ≡ v.coming.received) × WritesSent v k w.bytes

-- ---- Calls.

-- A packet came; or the end went on by itself; or it retransmitted a segment, by its index among those that aren't
-- acknowledged, or acknowledged.
pub data EndEvent : Type 0 where
  Came : List ℕ → EndEvent
  GoesOn : EndEvent
  Repeats : Option ℕ → EndEvent

-- what each event does to an end, and the packets that it writes
abbrev pub EndStepped : {P : Type 0} → (quiet : Type 0) → (does : EndValue P → EndValue P → Type 0) → (comes : LinkValue → List ℕ → Type 0) → (old : EndValue P) → EndEvent → (new : EndValue P) → List WrittenPacket → Type 0
EndStepped quiet does comes old (Came bytes) new wrote =
    (result : Result Got LinkFault) × (link : LinkValue) × Receives old.port.link link bytes result
    × (new ≡ record old { port = with_link old.port link }) × (wrote ≡ []) × quiet × comes old.port.link bytes
EndStepped {P} quiet does comes old GoesOn new wrote =
    (mid : EndValue P) × (packets : List (List ℕ)) × does old mid × WroteMore mid.port new.port packets × (new ≡ record mid { port = new.port })
    × (wrote ≡ numbered_packets (mid.port.link.sent + 1) mid.port.link.coming.received packets)
EndStepped quiet does comes old (Repeats k) new wrote =
    let v = old.port.link in
    (w : WrittenPacket) × IfSome k (λ i. i < v.sent - v.acked) × WroteOne v (option_map (λ i. v.acked + 1 + i) k) w
    × (new ≡ old) × (wrote ≡ w ∷ []) × quiet

-- these bytes came to this link
abbrev pub IsOneOf : List Arrival → LinkValue → List ℕ → Type 0
IsOneOf [] v bytes = ⊥
IsOneOf (c ∷ came) v bytes = (c ≡ (v, bytes)) ⊎ IsOneOf came v bytes

-- ---- The server.

-- The server served items that came, and passed on what waited, in any order.
pub data WorkedOn : ServingValue → ServingValue → Type 0 where
  nothing_done : {v : ServingValue} → WorkedOn v v
  item_served : {old new : ServingValue} (mid : ServingValue) (n : ℕ) → ServedOne old mid n → WorkedOn mid new → WorkedOn old new
  outbox_posted : {old new : ServingValue} (mid : ServingValue) (n : ℕ) → HandsOver old mid n → WorkedOn mid new → WorkedOn old new

-- an event, after which the packets of the event follow those before
abbrev pub ServingStepped : (comes : LinkValue → List ℕ → Type 0) → ServingValue × List WrittenPacket → EndEvent → List WrittenPacket → ServingValue × List WrittenPacket → Type 0
ServingStepped comes old event more new = EndStepped (Unit {0}) WorkedOn comes old.0 event new.0 more × (new.1 ≡ old.1 ++ more)

-- events, one after another
abbrev pub EventRuns : (comes : LinkValue → List ℕ → Type 0) → ServingValue → List EndEvent → ServingValue → List WrittenPacket → Type 0
EventRuns comes old events new wrote = RunsBy (ServingStepped comes) (old, []) events (new, wrote)

-- some events, one after another
abbrev pub RunsAs : (comes : LinkValue → List ℕ → Type 0) → (old new : ServingValue) → List WrittenPacket → Type 0
RunsAs comes old new wrote = (events : List EndEvent) × EventRuns comes old events new wrote

-- Calls of a server. What comes is one of these packets.
abbrev pub ServerRuns : List Arrival → (old new : ServingValue) → List WrittenPacket → Type 0
ServerRuns came old new wrote = RunsAs (IsOneOf came) old new wrote

-- ---- The client.

-- A request was asked, or an event of either end.
pub data AskingEvent : Type 0 where
  Asks : Request → AskingEvent
  By : EndEvent → AskingEvent

-- answers were read, whose reports follow those before, and then what waited was passed on, or not
abbrev pub HeardMore : (before after : List Report) → AskingValue → AskingValue → Type 0
HeardMore before after old new = (heard : AskingValue) × Extends before after (ReadOn old heard) × ((new ≡ heard) ⊎ ((n : ℕ) × HandsOver heard new n))

-- an event, after which its reports and packets follow those before
abbrev pub AskingStepped : (comes : LinkValue → List ℕ → Type 0) → AskingValue × List Report × List WrittenPacket → AskingEvent → List WrittenPacket → AskingValue × List Report × List WrittenPacket → Type 0
AskingStepped comes old (Asks request) more new = (n : ℕ) × AskedOne request old.0 new.0 n × (more ≡ []) × (new.1 ≡ old.1) × (new.2 ≡ old.2)
AskingStepped comes old (By event) more new =
    EndStepped (new.1 ≡ old.1) (HeardMore old.1 new.1) comes old.0 event new.0 more × (new.2 ≡ old.2 ++ more)

-- events, one after another
abbrev pub AskingEventRuns : (comes : LinkValue → List ℕ → Type 0) → AskingValue → List AskingEvent → AskingValue → List Report → List WrittenPacket → Type 0
AskingEventRuns comes old events new reports wrote = RunsBy (AskingStepped comes) (old, [], []) events (new, reports, wrote)

-- the requests that were asked
abbrev pub requests_in : List AskingEvent → List Request
requests_in [] = []
requests_in (Asks request ∷ events) = request ∷ requests_in events
requests_in (_ ∷ events) = requests_in events

-- some events in which these requests were asked, one after another
abbrev pub AskingRunsAs : (comes : LinkValue → List ℕ → Type 0) → List Request → (old new : AskingValue) → List Report → List WrittenPacket → Type 0
AskingRunsAs comes requests old new reports wrote =
    (events : List AskingEvent) × (requests ≡ requests_in events) × AskingEventRuns comes old events new reports wrote

-- Calls of a client in which these requests were asked. What comes is one of these packets.
abbrev pub AskingRuns : List Arrival → List Request → (old new : AskingValue) → List Report → List WrittenPacket → Type 0
AskingRuns came requests old new reports wrote = AskingRunsAs (IsOneOf came) requests old new reports wrote

-- ---- Both.

-- an event of one of two ends
pub data PairEvent : Type 0 where
  AtA : AskingEvent → PairEvent
  AtB : EndEvent → PairEvent

-- one end is called, and writes this
abbrev pub PairStepped : Pair → PairEvent → List WrittenPacket → Pair → Type 0
PairStepped old (AtA event) more new =
    AskingStepped (IsBrought old.from_b) (old.a, old.reports, old.from_a) event more (new.a, new.reports, new.from_a)
    × (new ≡ record old { a = new.a; from_a = new.from_a; requests = old.requests ++ requests_in (event ∷ []); reports = new.reports })
PairStepped old (AtB event) more new =
    ServingStepped (IsBrought old.from_a) (old.b, old.from_b) event more (new.b, new.from_b) × (new ≡ record old { b = new.b; from_b = new.from_b })

-- calls of both, one after another
abbrev pub PairRuns : (old new : Pair) → Type 0
PairRuns old new = (events : List PairEvent) × RunsBy PairStepped old events new
