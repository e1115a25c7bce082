-- The parts of a stretch without loss.
use Rattle.std.specs.Prelude.{◌≡◌, ℕ, ◌+◌, ◌*◌, ◌≤◌, ◌<◌, List, [], ◌∷◌, ◌++◌, length, Some, None, slice_get}
use Rattle.dap_events.specs.declared.event.End.{End}
use Rattle.dap_events.specs.declared.event.Event.{Event}
use Rattle.dap_events.specs.declared.event.Event.TheVariants as event
use Rattle.dap_events.specs.declared.event.WorldFault.{WorldFault}
use Rattle.dap_world.specs.Runs.{Runs}
use Rattle.dap_world.specs.Machine.{State, EndState, Sending, MayEmit, next_to_read, end_after_post, reports_by_a, end_of, sent_by, other_end, with_end}
use Rattle.dap_msg.specs.declared.message.Message.{Message}
use Rattle.dap_world.specs.Settling.{FinishFault, IsEmpty, RanBy, unacked_count}
use Rattle.dap_events.specs.declared.event.End.TheVariants.{A, B}

-- some events lead from the one state to the other, and none of them asks
abbrev pub RanTo : State → State → Type 0
RanTo old new = (n : ℕ) × RanBy old new n

-- no event asks
abbrev pub AsksNothing : List Event → Type 0
AsksNothing [] = Unit {0}
AsksNothing (event.Ask _ ∷ events) = ⊥
AsksNothing (_ ∷ events) = AsksNothing events

-- what moves of an end while it is settled: the counts of segments acknowledged and taken, what it holds, and its wire
abbrev pub moved : (old new : EndState) → EndState
moved old new = record old { acked = new.acked; taken = new.taken; held = new.held; wire = new.wire }

-- nothing else moved
abbrev pub SendsNothing : (old new : State) → Type 0
SendsNothing old new = new ≡ record old { a = moved old.a new.a; b = moved old.b new.b }

-- What events of the links leave alone: all but the counts, the wires and what is held.
pub record SameBut (old new : State) : Type 0 where
  pub seg_size : new.seg_size ≡ old.seg_size
  pub window : new.window ≡ old.window
  pub own_a : new.own_a ≡ old.own_a
  pub own_b : new.own_b ≡ old.own_b
  pub requests : new.requests ≡ old.requests
  pub served : new.served ≡ old.served
  pub read : new.read ≡ old.read
  pub handed : (end : End) → (end_of new end).handed ≡ (end_of old end).handed
  pub waiting : (end : End) → (end_of new end).waiting ≡ (end_of old end).waiting
  pub taken : (end : End) → (end_of old end).taken ≤ (end_of new end).taken
  pub acked : (end : End) → (end_of old end).acked ≤ (end_of new end).acked

-- and no segment is sent for the first time
pub record NothingSent (old new : State) : Type 0 where
  pub same : SameBut old new
  pub sent : (end : End) → (end_of new end).sent ≡ (end_of old end).sent

-- at most one request has no report yet
abbrev pub IsOneDue : State → Type 0
IsOneDue s = length s.requests ≤ length (reports_by_a s) + 1

-- The first of the segments that aren't acknowledged were written again, and nothing else happened.
pub record AllResent (old new : State) (end : End) (count : ℕ) : Type 0 where
  pub ran : RanBy old new count
  pub more : List Sending
  pub wrote : new ≡ with_end old end (record (end_of old end) { wire = (end_of old end).wire ++ more })
  pub long : length more ≡ count
  pub each : (i : ℕ) → i < count → slice_get more i ≡ Some (record { segment = Some ((end_of old end).acked + 1 + i); acks = (end_of old end).taken })

-- of these packets of the end, from an index on, the i-th carries the i-th segment that isn't acknowledged
abbrev pub AreThere : State → End → (first count : ℕ) → Type 0
AreThere s end first count =
    (i : ℕ) → i < count → slice_get (end_of s end).wire (first + i) ≡ Some (record { segment = Some ((end_of s end).acked + 1 + i); acks = (end_of s end).taken })

-- This many of them were delivered: the other end took no fewer segments, and this one didn't move.
pub record AllCame (old new : State) (end : End) (n : ℕ) : Type 0 where
  pub ran : RanBy old new n
  pub taken : (end_of old end).acked + n ≤ (end_of new (other_end end)).taken
  pub still : end_of new end ≡ end_of old end

-- This many segments more were sent, and brought to the other end, which acknowledged them.
pub record Brought (old new : State) (end : End) (n : ℕ) : Type 0 where
  pub ran : RanBy old new (4 * n)
  pub same : SameBut old new
  pub sent : (end_of new end).sent ≡ (end_of old end).sent + n
  pub back : (end_of new (other_end end)).sent ≡ (end_of old (other_end end)).sent
  pub done : unacked_count new end ≡ 0

-- All that there are were, by this many events.
pub record BroughtAll (old new : State) (end : End) (n : ℕ) : Type 0 where
  pub segments : ℕ
  pub brought : Brought old new end segments
  pub count : n ≡ 4 * segments
  pub none_left : MayEmit new end → ⊥

-- ---- What waits.

-- nothing waits at either end
abbrev pub IsQuiet : State → Type 0
IsQuiet s = (end : End) → (end_of s end).waiting ≡ []

-- All that waits was passed on, by one event or none.
pub record PostedAll (old new : State) (end : End) (n : ℕ) : Type 0 where
  pub ran : RanBy old new n
  pub is : new ≡ with_end old end (end_after_post (end_of old end))
  pub few : n ≤ 1
  pub nothing : (end_of old end).waiting ≡ [] → n ≡ 0

-- All that waits was passed on, and all segments were brought to the other end.
pub record Emptied (old new : State) (end : End) (n : ℕ) : Type 0 where
  pub seg_size : new.seg_size ≡ old.seg_size
  pub ran : RanBy old new n
  pub empty : IsEmpty new end
  pub served : new.served ≡ old.served
  pub read : new.read ≡ old.read
  pub handed : (end_of new end).handed ≡ (end_of old end).handed ++ (end_of old end).waiting
  pub back_waiting : (end_of new (other_end end)).waiting ≡ (end_of old (other_end end)).waiting
  pub back_handed : (end_of new (other_end end)).handed ≡ (end_of old (other_end end)).handed
  pub back_sent : (end_of new (other_end end)).sent ≡ (end_of old (other_end end)).sent
  pub back_acked : (end_of old (other_end end)).acked ≤ (end_of new (other_end end)).acked
  pub more : ℕ
  pub sent : (end_of new end).sent ≡ (end_of old end).sent + more
  pub count : n ≤ 1 + 4 * more
  pub nothing : IsEmpty old end → n ≡ 0

-- ---- All is settled, sent and served.

-- Refused after some events: then not all of it was done before.
abbrev pub Halts : (done : Type 0) → State → State → WorldFault → Type 0
Halts done old new f = FinishFault new f × RanTo old new × (done → ⊥)

abbrev pub AreSettled : State → Type 0
AreSettled s = (unacked_count s A ≡ 0) × (unacked_count s B ≡ 0)

-- all that was sent was served
abbrev pub IsServed : State → Type 0
IsServed s = length (sent_by s.a) ≤ s.served

abbrev pub AreEmpty : State → Type 0
AreEmpty s = IsEmpty s A × IsEmpty s B

-- Both ends were settled.
pub record SettledBoth (old new : State) (n : ℕ) : Type 0 where
  pub ran : RanBy old new n
  pub a : unacked_count new A ≡ 0
  pub b : unacked_count new B ≡ 0
  pub count : n ≤ 4 * old.window + 4
  pub nothing : unacked_count old A ≡ 0 → unacked_count old B ≡ 0 → n ≡ 0

-- What waited was brought to the other end, both ways.
pub record SentBoth (old new : State) (n : ℕ) : Type 0 where
  pub ran : RanBy old new n
  pub empty : AreEmpty new
  pub served : new.served ≡ old.served
  pub read : new.read ≡ old.read
  pub more_a : ℕ
  pub more_b : ℕ
  pub sent_a : new.a.sent ≡ old.a.sent + more_a
  pub sent_b : new.b.sent ≡ old.b.sent + more_b
  pub count : n ≤ 2 + 4 * more_a + 4 * more_b
  pub nothing : AreEmpty old → n ≡ 0

-- This many messages were served, all that were sent, and their answers brought to A.
pub record Served (old new : State) (n messages : ℕ) : Type 0 where
  pub ran : RanBy old new n
  pub empty : AreEmpty new
  pub handed : new.a.handed ≡ old.a.handed
  pub sent_a : new.a.sent ≡ old.a.sent
  pub served : new.served ≡ old.served + messages
  pub read : new.read ≡ old.read
  pub more : ℕ
  pub sent_b : new.b.sent ≡ old.b.sent + more
  pub count : n ≤ 2 * messages + 4 * more
  pub nothing : messages ≡ 0 → n ≡ 0

pub record ServedEvery (old new : State) (n : ℕ) : Type 0 where
  pub messages : ℕ
  pub done : Served old new n messages
  pub all : length (sent_by new.a) ≤ new.served
  pub only : length (sent_by old.a) ≤ old.served → messages ≡ 0

-- ---- Reading.

-- This many answers were read, all that came, and nothing else moved.
pub record ReadEvery (old new : State) (n : ℕ) : Type 0 where
  pub ran : RanBy old new n
  pub read : new ≡ record old { read = new.read }
  pub count : new.read ≡ old.read + n
  pub none_left : next_to_read new ≡ None

-- Some answers were read, and one more is there.
pub record ReadPart (old new : State) : Type 0 where
  pub ran : RanTo old new
  pub read : new ≡ record old { read = new.read }
  pub more : old.read ≤ new.read
  pub next : Message
  pub there : next_to_read new ≡ Some next

-- ---- Requests.

-- some events lead from the one state to the other
abbrev pub RunsTo : State → State → Type 0
RunsTo old new = (events : List Event) × Runs old events new
