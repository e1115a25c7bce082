-- A stretch without loss.
use Rattle.std.specs.Prelude.{◌≡◌, ◌==◌, ◌⊎◌, ℕ, ◌+◌, ◌*◌, ◌-◌, ◌≤◌, ◌<◌, if◌then◌else◌, List, [], length, map, take, Some, slice_get}
use Rattle.dap_msg.specs.declared.items.Item.TheVariants.{Whole}
use Rattle.dap_world.specs.Plain.{Answers, Asked, IsRefused}
use Rattle.dap_accessing.specs.declared.fault.AskFault.{AskFault}
use Rattle.dap_accessing.specs.declared.fault.AskFault.TheVariants as ask_fault
use Rattle.dap_accessing.specs.Request.{Request}
use Rattle.dap_world.specs.Agreement.{AreAdmissible, reports_of}
use Rattle.dap_events.specs.declared.event.End.{End}
use Rattle.dap_events.specs.declared.event.End.TheVariants.{A, B}
use Rattle.dap_events.specs.declared.event.Event.{Event}
use Rattle.dap_events.specs.declared.event.Event.TheVariants as event
use Rattle.dap_events.specs.declared.event.WorldFault.{WorldFault}
use Rattle.dap_events.specs.declared.event.WorldFault.TheVariants as fault
use Rattle.dap_world.specs.Machine.{State, RefusesEvent, end_of, segments_of, sent_by, served_by_b, answers_read, reports_by_a}
use Rattle.dap_world.specs.Runs.{Runs}

-- n events lead from one state to another, and none of them asks.
pub record RanBy (old new : State) (n : ℕ) : Type 0 where
  pub events : List Event
  pub ran : Runs old events new
  pub count : length events ≡ n
  pub quiet : new.requests ≡ old.requests

-- how many of the segments that an end sent aren't acknowledged
abbrev pub unacked_count : State → End → ℕ
unacked_count s end = (end_of s end).sent - (end_of s end).acked

-- What was done so far, in events: four for each segment first sent, two for each message served and for each answer
-- read.
abbrev pub work : State → ℕ
work s = 4 * (s.a.sent + s.b.sent) + 2 * (s.served + s.read)

-- ---- One end is settled.

-- After n events all segments that the end sent are acknowledged: 0 where all were before, else two for each that
-- wasn't, and two more.
pub record SettlesIn (old new : State) (end : End) (n : ℕ) : Type 0 where
  pub ran : RanBy old new n
  pub done : unacked_count new end ≡ 0
  pub count : n ≡ (if unacked_count old end == 0 then 0 else 2 * unacked_count old end + 2)

-- ---- Both ends are finished.

-- nothing waits at the end, and each of its segments was sent and is acknowledged
pub record IsEmpty (s : State) (end : End) : Type 0 where
  pub waiting : (end_of s end).waiting ≡ []
  pub sent : (end_of s end).sent ≡ segments_of s.seg_size (end_of s end).handed
  pub acked : unacked_count s end ≡ 0

-- there is nothing to do: all that was sent was served, and all answers were read
pub record IsFinished (s : State) : Type 0 where
  pub a : IsEmpty s A
  pub b : IsEmpty s B
  pub served : served_by_b s ≡ sent_by s.a
  pub read : answers_read s ≡ map Whole (Answers s.own_b [] (map Whole (served_by_b s)))

-- All that the requests ask was sent and served, so the files are those after it, and each request has its report.
pub record AllTold (s : State) : Type 0 where
  pub sent : sent_by s.a ≡ Asked s.own_a s.requests
  pub taken : served_by_b s ≡ Asked s.own_a s.requests
  pub reports : reports_by_a s ≡ reports_of s.own_a s.own_b s.requests
  pub each : length (reports_by_a s) ≡ length s.requests

-- After n events nothing is left to do, and each request has its report, whatever was lost before.
pub record FinishesIn (old new : State) (n : ℕ) : Type 0 where
  pub ran : RanBy old new n
  pub finished : IsFinished new
  pub told : AllTold new
  -- both ends are settled, what waits is passed on, and the rest is work
  pub bound : n + work old ≤ 4 * old.window + 6 + work new
  pub only : IsFinished old → n ≡ 0

-- It is time to pass on what waits at an end: all that was sent is acknowledged, and for B nothing is left at A.
abbrev pub IsPostDue : State → End → Type 0
IsPostDue s A = (unacked_count s A ≡ 0) × (unacked_count s B ≡ 0)
IsPostDue s B = IsEmpty s A × (unacked_count s B ≡ 0)

-- what is passed on then would make more than 2^40 segments
abbrev pub IsExhausted : State → Type 0
IsExhausted s = (end : End) × IsPostDue s end × RefusesEvent s (event.Post end) fault.Exhausted

-- why not all is finished: that, or else memory was refused
abbrev pub FinishFault : State → WorldFault → Type 0
FinishFault s fault.Exhausted = IsExhausted s
FinishFault s fault.NoMemory = IsExhausted s → ⊥
FinishFault s _ = ⊥

-- ---- Requests over perfect delivery.

-- no request was asked, and no packet was written
abbrev pub IsUnused : State → Type 0
IsUnused s = (s.requests ≡ []) × (s.a.wire ≡ []) × (s.b.wire ≡ [])

-- these requests were asked, each was admissible after those before it, and each has its report
pub record AllDone (requests : List Request) (new : State) : Type 0 where
  pub asked : new.requests ≡ requests
  pub admissible : AreAdmissible new.own_a new.own_b [] requests
  pub told : AllTold new

-- The request at this index isn't admissible. Those before it have their reports.
pub record StopsWith (requests : List Request) (new : State) (i : ℕ) (f : AskFault) : Type 0 where
  pub done : AllDone (take i requests) new
  pub request : Request
  pub there : slice_get requests i ≡ Some request
  pub refused : IsRefused new.own_a new.requests (answers_read new) request f
  pub why : (f ≡ ask_fault.WrongPhase) ⊎ (f ≡ ask_fault.TooLarge)

-- Memory or sequence numbers ran out at the request of this index, which is admissible. The reports are those of the
-- requests before it.
pub record RanOut (requests : List Request) (new : State) (i : ℕ) (f : WorldFault) : Type 0 where
  pub there : i < length requests
  pub asked : (new.requests ≡ take i requests) ⊎ (new.requests ≡ take (i + 1) requests)
  pub admissible : AreAdmissible new.own_a new.own_b [] (take (i + 1) requests)
  pub reports : reports_by_a new ≡ reports_of new.own_a new.own_b (take i requests)
  pub why : FinishFault new f

-- why a list of requests stops at this index; there is no other reason
abbrev pub StopsAtRequest : List Request → State → ℕ × WorldFault → Type 0
StopsAtRequest requests new (i, fault.Ask f) = StopsWith requests new i f
StopsAtRequest requests new (i, f) = RanOut requests new i f
