-- The two ends and the network between them, as a machine over events. Numbers are whole numbers, without a modulus.
use Rattle.std.specs.Prelude.{ℕ, ◌≡◌, ◌+◌, ◌-◌, ◌≤◌, ◌<◌, max, Bool, true, false, ◌&&◌, ◌||◌, nat_lt, nat_le, ◌==◌, if◌then◌else◌, List, [], ◌∷◌, ◌++◌, length, map, take, slice_get, Option, Some, None, ◌⊎◌}
use Rattle.std.specs.Option.{option_map_or}
use Rattle.dap_msg.specs.declared.message.Message.{Message}
use Rattle.dap_msg.specs.declared.items.Item.{Item}
use Rattle.dap_msg.specs.declared.items.Item.TheVariants.{Whole}
use Rattle.dap_msg.specs.Blocked.{NspMessage, blocked_bytes, Blocked, messages_in}
use Rattle.dap_accessed.specs.Standing.{Files}
use Rattle.dap_world.specs.Plain.{Answers, After, answers_added, limit_for, messages_of, IsAdmissible, IsRefused}
use Rattle.dap_accessing.specs.Request.{Request}
use Rattle.dap_accessing.specs.declared.report.Report.{Report}
use Rattle.dap_accessing.specs.declared.fault.AskFault.TheVariants as ask_fault
use Rattle.dap_accessing.specs.Told.{Told}
use Rattle.dap_accessing.specs.Phase.{limit_after}
use Rattle.nsp_link.specs.Cutting.{count_of}
use Rattle.nsp_link.specs.Holding.{closed_up}
use Rattle.std.specs.Ordering.{nat_cmp}
use Rattle.std.specs.BTreeSet.{insert_key}
use Rattle.nsp_link.specs.Limits.{max_age, max_segments}
use Rattle.nsp_link.specs.Link.{got_of}
use Rattle.dap_events.specs.declared.event.End.{End}
use Rattle.dap_events.specs.declared.event.End.TheVariants.{A, B}
use Rattle.dap_events.specs.declared.event.Event.{Event}
use Rattle.dap_events.specs.declared.event.Event.TheVariants as event
use Rattle.dap_events.specs.declared.event.Step.{Step}
use Rattle.dap_events.specs.declared.event.Step.TheVariants as step
use Rattle.dap_events.specs.declared.event.WorldFault.{WorldFault}
use Rattle.dap_events.specs.declared.event.WorldFault.TheVariants as fault
use Rattle.dap_events.specs.declared.setup.WorldSetup.{WorldSetup}

-- a packet: the number of its segment, if it has one, and how many segments it acknowledges
pub record Sending : Type 0 where
  pub segment : Option ℕ
  pub acks : ℕ

-- one end of a link, and what it ever wrote
pub record EndState : Type 0 where
  pub waiting : List NspMessage  -- not yet handed to the link
  pub handed : List NspMessage  -- handed to the link
  pub sent : ℕ  -- segments sent, each counted once
  pub acked : ℕ  -- segments that are acknowledged to it
  pub taken : ℕ  -- segments of the other end that it took, in order
  pub held : List ℕ  -- early segments that it holds, the lowest first
  pub wire : List Sending  -- every packet that it ever wrote

-- a client A, a server B, and the network between them
pub record State : Type 0 where
  pub seg_size : ℕ
  pub window : ℕ
  pub own_a : ℕ  -- the BUFSIZ of each end
  pub own_b : ℕ
  pub requests : List Request
  pub a : EndState
  pub b : EndState
  pub served : ℕ  -- DAP messages that B served
  pub read : ℕ  -- answers that A read

-- an end at which nothing has happened
abbrev pub idle : EndState
idle = record { waiting = []; handed = []; sent = 0; acked = 0; taken = 0; held = []; wire = [] }

-- a new world
abbrev pub initial_state : WorldSetup → State
initial_state setup =
    record {
      seg_size = setup.seg_size;
      window = setup.window;
      own_a = setup.bufsiz_a;
      own_b = setup.bufsiz_b;
      requests = [];
      a = idle;
      b = idle;
      served = 0;
      read = 0;
    }

-- the other end
abbrev pub other_end : End → End
other_end A = B
other_end B = A

-- one of the two ends
abbrev pub end_of : State → End → EndState
end_of s A = s.a
end_of s B = s.b

-- the state with this end in place of one of the two
abbrev pub with_end : State → End → EndState → State
with_end s A e = record s { a = e }
with_end s B e = record s { b = e }

-- ---- Segments.

-- how many segments NSP messages have
abbrev pub segments_of : ℕ → List NspMessage → ℕ
segments_of seg_size [] = 0
segments_of seg_size (message ∷ messages) = count_of seg_size (length (blocked_bytes message)) + segments_of seg_size messages

-- the NSP messages that are whole in the first r segments
abbrev pub arrived_messages : ℕ → ℕ → List NspMessage → List NspMessage
arrived_messages seg_size r [] = []
arrived_messages seg_size r (message ∷ messages) =
    let n = count_of seg_size (length (blocked_bytes message)) in
    if nat_le n r then message ∷ arrived_messages seg_size (r - n) messages else []

-- the messages that an end passed to its link
abbrev pub sent_by : EndState → List Message
sent_by e = messages_in e.handed

-- those of the other end that have arrived whole at an end
abbrev pub arrived_at : State → End → List Message
arrived_at s end = messages_in (arrived_messages s.seg_size (end_of s end).taken (end_of s (other_end end)).handed)

-- ---- What both ends did.

-- the messages that B served
abbrev pub served_by_b : State → List Message
served_by_b s = take s.served (sent_by s.a)

-- the answers that A read
abbrev pub answers_read : State → List Item
answers_read s = map Whole (take s.read (Answers s.own_b [] (map Whole (served_by_b s))))

-- what A reported
unfoldable pub reports_by_a : State → List Report
reports_by_a s = Told s.requests (answers_read s)

-- the files that B holds
unfoldable pub files_of : State → Files
files_of s = After s.own_b [] (map Whole (served_by_b s))

-- ---- What an event makes of a state.

-- the NSP messages of a request, joined within the limit of B that A knows
abbrev pub asking : State → Request → List NspMessage
asking s request = Blocked (limit_after (reports_by_a s)) (messages_of s.own_a request)

-- a request is asked: its messages wait
abbrev pub world_after_request : State → Request → State
world_after_request s request =
    record s { requests = s.requests ++ request ∷ []; a = record s.a { waiting = s.a.waiting ++ asking s request } }

-- all that waits is passed to the link
abbrev pub end_after_post : EndState → EndState
end_after_post e = record e { waiting = []; handed = e.handed ++ e.waiting }

-- a packet with a segment, or without one, is written: it acknowledges what the end has taken, and is the last on its
-- wire
abbrev pub wrote : EndState → (sent : ℕ) → Option ℕ → EndState
wrote e sent k = record e { sent = sent; wire = e.wire ++ record { segment = k; acks = e.taken } ∷ [] }

-- What an end has taken and holds once a segment came. The next one is taken, with all held ones that follow it
-- without a hole. A later one is held, if the end keeps it. One that was taken changes nothing.
abbrev pub taken_and_held : (keep : Bool) → (taken : ℕ) → (held : List ℕ) → Option ℕ → ℕ × List ℕ
taken_and_held keep taken held None = (taken, held)
taken_and_held keep taken held (Some k) =
    if k == taken + 1 then closed_up k held else (taken, if nat_lt taken k && keep then insert_key nat_cmp held k else held)

-- a packet comes; the highest acknowledgement counts
abbrev pub end_after_delivery : (keep : Bool) → EndState → Sending → EndState
end_after_delivery keep e p =
    let got = taken_and_held keep e.taken e.held p.segment in record e { acked = max e.acked p.acks; taken = got.0; held = got.1 }

-- more than 2,047 below
abbrev pub is_old : ℕ → ℕ → Bool
is_old number now = nat_lt (number + max_age) now

-- the segment is more than 2,047 below the next one, or the acknowledgement more than 2,047 below the count
-- acknowledged
abbrev pub is_stale : EndState → Sending → Bool
is_stale e p = option_map_or (λ k. is_old k (e.taken + 1)) p.segment false || is_old p.acks e.acked

-- the answers to one more message, joined within the limit of A that B knows
abbrev pub answering : State → Message → List NspMessage
answering s m = let taken = map Whole (served_by_b s) in Blocked (limit_for s.own_b [] taken) (answers_added s.own_b [] taken (Whole m))

-- B serves a message, and its answers wait
abbrev pub served_one : State → Message → State
served_one s m = record s { b = record s.b { waiting = answering s m }; served = s.served + 1 }

-- A reads an answer
abbrev pub with_read : State → State
with_read s = record s { read = s.read + 1 }

-- whether there is one more report
abbrev pub told_by : State → State → Step
told_by old new = if length (reports_by_a new) == length (reports_by_a old) then step.Nothing else step.Reported

-- ---- Conditions.

-- a segment was never sent, and the window has room
abbrev pub MayEmit : State → End → Type 0
MayEmit s end =
    let e = end_of s end in (e.sent < segments_of s.seg_size e.handed) × (e.sent - e.acked < s.window)

-- the next message that B can serve
abbrev pub next_to_serve : State → Option Message
next_to_serve s = slice_get (arrived_at s B) s.served

-- the next answer that A can read
abbrev pub next_to_read : State → Option Message
next_to_read s = slice_get (arrived_at s A) s.read

-- ---- Events.

-- the other end wrote a packet at this index of its wire, and it isn't stale at this end
abbrev pub MayDeliver : State → End → ℕ → Sending → Type 0
MayDeliver s end j p = (slice_get (end_of s (other_end end)).wire j ≡ Some p) × (is_stale (end_of s end) p ≡ false)

-- a packet comes to an end
abbrev pub Delivers : (keep : Bool) → State → End → ℕ → Step → State → Type 0
Delivers keep s end j answer new =
    let e = end_of s end in
    (p : Sending) × MayDeliver s end j p × (answer ≡ step.Delivered (got_of e.taken p.segment)) × (new ≡ with_end s end (end_after_delivery keep e p))

-- The event happens, has this answer, and leads from one state to another. Early segments are kept.
unfoldable pub Steps : State → Event → Step → State → Type 0
Steps s (event.Ask request) answer new =
    IsAdmissible s.own_a s.requests (answers_read s) request × (answer ≡ step.Asked (length (asking s request))) × (new ≡ world_after_request s request)
Steps s (event.Post end) answer new =
    let e = end_of s end in
    (0 < length e.waiting) × (segments_of s.seg_size (end_after_post e).handed ≤ max_segments)
    × (answer ≡ step.Posted (length e.waiting)) × (new ≡ with_end s end (end_after_post e))
Steps s (event.Emit end) answer new =
    let e = end_of s end in
    MayEmit s end × (answer ≡ step.Packet (length e.wire)) × (new ≡ with_end s end (wrote e (e.sent + 1) (Some (e.sent + 1))))
Steps s (event.Resend end i) answer new =
    let e = end_of s end in
    (i < e.sent - e.acked) × (answer ≡ step.Packet (length e.wire)) × (new ≡ with_end s end (wrote e e.sent (Some (e.acked + 1 + i))))
Steps s (event.Ack end) answer new =
    let e = end_of s end in (answer ≡ step.Packet (length e.wire)) × (new ≡ with_end s end (wrote e e.sent None))
Steps s (event.Deliver end j) answer new = Delivers true s end j answer new
Steps s event.Serve answer new =
    (m : Message) × (s.b.waiting ≡ []) × (next_to_serve s ≡ Some m) × (answer ≡ step.Served (length (answering s m))) × (new ≡ served_one s m)
Steps s event.Read answer new =
    (m : Message) × (next_to_read s ≡ Some m) × (answer ≡ told_by s (with_read s)) × (new ≡ with_read s)

-- The steps of an event where ends may also let an early segment go.
abbrev pub StepsFreely : State → Event → Step → State → Type 0
StepsFreely s (event.Deliver end j) answer new = (keep : Bool) × Delivers keep s end j answer new
StepsFreely s e answer new = Steps s e answer new

-- The event has no step, and this is the first reason. Out of memory is none. By the law `events_are_decided` an
-- event has either one step or one reason.
unfoldable pub RefusesEvent : State → Event → WorldFault → Type 0
RefusesEvent s (event.Ask request) (fault.Ask ask_fault.NoMemory) = ⊥
RefusesEvent s (event.Ask request) (fault.Ask f) = IsRefused s.own_a s.requests (answers_read s) request f
RefusesEvent s (event.Post end) fault.NothingToDo = (end_of s end).waiting ≡ []
RefusesEvent s (event.Post end) fault.Exhausted = (0 < length (end_of s end).waiting) × (max_segments < segments_of s.seg_size (end_after_post (end_of s end)).handed)
RefusesEvent s (event.Emit end) fault.NothingToDo = MayEmit s end → ⊥
RefusesEvent s (event.Resend end i) fault.NothingToDo =
    (end_of s end).sent - (end_of s end).acked ≤ i
RefusesEvent s (event.Deliver end j) fault.NoSuchPacket =
    slice_get (end_of s (other_end end)).wire j ≡ None
RefusesEvent s (event.Deliver end j) fault.Stale = (p : Sending) × (slice_get (end_of s (other_end end)).wire j ≡ Some p) × (is_stale (end_of s end) p ≡ true)
RefusesEvent s event.Serve fault.NothingToDo = (0 < length s.b.waiting) ⊎ (next_to_serve s ≡ None)
RefusesEvent s event.Read fault.NothingToDo = next_to_read s ≡ None
RefusesEvent s e f = ⊥
