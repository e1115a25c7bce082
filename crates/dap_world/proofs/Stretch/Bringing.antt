-- A segment is sent, delivered and acknowledged.
use Rattle.std.proofs.Common.{◌≡◌, ℕ, ◌+◌, ◌*◌, ◌≤◌, ◌<◌, List, arith, refl, sym, ◌∙◌, subst, ap, true, false, length, le-ltb}
use Rattle.std.specs.Prelude.{◌-◌, Option, Some, Err, slice_get}
use Rattle.dap_events.specs.declared.event.End.{End}
use Rattle.dap_events.specs.declared.event.End.TheVariants.{A, B}
use Rattle.dap_events.specs.declared.event.Event.TheVariants as event
use Rattle.dap_events.specs.declared.event.Step.{Step}
use Rattle.dap_events.specs.declared.event.WorldFault.{WorldFault}
use Rattle.dap_events.specs.declared.event.WorldFault.TheVariants as fault
use Rattle.dap_world.specs.Machine.{RefusesEvent, State, EndState, Sending, end_of, with_end, other_end, wrote, end_after_delivery, is_stale, MayEmit, segments_of, Steps}
use Rattle.dap_msg.specs.Blocked.{NspMessage}
use Rattle.dap_world.specs.Runs.{ComesTo}
use Rattle.dap_world.specs.Inner.Worlds.{IsWorld}
use Rattle.dap_world.specs.Settling.{RanBy, unacked_count}
use Rattle.dap_world.specs.Inner.Settling.{Brought, RanTo, SameBut}
use Rattle.dap_world.proofs.Headline.Kept.{back, came_in, direction, now_at, other_still, still_at, twice}
use Rattle.dap_world.proofs.Stretch.Settles.{ran_none, ran_one, ran_both, at_last, is_same, took}

-- an end has the same to send, and no count of it goes back
record Stays (old new : EndState) : Type 0 where
  handed : new.handed ≡ old.handed
  waiting : new.waiting ≡ old.waiting
  taken : old.taken ≤ new.taken
  acked : old.acked ≤ new.acked

stays : (e : EndState) → Stays e e
stays e = record { handed = refl; waiting = refl; taken = omega arith; acked = omega arith }

abbrev with_both : State → EndState → EndState → State
with_both s a b = record s { a = a; b = b }

same_ends : (s : State) (a b : EndState) → Stays s.a a → Stays s.b b → SameBut s (with_both s a b)
same_ends s a b x y =
    record {
      seg_size = refl;
      window = refl;
      own_a = refl;
      own_b = refl;
      requests = refl;
      served = refl;
      read = refl;
      handed = λ e. (each e).handed;
      waiting = λ e. (each e).waiting;
      taken = λ e. (each e).taken;
      acked = λ e. (each e).acked;
    }
  where
    each : (e : End) → Stays (end_of s e) (end_of (with_both s a b) e)
    each A = x
    each B = y

pub same_none : (s : State) → SameBut s s
same_none s = same_ends s s.a s.b (stays s.a) (stays s.b)

pub same_both : (old mid new : State) → SameBut old mid → SameBut mid new → SameBut old new
same_both old mid new a b =
    record {
      seg_size = b.seg_size ∙ a.seg_size;
      window = b.window ∙ a.window;
      own_a = b.own_a ∙ a.own_a;
      own_b = b.own_b ∙ a.own_b;
      requests = b.requests ∙ a.requests;
      served = b.served ∙ a.served;
      read = b.read ∙ a.read;
      handed = λ e. b.handed e ∙ a.handed e;
      waiting = λ e. b.waiting e ∙ a.waiting e;
      taken = λ e. omega (arith, a.taken e, b.taken e);
      acked = λ e. omega (arith, a.acked e, b.acked e);
    }

-- one end moved so
same_moves : (old new : State) (end : End) (e : EndState) → new ≡ with_end old end e → Stays (end_of old end) e → SameBut old new
same_moves old new A e is h = subst (SameBut old) (sym is) (same_ends old e old.b h (stays old.b))
same_moves old new B e is h = subst (SameBut old) (sym is) (same_ends old old.a e (stays old.a) h)

pub same_wrote : (old new : State) (end : End) (sent : ℕ) (k : Option ℕ) → new ≡ with_end old end (wrote (end_of old end) sent k) → SameBut old new
same_wrote old new end sent k is = same_moves old new end _ is (record { handed = refl; waiting = refl; taken = omega arith; acked = omega arith })

-- ---- Each step.

pub same_emit : (old new : State) (end : End) (answer : Step) → Steps old (event.Emit end) answer new → SameBut old new
unfolding Steps
same_emit old new end answer step = same_wrote old new end _ _ step.2

pub same_ack : (old new : State) (end : End) (answer : Step) → Steps old (event.Ack end) answer new → SameBut old new
unfolding Steps
same_ack old new end answer step = same_wrote old new end _ _ step.1

pub same_deliver : (old new : State) (end : End) (j : ℕ) (answer : Step) → IsWorld old → Steps old (event.Deliver end j) answer new → SameBut old new
unfolding Steps
same_deliver old new end j answer h step =
    same_moves old new end _ step.3 (record { handed = refl; waiting = refl; taken = (came_in old end true j step.0 h step.1.0).1; acked = omega arith })

-- how many were sent
pub emit_sent : (old new : State) (end : End) (answer : Step) → Steps old (event.Emit end) answer new → ((end_of new end).sent ≡ (end_of old end).sent + 1) × ((end_of new (other_end end)).sent ≡ (end_of old (other_end end)).sent)
unfolding Steps
emit_sent old new end answer step = (ap (λ (e : EndState). e.sent) (now_at old new end _ step.2), ap (λ (e : EndState). e.sent) (other_still old new end _ step.2))

-- an end that moved sent as many
pub sent_same : (old new : State) (end e : End) (x : EndState) → new ≡ with_end old end x → x.sent ≡ (end_of old end).sent → (end_of new e).sent ≡ (end_of old e).sent
sent_same old new A A x is same = ap (λ (s : State). s.a.sent) is ∙ same
sent_same old new A B x is same = ap (λ (s : State). s.b.sent) is
sent_same old new B A x is same = ap (λ (s : State). s.a.sent) is
sent_same old new B B x is same = ap (λ (s : State). s.b.sent) is ∙ same

pub ack_sent : (old new : State) (end e : End) (answer : Step) → Steps old (event.Ack end) answer new → (end_of new e).sent ≡ (end_of old e).sent
unfolding Steps
ack_sent old new end e answer step = sent_same old new end e _ step.1 refl

pub deliver_sent : (old new : State) (end e : End) (j : ℕ) (answer : Step) → Steps old (event.Deliver end j) answer new → (end_of new e).sent ≡ (end_of old e).sent
unfolding Steps
deliver_sent old new end e j answer step = sent_same old new end e _ step.3 refl

-- it isn't acknowledged
pub emit_unacked : (old mid : State) (end : End) (answer : Step) → IsWorld old → unacked_count old end ≡ 0 → Steps old (event.Emit end) answer mid → unacked_count mid end ≡ 1
unfolding Steps
emit_unacked old mid end answer h none step =
    let c = (direction old end h).counts in ap (λ (e : EndState). e.sent - e.acked) (now_at old mid end _ step.2) ∙ omega (arith, none, c.acked_taken, c.taken_sent)

-- nor is it when it came
pub deliver_unacked : (mid new : State) (end : End) (j : ℕ) (answer : Step) → Steps mid (event.Deliver (other_end end) j) answer new → unacked_count new end ≡ unacked_count mid end
unfolding Steps
deliver_unacked mid new end j answer step = ap (λ (e : EndState). e.sent - e.acked) (still_at mid new end _ step.3)

-- ---- The segment arrives.

abbrev first_sent : State → End → Sending
first_sent s end = record { segment = Some ((end_of s end).sent + 1); acks = (end_of s end).taken }

there_first : (old mid : State) (end : End) (index : ℕ) (answer : Step) → Steps old (event.Emit end) answer mid → index ≡ length (end_of old end).wire → slice_get (end_of mid (other_end (other_end end))).wire index ≡ Some (first_sent old end)
unfolding Steps
there_first old mid end index answer step at =
    ap (λ (e : End). slice_get (end_of mid e).wire index) (twice end) ∙ ap (λ (e : EndState). slice_get e.wire index) (now_at old mid end _ step.2)
    ∙ at_last (end_of old end).wire index (first_sent old end) at

pub emit_refused : (old new : State) (end : End) (f : WorldFault) → MayEmit old end → ComesTo old (event.Emit end) (Err f) new → (f ≡ fault.NoMemory) × RanTo old new
unfolding Steps RefusesEvent
emit_refused old new end fault.NoMemory may went = (refl, (0, subst (λ (s : State). RanBy old s 0) (sym went.1) (ran_none old)))
emit_refused old new end fault.NothingToDo may went = absurd (went.0 may)
emit_refused old new end fault.NoSuchPacket may went = absurd went.0
emit_refused old new end fault.Stale may went = absurd went.0
emit_refused old new end (fault.Ask g) may went = absurd went.0
emit_refused old new end fault.Exhausted may went = absurd went.0
emit_refused old new end fault.BadSetup may went = absurd went.0

fresh_first : (old mid : State) (end : End) (answer : Step) → IsWorld old → Steps old (event.Emit end) answer mid → is_stale (end_of mid (other_end end)) (first_sent old end) ≡ false
unfolding Steps
fresh_first old mid end answer h step =
    let c = (direction old end h).counts in
    let b = (back old end h).counts in
    let to = end_of old (other_end end) in
    ap (λ (e : EndState). is_stale e (first_sent old end)) (other_still old mid end _ step.2)
    ∙ rw (le-ltb ((end_of old end).sent + 1 + 2047) (to.taken + 1) (omega (arith, c.taken_sent)), le-ltb ((end_of old end).taken + 2047) to.acked (omega (arith, b.acked_taken))) refl

pub first_refused : (old mid new : State) (end : End) (index : ℕ) (answer : Step) (f : WorldFault) → IsWorld old → IsWorld mid → Steps old (event.Emit end) answer mid → index ≡ length (end_of old end).wire
    → ComesTo mid (event.Deliver (other_end end) index) (Err f) new → (f ≡ fault.NoMemory) × RanTo old new
unfolding Steps RefusesEvent
first_refused old mid new end index answer fault.NoMemory h w step at went = (refl, (1, subst (λ (s : State). RanBy old s 1) (sym went.1) (ran_one old mid (event.Emit end) answer tt step)))
first_refused old mid new end index answer fault.NoSuchPacket h w step at went = let there = there_first old mid end index answer step at in let none = went.0 in absurd cc
first_refused old mid new end index answer fault.Stale h w step at went =
    let same : went.0.0 ≡ first_sent old end = is_same went.0.0 (first_sent old end) _ went.0.1 (there_first old mid end index answer step at) in
    let stale : is_stale (end_of mid (other_end end)) (first_sent old end) ≡ true = subst (λ (p : Sending). is_stale (end_of mid (other_end end)) p ≡ true) same went.0.2 in
    let young = fresh_first old mid end answer h step in absurd cc
first_refused old mid new end index answer fault.NothingToDo h w step at went = absurd went.0
first_refused old mid new end index answer (fault.Ask g) h w step at went = absurd went.0
first_refused old mid new end index answer fault.Exhausted h w step at went = absurd went.0
first_refused old mid new end index answer fault.BadSetup h w step at went = absurd went.0

-- all that was sent was taken
pub arrived_all : (old mid new : State) (end : End) (index : ℕ) (one two : Step) → IsWorld old → IsWorld mid → unacked_count old end ≡ 0 → Steps old (event.Emit end) one mid → index ≡ length (end_of old end).wire
    → Steps mid (event.Deliver (other_end end) index) two new → (end_of new end).sent ≤ (end_of new (other_end end)).taken
unfolding Steps
arrived_all old mid new end index one two h w none first at second =
    let count = (end_of old end).sent in
    let to = end_of mid (other_end end) in
    let same : second.0 ≡ first_sent old end = is_same second.0 (first_sent old end) _ second.1.0 (there_first old mid end index one first at) in
    let is = second.3 ∙ ap (λ (p : Sending). with_end mid (other_end end) (end_after_delivery true to p)) same in
    let sent : (end_of mid end).sent ≡ count + 1 = (emit_sent old mid end one first).0 in
    let taken = ap (λ (e : EndState). e.taken) (other_still old mid end _ first.2) in
    let grew = took to.taken (end_of mid end).sent to.held true (count + 1) count (direction mid end w).early refl (omega (arith, (direction old end h).counts.acked_taken, none, taken)) (omega (arith, sent)) in
    subst (λ (n : ℕ). n ≤ (end_of new (other_end end)).taken) (sym (ap (λ (e : EndState). e.sent) (still_at mid new end _ is) ∙ sent))
    (subst (λ (e : EndState). count + 1 ≤ e.taken) (sym (now_at mid new (other_end end) _ is)) grew)

-- ---- Together.

pub brought_one : (old mid came new : State) (end : End) (index : ℕ) (one two : Step) → IsWorld mid → Steps old (event.Emit end) one mid → Steps mid (event.Deliver (other_end end) index) two came
    → RanBy came new 2 → unacked_count new end ≡ 0 → SameBut came new → ((e : End) → (end_of new e).sent ≡ (end_of came e).sent) → Brought old new end 1
unfolding Steps
brought_one old mid came new end index one two w first second ran done same sent =
    let counts = emit_sent old mid end one first in
    record {
      ran = ran_both old came new 2 2 (ran_both old mid came 1 1 (ran_one old mid (event.Emit end) one tt first) (ran_one mid came (event.Deliver (other_end end) index) two tt second)) ran;
      same = same_both old came new (same_both old mid came (same_emit old mid end one first) (same_deliver mid came (other_end end) index two w second)) same;
      sent = sent end ∙ deliver_sent mid came (other_end end) end index two second ∙ counts.0;
      back = sent (other_end end) ∙ deliver_sent mid came (other_end end) (other_end end) index two second ∙ counts.1;
      done = done;
    }

pub brought_more : (old mid new : State) (end : End) (n : ℕ) → Brought old mid end n → Brought mid new end 1 → Brought old new end (n + 1)
brought_more old mid new end n a b =
    let four : 4 * n + 4 ≡ 4 * (n + 1) = omega arith in
    record {
      ran = subst (λ (k : ℕ). RanBy old new k) four (ran_both old mid new (4 * n) 4 a.ran b.ran);
      same = same_both old mid new a.same b.same;
      sent = omega (arith, a.sent, b.sent);
      back = b.back ∙ a.back;
      done = b.done;
    }

-- where a segment may be sent later, one may be sent now
pub could_emit : (old now : State) (end : End) (n : ℕ) → IsWorld old → unacked_count old end ≡ 0 → Brought old now end n → MayEmit now end → MayEmit old end
could_emit old now end n h none b may = (
  subst (λ (l : List NspMessage). (end_of old end).sent < segments_of old.seg_size l) (b.same.handed end)
      (subst (λ (k : ℕ). (end_of old end).sent < segments_of k (end_of now end).handed) b.same.seg_size (omega (arith, may.0, b.sent))),
  omega (arith, none, h.some),
)
