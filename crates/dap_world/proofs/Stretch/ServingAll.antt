-- Every message is served.
use Rattle.std.proofs.Common.{◌≡◌, ℕ, zero, suc, ◌+◌, ◌-◌, ◌≤◌, ◌<◌, arith, refl, sym, ◌∙◌, subst, ap, true, false, List, [], ◌∷◌, length, inl, inr}
use Rattle.std.specs.Prelude.{nat_le, if◌then◌else◌, None, Err, slice_get}
use Rattle.std.proofs.lemmas.Bool.{cases_lt}
use Rattle.dap_msg.specs.declared.message.Message.{Message}
use Rattle.dap_msg.specs.Blocked.{NspMessage, blocked_bytes, messages_in}
use Rattle.nsp_link.specs.Cutting.{count_of}
use Rattle.dap_events.specs.declared.event.End.TheVariants.{A, B}
use Rattle.dap_events.specs.declared.event.Event.TheVariants as event
use Rattle.dap_events.specs.declared.event.Step.{Step}
use Rattle.dap_events.specs.declared.event.WorldFault.{WorldFault}
use Rattle.dap_events.specs.declared.event.WorldFault.TheVariants as fault
use Rattle.dap_world.specs.Machine.{State, EndState, arrived_messages, arrived_at, segments_of, sent_by, Steps, RefusesEvent}
use Rattle.dap_world.specs.Runs.{ComesTo}
use Rattle.dap_world.specs.Inner.Worlds.{IsWorld}
use Rattle.dap_world.specs.Settling.{RanBy, IsEmpty, IsExhausted, IsPostDue}
use Rattle.dap_world.specs.Inner.Settling.{AreEmpty, Emptied, Halts, IsServed, Served, ServedEvery}
use Rattle.dap_world.proofs.Stretch.Exhausting.{quiet_empty, quiet_enough}
use Rattle.dap_world.proofs.Headline.Kept.{headline_of, kept-step}
use Rattle.dap_world.proofs.Stretch.Posting.{still_other}
use Rattle.dap_world.proofs.Stretch.Settles.{ran_none, ran_one, ran_both}

-- all came, where all segments were taken
pub all_arrived : (seg r : ℕ) (xs : List NspMessage) → segments_of seg xs ≤ r → arrived_messages seg r xs ≡ xs
all_arrived seg r [] le = refl
all_arrived seg r (x ∷ xs) le =
    let n = count_of seg (length (blocked_bytes x)) in
    elim (nat_le n r) as (λ b. nat_le n r ≡ b → (if b then x ∷ arrived_messages seg (r - n) xs else []) ≡ x ∷ xs) [
      | true ↦ λ e. ap (λ (l : List NspMessage). x ∷ l) (all_arrived seg (r - n) xs (omega arith))
      | false ↦ λ e. let no : ⊥ = grind (arith, e, le) in absurd no
    ] refl

-- so it is where nothing is left to send
pub arrived_empty_a : (s : State) → IsWorld s → IsEmpty s A → arrived_at s B ≡ sent_by s.a
arrived_empty_a s h e = ap messages_in (all_arrived s.seg_size s.b.taken s.a.handed (omega (arith, e.sent, e.acked, h.from_a.counts.acked_taken)))

pub arrived_empty_b : (s : State) → IsWorld s → IsEmpty s B → arrived_at s A ≡ sent_by s.b
arrived_empty_b s h e = ap messages_in (all_arrived s.seg_size s.a.taken s.b.handed (omega (arith, e.sent, e.acked, h.from_b.counts.acked_taken)))

-- a message is there to be served
pub none_past : (xs : List Message) (n : ℕ) → n < length xs → slice_get xs n ≡ None → ⊥
none_past [] n lt e = omega (arith, lt)
none_past (x ∷ xs) zero lt e = cc
none_past (x ∷ xs) (suc n) lt e = none_past xs n (omega (arith, lt)) e

-- what serving one leaves alone
pub record ServedOne (old new : State) : Type 0 where
  pub from_a : new.a ≡ old.a
  pub handed : new.b.handed ≡ old.b.handed
  pub sent : new.b.sent ≡ old.b.sent
  pub acked : new.b.acked ≡ old.b.acked
  pub served : new.served ≡ old.served + 1
  pub read : new.read ≡ old.read
  pub seg_size : new.seg_size ≡ old.seg_size
  pub ran : RanBy old new 1

pub served_one : (old new : State) (answer : Step) → Steps old event.Serve answer new → ServedOne old new
unfolding Steps
served_one old new answer step =
    record {
      from_a = ap (λ (s : State). s.a) step.4;
      handed = ap (λ (s : State). s.b.handed) step.4;
      sent = ap (λ (s : State). s.b.sent) step.4;
      acked = ap (λ (s : State). s.b.acked) step.4;
      served = ap (λ (s : State). s.served) step.4;
      read = ap (λ (s : State). s.read) step.4;
      seg_size = ap (λ (s : State). s.seg_size) step.4;
      ran = ran_one old new event.Serve answer tt step;
    }

-- B has nothing unacknowledged
pub served_due : (old new : State) → ServedOne old new → AreEmpty old → IsPostDue new B
served_due old new h e = (
  record { waiting = ap (λ (e : EndState). e.waiting) h.from_a ∙ e.0.waiting; sent = ap (λ (e : EndState). e.sent) h.from_a ∙ e.0.sent ∙ sent_all; acked = ap (λ (e : EndState). e.sent - e.acked) h.from_a ∙ e.0.acked },
  omega (arith, h.sent, h.acked, e.1.acked),
)
  where
    sent_all : segments_of old.seg_size old.a.handed ≡ segments_of new.seg_size new.a.handed
    sent_all = ap (λ (n : ℕ). segments_of n old.a.handed) (sym h.seg_size) ∙ ap (λ (e : EndState). segments_of new.seg_size e.handed) (sym h.from_a)

pub served_none : (s : State) → AreEmpty s → Served s s 0 0
served_none s e = record { ran = ran_none s; empty = e; handed = refl; sent_a = refl; served = omega arith; read = refl; more = 0; sent_b = omega arith; count = omega arith; nothing = λ none. refl }

pub served_more : (old now mid new : State) (n k more m : ℕ) → Served old now n k → ServedOne now mid → Emptied mid new B more → m ≡ k + 1 → Served old new (n + (1 + more)) m
served_more old now mid new n k more m h one e is =
    record {
      ran = ran_both old now new n (1 + more) h.ran (ran_both now mid new 1 more one.ran e.ran);
      empty = (still_other mid new B more (served_due now mid one h.empty).0 e, e.empty);
      handed = e.back_handed ∙ ap (λ (e : EndState). e.handed) one.from_a ∙ h.handed;
      sent_a = e.back_sent ∙ ap (λ (e : EndState). e.sent) one.from_a ∙ h.sent_a;
      served = omega (arith, e.served, one.served, h.served, is);
      read = e.read ∙ one.read ∙ h.read;
      more = h.more + e.more;
      sent_b = omega (arith, e.sent, one.sent, h.sent_b);
      count = omega (arith, e.count, h.count, is);
      nothing = λ none. absurd (omega (arith, none, is));
    }

-- ---- How many.

pub same_sent : (old now : State) (n k : ℕ) → Served old now n k → length (sent_by now.a) ≡ length (sent_by old.a)
same_sent old now n k h = ap (λ (l : List NspMessage). length (messages_in l)) h.handed

-- a message that is served was sent
pub serves_sent : (now new : State) (answer : Step) → IsWorld now → Steps now event.Serve answer new → now.served < length (sent_by now.a)
serves_sent now new answer w steps =
    let one = served_one now new answer steps in
    omega (arith, one.served, (headline_of new (kept-step now new event.Serve answer steps w)).taken_there, ap (λ (e : EndState). length (sent_by e)) one.from_a)

-- where nothing is to be served, all was
pub nothing_left : (now : State) → IsWorld now → AreEmpty now → RefusesEvent now event.Serve fault.NothingToDo → length (sent_by now.a) ≤ now.served
unfolding RefusesEvent
nothing_left now w e (inl some) = absurd (omega (arith, some, ap length e.1.waiting))
nothing_left now w e (inr none) =
    elim (cases_lt now.served (length (sent_by now.a))) [
      | inl lt ↦ absurd (none_past (sent_by now.a) now.served lt (ap (λ (l : List Message). slice_get l now.served) (sym (arrived_empty_a now w e.0)) ∙ none))
      | inr le ↦ le
    ]

pub serve_refused : (old now new : State) (n k : ℕ) (f : WorldFault) → IsWorld now → Served old now n k → (f ≡ fault.NothingToDo → ⊥) → ComesTo now event.Serve (Err f) new → Halts (IsServed old) old new f
unfolding Steps RefusesEvent
serve_refused old now new n k fault.NoMemory w h some went = (
  subst (λ (s : State). IsExhausted s → ⊥) (sym went.1) (quiet_enough now (quiet_empty now h.empty)),
  (n, subst (λ (s : State). RanBy old s n) (sym went.1) h.ran),
  λ all. omega (arith, all, h.served, same_sent old now n k h, serves_sent now went.0.1 went.0.0 w went.0.2),
)
serve_refused old now new n k fault.NothingToDo w h some went = absurd (some refl)
serve_refused old now new n k fault.NoSuchPacket w h some went = absurd went.0
serve_refused old now new n k fault.Stale w h some went = absurd went.0
serve_refused old now new n k (fault.Ask g) w h some went = absurd went.0
serve_refused old now new n k fault.Exhausted w h some went = absurd went.0
serve_refused old now new n k fault.BadSetup w h some went = absurd went.0

pub served_every : (old now : State) (n k : ℕ) → IsWorld now → Served old now n k → length (sent_by old.a) ≤ now.served → ServedEvery old now n
served_every old now n k w h all =
    let same = same_sent old now n k h in
    record { messages = k; done = h; all = omega (arith, same, all); only = λ none. omega (arith, none, h.served, same, (headline_of now w).taken_there) }
