-- What waits is passed on, and brought to the other end.
use Rattle.std.proofs.Common.{◌≡◌, ℕ, ◌+◌, ◌<◌, arith, refl, sym, ◌∙◌, subst, ap, List, [], ◌++◌, length, inl, inr}
use Rattle.std.specs.Prelude.{Err}
use Rattle.std.proofs.lemmas.List.{append-nil}
use Rattle.std.proofs.Math.Nat.{eq-or-lt_of_le}
use Rattle.dap_msg.specs.Blocked.{NspMessage}
use Rattle.dap_events.specs.declared.event.End.{End}
use Rattle.dap_events.specs.declared.event.End.TheVariants.{A, B}
use Rattle.dap_events.specs.declared.event.Event.TheVariants as event
use Rattle.dap_events.specs.declared.event.Step.{Step}
use Rattle.dap_events.specs.declared.event.WorldFault.{WorldFault}
use Rattle.dap_events.specs.declared.event.WorldFault.TheVariants as fault
use Rattle.dap_world.specs.Machine.{State, EndState, end_of, with_end, other_end, end_after_post, segments_of, MayEmit, Steps, RefusesEvent}
use Rattle.dap_world.specs.Runs.{ComesTo}
use Rattle.dap_world.specs.Inner.Worlds.{IsWorld}
use Rattle.dap_world.specs.Settling.{RanBy, IsEmpty, IsExhausted, IsPostDue, unacked_count}
use Rattle.dap_world.specs.Inner.Settling.{BroughtAll, Emptied, PostedAll, SameBut}
use Rattle.dap_world.proofs.Stretch.Exhausting.{IsHandedOver, left_over}
use Rattle.dap_world.proofs.Headline.Kept.{direction}
use Rattle.dap_world.proofs.Stretch.Settles.{ran_none, ran_one, ran_both}

-- ---- What waits.

pub posted_one : (old new : State) (end : End) (answer : Step) → Steps old (event.Post end) answer new → PostedAll old new end 1
unfolding Steps
posted_one old new end answer step =
    record { ran = ran_one old new (event.Post end) answer tt step; is = step.3; few = omega arith; nothing = λ none. absurd (omega (arith, step.0, ap length none)) }

posted_still : (s : State) (end : End) → (end_of s end).waiting ≡ [] → s ≡ with_end s end (end_after_post (end_of s end))
posted_still s A none =
    ap (λ (l : List NspMessage). record s { a = record s.a { handed = l } }) (sym (append-nil s.a.handed) ∙ ap (λ (l : List NspMessage). s.a.handed ++ l) (sym none))
    ∙ ap (λ (l : List NspMessage). record s { a = record s.a { handed = s.a.handed ++ s.a.waiting; waiting = l } }) none
posted_still s B none =
    ap (λ (l : List NspMessage). record s { b = record s.b { handed = l } }) (sym (append-nil s.b.handed) ∙ ap (λ (l : List NspMessage). s.b.handed ++ l) (sym none))
    ∙ ap (λ (l : List NspMessage). record s { b = record s.b { handed = s.b.handed ++ s.b.waiting; waiting = l } }) none

pub posted_none : (old new : State) (end : End) → ComesTo old (event.Post end) (Err fault.NothingToDo) new → PostedAll old new end 0
unfolding RefusesEvent
posted_none old new end went =
    subst (λ (s : State). PostedAll old s end 0) (sym went.1)
    (record { ran = ran_none old; is = posted_still old end went.0; few = omega arith; nothing = λ none. refl })

pub post_refused : (old new : State) (end : End) (f : WorldFault) → (f ≡ fault.NothingToDo → ⊥) → ComesTo old (event.Post end) (Err f) new → 0 < length (end_of old end).waiting
unfolding Steps RefusesEvent
post_refused old new end fault.NoMemory other went = went.0.2.0
post_refused old new end fault.Exhausted other went = went.0.0
post_refused old new end fault.NothingToDo other went = absurd (other refl)
post_refused old new end fault.NoSuchPacket other went = absurd went.0
post_refused old new end fault.Stale other went = absurd went.0
post_refused old new end (fault.Ask g) other went = absurd went.0
post_refused old new end fault.BadSetup other went = absurd went.0

-- ---- And its segments.

-- what handing over leaves alone
record Moved (old mid : State) (end : End) : Type 0 where
  waiting : (end_of mid end).waiting ≡ []
  handed : (end_of mid end).handed ≡ (end_of old end).handed ++ (end_of old end).waiting
  sent : (end_of mid end).sent ≡ (end_of old end).sent
  acked : (end_of mid end).acked ≡ (end_of old end).acked
  served : mid.served ≡ old.served
  read : mid.read ≡ old.read
  back : end_of mid (other_end end) ≡ end_of old (other_end end)
  seg_size : mid.seg_size ≡ old.seg_size

moved : (old mid : State) (end : End) → mid ≡ with_end old end (end_after_post (end_of old end)) → Moved old mid end
moved old mid A is = subst (λ (s : State). Moved old s A) (sym is) (record { waiting = refl; handed = refl; sent = refl; acked = refl; served = refl; read = refl; back = refl; seg_size = refl })
moved old mid B is = subst (λ (s : State). Moved old s B) (sym is) (record { waiting = refl; handed = refl; sent = refl; acked = refl; served = refl; read = refl; back = refl; seg_size = refl })

-- all that waits is passed on, and stays so
both_over : (old mid : State) (e : End) → IsPostDue old B → Moved old mid B → (end_of mid e).waiting ≡ []
both_over old mid A due m = ap (λ (e : EndState). e.waiting) m.back ∙ due.0.waiting
both_over old mid B due m = m.waiting

handed_over : (old mid : State) (end : End) (n : ℕ) → IsPostDue old end → PostedAll old mid end n → IsHandedOver mid end
handed_over old mid A n due p = (moved old mid A p.is).waiting
handed_over old mid B n due p = λ e. both_over old mid e due (moved old mid B p.is)

over_still : (mid new : State) (end : End) → SameBut mid new → IsHandedOver mid end → IsHandedOver new end
over_still mid new A same over = same.waiting A ∙ over
over_still mid new B same over = λ e. same.waiting e ∙ over e

pub sent_left : (old mid new : State) (end : End) (n : ℕ) → IsPostDue old end → PostedAll old mid end n → SameBut mid new → (IsEmpty new end → ⊥) → IsExhausted new → ⊥
sent_left old mid new end n due p same left = left_over new end left (over_still mid new end same (handed_over old mid end n due p))

pub posted_read : (old mid : State) (end : End) (n : ℕ) → PostedAll old mid end n → mid.read ≡ old.read
posted_read old mid end n p = (moved old mid end p.is).read

-- nothing is unacknowledged still
pub posted_settled : (old mid : State) (end : End) (n : ℕ) → PostedAll old mid end n → unacked_count old end ≡ 0 → unacked_count mid end ≡ 0
posted_settled old mid end n p none = let m = moved old mid end p.is in omega (arith, m.sent, m.acked, none)

-- all was sent, where nothing more may be
all_sent : (s : State) (end : End) → IsWorld s → unacked_count s end ≡ 0 → (MayEmit s end → ⊥) → (end_of s end).sent ≡ segments_of s.seg_size (end_of s end).handed
all_sent s end h none stop =
    elim (eq-or-lt_of_le (direction s end h).counts.sent_there) [
      | inl most ↦ most
      | inr less ↦ absurd (stop (less, omega (arith, none, h.some)))
    ]

pub emptied : (old mid new : State) (end : End) (k n : ℕ) → IsWorld new → PostedAll old mid end k → BroughtAll mid new end n → Emptied old new end (k + n)
emptied old mid new end k n w p b =
    let m = moved old mid end p.is in
    let s = b.brought.same in
    record {
      ran = ran_both old mid new k n p.ran (subst (λ (i : ℕ). RanBy mid new i) (sym b.count) b.brought.ran);
      empty = record { waiting = s.waiting end ∙ m.waiting; sent = all_sent new end w b.brought.done b.none_left; acked = b.brought.done };
      seg_size = s.seg_size ∙ m.seg_size;
      served = s.served ∙ m.served;
      read = s.read ∙ m.read;
      handed = s.handed end ∙ m.handed;
      back_waiting = s.waiting (other_end end) ∙ ap (λ (e : EndState). e.waiting) m.back;
      back_handed = s.handed (other_end end) ∙ ap (λ (e : EndState). e.handed) m.back;
      back_sent = b.brought.back ∙ ap (λ (e : EndState). e.sent) m.back;
      back_acked = omega (arith, s.acked (other_end end), ap (λ (e : EndState). e.acked) m.back);
      more = b.segments;
      sent = omega (arith, b.brought.sent, m.sent);
      count = omega (arith, p.few, b.count);
      nothing = λ e. none_more e;
    }
  where
    none_more : IsEmpty old end → k + n ≡ 0
    none_more e =
        let m = moved old mid end p.is in
        let s = b.brought.same in
        let c = (direction new end w).counts in
        let all : segments_of new.seg_size (end_of new end).handed ≡ segments_of old.seg_size (end_of old end).handed =
        ap (λ (i : ℕ). segments_of i (end_of new end).handed) (s.seg_size ∙ m.seg_size)
        ∙ ap (segments_of old.seg_size) (s.handed end ∙ m.handed ∙ ap (λ (l : List NspMessage). (end_of old end).handed ++ l) e.waiting ∙ append-nil (end_of old end).handed) in
        omega (arith, p.nothing e.waiting, b.count, b.brought.sent, m.sent, e.sent, all, c.sent_there)

-- why not, where all is there to be sent
pub not_empty : (old mid : State) (end : End) (k : ℕ) → PostedAll old mid end k → MayEmit mid end → IsEmpty old end → ⊥
not_empty old mid end k p may e =
    let m = moved old mid end p.is in
    let all : segments_of mid.seg_size (end_of mid end).handed ≡ segments_of old.seg_size (end_of old end).handed =
    ap (λ (i : ℕ). segments_of i (end_of mid end).handed) m.seg_size
    ∙ ap (segments_of old.seg_size) (m.handed ∙ ap (λ (l : List NspMessage). (end_of old end).handed ++ l) e.waiting ∙ append-nil (end_of old end).handed) in
    omega (arith, may.0, m.sent, e.sent, all)

pub waits_then : (s : State) (end : End) → 0 < length (end_of s end).waiting → IsEmpty s end → ⊥
waits_then s end some e = omega (arith, some, ap length e.waiting)

-- the other end stays empty
pub still_other : (old new : State) (end : End) (n : ℕ) → IsEmpty old (other_end end) → Emptied old new end n → IsEmpty new (other_end end)
still_other old new end n e b =
    record {
      waiting = b.back_waiting ∙ e.waiting;
      sent = b.back_sent ∙ e.sent ∙ sym (ap (λ (i : ℕ). segments_of i (end_of new (other_end end)).handed) b.seg_size ∙ ap (segments_of old.seg_size) b.back_handed);
      acked = omega (arith, b.back_sent, b.back_acked, e.acked);
    }
