-- A stretch without loss.
use Rattle.std.proofs.Common.{◌≡◌, ℕ, zero, suc, ◌+◌, ◌-◌, ◌≤◌, ◌<◌, arith, refl, sym, ◌∙◌, subst, ap, append_assoc, Bool, true, false, List, map, [], ◌∷◌, ◌++◌, length, inl, inr, le-ltb, eq-eqb}
use Rattle.std.specs.Prelude.{max, Option, Some, None, Err, slice_get}
use Rattle.std.proofs.lemmas.List.{length-append, length-map}
use Rattle.std.proofs.lemmas.Bool.{cases_eq, ne_eqb}
use Rattle.std.proofs.lemmas.Option.{slice_get-get_or}
use Rattle.std.proofs.lemmas.Grind.{common_steps}
use Rattle.dap_events.specs.declared.event.End.{End}
use Rattle.dap_events.specs.declared.event.End.TheVariants.{A, B}
use Rattle.dap_events.specs.declared.event.Event.{Event}
use Rattle.dap_events.specs.declared.event.Event.TheVariants as event
use Rattle.dap_events.specs.declared.event.Step.{Step}
use Rattle.dap_events.specs.declared.event.WorldFault.{WorldFault}
use Rattle.dap_events.specs.declared.event.WorldFault.TheVariants as fault
use Rattle.dap_world.specs.Machine.{State, EndState, Sending, end_of, with_end, other_end, wrote, taken_and_held, end_after_delivery, is_stale, Steps, RefusesEvent}
use Rattle.dap_world.specs.Runs.{Runs, ComesTo}
use Rattle.dap_world.specs.Inner.Worlds.{IsWorld, AreEarly}
use Rattle.dap_world.specs.Wires as wires
use Rattle.dap_world.specs.declared.side.Wired.{Wired}
use Rattle.dap_world.specs.Settling.{RanBy, unacked_count}
use Rattle.dap_world.specs.Inner.Settling.{AllResent, AreThere, AllCame, AsksNothing, RanTo}
use Rattle.dap_world.proofs.Steps.Directions.{closed}
use Rattle.dap_world.proofs.Headline.Kept.{back, direction, now_at, still_at, twice}
use Rattle.dap_world.proofs.Stretch.Quiet.{none_asked}

-- ---- Runs.

pub ran_none : (s : State) → RanBy s s 0
ran_none s = record { events = []; ran = refl; count = refl; quiet = refl }

pub runs-both : (first second : List Event) (old mid new : State) → Runs old first mid → Runs mid second new → Runs old (first ++ second) new
unfolding Steps RefusesEvent
runs-both [] second old mid new r t = subst (λ (s : State). Runs s second new) r t
runs-both (e ∷ first) second old mid new r t = (r.0, r.1, r.2, runs-both first second r.0 mid new r.3 t)

pub ran_both : (old mid new : State) (n k : ℕ) → RanBy old mid n → RanBy mid new k → RanBy old new (n + k)
ran_both old mid new n k a b =
    record { events = a.events ++ b.events; ran = runs-both a.events b.events old mid new a.ran b.ran; count = length-append a.events b.events ∙ (omega (arith, a.count, b.count)); quiet = b.quiet ∙ a.quiet }

pub ran_one : (old new : State) (e : Event) (answer : Step) → AsksNothing (e ∷ []) → Steps old e answer new → RanBy old new 1
unfolding Steps
ran_one old new e answer quiet step = record { events = e ∷ []; ran = (new, answer, step, refl); count = refl; quiet = none_asked old new e answer quiet step }

pub ran_more : (old mid new : State) (n : ℕ) (e : Event) (answer : Step) → AsksNothing (e ∷ []) → RanBy old mid n → Steps mid e answer new → RanBy old new (n + 1)
unfolding Steps
ran_more old mid new n e answer quiet a step = ran_both old mid new n 1 a (ran_one mid new e answer quiet step)

-- ---- Resending.

abbrev again : State → End → ℕ → Sending
again s end i = record { segment = Some ((end_of s end).acked + 1 + i); acks = (end_of s end).taken }

abbrev with_more : State → End → List Sending → State
with_more s end more = with_end s end (record (end_of s end) { wire = (end_of s end).wire ++ more })

each_more : (s : State) (end : End) (more : List Sending) (n : ℕ) → length more ≡ n → ((i : ℕ) → i < n → slice_get more i ≡ Some (again s end i)) → (i : ℕ) → i < n + 1 → slice_get (more ++ again s end n ∷ []) i ≡ Some (again s end i)
each_more s end more n long each i lt =
    elim (cases_eq i n) [
      | inl same ↦ subst (λ (k : ℕ). slice_get (more ++ again s end n ∷ []) k ≡ Some (again s end k)) (sym same) (at_end more n (again s end n) long)
      | inr apart ↦ front more (again s end n ∷ []) i (again s end i) (each i (omega arith))
    ]
  where
    at_end : (xs : List Sending) (n : ℕ) (y : Sending) → length xs ≡ n → slice_get (xs ++ y ∷ []) n ≡ Some y
    at_end xs n y e = slice_get-get_or (xs ++ y ∷ []) n y (omega (arith, length-append xs (y ∷ []))) ∙ ap (λ (z : Sending). Some z) (grind (arith, common_steps, e))

    front : (xs ys : List Sending) (i : ℕ) (x : Sending) → slice_get xs i ≡ Some x → slice_get (xs ++ ys) i ≡ Some x
    front [] ys i x e = let none : ⊥ = cc in absurd none
    front (z ∷ xs) ys zero x e = e
    front (z ∷ xs) ys (suc i) x e = front xs ys i x e

wrote_more : (s : State) (end : End) (more : List Sending) (i : ℕ)
    → (let t = with_more s end more in let e = end_of t end in with_end t end (wrote e e.sent (Some (e.acked + 1 + i)))) ≡ with_more s end (more ++ again s end i ∷ [])
wrote_more s A more i = ap (λ (l : List Sending). record s { a = record s.a { wire = l } }) (append_assoc s.a.wire more (again s A i ∷ []))
wrote_more s B more i = ap (λ (l : List Sending). record s { b = record s.b { wire = l } }) (append_assoc s.b.wire more (again s B i ∷ []))

pub resent_more : (old now new : State) (end : End) (i : ℕ) (answer : Step) → AllResent old now end i → Steps now (event.Resend end i) answer new → AllResent old new end (i + 1)
unfolding Steps
resent_more old now new end i answer h step =
    let there : Steps (with_more old end h.more) (event.Resend end i) answer new = subst (λ (s : State). Steps s (event.Resend end i) answer new) h.wrote step in
    record {
      ran = ran_more old now new i (event.Resend end i) answer tt h.ran step;
      more = h.more ++ again old end i ∷ [];
      wrote = there.2 ∙ wrote_more old end h.more i;
      long = length-append h.more (again old end i ∷ []) ∙ (omega (arith, h.long));
      each = each_more old end h.more i h.long h.each;
    }

-- the segment is there to be written again
left : (old now : State) (end : End) (i : ℕ) → AllResent old now end i → i < unacked_count old end → i < unacked_count now end
left old now end i h lt = subst (λ (e : EndState). i < e.sent - e.acked) (sym (now_at old now end _ h.wrote)) lt

pub resend_refused : (old now new : State) (end : End) (i : ℕ) (f : WorldFault) → AllResent old now end i → i < unacked_count old end → ComesTo now (event.Resend end i) (Err f) new → (f ≡ fault.NoMemory) × RanTo old new
unfolding Steps RefusesEvent
resend_refused old now new end i fault.NoMemory h lt went = (refl, (i, subst (λ (s : State). RanBy old s i) (sym went.1) h.ran))
resend_refused old now new end i fault.NothingToDo h lt went = absurd (omega (arith, went.0, left old now end i h lt))
resend_refused old now new end i fault.NoSuchPacket h lt went = absurd went.0
resend_refused old now new end i fault.Stale h lt went = absurd went.0
resend_refused old now new end i (fault.Ask g) h lt went = absurd went.0
resend_refused old now new end i fault.Exhausted h lt went = absurd went.0
resend_refused old now new end i fault.BadSetup h lt went = absurd went.0

-- ---- Delivering.

-- the next segment, or one that was taken, leaves no less taken
pub took : (taken sent : ℕ) (held : List ℕ) (keep : Bool) (k n : ℕ) → AreEarly (taken + 1) sent held → k ≡ n + 1 → n ≤ taken → k ≤ sent → n + 1 ≤ (taken_and_held keep taken held (Some k)).0
took taken sent held keep k n early is le there =
    elim (cases_eq k (taken + 1)) [
      | inl same ↦
          let c = closed held k sent there (subst (λ (m : ℕ). AreEarly m sent held) (sym same) early) in
          rw (eq-eqb k (taken + 1) same) (omega (arith, c.0, is))
      | inr apart ↦ rw (ne_eqb k (taken + 1) apart) (omega (arith, is, le, apart))
    ]

-- the packet at the next index is the one that carries the next segment
next_at : (old now : State) (end : End) (first last j : ℕ) → AllCame old now end (j - first) → AreThere old end first (last - first) → first ≤ j → j < last
    → slice_get (end_of now (other_end (other_end end))).wire j ≡ Some (again old end (j - first))
next_at old now end first last j h there le lt =
    let at : j ≡ first + (j - first) = omega arith in
    ap (λ (e : End). slice_get (end_of now e).wire j) (twice end) ∙ ap (λ (e : EndState). slice_get e.wire j) h.still
    ∙ ap (slice_get (end_of old end).wire) at ∙ there (j - first) (omega arith)

pub is_same : (p q : Sending) (o : Option Sending) → o ≡ Some p → o ≡ Some q → p ≡ q
is_same p q o e f = cc

-- a segment that isn't acknowledged isn't stale, nor is an acknowledgement of all that was taken
fresh_again : (old now : State) (end : End) (n : ℕ) → IsWorld now → AllCame old now end n → is_stale (end_of now (other_end end)) (again old end n) ≡ false
fresh_again old now end n world h =
    let c = (direction now end world).counts in
    let b = (back now end world).counts in
    let to = end_of now (other_end end) in
    rw (
      le-ltb ((end_of old end).acked + 1 + n + 2047) (to.taken + 1) (omega (arith, c.taken_sent, c.within_window, world.window, ap (λ (e : EndState). e.acked) h.still)),
      le-ltb ((end_of old end).taken + 2047) to.acked (omega (arith, b.acked_taken, ap (λ (e : EndState). e.taken) h.still)),
    ) refl

-- one more was delivered
pub came_more : (old now new : State) (end : End) (first last j : ℕ) (answer : Step) → IsWorld now → AllCame old now end (j - first) → AreThere old end first (last - first) → first ≤ j → j < last → last - first ≤ unacked_count old end
    → Steps now (event.Deliver (other_end end) j) answer new → AllCame old new end (j + 1 - first)
unfolding Steps
came_more old now new end first last j answer world h there le lt few step =
    let k = (end_of old end).acked + 1 + (j - first) in
    let to = end_of now (other_end end) in
    let same : step.0 ≡ again old end (j - first) = is_same step.0 (again old end (j - first)) _ step.1.0 (next_at old now end first last j h there le lt) in
    let is = step.3 ∙ ap (λ (p : Sending). with_end now (other_end end) (end_after_delivery true to p)) same in
    let grew : (end_of old end).acked + (j + 1 - first) ≤ (taken_and_held true to.taken to.held (Some k)).0 =
    omega (arith, took to.taken (end_of now end).sent to.held true k ((end_of old end).acked + (j - first)) (direction now end world).early (omega arith) h.taken (omega (arith, ap (λ (e : EndState). e.sent) h.still, few, lt))) in
    record {
      ran = subst (RanBy old new) (omega arith) (ran_more old now new (j - first) (event.Deliver (other_end end) j) answer tt h.ran step);
      taken = subst (λ (e : EndState). (end_of old end).acked + (j + 1 - first) ≤ e.taken) (sym (now_at now new (other_end end) _ is)) grew;
      still = still_at now new end _ is ∙ h.still;
    }

pub came_refused : (old now new : State) (end : End) (first last j : ℕ) (f : WorldFault) → IsWorld now → AllCame old now end (j - first) → AreThere old end first (last - first) → first ≤ j → j < last
    → ComesTo now (event.Deliver (other_end end) j) (Err f) new → (f ≡ fault.NoMemory) × RanTo old new
unfolding Steps RefusesEvent
came_refused old now new end first last j fault.NoMemory world h there le lt went = (refl, (j - first, subst (λ (s : State). RanBy old s (j - first)) (sym went.1) h.ran))
came_refused old now new end first last j fault.NoSuchPacket world h there le lt went =
    let at = next_at old now end first last j h there le lt in let none = went.0 in absurd cc
came_refused old now new end first last j fault.Stale world h there le lt went =
    let same : went.0.0 ≡ again old end (j - first) = is_same went.0.0 (again old end (j - first)) _ went.0.1 (next_at old now end first last j h there le lt) in
    let stale : is_stale (end_of now (other_end end)) (again old end (j - first)) ≡ true = subst (λ (p : Sending). is_stale (end_of now (other_end end)) p ≡ true) same went.0.2 in
    let young = fresh_again old now end (j - first) world h in absurd cc
came_refused old now new end first last j fault.NothingToDo world h there le lt went = absurd went.0
came_refused old now new end first last j (fault.Ask g) world h there le lt went = absurd went.0
came_refused old now new end first last j fault.Exhausted world h there le lt went = absurd went.0
came_refused old now new end first last j fault.BadSetup world h there le lt went = absurd went.0

-- ---- The acknowledgement.

pub at_last : (xs : List Sending) (n : ℕ) (y : Sending) → n ≡ length xs → slice_get (xs ++ y ∷ []) n ≡ Some y
at_last xs n y e = slice_get-get_or (xs ++ y ∷ []) n y (omega (arith, length-append xs (y ∷ []))) ∙ ap (λ (z : Sending). Some z) (grind (arith, common_steps, e))

-- the acknowledgement of all that was sent
abbrev alone : State → End → Sending
alone s end = record { segment = None; acks = (end_of s (other_end end)).taken }

-- the other end wrote it
abbrev WroteAck : (old mid : State) → End → Type 0
WroteAck old mid end = mid ≡ with_end old (other_end end) (wrote (end_of old (other_end end)) (end_of old (other_end end)).sent None)

acked_wire : (old mid : State) (end : End) (index : ℕ) → WroteAck old mid end → index ≡ length (end_of old (other_end end)).wire → slice_get (end_of mid (other_end end)).wire index ≡ Some (alone old end)
acked_wire old mid end index is at = ap (λ (e : EndState). slice_get e.wire index) (now_at old mid (other_end end) _ is) ∙ at_last (end_of old (other_end end)).wire index (alone old end) at

acked_all : (old mid new : State) (end : End) (keep : Bool) → IsWorld old → (end_of old end).sent ≤ (end_of old (other_end end)).taken → WroteAck old mid end
    → new ≡ with_end mid end (end_after_delivery keep (end_of mid end) (alone old end)) → unacked_count new end ≡ 0
acked_all old mid new end keep world all is came_is =
    let c = (direction old end world).counts in
    ap (λ (e : EndState). e.sent - e.acked) (now_at mid new end _ came_is) ∙ ap (λ (e : EndState). e.sent - max e.acked (end_of old (other_end end)).taken) (still_at old mid end _ is)
    ∙ (omega (arith, c.taken_sent, all))

abbrev AckStep : State → End → Step → State → Type 0
AckStep old end answer mid = Steps old (event.Ack (other_end end)) answer mid

-- how it is written
ack_wrote : (old mid : State) (end : End) (answer : Step) → AckStep old end answer mid → WroteAck old mid end
unfolding Steps
ack_wrote old mid end answer step = step.1

pub ack_unacked : (old mid : State) (end : End) (answer : Step) → AckStep old end answer mid → unacked_count mid end ≡ unacked_count old end
ack_unacked old mid end answer step = ap (λ (e : EndState). e.sent - e.acked) (still_at old mid end _ (ack_wrote old mid end answer step))

pub acknowledged_all : (old mid new : State) (end : End) (index : ℕ) (one two : Step) → IsWorld old → (end_of old end).sent ≤ (end_of old (other_end end)).taken → index ≡ length (end_of old (other_end end)).wire
    → Steps old (event.Ack (other_end end)) one mid → Steps mid (event.Deliver end index) two new → RanBy old new 2 × (unacked_count new end ≡ 0)
unfolding Steps
acknowledged_all old mid new end index one two world all at first second =
    let is = ack_wrote old mid end one first in
    let same : second.0 ≡ alone old end = is_same second.0 (alone old end) _ second.1.0 (acked_wire old mid end index is at) in (
      ran_both old mid new 1 1 (ran_one old mid (event.Ack (other_end end)) one tt first) (ran_one mid new (event.Deliver end index) two tt second),
      acked_all old mid new end true world all is (second.3 ∙ ap (λ (p : Sending). with_end mid end (end_after_delivery true (end_of mid end) p)) same),
    )

fresh_alone : (old mid : State) (end : End) → IsWorld old → WroteAck old mid end → is_stale (end_of mid end) (alone old end) ≡ false
fresh_alone old mid end world is =
    let c = (direction old end world).counts in
    ap (λ (e : EndState). is_stale e (alone old end)) (still_at old mid end _ is) ∙ le-ltb ((end_of old (other_end end)).taken + 2047) (end_of old end).acked (omega (arith, c.acked_taken))

pub ack_refused : (old new : State) (end : End) (f : WorldFault) → ComesTo old (event.Ack (other_end end)) (Err f) new → (f ≡ fault.NoMemory) × RanTo old new
unfolding Steps RefusesEvent
ack_refused old new end fault.NoMemory went = (refl, (0, subst (λ (s : State). RanBy old s 0) (sym went.1) (ran_none old)))
ack_refused old new end fault.NoSuchPacket went = absurd went.0
ack_refused old new end fault.Stale went = absurd went.0
ack_refused old new end fault.NothingToDo went = absurd went.0
ack_refused old new end (fault.Ask g) went = absurd went.0
ack_refused old new end fault.Exhausted went = absurd went.0
ack_refused old new end fault.BadSetup went = absurd went.0

pub back_refused : (old mid new : State) (end : End) (index : ℕ) (one : Step) (f : WorldFault) → IsWorld old → index ≡ length (end_of old (other_end end)).wire → Steps old (event.Ack (other_end end)) one mid
    → ComesTo mid (event.Deliver end index) (Err f) new → (f ≡ fault.NoMemory) × RanTo old new
unfolding Steps RefusesEvent
back_refused old mid new end index one fault.NoMemory world at first went = (refl, (1, subst (λ (s : State). RanBy old s 1) (sym went.1) (ran_one old mid (event.Ack (other_end end)) one tt first)))
back_refused old mid new end index one fault.NoSuchPacket world at first went =
    let there = acked_wire old mid end index (ack_wrote old mid end one first) at in let none = went.0 in absurd cc
back_refused old mid new end index one fault.Stale world at first went =
    let is = ack_wrote old mid end one first in
    let same : went.0.0 ≡ alone old end = is_same went.0.0 (alone old end) _ went.0.1 (acked_wire old mid end index is at) in
    let stale : is_stale (end_of mid end) (alone old end) ≡ true = subst (λ (p : Sending). is_stale (end_of mid end) p ≡ true) same went.0.2 in
    let young = fresh_alone old mid end world is in absurd cc
back_refused old mid new end index one fault.NothingToDo world at first went = absurd went.0
back_refused old mid new end index one (fault.Ask g) world at first went = absurd went.0
back_refused old mid new end index one fault.Exhausted world at first went = absurd went.0
back_refused old mid new end index one fault.BadSetup world at first went = absurd went.0

-- ---- All of it.

-- the segments that were written again stand on the wire
pub there_again : (old mid : State) (end : End) (first last count : ℕ) → AllResent old mid end count → first ≡ length (end_of old end).wire → last - first ≡ count → AreThere mid end first (last - first)
there_again old mid end first last count h at is = λ i lt. at_index old mid end first i count h at (omega arith)
  where
    behind : (xs ys : List Sending) (n i : ℕ) (y : Sending) → n ≡ length xs → slice_get ys i ≡ Some y → slice_get (xs ++ ys) (n + i) ≡ Some y
    behind [] ys n i y e at = let goes : n + i ≡ i = omega arith in ap (slice_get ys) goes ∙ at
    behind (x ∷ xs) ys n i y e at = let goes : n + i ≡ suc (length xs + i) = omega arith in ap (slice_get (x ∷ (xs ++ ys))) goes ∙ behind xs ys (length xs) i y refl at

    at_index : (old mid : State) (end : End) (first i count : ℕ) → AllResent old mid end count → first ≡ length (end_of old end).wire → i < count → slice_get (end_of mid end).wire (first + i) ≡ Some (again mid end i)
    at_index old mid end first i count h at lt =
        subst (λ (e : EndState). slice_get e.wire (first + i) ≡ Some (record { segment = Some (e.acked + 1 + i); acks = e.taken })) (sym (now_at old mid end _ h.wrote))
        (behind (end_of old end).wire h.more first i (again old end i) at (h.each i lt))

pub wire_grew : (old mid : State) (end : End) (count : ℕ) → AllResent old mid end count → length (end_of mid end).wire ≡ length (end_of old end).wire + count
wire_grew old mid end count h =
    let wire = (end_of old end).wire in ap (λ (e : EndState). length e.wire) (now_at old mid end _ h.wrote) ∙ length-append wire h.more ∙ ap (λ (n : ℕ). length wire + n) h.long

pub same_unacked : (old mid : State) (end : End) (count : ℕ) → AllResent old mid end count → unacked_count mid end ≡ unacked_count old end
same_unacked old mid end count h = ap (λ (e : EndState). e.sent - e.acked) (now_at old mid end _ h.wrote)

pub came_unacked : (old new : State) (end : End) (n : ℕ) → AllCame old new end n → unacked_count new end ≡ unacked_count old end
came_unacked old new end n h = ap (λ (e : EndState). e.sent - e.acked) h.still

-- all that was sent was taken
pub all_taken : (mid now : State) (end : End) (count : ℕ) → IsWorld mid → AllCame mid now end count → count ≡ unacked_count mid end → (end_of now end).sent ≤ (end_of now (other_end end)).taken
all_taken mid now end count world h is = let c = (direction mid end world).counts in omega (arith, h.taken, ap (λ (e : EndState). e.sent) h.still, is, c.acked_taken, c.taken_sent)

-- as many packets are shown as stand on the wire
pub wire_length : (s : State) (end : End) (wire : List Wired) → map wires.sending_of wire ≡ (end_of s end).wire → length wire ≡ length (end_of s end).wire
wire_length s end wire h = sym (length-map wire wires.sending_of) ∙ ap length h
