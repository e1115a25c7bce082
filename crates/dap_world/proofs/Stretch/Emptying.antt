-- Every answer is read.
use Rattle.std.proofs.Common.{◌≡◌, ℕ, ◌+◌, ◌-◌, ◌<◌, arith, refl, sym, ◌∙◌, subst, ap, length}
use Rattle.std.specs.Prelude.{Err}
use Rattle.dap_events.specs.declared.event.End.TheVariants.{A}
use Rattle.dap_events.specs.declared.event.Event.TheVariants as event
use Rattle.dap_events.specs.declared.event.Step.{Step}
use Rattle.dap_events.specs.declared.event.WorldFault.{WorldFault}
use Rattle.dap_events.specs.declared.event.WorldFault.TheVariants as fault
use Rattle.dap_world.specs.Machine.{RefusesEvent, State, Steps, arrived_at}
use Rattle.dap_world.specs.Runs.{ComesTo}
use Rattle.dap_world.specs.Inner.Worlds.{IsWorld}
use Rattle.dap_world.specs.Settling.{RanBy}
use Rattle.dap_world.specs.Inner.Settling.{ReadEvery, ReadPart}
use Rattle.dap_world.proofs.Stretch.Settles.{ran_more}

-- this many were read so far
pub record ReadSome (old now : State) (n : ℕ) : Type 0 where
  pub ran : RanBy old now n
  pub read : now ≡ record old { read = now.read }
  pub count : now.read ≡ old.read + n

pub read_more : (old now new : State) (n : ℕ) (answer : Step) → ReadSome old now n → Steps now event.Read answer new → ReadSome old new (n + 1)
unfolding Steps
read_more old now new n answer h step =
    let grew : new.read ≡ now.read + 1 = ap (λ (s : State). s.read) step.3 in
    record {
      ran = ran_more old now new n event.Read answer tt h.ran step;
      read = step.3 ∙ ap (λ (s : State). record s { read = now.read + 1 }) h.read ∙ ap (λ (k : ℕ). record old { read = k }) (sym grew);
      count = omega (arith, grew, h.count);
    }

-- one fewer is left
pub fewer_left : (old now new : State) (n : ℕ) (answer : Step) → ReadSome old now n → IsWorld new → Steps now event.Read answer new
    → length (arrived_at new A) - new.read < length (arrived_at now A) - now.read
unfolding Steps
fewer_left old now new n answer h world step =
    let grew : new.read ≡ now.read + 1 = ap (λ (s : State). s.read) step.3 in
    let same : length (arrived_at new A) ≡ length (arrived_at now A) = ap (λ (s : State). length (arrived_at s A)) step.3 in
    omega (arith, grew, same, world.read)

pub read_ends : (old now new : State) (n k : ℕ) → ReadSome old now n → ComesTo now event.Read (Err fault.NothingToDo) new → k ≡ new.read - old.read → ReadEvery old new k
unfolding Steps RefusesEvent
read_ends old now new n k h went is =
    let count : k ≡ n = omega (arith, h.count, is, ap (λ (s : State). s.read) went.1) in
    subst (λ (m : ℕ). ReadEvery old new m) (sym count)
    (subst (λ (s : State). ReadEvery old s n) (sym went.1) (record { ran = h.ran; read = h.read; count = h.count; none_left = went.0 }))

pub read_refused : (old now new : State) (n : ℕ) (f : WorldFault) → (f ≡ fault.NothingToDo → ⊥) → IsWorld now → ReadSome old now n → ComesTo now event.Read (Err f) new → (f ≡ fault.NoMemory) × ReadPart old new × IsWorld new
unfolding Steps RefusesEvent
read_refused old now new n fault.NoMemory other w h went =
    let may = went.0.2 in
    let part : ReadPart old now = record { ran = (n, h.ran); read = h.read; more = omega (arith, h.count); next = may.0; there = may.1 } in
    (refl, subst (ReadPart old) (sym went.1) part, subst IsWorld (sym went.1) w)
read_refused old now new n fault.NothingToDo other w h went = absurd (other refl)
read_refused old now new n fault.NoSuchPacket other w h went = absurd went.0
read_refused old now new n fault.Stale other w h went = absurd went.0
read_refused old now new n (fault.Ask g) other w h went = absurd went.0
read_refused old now new n fault.Exhausted other w h went = absurd went.0
read_refused old now new n fault.BadSetup other w h went = absurd went.0
