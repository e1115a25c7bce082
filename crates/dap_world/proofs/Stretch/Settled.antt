-- Both ends are settled.
use Rattle.std.proofs.Common.{◌≡◌, ℕ, zero, suc, ◌+◌, ◌*◌, ◌≤◌, ◌∙◌, Bool, false, ap, arith, Ok, Err}
use Rattle.std.specs.Prelude.{◌==◌, if◌then◌else◌, Result, IsOk}
use Rattle.std.proofs.lemmas.Bool.{ne_eqb}
use Rattle.dap_events.specs.declared.event.End.TheVariants.{A, B}
use Rattle.dap_events.specs.declared.event.WorldFault.{WorldFault}
use Rattle.dap_world.specs.Machine.{State}
use Rattle.dap_world.specs.Inner.Worlds.{IsWorld}
use Rattle.dap_world.specs.Settling.{SettlesIn, unacked_count}
use Rattle.dap_world.specs.Inner.Settling.{NothingSent}
use Rattle.dap_world.specs.Inner.Settling.{SettledBoth}
use Rattle.dap_world.proofs.Stretch.Settles.{ran_both}

-- how many events that were
count_most : (u w n : ℕ) → n ≡ (if u == 0 then 0 else 2 * u + 2) → u ≤ w → n ≤ 2 * w + 2
count_most zero w n is le = omega (arith, is)
count_most (suc u) w n is le =
    let some : (suc u == 0) ≡ false = ne_eqb (suc u) 0 (λ e. omega (arith, e)) in
    let many : n ≡ 2 * suc u + 2 = is ∙ ap (λ (b : Bool). if b then 0 else 2 * suc u + 2) some in
    omega (arith, many, le)

count_none : (u n : ℕ) → n ≡ (if u == 0 then 0 else 2 * u + 2) → u ≡ 0 → n ≡ 0
count_none zero n is none = is
count_none (suc u) n is none = absurd (omega (arith, none))

pub settled_both : (old mid new : State) (n k : ℕ) → IsWorld old → SettlesIn old mid A n → NothingSent old mid → SettlesIn mid new B k → NothingSent mid new → SettledBoth old new (n + k)
settled_both old mid new n k h a ra b rb =
    record {
      ran = ran_both old mid new n k a.ran b.ran;
      a = omega (arith, a.done, rb.sent A, rb.same.acked A);
      b = b.done;
      count = omega (
        arith,
        count_most (unacked_count old A) old.window n a.count (omega (arith, h.from_a.counts.within_window)),
        count_most (unacked_count mid B) old.window k b.count (omega (arith, ra.sent B, ra.same.acked B, h.from_b.counts.within_window)),
      );
      nothing = λ x y. omega (arith, count_none (unacked_count old A) n a.count x, count_none (unacked_count mid B) k b.count (omega (arith, y, ra.sent B, ra.same.acked B)));
    }

pub settle_needs : (r : Result ℕ WorldFault) (f : WorldFault) → r ≡ Err f → IsOk r → ⊥
settle_needs (Ok n) f e ok = cc
settle_needs (Err g) f e ok = cc
