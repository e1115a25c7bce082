-- What waits at both ends is brought to the other.
use Rattle.std.proofs.Common.{◌≡◌, ℕ, ◌+◌, arith, ◌∙◌}
use Rattle.dap_events.specs.declared.event.End.TheVariants.{A, B}
use Rattle.dap_world.specs.Machine.{State}
use Rattle.dap_world.specs.Settling.{unacked_count}
use Rattle.dap_world.specs.Inner.Settling.{Emptied, SentBoth}
use Rattle.dap_world.proofs.Stretch.Posting.{still_other}
use Rattle.dap_world.proofs.Stretch.Settles.{ran_both}

pub settled_b : (old new : State) (n : ℕ) → unacked_count old B ≡ 0 → Emptied old new A n → unacked_count new B ≡ 0
settled_b old new n none a = omega (arith, a.back_sent, a.back_acked, none)

pub sent_both : (old mid new : State) (n k : ℕ) → Emptied old mid A n → Emptied mid new B k → SentBoth old new (n + k)
sent_both old mid new n k a b =
    record {
      ran = ran_both old mid new n k a.ran b.ran;
      empty = (still_other mid new B k a.empty b, b.empty);
      served = b.served ∙ a.served;
      read = b.read ∙ a.read;
      more_a = a.more;
      more_b = b.more;
      sent_a = b.back_sent ∙ a.sent;
      sent_b = omega (arith, b.sent, a.back_sent);
      count = omega (arith, a.count, b.count);
      nothing = λ e. omega (arith, a.nothing e.0, b.nothing (still_other old mid A n e.1 a));
    }
