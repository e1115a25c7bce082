use Rattle.std.proofs.Common.{arith, ◌≡◌, ◌<◌, ◌≤◌, ◌^◌, ℕ, min, subst, sym}
use Rattle.std.proofs.Math.Nat.{one-le-pow}
use Rattle.decnet_frames.proofs.TimeLemmas.{ten_power, two_power}
use Rattle.decnet_frames.proofs.text.parts_in_second.Goals as goal

pub pow-requires : goal.pow-requires
pow-requires c =
    let power : c.from.result ≡ min c.args.resolution 38 = omega arith in
    subst (λ (n : ℕ). 10 ^ n < 2 ^ 128) (sym power) (ten_power c.args.resolution)

pub pow-requires-else-resolution-lt-POWERS_OF_TWO : goal.pow-requires-else-resolution-lt-POWERS_OF_TWO
pow-requires-else-resolution-lt-POWERS_OF_TWO c = two_power c.from-else-resolution-lt-POWERS_OF_TWO.result (omega arith)

pub returns-then-resolution-lt-POWERS_OF_TWO-clause-some : goal.returns-then-resolution-lt-POWERS_OF_TWO-clause-some
returns-then-resolution-lt-POWERS_OF_TWO-clause-some c =
    let one : 1 ≤ 10 ^ c.from.result = one-le-pow c.from.result 10 (omega arith) in
    omega (arith, one, c.pow.ensures)
