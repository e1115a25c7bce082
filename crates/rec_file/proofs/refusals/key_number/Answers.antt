use Rattle.std.proofs.Common.{length, arith}
use Rattle.std.proofs.Math.Nat.{pow-le-pow_right}
use Rattle.rec_file.proofs.refusals.key_number.Goals as goal

pub overflow_cast-number : goal.overflow_cast-number
overflow_cast-number c =
    let most = pow-le-pow_right {n = 256} (omega arith) {i = length c.args.key.now} {j = 4} (omega (arith, c.if-key-gt4.false)) in
    omega (arith, c.number_of-number.ensures.small)
