-- The parts of a second.
use Rattle.std.proofs.Common.{◌<◌, ◌≤◌, ◌-◌, ◌*◌, ◌/◌, ◌^◌, ℕ, min, arith}
use Rattle.std.specs.Prelude.{nat_lt, nat_le}
use Rattle.std.proofs.lemmas.Bool.{cond_both}
use Rattle.std.proofs.lemmas.Nat.{div_below}
use Rattle.std.proofs.Math.Nat.{mul-lt-mul_of_pos_right, one-le-pow, pow-le-pow_right}
use Rattle.decnet_frames.specs.Times.{parts_in_second, shown_parts}

pub ten_power : (n : ℕ) → 10 ^ min n 38 < 2 ^ 128
ten_power n =
    let few : min n 38 ≤ 38 = omega arith in
    let most : 10 ^ min n 38 ≤ 10 ^ 38 = pow-le-pow_right (omega arith) few in
    omega (arith, most)

pub two_power : (n : ℕ) → n < 128 → 2 ^ n < 2 ^ 128
two_power n few =
    let below : n ≤ 127 = omega (arith, few) in
    let most : 2 ^ n ≤ 2 ^ 127 = pow-le-pow_right (omega arith) below in
    omega (arith, most)

pub some_parts : (resolution : ℕ) → 0 < parts_in_second resolution
some_parts resolution =
    cond_both {A = ℕ} (nat_lt resolution 128) (10 ^ min resolution 38) (2 ^ (resolution - 128)) (λ n. 0 < n)
    (λ _. let one : 1 ≤ 10 ^ min resolution 38 = one-le-pow (min resolution 38) 10 (omega arith) in omega (arith, one))
    (λ _. let one : 1 ≤ 2 ^ (resolution - 128) = one-le-pow (resolution - 128) 2 (omega arith) in omega (arith, one))

pub few_shown : (resolution : ℕ) → shown_parts resolution ≤ 1000000000
few_shown resolution = cond_both {A = ℕ} (nat_le resolution 6) 1000000 1000000000 (λ n. n ≤ 1000000000) (λ _. omega arith) (λ _. omega arith)

-- fewer parts are shown than a second has
pub scaled_below : (parts m shown : ℕ) → parts < m → 0 < shown → parts * shown / m < shown
scaled_below parts m shown few some =
    let less : parts * shown < m * shown = mul-lt-mul_of_pos_right few some in
    div_below (parts * shown) m shown (omega (arith, few)) (omega (arith, less))

pub some_shown : (resolution : ℕ) → 0 < shown_parts resolution
some_shown resolution = cond_both {A = ℕ} (nat_le resolution 6) 1000000 1000000000 (λ n. 0 < n) (λ _. omega arith) (λ _. omega arith)
