-- One option of an interface.
use Rattle.std.proofs.Common.{◌≡◌, ℕ, zero, suc, ◌+◌, ◌-◌, ◌*◌, ◌/◌, ◌==◌, ◌<◌, nat_lt, min, List, take, drop, length, if◌then◌else◌, Some, None, arith, refl}
use Rattle.capture_file.specs.Numbers.{u16_at}
use Rattle.capture_file.specs.Meanings.{value_from}
use Rattle.capture_file.specs.declared.units.Order.{Order}

pub one_option : (n : ℕ) (order : Order) (code : ℕ) (options : List ℕ) → 0 < n
    → value_from n order code options ≡ (if nat_lt (length options) 4 then None
    else if u16_at order 0 options == 0 then None
    else if u16_at order 0 options == code then Some (take (min (u16_at order 2 options) (length (drop 4 options))) (drop 4 options))
    else value_from (n - 1) order code (drop (min ((u16_at order 2 options + 3) / 4 * 4) (length (drop 4 options))) (drop 4 options)))
one_option zero order code options some = absurd (omega (arith, some))
one_option (suc n) order code options some =
    let e : suc n - 1 ≡ n = omega arith in
    rw e refl
