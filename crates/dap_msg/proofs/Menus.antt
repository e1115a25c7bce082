-- The number of a menu, a flag at a time from the last one.
use Rattle.std.proofs.Common.{◌≡◌, ℕ, ◌+◌, ◌-◌, ◌*◌, ◌^◌, ◌<◌, ◌≤◌, Bool, List, length, drop, slice_index_or, if◌then◌else◌, sym, arith}
use Rattle.std.proofs.Math.Nat.{pow-le-pow_right, pow-succ'}
use Rattle.std.proofs.lemmas.List.{at_drop_more}
use Rattle.std.specs.Int.{from_bool}
use Rattle.std.specs.Prelude.{map}
use Rattle.dap_msg.specs.declared.encoding.Field.{Field}
use Rattle.dap_msg.specs.Canon.{bits_of}
use Rattle.dap_msg.specs.Inner.Fields.{is_there}

-- fewer than 63 flags are less than half of what 64 bits hold
pub half_fits : (bits n : ℕ) → n ≤ 62 → bits < 2 ^ n → bits < 2 ^ 62
half_fits bits n le lt = let up : 2 ^ n ≤ 2 ^ 62 = pow-le-pow_right (omega arith) le in omega (arith, up, lt)

pub none_yet : (len : ℕ) → 0 < 2 ^ (len - len)
none_yet len = grind arith

pub one_more : (flag bits len at : ℕ) → flag ≤ 1 → 0 < at → at ≤ len → bits < 2 ^ (len - at) → flag + 2 * bits < 2 ^ (len - (at - 1))
one_more flag bits len at one pos le lt = grind (arith, pow-succ' 2 (len - at), one, pos, le, lt)

flag_is : (there : Bool) → from_bool there ≡ (if there then 1 else 0)
flag_is there = grind arith

pub flag_small : (there : Bool) → from_bool there ≤ 1
flag_small there = grind arith

pub next_flag : (fields : List Field) (at : ℕ) (d : Field) → 0 < at → at ≤ length fields
    → from_bool (is_there (slice_index_or fields (at - 1) d)) + 2 * bits_of (map is_there (drop at fields))
    ≡ bits_of (map is_there (drop (at - 1) fields))
next_flag fields at d pos le =
    let e : at - 1 + 1 ≡ at = omega arith in
    rw (flag_is (is_there (slice_index_or fields (at - 1) d))) (sym (rw e at (at_drop_more (λ l. bits_of (map is_there l)) fields (at - 1) d (omega arith))))
