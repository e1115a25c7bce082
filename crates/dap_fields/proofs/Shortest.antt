-- The written spelling of a number is a spelling, and none is shorter.
use Rattle.std.proofs.Common.{◌≡◌, ℕ, zero, suc, ◌+◌, ◌/◌, ◌%◌, ◌^◌, ◌<◌, ◌≤◌, List, [], ◌∷◌, length, refl, arith, inl, inr}
use Rattle.std.proofs.lemmas.Bool.{cases_lt, lt-ltb, le-ltb}
use Rattle.std.proofs.Math.Nat.{pow-succ'}
use Rattle.dap_fields.specs.Spelling.{groups_value, AreGroups, ExValue}
use Rattle.dap_fields.specs.Writing.{groups}

groups_cons : (b : ℕ) (bytes : List ℕ) → 128 ≤ b → b < 256 → AreGroups bytes → AreGroups (b ∷ bytes)
groups_cons b [] le lt h = absurd h
groups_cons b (c ∷ bytes) le lt h = (le, lt, h)

rest_below : (n v : ℕ) → v < 128 ^ suc n → v / 128 < 128 ^ n
rest_below n v lt = omega (arith, pow-succ' 128 n)

positive : (n v : ℕ) → 128 ≤ v → v < 128 ^ suc n → 0 < n
positive zero v high lt = absurd (omega (arith, lt))
positive (suc n) v high lt = omega arith

more_groups_spell : (n max v : ℕ) → 128 ≤ v → ExValue n (v / 128) (groups max (v / 128)) → ExValue (suc n) v ((128 + v % 128) ∷ groups max (v / 128))
more_groups_spell n max v high h = record {
  groups = groups_cons (128 + v % 128) (groups max (v / 128)) (omega arith) (omega arith) h.groups;
  short = omega (arith, h.short);
  value = omega (arith, h.value);
}

pub groups_spell : (n max v : ℕ) → v < 128 ^ n → n ≤ max → 0 < n → ExValue n v (groups max v)
unfolding groups
groups_spell zero max v lt le some = absurd (omega arith)
groups_spell (suc n) zero v lt le some = absurd (omega arith)
groups_spell (suc n) (suc max) v lt le some =
    elim (cases_lt v 128) [
      | inl low ↦ rw (lt-ltb v 128 low) (record { groups = low; short = omega arith; value = omega arith })
      | inr high ↦ rw (le-ltb v 128 high) (more_groups_spell n max v high (groups_spell n max (v / 128) (rest_below n v lt) (omega arith) (positive n v high lt)))
    ]

one_group : (max v : ℕ) → v < 128 → length (groups (suc max) v) ≡ 1
unfolding groups
one_group max v lt = rw (lt-ltb v 128 lt) refl

pub none_shorter : (max v : ℕ) (bytes : List ℕ) → AreGroups bytes → groups_value bytes ≡ v → length (groups max v) ≤ length bytes
unfolding groups
none_shorter max v [] h e = absurd h
none_shorter zero v (b ∷ bytes) h e = omega arith
none_shorter (suc max) v (b ∷ []) h e =
    let lt : v < 128 = omega (arith, e, h) in omega (arith, one_group max v lt)
none_shorter (suc max) v (b ∷ c ∷ bytes) h e =
    elim (cases_lt v 128) [
      | inl low ↦ omega (arith, one_group max v low)
      | inr high ↦ rw (le-ltb v 128 high) (let q : groups_value (c ∷ bytes) ≡ v / 128 = omega (arith, e) in omega (arith, none_shorter max (v / 128) (c ∷ bytes) h.2 q))
    ]
