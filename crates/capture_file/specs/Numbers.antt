-- Numbers of a file.
use Rattle.std.specs.Prelude.{ℕ, List, drop}
use Rattle.byteorder.specs.Endian.{big_number, little_number}
use Rattle.capture_file.specs.declared.units.Order.{Order}
use Rattle.capture_file.specs.declared.units.Order.TheVariants.{Big, Little}

-- the number of four bytes at an offset
unfoldable pub u32_at : Order → ℕ → List ℕ → ℕ
u32_at Big at bytes = big_number 4 (drop at bytes)
u32_at Little at bytes = little_number 4 (drop at bytes)

-- the number of two bytes at an offset
unfoldable pub u16_at : Order → ℕ → List ℕ → ℕ
u16_at Big at bytes = big_number 2 (drop at bytes)
u16_at Little at bytes = little_number 2 (drop at bytes)

-- the number of eight bytes at an offset
unfoldable pub u64_at : Order → ℕ → List ℕ → ℕ
u64_at Big at bytes = big_number 8 (drop at bytes)
u64_at Little at bytes = little_number 8 (drop at bytes)
