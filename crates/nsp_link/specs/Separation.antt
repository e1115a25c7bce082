-- Numbers modulo 4,096 identify what isn't stale. Laws: a fresh segment that was sent is near, and so is a fresh
-- acknowledgement of what was sent; two near segments that are equal modulo 4,096 are the same one, and so are two
-- near acknowledgements.
use Rattle.std.specs.Prelude.{ℕ, ◌+◌, ◌≤◌}
use Rattle.nsp_link.specs.Limits.{max_window, max_age}

-- k - (received + 1) lies from -2,047 to 2,046: 4,094 numbers
abbrev pub IsSegmentNear : ℕ → ℕ → Type 0
IsSegmentNear received k = (received + 1 ≤ k + max_age) × (k + 1 ≤ (received + 1) + max_window)

-- a - acked lies from -2,047 to 2,047: 4,095 numbers
abbrev pub IsAckNear : ℕ → ℕ → Type 0
IsAckNear acked a = (acked ≤ a + max_age) × (a ≤ acked + max_window)
