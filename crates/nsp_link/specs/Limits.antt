-- The limits of an end.
use Rattle.std.specs.Prelude.{ℕ, ◌^◌}

-- how many bytes a segment has at most
abbrev pub max_segment : ℕ
max_segment = 1400

-- how old a segment or an acknowledgement may be that its 12-bit number still identifies
abbrev pub max_age : ℕ
max_age = 2047

-- How many segments may be sent and not acknowledged. With more, an acknowledgement could be 2,048 ahead, and would
-- be taken for an old one.
abbrev pub max_window : ℕ
max_window = max_age

-- the minimum of the limit on a message's bytes
abbrev pub min_limit : ℕ
min_limit = 64

-- and the maximum of it
abbrev pub max_limit : ℕ
max_limit = 65535

-- the segments that a direction may have
abbrev pub max_segments : ℕ
max_segments = 2 ^ 40
