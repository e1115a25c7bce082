-- How long what is written is.
use Rattle.std.specs.Prelude.{ℕ, ◌+◌, nat_lt, if◌then◌else◌}

-- the bytes of a header
abbrev pub header_size : ℕ → ℕ
header_size len = if nat_lt len 256 then 3 else 4

-- the bytes of a Filedata, by the lengths of its RECNUM and its record
abbrev pub file_data_size : ℕ → ℕ → ℕ
file_data_size recnum payload = header_size (1 + recnum + payload) + (1 + recnum + payload)
