-- The limits of every record file, and of what is kept with it.
use Rattle.std.specs.Prelude.{ℕ}

-- the maximum of a record in bytes
abbrev pub max_record : ℕ
max_record = 32767

-- the maximum of a record number
abbrev pub max_record_number : ℕ
max_record_number = 2147483647

-- the maximum of a field of one byte
abbrev pub max_byte : ℕ
max_byte = 255

-- the maximum of a field of two bytes
abbrev pub max_word : ℕ
max_word = 65535

-- the maximum of DATATYPE, which has two groups of seven bits
abbrev pub max_datatype : ℕ
max_datatype = 16383

-- the maximum of RAT, which has three groups of seven bits
abbrev pub max_rat : ℕ
max_rat = 2097151
