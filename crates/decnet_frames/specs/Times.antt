-- The words of a frame: its number, and when it was captured.
use Rattle.std.specs.Prelude.{ℕ, ◌+◌, ◌-◌, ◌*◌, ◌/◌, ◌%◌, ◌^◌, nat_lt, nat_le, min, List, ◌++◌, drop, codes, if◌then◌else◌, Option, Some, None}
use Rattle.std.specs.Fmt.{decimal}
use Rattle.capture_file.specs.declared.meaning.Time.{Time}
use Rattle.decnet_frames.specs.Origins.{frame_by}

-- how many parts a second has; one of more than 10^38 shows as one of 10^38: no part is a billionth of a second
abbrev pub parts_in_second : ℕ → ℕ
parts_in_second resolution = if nat_lt resolution 128 then 10 ^ min resolution 38 else 2 ^ (resolution - 128)

-- the parts that are shown: millionths of a second, or billionths of one with finer parts or a power of two of them
abbrev pub shown_parts : ℕ → ℕ
shown_parts resolution = if nat_le resolution 6 then 1000000 else 1000000000

-- the digits after the first one
abbrev pub digits_after_first : ℕ → List ℕ
digits_after_first number = drop 1 (decimal number)

-- seconds, a point, and parts of a second with all their zeros, rounded down; nothing but `-` before 1970
abbrev pub seconds_text : (seconds parts in_second shown : ℕ) → List ℕ
seconds_text seconds parts in_second shown =
    if nat_lt seconds (2 ^ 63) then decimal seconds ++ (codes "." ++ digits_after_first (shown + parts * shown / in_second)) else codes "-"

-- a time; the offset is added as two's complement of 64 bits
abbrev pub time_text : Option Time → List ℕ
time_text None = codes "-"
time_text (Some time) =
    let in_second = parts_in_second time.resolution in
    seconds_text ((time.parts / in_second + time.offset) % 2 ^ 64) (time.parts % in_second) in_second (shown_parts time.resolution)

-- `frame N TIME`
abbrev pub frame_text : ℕ → Option Time → List ℕ
frame_text number time = frame_by (decimal number) (time_text time)
