-- What form an input has, by its first bytes.
use Rattle.std.specs.Prelude.{ℕ, ◌==◌, ◌||◌, Bool, List, [], ◌∷◌, if◌then◌else◌, is_some}
use Rattle.capture_file.specs.Units.{file_kind_of}
use Rattle.cap_cli.specs.declared.form.Form.{Form}
use Rattle.cap_cli.specs.declared.form.Form.TheVariants.{Lines, File, Unknown}

-- how a line of a capture begins: `>`, `<`, `#`, a carriage return or a line feed
abbrev pub begins_line : ℕ → Bool
begins_line byte = (byte == 62) || (byte == 60) || (byte == 35) || (byte == 13) || (byte == 10)

-- the form of an input that is no file
abbrev pub form_of_lines : List ℕ → Form
form_of_lines [] = Lines
form_of_lines (first ∷ others) = if begins_line first then Lines else Unknown

-- the form of an input
abbrev pub form_of : List ℕ → Form
form_of input = if is_some (file_kind_of input) then File else form_of_lines input
