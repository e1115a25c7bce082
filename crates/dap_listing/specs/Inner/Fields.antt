-- What a field of the program says in a listing.
use Rattle.std.specs.Prelude.{ℕ, List, option_copied}
use Rattle.dap_listing.specs.declared.field.Field.{Field}
use Rattle.dap_listing.specs.declared.field.Field.TheVariants.{Byte, Word, Long, Quad, Image}
use Rattle.std.specs.Fmt.{decimal}
use Rattle.texts.specs.Text.{image_text}
use Rattle.dap_listing.specs.Messages.{optional_text}

-- its text, where it is there
abbrev pub field_text : Field → List ℕ
field_text (Byte name value) = optional_text decimal name.now value
field_text (Word name value) = optional_text decimal name.now value
field_text (Long name value) = optional_text decimal name.now value
field_text (Quad name value) = optional_text decimal name.now value
field_text (Image name value) = optional_text image_text name.now (option_copied value)
