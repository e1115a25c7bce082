-- How a file's shape is printed.
use Rattle.std.specs.Prelude.{ℕ, List, [], ◌∷◌, codes}
use Rattle.std.specs.List.{concat}
use Rattle.std.specs.Fmt.{decimal}
use Rattle.rec_file.specs.declared.look.Look.{Look}
use Rattle.rec_file.specs.declared.shapes.Shape.{Shape}
use Rattle.dap_accessed.specs.Replies.{given_limit}
use Rattle.dap_text.specs.Tables.{format_text, org_text}

-- two sizes, each after a space
abbrev pub sizes_text : (mrs mrn : ℕ) → List ℕ
sizes_text mrs mrn = concat (codes " " ∷ decimal mrs ∷ codes " " ∷ decimal mrn ∷ [])

-- what is printed of a file's shape, with MRS as it was given
abbrev pub shape_text : Shape → Look → List ℕ
shape_text shape look =
    concat (codes " " ∷ org_text shape.org ∷ codes " " ∷ format_text shape.format ∷ sizes_text (given_limit shape look) shape.mrn ∷ [])
