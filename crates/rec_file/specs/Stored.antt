-- How a file is stored.
use Rattle.std.specs.Prelude.{refl}
use Rattle.std.specs.FinMap.{code}
use Rattle.std.specs.Coded.{Coded, code_by, coded×, coded_ℕ, coded_list}
use Rattle.rec_file.specs.declared.look.Look.{Look}
use Rattle.rec_file.specs.declared.shapes.Shape.{Shape}
use Rattle.rec_file.specs.contracts.look.Look as look_type
use Rattle.rec_file.specs.contracts.shapes.Shape as shape_type
use Rattle.rec_file.specs.Files.{FileVal, Records}

-- a file is stored as its shape, what is kept besides, and its entries
abbrev pub file_code : Coded FileVal
file_code =
    code_by (Shape × (Look × Records)) (coded× shape_type.the_row.coded (coded× look_type.the_row.coded (code coded_ℕ (coded_list coded_ℕ)))) (λ f. (f.shape, (f.look, f.records))) (λ p. record { shape = p.0; look = p.1.0; records = p.1.1 }) (λ _. refl)
