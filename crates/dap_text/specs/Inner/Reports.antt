-- Parts of a report's text.
use Rattle.std.specs.Prelude.{ℕ, List, [], ◌∷◌, codes}
use Rattle.std.specs.List.{concat}
use Rattle.std.specs.Fmt.{decimal}
use Rattle.dap_accessing.specs.declared.report.Ending.{Ending}
use Rattle.dap_text.specs.Reports.{ending_text}

-- that a file was opened, with these codes
abbrev pub codes_text : (org rfm : ℕ) → List ℕ
codes_text org rfm = concat (codes "opened " ∷ decimal org ∷ codes " " ∷ decimal rfm ∷ [])

-- how many records a batch has, and how it ended
abbrev pub batch_text : ℕ → Ending → List ℕ
batch_text count end = concat (codes "batch " ∷ decimal count ∷ codes " " ∷ ending_text end ∷ [])
