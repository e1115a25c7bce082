-- What a client reports, also of a fetch of which each record is reported by itself.
use Rattle.std.specs.Prelude.{ℕ, Bool, ◌&&◌, ◌||◌, nat_lt, if◌then◌else◌, List, [], ◌∷◌, ◌++◌, drop, length, codes}
use Rattle.std.specs.List.{concat, flat_map}
use Rattle.std.specs.Fmt.{decimal}
use Rattle.dap_accessing.specs.Request.{Request}
use Rattle.dap_accessing.specs.declared.request.Request.TheVariants.{Fetch}
use Rattle.dap_accessing.specs.declared.report.Report.{Report}
use Rattle.dap_accessing.specs.declared.report.Report.TheVariants.{Batch}
use Rattle.dap_accessing.specs.declared.report.Ending.{Ending}
use Rattle.dap_accessing.specs.Each.{records_kept}
use Rattle.dap_text.specs.Reports.{ending_text}
use Rattle.texts.specs.Text.{image_text, line_feed}
use Rattle.dap_live.specs.declared.asking.Asking.{Asking}
use Rattle.dap_live.specs.Texts.{report_line, reports_text}

-- ---- Each record by itself.

-- a record and its number
abbrev pub record_report_line : ℕ × List ℕ → List ℕ
record_report_line (number, body) = concat (codes "report record " ∷ decimal number ∷ codes " " ∷ image_text body ∷ line_feed ∷ [])

-- records, one a line
abbrev pub records_text : List (ℕ × List ℕ) → List ℕ
records_text records = flat_map record_report_line records

-- the end of a batch of this many records, each of which was reported by itself
abbrev pub batch_line : (count : ℕ) → Ending → List ℕ
batch_line count end = concat (codes "report batch " ∷ decimal count ∷ codes " " ∷ (ending_text end ++ line_feed) ∷ [])

-- a report, where this many records of its batch were reported by themselves before
abbrev pub each_text : (told : ℕ) → Report → List ℕ
each_text told (Batch bodies end) = records_text (drop told bodies) ++ batch_line (length bodies) end
each_text told report = report_line report

-- ---- What waits to be reported.

-- the records so far of a batch under way
abbrev pub batch_so_far : Asking → List (ℕ × List ℕ)
batch_so_far asking = records_kept asking.end.present.pending

-- the reports that wait; where each record is reported by itself, also those of a batch under way that weren't reported
abbrev pub told_text : Asking → List ℕ
told_text asking =
    if asking.is_each
    then flat_map (each_text asking.told) asking.reports.items ++ records_text (drop asking.told (batch_so_far asking))
    else reports_text asking.reports.items

-- there is something
abbrev pub waits_told : Asking → Bool
waits_told asking = nat_lt 0 (length asking.reports.items) || (asking.is_each && nat_lt asking.told (length (batch_so_far asking)))

-- this many records of a batch under way are reported once all is reported that waits
abbrev pub told_after : Asking → ℕ
told_after asking = if asking.is_each then length (batch_so_far asking) else asking.told

-- Each record is reported by itself after a request, where this one says so or this was so before. A fetch says it or
-- doesn't, and a Continue goes on as the fetch before it.
abbrev pub each_after : (each : Bool) → Request → (before : Bool) → Bool
each_after each Fetch before = each
each_after each request before = before
