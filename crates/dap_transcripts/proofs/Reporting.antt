-- Reports are no packet lines.
use Rattle.std.proofs.Common.{◌≡◌, ap, sym, refl, true, false, Bool, ℕ, List, [], ◌∷◌, ◌++◌, length, subst}
use Rattle.std.specs.Prelude.{codes, drop, if◌then◌else◌, Some, None}
use Rattle.std.specs.List.{concat, flat_map}
use Rattle.std.specs.Fmt.{decimal}
use Rattle.std.proofs.lemmas.List.{append-nil}
use Rattle.dap_accessing.specs.declared.report.Report.{Report}
use Rattle.dap_accessing.specs.declared.report.Report.TheVariants.{Ready, Opened, Connected, Found, Done, EndOfFile, Refused, Batch, Stored, Closed}
use Rattle.dap_accessing.specs.declared.report.Ending.{Ending}
use Rattle.dap_accessing.specs.declared.report.Ending.TheVariants as ending
use Rattle.dap_text.specs.Reports.{ending_text, numbered_text, refused_text, report_text}
use Rattle.texts.specs.Text.{image_text, line_feed, word_text}
use Rattle.dap_live.specs.declared.asking.Asking.{Asking}
use Rattle.dap_live.specs.Each.{batch_line, batch_so_far, each_text, record_report_line, records_text, told_text}
use Rattle.dap_live.specs.Texts.{report_line, reports_text}
use Rattle.dap_transcripts.proofs.Speaking.{HasNoFeed, Speaks, no_feed_all, no_feed_both, no_feed_by, no_feed_decimal, no_feed_image, no_feed_word, one_space, speaks_both, speaks_none, speaks_pieces}

no_feed_refused : (code why : ℕ) → HasNoFeed (refused_text code why)
no_feed_refused code why = no_feed_all (codes "refused " ∷ word_text code ∷ codes " " ∷ decimal why ∷ []) (no_feed_by (codes "refused ") refl, (no_feed_word code, (one_space, (no_feed_decimal why, tt))))

no_feed_ending : (e : Ending) → HasNoFeed (ending_text e)
no_feed_ending ending.Complete = no_feed_by (codes "complete") refl
no_feed_ending ending.Stopped = no_feed_by (codes "stopped") refl
no_feed_ending (ending.Refused code why) = no_feed_refused code why

no_feed_numbered : (r : ℕ × List ℕ) → HasNoFeed (numbered_text r)
no_feed_numbered (number, body) = no_feed_all (codes " " ∷ decimal number ∷ codes ":" ∷ image_text body ∷ []) (one_space, (no_feed_decimal number, (no_feed_by (codes ":") refl, (no_feed_image body, tt))))

no_feed_bodies : (rs : List (ℕ × List ℕ)) → HasNoFeed (flat_map numbered_text rs)
no_feed_bodies [] = tt
no_feed_bodies (r ∷ rs) = no_feed_both (numbered_text r) (flat_map numbered_text rs) (no_feed_numbered r) (no_feed_bodies rs)

no_feed_report : (r : Report) → HasNoFeed (report_text r)
no_feed_report (Ready bufsiz) = no_feed_both (codes "ready ") (decimal bufsiz) (no_feed_by (codes "ready ") refl) (no_feed_decimal bufsiz)
no_feed_report (Opened org rfm mrs mrn) =
    no_feed_all (codes "opened " ∷ decimal org ∷ codes " " ∷ decimal rfm ∷ codes " " ∷ decimal mrs ∷ codes " " ∷ decimal mrn ∷ [])
    (no_feed_by (codes "opened ") refl, (no_feed_decimal org, (one_space, (no_feed_decimal rfm, (one_space, (no_feed_decimal mrs, (one_space, (no_feed_decimal mrn, tt))))))))
no_feed_report Connected = no_feed_by (codes "connected") refl
no_feed_report (Found number body) = no_feed_all (codes "found " ∷ decimal number ∷ codes " " ∷ image_text body ∷ []) (no_feed_by (codes "found ") refl, (no_feed_decimal number, (one_space, (no_feed_image body, tt))))
no_feed_report (Done number) = no_feed_both (codes "done ") (decimal number) (no_feed_by (codes "done ") refl) (no_feed_decimal number)
no_feed_report EndOfFile = no_feed_by (codes "end-of-file") refl
no_feed_report (Refused code why) = no_feed_refused code why
no_feed_report (Batch bodies e) =
    no_feed_both (concat (codes "batch " ∷ decimal (length bodies) ∷ codes " " ∷ ending_text e ∷ [])) (flat_map numbered_text bodies)
    (no_feed_all (codes "batch " ∷ decimal (length bodies) ∷ codes " " ∷ ending_text e ∷ []) (no_feed_by (codes "batch ") refl, (no_feed_decimal (length bodies), (one_space, (no_feed_ending e, tt))))) (no_feed_bodies bodies)
no_feed_report (Stored None) = no_feed_by (codes "stored") refl
no_feed_report (Stored (Some (code, why, ordinal))) =
    no_feed_all (codes "stored " ∷ refused_text code why ∷ codes " " ∷ decimal ordinal ∷ []) (no_feed_by (codes "stored ") refl, (no_feed_refused code why, (one_space, (no_feed_decimal ordinal, tt))))
no_feed_report Closed = no_feed_by (codes "closed") refl

speaks_report : (r : Report) → Speaks (report_line r) []
speaks_report r = speaks_pieces (codes "report " ∷ report_text r ∷ []) (no_feed_by (codes "report ") refl, (no_feed_report r, tt)) refl

speaks_reports : (rs : List Report) → Speaks (reports_text rs) []
speaks_reports [] = speaks_none
speaks_reports (r ∷ rs) = speaks_both (report_line r) (reports_text rs) [] [] (speaks_report r) (speaks_reports rs)

speaks_record : (r : ℕ × List ℕ) → Speaks (record_report_line r) []
speaks_record (number, body) =
    speaks_pieces (codes "report record " ∷ decimal number ∷ codes " " ∷ image_text body ∷ []) (no_feed_by (codes "report record ") refl, (no_feed_decimal number, (one_space, (no_feed_image body, tt)))) refl

speaks_records : (rs : List (ℕ × List ℕ)) → Speaks (records_text rs) []
speaks_records [] = speaks_none
speaks_records (r ∷ rs) = speaks_both (record_report_line r) (records_text rs) [] [] (speaks_record r) (speaks_records rs)

batch_is : (count : ℕ) (e : Ending) → concat (codes "report batch " ∷ decimal count ∷ codes " " ∷ ending_text e ∷ line_feed ∷ []) ≡ batch_line count e
batch_is count e = ap (λ (l : List ℕ). codes "report batch " ++ (decimal count ++ (codes " " ++ l))) (sym (append-nil (ending_text e ++ line_feed)))

speaks_batch : (count : ℕ) (e : Ending) → Speaks (batch_line count e) []
speaks_batch count e =
    subst (λ (l : List ℕ). Speaks l []) (batch_is count e)
    (speaks_pieces (codes "report batch " ∷ decimal count ∷ codes " " ∷ ending_text e ∷ []) (no_feed_by (codes "report batch ") refl, (no_feed_decimal count, (one_space, (no_feed_ending e, tt)))) refl)

speaks_each : (told : ℕ) (r : Report) → Speaks (each_text told r) []
speaks_each told (Batch bodies e) = speaks_both (records_text (drop told bodies)) (batch_line (length bodies) e) [] [] (speaks_records (drop told bodies)) (speaks_batch (length bodies) e)
speaks_each told r = speaks_report r

speaks_all_each : (told : ℕ) (rs : List Report) → Speaks (flat_map (each_text told) rs) []
speaks_all_each told [] = speaks_none
speaks_all_each told (r ∷ rs) = speaks_both (each_text told r) (flat_map (each_text told) rs) [] [] (speaks_each told r) (speaks_all_each told rs)

told_by : (asking : Asking) (each : Bool) → Speaks (if each then flat_map (each_text asking.told) asking.reports.items ++ records_text (drop asking.told (batch_so_far asking)) else reports_text asking.reports.items) []
told_by asking true = speaks_both (flat_map (each_text asking.told) asking.reports.items) (records_text (drop asking.told (batch_so_far asking))) [] [] (speaks_all_each asking.told asking.reports.items) (speaks_records (drop asking.told (batch_so_far asking)))
told_by asking false = speaks_reports asking.reports.items

pub speaks_told : (asking : Asking) → Speaks (told_text asking) []
speaks_told asking = told_by asking asking.is_each
