-- The text of a fetch of which each record is told by itself, piece by piece.
use Rattle.std.proofs.Common.{◌≡◌, ◌<◌, ◌+◌, ◌++◌, ◌∙◌, [], ◌∷◌, ℕ, List, ap, append_assoc, codes, drop, get_or, length, sym, take}
use Rattle.std.specs.Fmt.{decimal}
use Rattle.std.proofs.lemmas.Grind.{flat_map-append}
use Rattle.std.proofs.lemmas.List.{append-nil, take_more}
use Rattle.dap_accessing.specs.declared.report.Ending.{Ending}
use Rattle.dap_accessing.specs.declared.report.Report.{Report}
use Rattle.dap_accessing.specs.declared.report.Report.TheVariants.{Batch}
use Rattle.texts.specs.Text.{image_text}
use Rattle.dap_live.specs.Each.{batch_line, each_text, record_report_line, records_text}

-- one record more
pub record_more : (records : List (ℕ × List ℕ)) (i : ℕ) (r : ℕ × List ℕ) (number : ℕ) (body now before named told new : List ℕ) → i < length records → r ≡ get_or records i r → (number, body) ≡ r
    → before ≡ now ++ records_text (take i records) → named ≡ before ++ (codes "report record " ++ decimal number) → told ≡ named ++ (codes " " ++ image_text body) → new ≡ told ++ codes "\n"
    → new ≡ now ++ records_text (take (i + 1) records)
record_more records i r number body now before named told new within item is so name image end =
    let one : List (ℕ × List ℕ) = (number, body) ∷ [] in
    let same : get_or records i r ≡ (number, body) = sym item ∙ sym is in
    let next : take (i + 1) records ≡ take i records ++ one = take_more records i r within ∙ ap (λ (p : ℕ × List ℕ). take i records ++ p ∷ []) same in
    let line : records_text (take i records) ++ record_report_line (number, body) ≡ records_text (take (i + 1) records) =
    ap (λ (l : List ℕ). records_text (take i records) ++ l) (sym (append-nil (record_report_line (number, body)))) ∙ sym (flat_map-append record_report_line (take i records) one) ∙ ap records_text (sym next) in
    end ∙ ap (λ (l : List ℕ). l ++ codes "\n") (image ∙ ap (λ (l : List ℕ). l ++ (codes " " ++ image_text body)) name)
    ∙ append_assoc (before ++ (codes "report record " ++ decimal number)) (codes " " ++ image_text body) (codes "\n")
    ∙ append_assoc before (codes "report record " ++ decimal number) ((codes " " ++ image_text body) ++ codes "\n")
    ∙ ap (λ (l : List ℕ). l ++ record_report_line (number, body)) so ∙ append_assoc now (records_text (take i records)) (record_report_line (number, body))
    ∙ ap (λ (l : List ℕ). now ++ l) line

-- the records of a batch that weren't told, and then its line
pub batch_is : (told : ℕ) (report : Report) (held bodies left : List (ℕ × List ℕ)) (end : Ending) (count : ℕ) (now mid new : List ℕ) → report ≡ Batch bodies end → held ≡ bodies → left ≡ drop told held → count ≡ length held
    → mid ≡ now ++ records_text left → new ≡ mid ++ batch_line count end → new ≡ now ++ each_text told report
batch_is told report held bodies left end count now mid new is view rest counted records line =
    line ∙ ap (λ (l : List ℕ). l ++ batch_line count end) records ∙ append_assoc now (records_text left) (batch_line count end)
    ∙ ap (λ (l : List (ℕ × List ℕ)). now ++ (records_text l ++ batch_line count end)) (rest ∙ ap (drop told) view)
    ∙ ap (λ (n : ℕ). now ++ (records_text (drop told bodies) ++ batch_line n end)) (counted ∙ ap length view)
    ∙ ap (λ (r : Report). now ++ each_text told r) (sym is)
