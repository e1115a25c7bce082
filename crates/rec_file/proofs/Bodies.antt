-- No record of a file is longer than the longest.
use Rattle.std.proofs.Common.{◌≡◌, ℕ, ◌≤◌, Bool, true, false, cond, List, [], ◌∷◌, length, Some, None, refl, sym, ◌∙◌, inl, inr, arith}
use Rattle.std.specs.List.{filter}
use Rattle.std.specs.FinMap.{entries}
use Rattle.rec_file.specs.Limits.{max_record}
use Rattle.rec_file.specs.Files.{FileVal, IsFile, records_from}
use Rattle.rec_file.proofs.Rising.{at, IsRising, at_below, at_first, at_tail, same_or_not}
use Rattle.rec_file.proofs.RecordsLaws.{get_is_at, rising}
use Rattle.rec_file.proofs.FileLaws.{body_fits}

-- each record is no longer than the longest
abbrev pub AreShort : List (ℕ × List ℕ) → Type 0
AreShort [] = Unit {0}
AreShort (r ∷ records) = (length r.1 ≤ max_record) × AreShort records

short_each : (es : List (ℕ × List ℕ)) → IsRising es → ((n : ℕ) (body : List ℕ) → at es n ≡ Some body → length body ≤ max_record) → AreShort es
short_each [] r h = tt
short_each (e ∷ es) r h = (
  h e.0 e.1 (at_first e es e.0 refl),
  short_each es r.1 (λ n body is. elim (same_or_not n e.0) [
    | inl same ↦ let none : at es n ≡ None = at_below e.0 n es r.0 (omega (arith, same)) in absurd cc
    | inr other ↦ h n body (at_tail e es n other ∙ is)
  ]),
)

short_kept : (test : ℕ × List ℕ → Bool) (es : List (ℕ × List ℕ)) → AreShort es → AreShort (filter test es)
short_kept test [] h = tt
short_kept test (e ∷ es) h = elim (test e) as (λ (b : Bool). AreShort (cond b (e ∷ filter test es) (filter test es))) [
  | true ↦ (h.0, short_kept test es h.1)
  | false ↦ short_kept test es h.1
]

pub records_short : (file : FileVal) (n : ℕ) → IsFile file → AreShort (records_from file.records n)
records_short file n h =
    short_kept _ (entries file.records) (short_each (entries file.records) (rising file.records) (λ k body is. body_fits file k body h (sym (get_is_at file.records k ∙ is))))
