-- Putting back the records that were taken out of a batch loses nothing of what is kept.
use Rattle.std.proofs.Common.{◌≡◌, ◌⊎◌, ℕ, List, [], ◌∷◌, ◌++◌, length, drop, refl, sym, ap, ◌∙◌, inl, inr, Option, Some, None}
use Rattle.std.specs.Prelude.{option_map}
use Rattle.dap_accessing.specs.declared.report.Report.{Report}
use Rattle.dap_accessing.specs.declared.report.Report.TheVariants as report
use Rattle.dap_accessing.specs.declared.pending.Pending.{Pending}
use Rattle.dap_accessing.specs.declared.pending.Pending.TheVariants as pending
use Rattle.dap_accessing.specs.Present.{ClientState}
use Rattle.dap_accessing.specs.Each.{kept_after, put_back, reported_after}

behind : {A : Type 0} (front xs : List A) → drop (length front) (front ++ xs) ≡ xs
behind [] xs = refl
behind (x ∷ front) xs = behind front xs

-- ---- What is pending.

abbrev unkept : (told : List (ℕ × List ℕ)) → Option Pending → Option Pending
unkept told (Some (pending.Batch records)) = Some (pending.Batch (drop (length told) records))
unkept told o = o

unkept-kept : (told : List (ℕ × List ℕ)) (p : Option Pending) → unkept told (kept_after told p) ≡ p
unkept-kept told None = refl
unkept-kept told (Some pending.Config) = refl
unkept-kept told (Some pending.Attributes) = refl
unkept-kept told (Some (pending.Opened org rfm mrs mrn)) = refl
unkept-kept told (Some pending.Connected) = refl
unkept-kept told (Some pending.Record) = refl
unkept-kept told (Some pending.Done) = refl
unkept-kept told (Some (pending.Batch records)) = ap (λ (r : List (ℕ × List ℕ)). Some (pending.Batch r)) (behind told records)
unkept-kept told (Some (pending.Stored first)) = refl
unkept-kept told (Some pending.Closed) = refl

-- a batch is under way, or nothing is put back
pub batch_or_kept : (told : List (ℕ × List ℕ)) (p : Option Pending) → ((records : List (ℕ × List ℕ)) × (p ≡ Some (pending.Batch records))) ⊎ (kept_after told p ≡ p)
batch_or_kept told None = inr refl
batch_or_kept told (Some pending.Config) = inr refl
batch_or_kept told (Some pending.Attributes) = inr refl
batch_or_kept told (Some (pending.Opened org rfm mrs mrn)) = inr refl
batch_or_kept told (Some pending.Connected) = inr refl
batch_or_kept told (Some pending.Record) = inr refl
batch_or_kept told (Some pending.Done) = inr refl
batch_or_kept told (Some (pending.Batch records)) = inl (records, refl)
batch_or_kept told (Some (pending.Stored first)) = inr refl
batch_or_kept told (Some pending.Closed) = inr refl

pub one_kept : (told : List (ℕ × List ℕ)) (x y : ClientState) → put_back told x ≡ put_back told y → x ≡ y
one_kept told x y same =
    let left : x.pending ≡ y.pending = sym (unkept-kept told x.pending) ∙ ap (λ (s : ClientState). unkept told s.pending) same ∙ unkept-kept told y.pending in
    ap (λ (s : ClientState). record s { pending = x.pending }) same ∙ ap (λ (o : Option Pending). record y { pending = o }) left

-- ---- What is reported.

abbrev unreported : (told : List (ℕ × List ℕ)) → Report → Report
unreported told (report.Batch records ending) = report.Batch (drop (length told) records) ending
unreported told done = done

unreported-reported : (told : List (ℕ × List ℕ)) (r : Report) → unreported told (reported_after told r) ≡ r
unreported-reported told (report.Ready bufsiz) = refl
unreported-reported told (report.Opened org rfm mrs mrn) = refl
unreported-reported told report.Connected = refl
unreported-reported told (report.Found number body) = refl
unreported-reported told (report.Done number) = refl
unreported-reported told report.EndOfFile = refl
unreported-reported told (report.Refused code reason) = refl
unreported-reported told (report.Batch records ending) = ap (λ (l : List (ℕ × List ℕ)). report.Batch l ending) (behind told records)
unreported-reported told (report.Stored first) = refl
unreported-reported told report.Closed = refl

back : (told : List (ℕ × List ℕ)) (r : Option Report) → option_map (unreported told) (option_map (reported_after told) r) ≡ r
back told None = refl
back told (Some r) = ap (λ (x : Report). Some x) (unreported-reported told r)

pub one_reported : (told : List (ℕ × List ℕ)) (r s : Option Report) → option_map (reported_after told) r ≡ option_map (reported_after told) s → r ≡ s
one_reported told r s same = sym (back told r) ∙ ap (option_map (unreported told)) same ∙ back told s
