-- A batch whose records are taken out as they come.
use Rattle.std.proofs.Common.{◌≡◌, ℕ, refl, sym, ◌∙◌, true, false, Bool, ap, subst, append_assoc, List, [], ◌∷◌, ◌++◌}
use Rattle.std.specs.Prelude.{Option, Some, None, Ok, if◌then◌else◌, option_map, option_to_list}
use Rattle.dap_msg.specs.Codes.{is_success}
use Rattle.dap_msg.specs.BothEnds.{number_of}
use Rattle.dap_msg.specs.Items.{ItemAt}
use Rattle.dap_msg.specs.declared.items.Item.{Item}
use Rattle.dap_msg.specs.declared.items.Item.TheVariants.{Whole}
use Rattle.dap_msg.specs.declared.message.Message.{Message}
use Rattle.dap_msg.specs.declared.message.Message.TheVariants.{Filedata, Status}
use Rattle.dap_accessing.specs.Request.{Request}
use Rattle.dap_accessing.specs.declared.phase.Phase.{Phase}
use Rattle.dap_accessing.specs.declared.report.Report.{Report}
use Rattle.dap_accessing.specs.declared.report.Report.TheVariants as report
use Rattle.dap_accessing.specs.declared.report.Ending.{Ending}
use Rattle.dap_accessing.specs.declared.report.Ending.TheVariants as ending
use Rattle.dap_accessing.specs.declared.pending.Pending.{Pending}
use Rattle.dap_accessing.specs.declared.pending.Pending.TheVariants as pending
use Rattle.dap_accessing.specs.Told.{Hearing, Reports, Waits, Unexpected, Told}
use Rattle.dap_accessing.specs.Parts.{batch_ending}
use Rattle.dap_accessing.specs.Phase.{phase_next, limit_next}
use Rattle.dap_accessing.specs.Present.{ClientState, ClientAfter}
use Rattle.std.proofs.lemmas.List.{append-nil}
use Rattle.dap_accessing.specs.Each.{IsBatch, ReadsOn, kept_after, none_kept, put_back, records_kept, reported_after}
use Rattle.dap_accessing.specs.Inner.Gathers.{gather, gather_batch}
use Rattle.dap_accessing.specs.Inner.Hears.{HearsNext}
use Rattle.dap_accessing.proofs.Gathering.{gathered}
use Rattle.dap_accessing.proofs.Laws.{still_waits, stands_waiting, stands_reported}
use Rattle.dap_accessing.proofs.One.{probed-is, same-probes}

-- what is gathered alike is pending alike
alike : (p q : Pending) → ((rest : List Item) → gather p rest ≡ gather q rest) → p ≡ q
alike p q same = sym (probed-is p) ∙ same-probes p q (λ more. gathered p more ∙ same more ∙ sym (gathered q more)) ∙ probed-is q

-- more of a batch is waited for
record GoesOn (told records : List (ℕ × List ℕ)) (m : Message) (q : Pending) : Type 0 where
  more : List (ℕ × List ℕ)
  is : q ≡ pending.Batch (records ++ more)
  behind : (rest : List Item) → gather_batch (told ++ records) (Whole m ∷ rest) ≡ gather_batch (told ++ (records ++ more)) rest

refused-waits : {A : Type 0} (success : Bool) (done : Report) → (if success then Unexpected else Reports done []) ≡ Waits → A
refused-waits true done e = let no : ⊥ = cc in absurd no
refused-waits false done e = let no : ⊥ = cc in absurd no

goes-on : (told records : List (ℕ × List ℕ)) (m : Message) (q : Pending) → ((rest : List Item) → gather_batch records (Whole m ∷ rest) ≡ gather q rest) → GoesOn told records m q
goes-on told records (Filedata recnum body) q g =
    let r : ℕ × List ℕ = (number_of recnum, body) in
    record {
      more = r ∷ [];
      is = sym (alike (pending.Batch (records ++ r ∷ [])) q g);
      behind = λ rest. ap (λ (l : List (ℕ × List ℕ)). gather_batch l rest) (append_assoc told records (r ∷ []));
    }
goes-on told records (Status s) q g = refused-waits (is_success s.code) (report.Batch records (batch_ending s)) (g [] ∙ still_waits q)
goes-on told records m q g = let e : Unexpected ≡ Waits = g [] ∙ still_waits q in let no : ⊥ = cc in absurd no

-- the batch is reported
record Ends (told records : List (ℕ × List ℕ)) (m : Message) (done : Report) : Type 0 where
  behind : (rest : List Item) → gather_batch (told ++ records) (Whole m ∷ rest) ≡ Reports (reported_after told done) rest
  phase : (p : Phase) → phase_next p (reported_after told done) ≡ phase_next p done
  limit : (n : ℕ) → limit_next n (reported_after told done) ≡ limit_next n done

same-phase : (told records : List (ℕ × List ℕ)) (e : Ending) (p : Phase) → phase_next p (report.Batch (told ++ records) e) ≡ phase_next p (report.Batch records e)
same-phase told records ending.Complete p = refl
same-phase told records ending.Stopped p = refl
same-phase told records (ending.Refused code reason) p = refl

ended : (told records : List (ℕ × List ℕ)) (m : Message) (e : Ending) (done : Report) → done ≡ report.Batch records e
    → ((rest : List Item) → gather_batch (told ++ records) (Whole m ∷ rest) ≡ Reports (report.Batch (told ++ records) e) rest) → Ends told records m done
ended told records m e done is g =
    subst (Ends told records m) (sym is) (record { behind = g; phase = same-phase told records e; limit = λ n. refl })

status-ends : (told records : List (ℕ × List ℕ)) (m : Message) (e : Ending) (success : Bool) (done : Report)
    → ((rest : List Item) → (if success then Unexpected else Reports (report.Batch records e) rest) ≡ Reports done rest)
    → ((rest : List Item) → gather_batch (told ++ records) (Whole m ∷ rest) ≡ (if success then Unexpected else Reports (report.Batch (told ++ records) e) rest))
    → Ends told records m done
status-ends told records m e true done g h = let one : Unexpected ≡ Reports done [] = g [] in let no : ⊥ = cc in absurd no
status-ends told records m e false done g h =
    let one : Reports (report.Batch records e) [] ≡ Reports done [] = g [] in
    let is : done ≡ report.Batch records e = cc in
    ended told records m e done is h

ends : (told records : List (ℕ × List ℕ)) (m : Message) (done : Report) → ((rest : List Item) → gather_batch records (Whole m ∷ rest) ≡ Reports done rest) → Ends told records m done
ends told records (Filedata recnum body) done g = let e : Waits ≡ Reports done [] = g [] in let no : ⊥ = cc in absurd no
ends told records (Status s) done g = status-ends told records (Status s) (batch_ending s) (is_success s.code) done g (λ rest. refl)
ends told records m done g = let e : Unexpected ≡ Reports done [] = g [] in let no : ⊥ = cc in absurd no

-- ---- Reading.

was-batch : (p : Pending) (o : Option Pending) (records : List (ℕ × List ℕ)) → o ≡ Some p → o ≡ Some (pending.Batch records) → p ≡ pending.Batch records
was-batch p o records e b = let both : Some p ≡ Some (pending.Batch records) = sym e ∙ b in cc

module _ (m : Message) (old new : ClientState) (told : List (ℕ × List ℕ)) (requests : List Request) (answers : List Item) (b : IsBatch old) (s : ClientAfter requests answers (put_back told old)) where
  -- where the client stands as if those that were told were kept, and what that reports
  abbrev Stands : Option Report → Type 0
  Stands report =
      ClientAfter requests (answers ++ Whole m ∷ []) (put_back told new)
      × (Told requests (answers ++ Whole m ∷ []) ≡ Told requests answers ++ option_to_list (option_map (reported_after told) report))

  waits-on : HearsNext (Whole m) old new (Ok None) → Stands None
  waits-on t =
      let records = b.0 in
      let g = subst (λ (p : Pending). (rest : List Item) → gather p (Whole m ∷ rest) ≡ gather t.1 rest) (was-batch t.0 old.pending records t.2 b.1) t.3 in
      let on = goes-on told records m t.1 g in
      let stood = stands_waiting (Whole m) (put_back told old) (pending.Batch (told ++ records)) (pending.Batch (told ++ (records ++ on.more))) (ap (kept_after told) b.1) on.behind requests answers s in
      let is : put_back told new ≡ record old { pending = Some (pending.Batch (told ++ (records ++ on.more))) } =
      ap (put_back told) t.4 ∙ ap (λ (q : Pending). record old { pending = kept_after told (Some q) }) on.is in
      (subst (ClientAfter requests (answers ++ Whole m ∷ [])) (sym is) stood.0, stood.1)

  reports-on : (done : Report) → HearsNext (Whole m) old new (Ok (Some done)) → Stands (Some done)
  reports-on done t =
      let records = b.0 in
      let g = subst (λ (p : Pending). (rest : List Item) → gather p (Whole m ∷ rest) ≡ Reports done rest) (was-batch t.0 old.pending records t.1 b.1) t.2 in
      let end = ends told records m done g in
      let stood = stands_reported (Whole m) (put_back told old) (pending.Batch (told ++ records)) (reported_after told done) (ap (kept_after told) b.1) end.behind requests answers s in
      let is : put_back told new ≡ record old { phase = phase_next old.phase (reported_after told done); limit = limit_next old.limit (reported_after told done); pending = None } =
      ap (put_back told) t.3
      ∙ ap (λ (p : Phase). record old { phase = p; limit = limit_next old.limit done; pending = None }) (sym (end.phase old.phase))
      ∙ ap (λ (n : ℕ). record old { phase = phase_next old.phase (reported_after told done); limit = n; pending = None }) (sym (end.limit old.limit)) in
      (subst (ClientAfter requests (answers ++ Whole m ∷ [])) (sym is) stood.0, stood.1)

  stands-on : (report : Option Report) → HearsNext (Whole m) old new (Ok report) → Stands report
  stands-on None t = waits-on t
  stands-on (Some done) t = reports-on done t

pub read_on : (bytes : List ℕ) (at : ℕ) (m : Message) (next : ℕ) (old new : ClientState) → ItemAt bytes at (Whole m) next → (report : Option Report) → HearsNext (Whole m) old new (Ok report)
    → ReadsOn bytes at old new (record { report = report; next = next })
read_on bytes at m next old new reads report t =
    record {
      answer = Whole m;
      reads = reads;
      stands = λ told requests answers b s. (stands-on m old new told requests answers b s report t).0;
      told = λ told requests answers b s. (stands-on m old new told requests answers b s report t).1;
    }

-- where they are taken out, those that were taken out before and these are put back
pub taken_out : (told : List (ℕ × List ℕ)) (o : Option Pending) → kept_after (told ++ records_kept o) (none_kept o) ≡ kept_after told o
taken_out told (Some (pending.Batch records)) = ap (λ (l : List (ℕ × List ℕ)). Some (pending.Batch l)) (append-nil (told ++ records))
taken_out told None = refl
taken_out told (Some pending.Config) = refl
taken_out told (Some pending.Attributes) = refl
taken_out told (Some (pending.Opened _ _ _ _)) = refl
taken_out told (Some pending.Connected) = refl
taken_out told (Some pending.Record) = refl
taken_out told (Some pending.Done) = refl
taken_out told (Some (pending.Stored _)) = refl
taken_out told (Some pending.Closed) = refl
