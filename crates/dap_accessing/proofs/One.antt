-- What an end keeps follows from the requests and answers that it stands after.
use Rattle.std.proofs.Common.{◌≡◌, ℕ, Bool, List, [], ◌∷◌, Option, Some, None, refl, sym, ◌∙◌, ap}
use Rattle.std.specs.Option.{option_or}
use Rattle.std.proofs.lemmas.List.{append-nil}
use Rattle.dap_msg.specs.declared.message.Configuration.{Configuration}
use Rattle.dap_msg.specs.Codes as codes
use Rattle.dap_msg.specs.declared.message.Message.TheVariants.{Ack, Filedata, Status}
use Rattle.dap_msg.specs.BothEnds.{config_of, complete_with}
use Rattle.dap_msg.specs.declared.items.Item.{Item}
use Rattle.dap_msg.specs.declared.items.Item.TheVariants.{Whole}
use Rattle.dap_accessing.specs.declared.report.Report.{Report}
use Rattle.dap_accessing.specs.declared.report.Report.TheVariants as report
use Rattle.dap_accessing.specs.Request.{Request}
use Rattle.dap_accessing.specs.declared.phase.Phase.{Phase}
use Rattle.dap_accessing.specs.declared.pending.Pending.{Pending}
use Rattle.dap_accessing.specs.declared.pending.Pending.TheVariants as pending
use Rattle.dap_accessing.specs.Told.{Hearing, Reports, Due, NothingDue, AnswersDue, Wrong, due_after}
use Rattle.dap_accessing.specs.Present.{ClientState, hear_from, FitsDue, ClientAfter}

-- ---- What is pending is told by what it makes of six answers.

abbrev status : ℕ → List Item
status code = Whole (Status (record { code = code; rfa = []; recnum = []; stv = [] })) ∷ []

abbrev config : List Item
config = Whole (config_of 64) ∷ []

abbrev ack : List Item
ack = Whole Ack ∷ []

abbrev body : List Item
body = Whole (Filedata [] []) ∷ []

abbrev accomp : List Item
accomp = Whole (complete_with codes.cmpfunc.response) ∷ []

-- a report is that of one thing pending; where nothing else fits, attributes are
abbrev by_report : Report → Pending
by_report (report.Ready _) = pending.Config
by_report (report.Opened org rfm mrs mrn) = pending.Opened org rfm mrs mrn
by_report report.Connected = pending.Connected
by_report (report.Found _ _) = pending.Record
by_report (report.Done _) = pending.Done
by_report (report.Batch records _) = pending.Batch records
by_report (report.Stored first) = pending.Stored first
by_report report.Closed = pending.Closed
by_report _ = pending.Attributes

abbrev or_by : Hearing → Pending → Pending
or_by (Reports r rest) other = by_report r
or_by _ other = other

abbrev probe : (c a f x s e : Hearing) → Pending
probe c a f x s e = or_by c (or_by a (or_by f (or_by x (or_by s (or_by e pending.Attributes)))))

abbrev probed : Pending → Pending
probed p =
    probe (hear_from p config) (hear_from p ack) (hear_from p body) (hear_from p accomp) (hear_from p (status codes.stscode.success))
    (hear_from p (status codes.stscode.end_of_file))

or-none : {A : Type 0} (o : Option A) → option_or o None ≡ o
or-none None = refl
or-none (Some a) = refl

pub probed-is : (p : Pending) → probed p ≡ p
probed-is pending.Config = refl
probed-is pending.Attributes = refl
probed-is (pending.Opened org rfm mrs mrn) = refl
probed-is pending.Connected = refl
probed-is pending.Record = refl
probed-is pending.Done = refl
probed-is (pending.Batch records) = ap pending.Batch (append-nil records)
probed-is (pending.Stored first) = ap pending.Stored (or-none first)
probed-is pending.Closed = refl

pub same-probes : (p q : Pending) → ((more : List Item) → hear_from p more ≡ hear_from q more) → probed p ≡ probed q
same-probes p q same =
    let c = same config in
    let a = same ack in
    let f = same body in
    let x = same accomp in
    let s = same (status codes.stscode.success) in
    let e = same (status codes.stscode.end_of_file) in
    ap (λ (h : Hearing). probe h (hear_from p ack) (hear_from p body) (hear_from p accomp) (hear_from p (status codes.stscode.success)) (hear_from p (status codes.stscode.end_of_file))) c
    ∙ ap (λ (h : Hearing). probe (hear_from q config) h (hear_from p body) (hear_from p accomp) (hear_from p (status codes.stscode.success)) (hear_from p (status codes.stscode.end_of_file))) a
    ∙ ap (λ (h : Hearing). probe (hear_from q config) (hear_from q ack) h (hear_from p accomp) (hear_from p (status codes.stscode.success)) (hear_from p (status codes.stscode.end_of_file))) f
    ∙ ap (λ (h : Hearing). probe (hear_from q config) (hear_from q ack) (hear_from q body) h (hear_from p (status codes.stscode.success)) (hear_from p (status codes.stscode.end_of_file))) x
    ∙ ap (λ (h : Hearing). probe (hear_from q config) (hear_from q ack) (hear_from q body) (hear_from q accomp) h (hear_from p (status codes.stscode.end_of_file))) s
    ∙ ap (λ (h : Hearing). probe (hear_from q config) (hear_from q ack) (hear_from q body) (hear_from q accomp) (hear_from q (status codes.stscode.success)) h) e

one_pending : (d : Due) (p q : Option Pending) → FitsDue d p → FitsDue d q → p ≡ q
one_pending NothingDue None None h k = refl
one_pending NothingDue None (Some q) h k = absurd k
one_pending NothingDue (Some p) q h k = absurd h
one_pending (AnswersDue r so_far) None q h k = absurd h
one_pending (AnswersDue r so_far) (Some p) None h k = absurd k
one_pending (AnswersDue r so_far) (Some p) (Some q) h k =
    let same : p ≡ q = sym (probed-is p) ∙ same-probes p q (λ more. sym (h more) ∙ k more) ∙ probed-is q in
    ap (λ (x : Pending). Some x) same
one_pending Wrong None q h k = absurd h
one_pending Wrong (Some p) q h k = absurd h

-- ---- All of it.

abbrev kept : Configuration → Bool → Phase → ℕ → Option Pending → ClientState
kept own failed phase limit pending = record { own = own.bufsiz; identity = own; failed = failed; phase = phase; limit = limit; pending = pending }

pub one_present : (requests : List Request) (answers : List Item) (one two : ClientState) → ClientAfter requests answers one → ClientAfter requests answers two → one.identity ≡ two.identity → one ≡ two
one_present requests answers one two h k own =
    ap (λ (n : ℕ). record one { own = n }) h.own
    ∙ ap (λ (x : Configuration). kept x one.failed one.phase one.limit one.pending) own
    ∙ ap (λ (x : Bool). kept two.identity x one.phase one.limit one.pending) (h.works ∙ sym k.works)
    ∙ ap (λ (x : Phase). kept two.identity two.failed x one.limit one.pending) (h.phase ∙ sym k.phase)
    ∙ ap (λ (x : ℕ). kept two.identity two.failed two.phase x one.pending) (h.limit ∙ sym k.limit)
    ∙ ap (λ (x : Option Pending). kept two.identity two.failed two.phase two.limit x) (one_pending (due_after requests answers) one.pending two.pending h.pending k.pending)
    ∙ sym (ap (λ (n : ℕ). record two { own = n }) k.own)
