-- How an end stands after one more request, and after one more answer.
use Rattle.std.proofs.Common.{◌≡◌, ◌≢◌, ℕ, suc, ◌+◌, ◌≤◌, refl, inl, inr, sym, ◌∙◌, true, false, Bool, ap, subst, arith, append_assoc, length-append, List, [], ◌∷◌, ◌++◌, length}
use Rattle.std.specs.Prelude.{Option, Some, None, fold, is_some, Ok, Err}
use Rattle.std.proofs.lemmas.List.{append-nil}
use Rattle.dap_msg.specs.declared.items.Item.{Item}
use Rattle.dap_msg.specs.declared.items.Item.TheVariants.{Whole, Malformed}
use Rattle.dap_msg.specs.Items.{ItemAt}
use Rattle.dap_accessing.specs.Request.{Request}
use Rattle.dap_accessing.specs.declared.request.Request.TheVariants.{Hello, Create, OpenFile, Connect, Get, Put, Update, Delete, Rewind, Fetch, Store, Continue, Close, Purge}
use Rattle.dap_accessing.specs.declared.report.Report.{Report}
use Rattle.dap_accessing.specs.declared.pending.Pending.{Pending}
use Rattle.dap_accessing.specs.declared.pending.Pending.TheVariants as pending
use Rattle.dap_accessing.specs.Told.{Hearing, Reports, Waits, Unexpected, hear, Told, Due, NothingDue, AnswersDue, Wrong, due_after, is_unexpected}
use Rattle.dap_msg.specs.BothEnds.{max_nsp_message}
use Rattle.dap_accessing.specs.declared.phase.Phase.TheVariants.{Fresh}
use Rattle.dap_msg.specs.Sendable.{AreSendable}
use Rattle.dap_accessing.specs.Phase.{phase_next, phase_after, limit_next, limit_after, phases_for, IsNoneDue, IsRefused}
use Rattle.dap_accessing.specs.Inner.Hears.{pending_of, IsOutOfSequence, IsInSequence, HearsNext}
use Rattle.dap_accessing.specs.Present.{ClientState, failed_after, ClientAfter, FitsDue}
use Rattle.dap_accessing.specs.Inner.Gathers.{gather}
use Rattle.dap_accessing.specs.Calls.{IsAdmittedBy, AsksRequest, Reads, ReadRefused}
use Rattle.dap_accessing.specs.Prepared.{MayAsk}
use Rattle.dap_msg.specs.Blocked.{Blocked, all_joined}
use Rattle.std.specs.List.{IsAmong}
use Rattle.dap_accessing.specs.Phases.{phase_fits}
use Rattle.dap_accessing.proofs.Phases.{fits-where, where-fits}
use Rattle.dap_accessing.specs.Asked.{messages_of}
use Rattle.dap_accessing.specs.declared.fault.AskFault.TheVariants as fault
use Rattle.dap_accessing.specs.declared.fault.ReadFault.{ReadFault}
use Rattle.dap_accessing.specs.declared.fault.ReadFault.TheVariants as read_fault
use Rattle.dap_msg.specs.declared.fault.MsgFault.{MsgFault}
use Rattle.dap_msg.specs.declared.message.Message.{Message}
use Rattle.dap_accessing.proofs.Gathering.{starts_as, gathered}
use Rattle.dap_accessing.proofs.Hearings.{Stays, stays, told_by, Told-told_by}

-- what is due, by the hearing of the first request
abbrev pub due_by : Request → List Request → List Item → Hearing → Due
due_by request requests answers (Reports done rest) = due_after requests rest
due_by request requests answers Waits = AnswersDue request answers
due_by request requests answers Unexpected = Wrong

pub due-due_by : (request : Request) (requests : List Request) (answers : List Item) → due_after (request ∷ requests) answers ≡ due_by request requests answers (hear request answers)
due-due_by request requests answers =
    elim (hear request answers) as (λ (h : Hearing). ◌≡◌ {A = Due} (let all : List Report × Due = elim h [ Reports done rest ↦ (done ∷ Told requests rest, due_after requests rest) | Waits ↦ ([], AnswersDue request answers) | Unexpected ↦ ([], Wrong) ] in all.1) (due_by request requests answers h)) [
      | Reports done rest ↦ refl
      | Waits ↦ refl
      | Unexpected ↦ refl
    ]

-- ---- A request asked where none is due.

pub starts_waiting : (request : Request) → hear request [] ≡ Waits
starts_waiting Hello = refl
starts_waiting (Create _ _ _ _ _ _) = refl
starts_waiting (OpenFile _ _) = refl
starts_waiting Connect = refl
starts_waiting (Get _) = refl
starts_waiting (Put _ _) = refl
starts_waiting (Update _) = refl
starts_waiting Delete = refl
starts_waiting Rewind = refl
starts_waiting Fetch = refl
starts_waiting (Store _) = refl
starts_waiting (Continue _) = refl
starts_waiting Close = refl
starts_waiting Purge = refl

pub record Asked1 (requests : List Request) (answers : List Item) (request : Request) : Type 0 where
  pub told : Told (requests ++ request ∷ []) answers ≡ Told requests answers
  pub due : due_after (requests ++ request ∷ []) answers ≡ AnswersDue request []
  pub none_due : length (Told requests answers) ≡ length requests

asked_by : (first : Request) (requests : List Request) (answers : List Item) (request : Request) (h : Hearing)
    → due_by first requests answers h ≡ NothingDue
    → ((rest : List Item) → due_after requests rest ≡ NothingDue → Asked1 requests rest request)
    → (told_by (requests ++ request ∷ []) h ≡ told_by requests h) × (due_by first (requests ++ request ∷ []) answers h ≡ AnswersDue request []) × (length (told_by requests h) ≡ suc (length requests))
asked_by first requests answers request (Reports done rest) e step =
    let s = step rest e in (ap (λ l. done ∷ l) s.told, s.due, ap suc s.none_due)
asked_by first requests answers request Waits e step = absurd cc
asked_by first requests answers request Unexpected e step = absurd cc

pub asked_one : (requests : List Request) (answers : List Item) (request : Request) → due_after requests answers ≡ NothingDue → Asked1 requests answers request
asked_one [] [] request e =
    record {
      told = Told-told_by request [] [] ∙ ap (told_by []) (starts_waiting request);
      due = due-due_by request [] [] ∙ ap (due_by request [] []) (starts_waiting request);
      none_due = refl;
    }
asked_one [] (answer ∷ answers) request e = absurd cc
asked_one (first ∷ requests) answers request e =
    let r = asked_by first requests answers request (hear first answers) (sym (due-due_by first requests answers) ∙ e) (λ rest f. asked_one requests rest request f) in
    record {
      told = Told-told_by first (requests ++ request ∷ []) answers ∙ r.0 ∙ sym (Told-told_by first requests answers);
      due = due-due_by first (requests ++ request ∷ []) answers ∙ r.1;
      none_due = ap length (Told-told_by first requests answers) ∙ r.2;
    }

-- where none is due, each request has its report
pub each_told : (requests : List Request) (answers : List Item) → IsNoneDue requests answers → length (Told requests answers) ≡ length requests
each_told requests answers none = (asked_one requests answers Hello none).none_due

none_due_by : (r : Request) (rs : List Request) (answers : List Item) (first : Hearing) → length (told_by rs first) ≡ suc (length rs) → due_by r rs answers first ≢ Wrong
    → ((rest : List Item) → length (Told rs rest) ≡ length rs → due_after rs rest ≢ Wrong → IsNoneDue rs rest) → due_by r rs answers first ≡ NothingDue
none_due_by r rs answers (Reports done rest) e right on = on rest (omega arith) right
none_due_by r rs answers Waits e right on = let none : ⊥ = omega arith in absurd none
none_due_by r rs answers Unexpected e right on = let none : ⊥ = omega arith in absurd none

-- and where each has, and no answer was out of sequence, none is due
pub none_due : (rs : List Request) (answers : List Item) → length (Told rs answers) ≡ length rs → due_after rs answers ≢ Wrong → IsNoneDue rs answers
none_due [] [] e right = refl
none_due [] (a ∷ answers) e right = absurd (right refl)
none_due (r ∷ rs) answers e right =
    due-due_by r rs answers
    ∙ none_due_by r rs answers (hear r answers) (ap length (sym (Told-told_by r rs answers)) ∙ e) (λ w. right (due-due_by r rs answers ∙ w)) (λ rest f g. none_due rs rest f g)

-- ---- One more answer.

-- where this is still to come, more answers are waited for
pub still_waits : (p : Pending) → gather p [] ≡ Waits
still_waits pending.Config = refl
still_waits pending.Attributes = refl
still_waits (pending.Opened org rfm mrs mrn) = refl
still_waits pending.Connected = refl
still_waits pending.Record = refl
still_waits pending.Done = refl
still_waits (pending.Batch bodies) = refl
still_waits (pending.Stored kept) = refl
still_waits pending.Closed = refl

-- The request that is due, and the answers to it so far.
pub record Located (requests : List Request) (answers : List Item) (p : Pending) : Type 0 where
  pub last : Request
  pub so_far : List Item
  pub short : length (Told requests answers) + 1 ≡ length requests
  pub hears : (more : List Item) → hear last (so_far ++ more) ≡ gather p more
  pub told : (more : List Item) → Told requests (answers ++ more) ≡ Told requests answers ++ told_by [] (gather p more)
  pub due : (more : List Item) → due_after requests (answers ++ more) ≡ due_by last [] (so_far ++ more) (gather p more)

locate_by : (first : Request) (requests : List Request) (answers : List Item) (p : Pending) (h : Hearing)
    → hear first answers ≡ h → length (first ∷ requests) ≤ length (told_by requests h) + 1 → FitsDue (due_by first requests answers h) (Some p)
    → ((rest : List Item) → length requests ≤ length (Told requests rest) + 1 → FitsDue (due_after requests rest) (Some p) → Located requests rest p)
    → Located (first ∷ requests) answers p
locate_by first requests answers p (Reports done rest) e alone fits step =
    let s = step rest (omega (arith, alone)) fits in
    let first_told : Told (first ∷ requests) answers ≡ done ∷ Told requests rest = Told-told_by first requests answers ∙ ap (told_by requests) e in
    record {
      last = s.last;
      so_far = s.so_far;
      short = ap (λ l. length l + 1) first_told ∙ omega (arith, s.short);
      hears = s.hears;
      told = λ more.
          Told-told_by first requests (answers ++ more)
          ∙ ap (told_by requests) (subst (λ h. Stays h (hear first (answers ++ more)) more) e (stays first answers more))
          ∙ ap (λ l. done ∷ l) (s.told more)
          ∙ ap (λ l. l ++ told_by [] (gather p more)) (sym first_told);
      due = λ more.
          due-due_by first requests (answers ++ more)
          ∙ ap (due_by first requests (answers ++ more)) (subst (λ h. Stays h (hear first (answers ++ more)) more) e (stays first answers more))
          ∙ s.due more;
    }
locate_by first [] answers p Waits e alone fits step =
    let none_told : Told (first ∷ []) answers ≡ [] = Told-told_by first [] answers ∙ ap (told_by []) e in
    record {
      last = first;
      so_far = answers;
      short = ap (λ l. length l + 1) none_told;
      hears = λ more. fits more ∙ gathered p more;
      told = λ more.
          Told-told_by first [] (answers ++ more)
          ∙ ap (told_by []) (fits more ∙ gathered p more)
          ∙ ap (λ l. l ++ told_by [] (gather p more)) (sym none_told);
      due = λ more. due-due_by first [] (answers ++ more) ∙ ap (due_by first [] (answers ++ more)) (fits more ∙ gathered p more);
    }
locate_by first (second ∷ requests) answers p Waits e alone fits step = absurd (omega (arith, alone))
locate_by first requests answers p Unexpected e alone fits step = absurd fits

pub locate : (requests : List Request) (answers : List Item) (p : Pending) → length requests ≤ length (Told requests answers) + 1 → FitsDue (due_after requests answers) (Some p) → Located requests answers p
locate [] [] p alone fits = absurd fits
locate [] (answer ∷ answers) p alone fits = absurd fits
locate (first ∷ requests) answers p alone fits =
    locate_by first requests answers p (hear first answers) refl
    (subst (λ l. length (first ∷ requests) ≤ length l + 1) (Told-told_by first requests answers) alone)
    (subst (λ d. FitsDue d (Some p)) (due-due_by first requests answers) fits)
    (λ rest a f. locate requests rest p a f)

-- ---- How an end stands.

pub none_pending : (due : Due) → FitsDue due None → due ≡ NothingDue
none_pending NothingDue f = refl
none_pending (AnswersDue request so_far) f = absurd f
none_pending Wrong f = absurd f

fold_more : {A B : Type 0} → (f : A → B → A) (z : A) (xs : List B) (x : B) → fold f z (xs ++ x ∷ []) ≡ f (fold f z xs) x
fold_more f z [] x = refl
fold_more f z (y ∷ xs) x = fold_more f (f z y) xs x

pub phase_more : (reports : List Report) (done : Report) → phase_after (reports ++ done ∷ []) ≡ phase_next (phase_after reports) done
phase_more reports done = fold_more phase_next Fresh reports done

pub limit_more : (reports : List Report) (done : Report) → limit_after (reports ++ done ∷ []) ≡ limit_next (limit_after reports) done
limit_more reports done = fold_more limit_next max_nsp_message reports done

pub stands_asked : (request : Request) (old : ClientState) → old.pending ≡ None → (requests : List Request) (answers : List Item) → ClientAfter requests answers old
    → ClientAfter (requests ++ request ∷ []) answers (record old { pending = Some (pending_of request) })
stands_asked request old none requests answers s =
    let a = asked_one requests answers request (none_pending (due_after requests answers) (subst (λ p. FitsDue (due_after requests answers) p) none s.pending)) in
    record {
      own = s.own;
      works = s.works;
      phase = s.phase ∙ ap phase_after (sym a.told);
      limit = s.limit ∙ ap limit_after (sym a.told);
      alone = omega (arith, length-append requests (request ∷ []), ap length a.told, a.none_due);
      pending = subst (λ d. FitsDue d (Some (pending_of request))) (sym a.due) (λ more. starts_as request more);
    }

pub nothing_due : (old : ClientState) → old.pending ≡ None → (requests : List Request) (answers : List Item) → ClientAfter requests answers old → IsNoneDue requests answers
nothing_due old none requests answers s =
    none_pending (due_after requests answers) (subst (λ p. FitsDue (due_after requests answers) p) none s.pending)

pub something_due : (old : ClientState) (p : Pending) → old.pending ≡ Some p → (requests : List Request) (answers : List Item) → ClientAfter requests answers old → IsNoneDue requests answers → ⊥
something_due old p some requests answers s none =
    let l = locate requests answers p s.alone (subst (λ p. FitsDue (due_after requests answers) p) some s.pending) in
    omega (arith, (asked_one requests answers Hello none).none_due, l.short)

-- the end waits for more
pub stands_waiting : (answer : Item) (old : ClientState) (p next : Pending) → old.pending ≡ Some p → ((rest : List Item) → gather p (answer ∷ rest) ≡ gather next rest)
    → (requests : List Request) (answers : List Item) → ClientAfter requests answers old
    → ClientAfter requests (answers ++ answer ∷ []) (record old { pending = Some next }) × (Told requests (answers ++ answer ∷ []) ≡ Told requests answers ++ [])
stands_waiting answer old p next some e requests answers s =
    let l = locate requests answers p s.alone (subst (λ p. FitsDue (due_after requests answers) p) some s.pending) in
    let waits : gather p (answer ∷ []) ≡ Waits = e [] ∙ still_waits next in
    let told : Told requests (answers ++ answer ∷ []) ≡ Told requests answers = l.told (answer ∷ []) ∙ ap (λ h. Told requests answers ++ told_by [] h) waits ∙ append-nil (Told requests answers) in
    let due : due_after requests (answers ++ answer ∷ []) ≡ AnswersDue l.last (l.so_far ++ answer ∷ []) = l.due (answer ∷ []) ∙ ap (due_by l.last [] (l.so_far ++ answer ∷ [])) waits in (
      record {
        own = s.own;
        works = s.works;
        phase = s.phase ∙ ap phase_after (sym told);
        limit = s.limit ∙ ap limit_after (sym told);
        alone = omega (arith, ap length told, s.alone);
        pending = subst (λ d. FitsDue d (Some next)) (sym due) (λ more. ap (hear l.last) (append_assoc l.so_far (answer ∷ []) more) ∙ l.hears (answer ∷ more) ∙ e more ∙ sym (gathered next more));
      },
      told ∙ sym (append-nil (Told requests answers)),
    )

-- the report comes
pub stands_reported : (answer : Item) (old : ClientState) (p : Pending) (done : Report) → old.pending ≡ Some p → ((rest : List Item) → gather p (answer ∷ rest) ≡ Reports done rest)
    → (requests : List Request) (answers : List Item) → ClientAfter requests answers old
    → ClientAfter requests (answers ++ answer ∷ []) (record old { phase = phase_next old.phase done; limit = limit_next old.limit done; pending = None })
    × (Told requests (answers ++ answer ∷ []) ≡ Told requests answers ++ done ∷ [])
stands_reported answer old p done some e requests answers s =
    let l = locate requests answers p s.alone (subst (λ p. FitsDue (due_after requests answers) p) some s.pending) in
    let told : Told requests (answers ++ answer ∷ []) ≡ Told requests answers ++ done ∷ [] = l.told (answer ∷ []) ∙ ap (λ h. Told requests answers ++ told_by [] h) (e []) in
    let due : due_after requests (answers ++ answer ∷ []) ≡ NothingDue = l.due (answer ∷ []) ∙ ap (due_by l.last [] (l.so_far ++ answer ∷ [])) (e []) in (
      record {
        own = s.own;
        works = s.works;
        phase = ap (λ ph. phase_next ph done) s.phase ∙ sym (phase_more (Told requests answers) done) ∙ ap phase_after (sym told);
        limit = ap (λ n. limit_next n done) s.limit ∙ sym (limit_more (Told requests answers) done) ∙ ap limit_after (sym told);
        alone = omega (arith, ap length told, length-append (Told requests answers) (done ∷ []), l.short);
        pending = subst (λ d. FitsDue d None) (sym due) tt;
      },
      told,
    )

abbrev is_wrong : Due → Bool
is_wrong NothingDue = false
is_wrong (AnswersDue _ _) = false
is_wrong Wrong = true

-- an answer that is out of sequence
pub not_in_sequence : (answer : Item) (old : ClientState) (p : Pending) → old.pending ≡ Some p → ((rest : List Item) → gather p (answer ∷ rest) ≡ Unexpected)
    → (requests : List Request) (answers : List Item) → ClientAfter requests answers old → due_after requests (answers ++ answer ∷ []) ≡ Wrong
not_in_sequence answer old p some e requests answers s =
    let l = locate requests answers p s.alone (subst (λ p. FitsDue (due_after requests answers) p) some s.pending) in
    l.due (answer ∷ []) ∙ ap (due_by l.last [] (l.so_far ++ answer ∷ [])) (e [])

-- an answer where none is due
unasked_by : (first : Request) (requests : List Request) (answers : List Item) (answer : Item) (h : Hearing) → hear first answers ≡ h
    → due_by first requests answers h ≡ NothingDue
    → ((rest : List Item) → due_after requests rest ≡ NothingDue → due_after requests (rest ++ answer ∷ []) ≡ Wrong)
    → due_after (first ∷ requests) (answers ++ answer ∷ []) ≡ Wrong
unasked_by first requests answers answer (Reports done rest) e d step =
    due-due_by first requests (answers ++ answer ∷ [])
    ∙ ap (due_by first requests (answers ++ answer ∷ [])) (subst (λ h. Stays h (hear first (answers ++ answer ∷ [])) (answer ∷ [])) e (stays first answers (answer ∷ [])))
    ∙ step rest d
unasked_by first requests answers answer Waits e d step = absurd cc
unasked_by first requests answers answer Unexpected e d step = absurd cc

pub unasked : (requests : List Request) (answers : List Item) (answer : Item) → due_after requests answers ≡ NothingDue → due_after requests (answers ++ answer ∷ []) ≡ Wrong
unasked [] [] answer e = refl
unasked [] (first ∷ answers) answer e = absurd cc
unasked (first ∷ requests) answers answer e =
    unasked_by first requests answers answer (hear first answers) refl (sym (due-due_by first requests answers) ∙ e) (λ rest f. unasked requests rest answer f)

-- ---- What `ask` answers.

pub some_of : (o : Option Pending) → is_some o ≡ true → (p : Pending) × (o ≡ Some p)
some_of (Some p) e = (p, refl)
some_of None e = absurd cc

pub none_of : (o : Option Pending) → is_some o ≡ false → o ≡ None
none_of (Some p) e = absurd cc
none_of None e = refl

pub refuse_busy : (request : Request) (old : ClientState) → is_some old.pending ≡ true → (requests : List Request) (answers : List Item) → ClientAfter requests answers old → IsRefused old.identity requests answers request fault.Busy
refuse_busy request old some requests answers s = let p = some_of old.pending some in something_due old p.0 p.1 requests answers s

in_phase : (request : Request) (old : ClientState) (b : Bool) → phase_fits old.phase request ≡ b → (requests : List Request) (answers : List Item) → ClientAfter requests answers old → phase_fits (phase_after (Told requests answers)) request ≡ b
in_phase request old b e requests answers s = ap (λ ph. phase_fits ph request) (sym s.phase) ∙ e

is_in_phase : (request : Request) (old : ClientState) → phase_fits old.phase request ≡ true → (requests : List Request) (answers : List Item) → ClientAfter requests answers old → IsAmong (phases_for request) (phase_after (Told requests answers))
is_in_phase request old e requests answers s = where-fits (phase_after (Told requests answers)) request (in_phase request old true e requests answers s)

pub refuse_phase : (request : Request) (old : ClientState) → is_some old.pending ≡ false → phase_fits old.phase request ≡ false → (requests : List Request) (answers : List Item) → ClientAfter requests answers old → IsRefused old.identity requests answers request fault.WrongPhase
refuse_phase request old none wrong requests answers s =
    (nothing_due old (none_of old.pending none) requests answers s, λ e. let f : false ≡ true = sym (in_phase request old false wrong requests answers s) ∙ fits-where request (phase_after (Told requests answers)) e in cc)

pub refuse_large : (request : Request) (old : ClientState) → is_some old.pending ≡ false → phase_fits old.phase request ≡ true → (AreSendable old.limit (messages_of old.identity request) → ⊥)
    → (requests : List Request) (answers : List Item) → ClientAfter requests answers old → IsRefused old.identity requests answers request fault.TooLarge
refuse_large request old none right large requests answers s =
    (nothing_due old (none_of old.pending none) requests answers s, is_in_phase request old right requests answers s, λ e. large (subst (λ n. AreSendable n (messages_of old.identity request)) (sym s.limit) e))

pub admit : (request : Request) (old : ClientState) → MayAsk old request → IsAdmittedBy old request
admit request old may = λ requests answers s. (
  nothing_due old may.none_due requests answers s,
  is_in_phase request old may.in_phase requests answers s,
  subst (λ n. AreSendable n (messages_of old.identity request)) s.limit may.sendable,
)

pub may_ask : (request : Request) (old : ClientState) → old.failed ≡ false → is_some old.pending ≡ false → phase_fits old.phase request ≡ true → AreSendable old.limit (messages_of old.identity request) → old.limit ≤ max_nsp_message → MayAsk old request
may_ask request old works none right sendable most = record { works = works; none_due = none_of old.pending none; in_phase = right; sendable = sendable; most = most }

-- ---- What `read` answers.

wrong_unexpected : (requests : List Request) (answers : List Item) (answer : Item) → due_after requests (answers ++ answer ∷ []) ≡ Wrong → is_unexpected requests answers answer ≡ true
wrong_unexpected requests answers answer e = ap is_wrong e

unexpected_by : (answer : Item) (old : ClientState) (o : Option Pending) → old.pending ≡ o → IsOutOfSequence answer o → (requests : List Request) (answers : List Item) → ClientAfter requests answers old → is_unexpected requests answers answer ≡ true
unexpected_by answer old None e none requests answers s =
    wrong_unexpected requests answers answer (unasked requests answers answer (none_pending (due_after requests answers) (subst (λ p. FitsDue (due_after requests answers) p) e s.pending)))
unexpected_by answer old (Some p) e none requests answers s = wrong_unexpected requests answers answer (not_in_sequence answer old p e none requests answers s)

pub unexpected : (answer : Item) (old : ClientState) → IsOutOfSequence answer old.pending → (requests : List Request) (answers : List Item) → ClientAfter requests answers old → is_unexpected requests answers answer ≡ true
unexpected answer old none requests answers s = unexpected_by answer old old.pending refl none requests answers s

pub malformed : (p : Pending) (fault : MsgFault) (rest : List Item) → gather p (Malformed fault ∷ rest) ≡ Unexpected
malformed pending.Config fault rest = refl
malformed pending.Attributes fault rest = refl
malformed (pending.Opened org rfm mrs mrn) fault rest = refl
malformed pending.Connected fault rest = refl
malformed pending.Record fault rest = refl
malformed pending.Done fault rest = refl
malformed (pending.Batch bodies) fault rest = refl
malformed (pending.Stored kept) fault rest = refl
malformed pending.Closed fault rest = refl

pub malformed_not_in_sequence : (o : Option Pending) (fault : MsgFault) → IsOutOfSequence (Malformed fault) o
malformed_not_in_sequence None fault = tt
malformed_not_in_sequence (Some p) fault = λ rest. malformed p fault rest

fits_not_wrong : (due : Due) (o : Option Pending) → FitsDue due o → is_wrong due ≡ false
fits_not_wrong NothingDue o f = refl
fits_not_wrong (AnswersDue request so_far) o f = refl
fits_not_wrong Wrong None f = absurd f
fits_not_wrong Wrong (Some p) f = absurd f

in_sequence : (answer : Item) (old : ClientState) (p : Pending) → old.pending ≡ Some p → IsInSequence p answer → (requests : List Request) (answers : List Item) → ClientAfter requests answers old → is_unexpected requests answers answer ≡ false
in_sequence answer old p e (inl next) requests answers s =
    fits_not_wrong (due_after requests (answers ++ answer ∷ [])) (Some next.0) (stands_waiting answer old p next.0 e next.1 requests answers s).0.pending
in_sequence answer old p e (inr done) requests answers s =
    fits_not_wrong (due_after requests (answers ++ answer ∷ [])) None (stands_reported answer old p done.0 e done.1 requests answers s).0.pending

-- an answer that was taken in is read
pub taken_read : (bytes : List ℕ) (at : ℕ) (m : Message) (next : ℕ) (old new : ClientState) (report : Option Report) → old.failed ≡ false → ItemAt bytes at (Whole m) next → HearsNext (Whole m) old new (Ok report)
    → Reads bytes at old new (record { report = report; next = next })
taken_read bytes at m next old new None works reads t =
    record {
      works = works;
      still_works = ap (λ (p : ClientState). p.failed) t.4 ∙ works;
      answer = Whole m;
      reads = reads;
      expected = in_sequence (Whole m) old t.0 t.2 (inl (t.1, t.3));
      stands = λ requests answers s. subst (ClientAfter requests (answers ++ Whole m ∷ [])) (sym t.4) (stands_waiting (Whole m) old t.0 t.1 t.2 t.3 requests answers s).0;
      told = λ requests answers s. (stands_waiting (Whole m) old t.0 t.1 t.2 t.3 requests answers s).1;
    }
taken_read bytes at m next old new (Some done) works reads t =
    record {
      works = works;
      still_works = ap (λ (p : ClientState). p.failed) t.3 ∙ works;
      answer = Whole m;
      reads = reads;
      expected = in_sequence (Whole m) old t.0 t.1 (inr (done, t.2));
      stands = λ requests answers s. subst (ClientAfter requests (answers ++ Whole m ∷ [])) (sym t.3) (stands_reported (Whole m) old t.0 done t.1 t.2 requests answers s).0;
      told = λ requests answers s. (stands_reported (Whole m) old t.0 done t.1 t.2 requests answers s).1;
    }

pub taken_refused : (bytes : List ℕ) (at : ℕ) (m : Message) (next : ℕ) (old new : ClientState) (f : ReadFault) → old.failed ≡ false → ItemAt bytes at (Whole m) next → HearsNext (Whole m) old new (Err f) → ReadRefused bytes at old new f
taken_refused bytes at m next old new read_fault.Unexpected works reads t = (works, ap (λ (p : ClientState). p.failed) t.0, t.0, (Whole m, next, reads, unexpected (Whole m) old t.1))
taken_refused bytes at m next old new read_fault.NoMemory works reads t = (works, t.0, (Whole m, next, reads, in_sequence (Whole m) old t.1.0 t.1.1 t.1.2))
taken_refused bytes at m next old new read_fault.Failed works reads t = absurd t

-- without room for a report what is expected isn't read, and what isn't fails the end
pub expected_refused : (bytes : List ℕ) (at : ℕ) (item : Item) (next : ℕ) (old : ClientState) → old.failed ≡ false → ItemAt bytes at item next → ((p : Pending) × (old.pending ≡ Some p) × IsInSequence p item)
    → ReadRefused bytes at old old read_fault.NoMemory
expected_refused bytes at item next old works reads (p, some, allowed) = (works, refl, (item, next, reads, in_sequence item old p some allowed))

pub unexpected_refused : (bytes : List ℕ) (at : ℕ) (item : Item) (next : ℕ) (old new : ClientState) → old.failed ≡ false → ItemAt bytes at item next → IsOutOfSequence item old.pending → new ≡ failed_after old
    → ReadRefused bytes at old new read_fault.Unexpected
unexpected_refused bytes at item next old new works reads none failed =
    (works, ap (λ (p : ClientState). p.failed) failed, failed, (item, next, reads, unexpected item old none))

pub rest_refused : (bytes : List ℕ) (at : ℕ) (fault : MsgFault) (next : ℕ) (old new : ClientState) → old.failed ≡ false → ItemAt bytes at (Malformed fault) next → new ≡ failed_after old → ReadRefused bytes at old new read_fault.Unexpected
rest_refused bytes at fault next old new works reads failed =
    (works, ap (λ (p : ClientState). p.failed) failed, failed, (Malformed fault, next, reads, unexpected (Malformed fault) old (malformed_not_in_sequence old.pending fault)))

pub asks_of : (request : Request) (old : ClientState) (p : Pending) (messages : List (List ℕ)) → MayAsk old request → messages ≡ all_joined (Blocked old.limit (messages_of old.identity request)) → p ≡ pending_of request
    → AsksRequest request old (record old { pending = Some p }) messages
asks_of request old p messages may spelled e =
    record {
      works = may.works;
      still_works = may.works;
      admissible = admit request old may;
      limit = old.limit;
      is_limit = λ requests answers s. s.limit;
      most = may.most;
      sendable = may.sendable;
      spelled = spelled;
      stands = λ requests answers s. subst (λ q. ClientAfter (requests ++ request ∷ []) answers (record old { pending = Some q })) (sym e) (stands_asked request old may.none_due requests answers s);
      told = λ requests answers s. (asked_one requests answers request (nothing_due old may.none_due requests answers s)).told;
    }
