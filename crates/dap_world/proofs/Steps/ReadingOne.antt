-- Reading an answer is a step of the machine.
use Rattle.std.proofs.Common.{◌≡◌, ◌≢◌, ℕ, ◌+◌, ◌^◌, ◌≤◌, ◌<◌, arith, refl, sym, ◌∙◌, subst, ap, append_assoc, true, false, List, [], ◌∷◌, ◌++◌, length, take, drop, map, eq-eqb}
use Rattle.std.specs.Prelude.{◌==◌, if◌then◌else◌, option_to_list, Option, Some, None, Ok, Err, slice_get}
use Rattle.std.proofs.lemmas.List.{length-append, map-append, append-nil}
use Rattle.std.proofs.lemmas.Bool.{ne_eqb}
use Rattle.dap_msg.specs.declared.message.Message.{Message}
use Rattle.dap_msg.specs.declared.items.Item.{Item}
use Rattle.dap_msg.specs.declared.items.Item.TheVariants.{Whole}
use Rattle.dap_msg.specs.Blocked.{messages_in}
use Rattle.dap_world.specs.Plain.{Answers}
use Rattle.dap_accessing.specs.Present as accessing
use Rattle.dap_accessing.specs.Told.{Told, is_unexpected}
use Rattle.dap_accessing.specs.declared.report.Report.{Report}
use Rattle.nsp_link.specs.Cutting.{cut}
use Rattle.nsp_link.specs.Limits.{max_segments}
use Rattle.dap_events.specs.declared.event.End.TheVariants.{A}
use Rattle.dap_events.specs.declared.event.Event.TheVariants as event
use Rattle.dap_events.specs.declared.event.Step.{Step}
use Rattle.dap_events.specs.declared.event.Step.TheVariants as step
use Rattle.dap_events.specs.declared.event.WorldFault.TheVariants as fault
use Rattle.dap_world.specs.Machine.{RefusesEvent, State, arrived_messages, arrived_at, served_by_b, answers_read, with_read, next_to_read, told_by, reports_by_a, Steps}
use Rattle.dap_world.specs.Runs.{ComesTo, TakesMemory, WantsMemory}
use Rattle.dap_world.specs.Inner.Worlds.{IsWorld}
use Rattle.dap_fields.specs.Spelling.{AreBytes}
use Rattle.dap_accessing.specs.Calls.{ReadRefused}
use Rattle.dap_accessing.specs.declared.fault.ReadFault.{ReadFault}
use Rattle.dap_accessing.specs.declared.fault.ReadFault.TheVariants as read_fault
use Rattle.dap_end.specs.Ports.{PortValue}
use Rattle.dap_end.specs.Going.{oldest_message}
use Rattle.dap_end.specs.Going.{processed_after}
use Rattle.dap_end.specs.Asking.{HasAsked, ReadNone, ReadOne}
use Rattle.dap_end.specs.Done.{AskingValue}
use Rattle.dap_end.proofs.ForCallers.{in_append}
use Rattle.dap_world.proofs.Plain.{answers_full}
use Rattle.dap_world.specs.Inner.Sides.{AreWithinLimit, KeptSo, side_of}
use Rattle.dap_world.specs.Inner.Parts.{Parts, AreParts, IsAskedAll, asked_messages, answers, asking_end, served_items, state_of}
use Rattle.dap_world.proofs.Steps.Counting.{handed-bytes}
use Rattle.dap_world.proofs.Steps.Packets.{arrived-front, get-front, take-next}
use Rattle.dap_world.proofs.Headline.Splits.{one_there, only_item}
use Rattle.dap_world.proofs.Steps.Arrived.{Next, find_next, none_next, handled_one, handled_side}
use Rattle.dap_world.proofs.Steps.Growing.{told_moved, few_messages}
use Rattle.dap_world.proofs.Headline.Kept.{kept-step, read-front}
use Rattle.dap_world.proofs.Headline.Agreeing.{none-unexpected}
use Rattle.dap_world.proofs.Steps.Serving.{full-take, fit-take}
use Rattle.dap_world.proofs.Steps.Wrote.{AreThen, as_client, asking_parts, client_is}

-- the answers to what B served
all-answered : (p : Parts) → AreParts p → messages_in (take p.b.posted (answers p)) ++ messages_in (drop p.b.posted (answers p)) ≡ Answers p.accessed.own [] (map Whole (served_by_b (state_of p)))
all-answered p h =
    sym (in_append (take p.b.posted (answers p)) (drop p.b.posted (answers p))) ∙ h.world.answered

-- what is read next from B is of its message
pub next_answer : (p : Parts) (bytes : List ℕ) (later : List (List ℕ)) → AreParts p → p.a.link.coming.inbox ≡ bytes ∷ later → Next p.b p.a (answers p) p.read bytes
next_answer p bytes later h inbox =
    find_next p.b p.a (answers p) p.read h.from_b bytes later
    (full-take p.b.posted (answers p) (answers_full p.accessed.own [] (served_items p))) (fit-take p.b.posted (answers p) h.from_b.fit) inbox

next_read : (p : Parts) (bytes : List ℕ) → AreParts p → (n : Next p.b p.a (answers p) p.read bytes) → next_to_read (state_of p) ≡ Some n.m
next_read p bytes h n =
    subst (λ (size : ℕ). slice_get (messages_in (arrived_messages size p.a.link.coming.received (take p.b.posted (answers p)))) p.read ≡ Some n.m) h.alike.size n.next

-- the answers read, once one more is
read-more : (p : Parts) (m : Message) → AreParts p → next_to_read (state_of p) ≡ Some m → answers_read (with_read (state_of p)) ≡ answers_read (state_of p) ++ Whole m ∷ []
read-more p m h next =
    let s = state_of p in
    let front = arrived-front s.seg_size s.a.taken s.b.handed in
    let here = subst (λ (l : List Message). slice_get l p.read ≡ Some m) front.1 (get-front (arrived_at s A) front.0 p.read m next) in
    let there = subst (λ (l : List Message). slice_get l p.read ≡ Some m) (all-answered p h) (get-front (messages_in s.b.handed) (messages_in s.b.waiting) p.read m here) in
    ap (map Whole) (take-next (Answers p.accessed.own [] (map Whole (served_by_b s))) p.read m there) ∙ map-append Whole (take p.read (Answers p.accessed.own [] (map Whole (served_by_b s)))) (m ∷ [])

reads : (p : Parts) (m : Message) → next_to_read (state_of p) ≡ Some m → Steps (state_of p) event.Read (told_by (state_of p) (with_read (state_of p))) (with_read (state_of p))
unfolding Steps
reads p m next = (m, next, refl, refl)

world-read : (p : Parts) (m : Message) → AreParts p → next_to_read (state_of p) ≡ Some m → IsWorld (with_read (state_of p))
world-read p m h next = kept-step (state_of p) (with_read (state_of p)) event.Read (told_by (state_of p) (with_read (state_of p))) (reads p m next) h.world

-- it isn't unexpected
is_in_sequence : (p : Parts) (m : Message) → AreParts p → next_to_read (state_of p) ≡ Some m → is_unexpected p.requests (answers_read (state_of p)) (Whole m) ≢ true
is_in_sequence p m h next =
    let front = read-front (with_read (state_of p)) (world-read p m h next) in
    none-unexpected p.accessing.own p.accessed.own h.world.own_a h.world.own_b p.requests h.world.admissible (answers_read (state_of p)) front.0 (Whole m)
    (sym (append_assoc (answers_read (state_of p)) (Whole m ∷ []) front.0) ∙ ap (λ (l : List Item). l ++ front.0) (sym (read-more p m h next)) ∙ front.1)

-- how many were read is far below what a count holds
pub few_read : (p : Parts) → AreParts p → p.read < 2 ^ 56
few_read p h =
    let s = state_of p in
    let packets = take p.b.posted (answers p) in
    let front = arrived-front s.seg_size s.a.taken s.b.handed in
    few_messages p.b.link.setup.seg_size packets p.read (omega (arith, h.world.read, ap length front.1, length-append (messages_in (arrived_messages s.seg_size s.a.taken s.b.handed)) front.0))
    (fit-take p.b.posted (answers p) h.from_b.fit) p.a.link.setup.max_message
    (subst (AreWithinLimit p.a.link.setup.max_message) (handed-bytes p.b.posted h.from_b.handed p.b.outbox (answers p) h.from_b.posted h.from_b.bytes) h.from_b.way.short) h.most
    (subst (λ (l : List (List ℕ)). length (cut p.b.link.setup.seg_size l) ≤ max_segments) (handed-bytes p.b.posted h.from_b.handed p.b.outbox (answers p) h.from_b.posted h.from_b.bytes) h.from_b.way.few)

-- ---- None is read.

pub reads_nothing : (p : Parts) → AreParts p → p.a.link.coming.inbox ≡ [] → ComesTo (state_of p) event.Read (Err fault.NothingToDo) (state_of p)
unfolding RefusesEvent
reads_nothing p h empty =
    (subst (λ (size : ℕ). slice_get (messages_in (arrived_messages size p.a.link.coming.received (take p.b.posted (answers p)))) p.read ≡ None) h.alike.size (none_next p.b p.a (answers p) p.read h.from_b empty), refl)

-- whatever a reading comes to, it may take memory
told_takes_some : (old new : State) → TakesMemory (told_by old new)
told_takes_some old new = elim (length (reports_by_a new) == length (reports_by_a old)) as (λ b. TakesMemory (if b then step.Nothing else step.Reported)) [ true ↦ tt | false ↦ tt ]

pub reads_later : (p : Parts) → AreParts p → 0 < length p.a.link.coming.inbox → ComesTo (state_of p) event.Read (Err fault.NoMemory) (state_of p)
unfolding Steps
reads_later p h some = (may_read p.a.link.coming.inbox refl some, refl)
  where
    may_read : (inbox : List (List ℕ)) → p.a.link.coming.inbox ≡ inbox → 0 < length inbox → WantsMemory (state_of p) event.Read
    may_read [] e some = let none : ⊥ = omega arith in absurd none
    may_read (bytes ∷ later) e some = let n = next_answer p bytes later h e in (_, _, reads p n.m (next_read p bytes h n), told_takes_some (state_of p) (with_read (state_of p)))

-- the answer is in sequence, so that it was refused for memory
same_present : (p : Parts) (new : accessing.ClientState) (bytes : List ℕ) (later : List (List ℕ)) (f : ReadFault) → AreParts p → p.a.link.coming.inbox ≡ bytes ∷ later → AreBytes bytes
    → ReadRefused bytes p.a.offset p.accessing new f → new ≡ p.accessing
same_present p new bytes later read_fault.Failed h came fits refused = refused.1
same_present p new bytes later read_fault.NoMemory h came fits refused = refused.1
same_present p new bytes later read_fault.Unexpected h came fits refused =
    let there = refused.3 in
    let n = next_answer p bytes later h came in
    let one = one_there bytes p.a.offset there.1 there.0 n.begun n.more n.m n.fit n.bytes_are n.offset_is (only_item bytes p.a.offset there.0 there.1 fits there.2) in
    absurd (is_in_sequence p n.m h (next_read p bytes h n)
    (ap (λ (i : Item). is_unexpected p.requests (answers_read (state_of p)) i) one.0 ∙ there.3 p.requests (answers_read (state_of p)) h.asking.1.asking))

pub not_read : (p : Parts) (v : AskingValue) (f : ReadFault) (reports : List Report) → AreParts p → AreBytes (oldest_message p.a.link.coming.inbox) → ReadNone (asking_end p) v f → reports ≡ p.reports
    → AreThen p event.Read (record (asking_parts p v p.a.posted p.a.wire) { reports = reports }) (Err fault.NoMemory)
not_read p v f reports h fits o told =
    let bytes : AreBytes o.bytes = subst (λ (l : List (List ℕ)). AreBytes (oldest_message l)) o.came fits in
    let same : v.present ≡ p.accessing = same_present p v.present o.bytes o.later f h o.came bytes o.refused in
    let some = ap length o.came in
    subst (λ (l : List Report). AreThen p event.Read (record (asking_parts p v p.a.posted p.a.wire) { reports = l }) (Err fault.NoMemory)) (sym told)
    (subst (λ (port : PortValue). AreThen p event.Read (record p { a = side_of port p.a.posted p.a.wire; accessing = v.present }) (Err fault.NoMemory)) (sym o.port)
    (subst (λ (y : accessing.ClientState). AreThen p event.Read (record p { accessing = y }) (Err fault.NoMemory)) (sym same) (h, reads_later p h (omega (arith, some)))))

-- ---- One is read.

abbrev told_step : Option Report → Step
told_step None = step.Nothing
told_step (Some report) = step.Reported

told_is : (old new : List Report) (report : Option Report) → new ≡ old ++ option_to_list report → told_step report ≡ (if length new == length old then step.Nothing else step.Reported)
told_is old new None e = let same = ap length e ∙ ap length (append-nil old) in rw (eq-eqb (length new) (length old) same) refl
told_is old new (Some report) e =
    let more = ap length e ∙ length-append old (report ∷ []) in
    rw (ne_eqb (length new) (length old) (λ same. omega arith)) refl

read_so : (p : Parts) (v : AskingValue) (report : Option Report) (reports : List Report) → AreParts p → ReadOne (asking_end p) v report → reports ≡ p.reports ++ option_to_list report
    → AreThen p event.Read (record (asking_parts p v p.a.posted p.a.wire) { reports = reports; read = p.read + 1 }) (Ok (told_step report))
unfolding reports_by_a
read_so p v report reports h o kept =
    let x = next_answer p o.one.bytes o.one.later h o.one.came in
    let m = x.m in
    let next = next_read p o.one.bytes h x in
    let one = one_there o.one.bytes p.a.offset o.one.next o.one.item x.begun x.more m x.fit x.bytes_are x.offset_is (only_item o.one.bytes p.a.offset o.one.item o.one.next o.one.fits o.one.reads) in
    let t = handled_side p.a o.one.bytes o.one.later o.one.next in
    let own : v.present ≡ as_client p v.present = client_is p v h o.own o.identity in
    let q = record p { a = t; accessing = as_client p v.present; reports = reports; read = p.read + 1 } in
    let old = answers_read (state_of p) in
    let same : old ++ o.one.item ∷ [] ≡ answers_read (with_read (state_of p)) = ap (λ (i : Item). old ++ i ∷ []) (sym one.0) ∙ sym (read-more p m h next) in
    let past = record h.asking.0 { requests = p.requests; answers = old } in
    let now = record h.asking.0 { given = processed_after h.asking.0.given o.one.bytes o.one.next } in
    let asking : IsAskedAll (asking_end q) p.requests (answers_read (with_read (state_of p))) =
    subst (λ (l : List Item). IsAskedAll (asking_end q) p.requests l) same (
      now,
      subst (λ (port : PortValue). HasAsked (record now { requests = p.requests; answers = old ++ o.one.item ∷ [] }) (record { port = port; present = as_client p v.present })) o.port
          (subst (λ (y : accessing.ClientState). HasAsked (record now { requests = p.requests; answers = old ++ o.one.item ∷ [] }) (record { port = v.port; present = y })) own (o.past past h.asking.1)),
    ) in
    let adds : reports_by_a (with_read (state_of p)) ≡ reports_by_a (state_of p) ++ option_to_list report = ap (Told p.requests) (sym same) ∙ o.told past h.asking.1 in
    let parts : AreParts q =
    record {
      world = world-read p m h next;
      plain_a = refl;
      plain_b = h.plain_b;
      alike = h.alike;
      limit = h.limit;
      most = h.most;
      from_a = told_moved p.a p.b (asked_messages p) p.served t.link.coming.inbox t.offset h.from_a;
      from_b = handled_one p.b p.a (answers p) p.read o.one.bytes o.one.later o.one.next h.from_b x o.one.came one.1;
      sent_is = h.sent_is;
      reports_is = kept ∙ ap (λ (l : List Report). l ++ option_to_list report) h.reports_is ∙ sym adds;
      asking = asking;
      serving = h.serving;
    } in
    let answer : told_step report ≡ told_by (state_of p) (with_read (state_of p)) = told_is (reports_by_a (state_of p)) (reports_by_a (with_read (state_of p))) report adds in
    let done : AreThen p event.Read q (Ok (told_step report)) = subst (λ (a : Step). AreThen p event.Read q (Ok a)) (sym answer) (parts, reads p m next) in
    subst (λ (port : PortValue). AreThen p event.Read (record p { a = side_of port p.a.posted p.a.wire; accessing = v.present; reports = reports; read = p.read + 1 }) (Ok (told_step report))) (sym o.port)
    (subst (λ (y : accessing.ClientState). AreThen p event.Read (record p { a = t; accessing = y; reports = reports; read = p.read + 1 }) (Ok (told_step report))) (sym own) done)

pub read_step : (p : Parts) (v : AskingValue) (report : Option Report) (reports : List Report) (answer : Step) → AreParts p → ReadOne (asking_end p) v report → KeptSo report p.reports reports answer
    → AreThen p event.Read (record (asking_parts p v p.a.posted p.a.wire) { reports = reports; read = p.read + 1 }) (Ok answer)
read_step p v None reports answer h o kept =
    subst (λ (a : Step). AreThen p event.Read (record (asking_parts p v p.a.posted p.a.wire) { reports = reports; read = p.read + 1 }) (Ok a)) (sym kept.0)
    (read_so p v None reports h o (kept.1 ∙ sym (append-nil p.reports)))
read_step p v (Some report) reports answer h o kept =
    subst (λ (a : Step). AreThen p event.Read (record (asking_parts p v p.a.posted p.a.wire) { reports = reports; read = p.read + 1 }) (Ok a)) (sym kept.0)
    (read_so p v (Some report) reports h o kept.1)
