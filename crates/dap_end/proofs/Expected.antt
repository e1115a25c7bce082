-- No answer that one of two ends reads is unexpected.
use Rattle.std.proofs.Common.{◌≡◌, ◌≢◌, ℕ, ◌≤◌, arith, sym, ◌∙◌, subst, ap, append_assoc, true, List, drop, [], ◌∷◌, ◌++◌, length, map, inl, inr}
use Rattle.std.proofs.lemmas.List.{append-nil, length-drop, map-append}
use Rattle.dap_accessed.specs.declared.setup.ServerSetup.{ServerSetup}
use Rattle.dap_msg.specs.declared.message.Configuration.{Configuration}
use Rattle.dap_msg.proofs.ForCallers.{stands_some}
use Rattle.dap_fields.specs.Spelling.{AreBytes}
use Rattle.dap_msg.specs.declared.message.Message.{Message}
use Rattle.dap_msg.specs.declared.items.Item.{Item}
use Rattle.dap_msg.specs.declared.items.Item.TheVariants.{Whole, Malformed}
use Rattle.dap_msg.specs.Blocked.{messages_in, AllFit}
use Rattle.dap_msg.specs.Items.{ItemAt}
use Rattle.dap_accessed.specs.Standing.{Files}
use Rattle.dap_accessed.specs.Groups.{Answers}
use Rattle.dap_accessed.specs.Sound.{AreFiles}
use Rattle.dap_accessing.specs.Request.{Request}
use Rattle.dap_accessing.specs.Asked.{Asked}
use Rattle.dap_accessing.specs.Told.{is_unexpected}
use Rattle.dap_accessing.specs.Phase.{IsAdmissible}
use Rattle.dap_accessing.specs.declared.fault.ReadFault.{ReadFault}
use Rattle.dap_accessing.specs.declared.fault.ReadFault.TheVariants as read_fault
use Rattle.dap_end.specs.Ports.{gone_on}
use Rattle.dap_end.specs.Done.{ServingValue, AskingValue, answers_to}
use Rattle.dap_end.specs.Going.{AreFrontOf, oldest_message, processed_after}
use Rattle.dap_end.specs.Asking.{AskedOne, ReadNone}
use Rattle.dap_end.specs.Runs.{RunsBy}
use Rattle.dap_end.specs.Headline.{WrittenPacket}
use Rattle.dap_end.specs.Joined.{Pair}
use Rattle.dap_end.specs.Calls.{EndEvent, Came, GoesOn, Repeats, AskingEvent, Asks, By, PairEvent, AtA, AtB, PairStepped}
use Rattle.dap_end.specs.Agreement.{IsBufsiz, asked_answers, AreAllAdmissible}
use Rattle.dap_end.specs.Agreement.{AreExpected}
use Rattle.dap_end.proofs.Agreeing.{none-unexpected}
use Rattle.dap_end.proofs.AllRead.{all_read, answers-prefix, admissible-more}
use Rattle.dap_end.proofs.ServingOne.{port_given, port_gone}
use Rattle.dap_end.proofs.Fronts.{served_prefix}
use Rattle.dap_end.proofs.Running.{answers_from}
use Rattle.dap_end.proofs.Proceeding.{worked_grew}
use Rattle.dap_end.proofs.Asked.{handed_is, read_grows}
use Rattle.dap_end.proofs.Joined.{IsLinked, first_ones, answers_full, pair_step}

-- ---- What is read is a front of all answers to the requests.

-- items that are a front of what was passed on are a front of all answers to all requests
pub in_order : (first : Files) (p : Pair) (j : IsLinked first p) (items : List Item) → AreFrontOf j.served.handed items
    → (back : List Item) × (items ++ back ≡ map Whole (asked_answers p.a.present.identity p.b.present.setup first p.requests))
in_order first p j items front =
    let own = p.b.present.setup in
    let t = first_ones j.asked.asked j.asked.handed p.a.port.outbox j.served.items j.asking.full j.asking.fit j.asking.waiting
    (served_prefix p.b.port.link p.a.port.link.setup.seg_size j.asked.handed j.served.given p.b.port.offset j.served.items j.ways.there.positive j.ways.there.stands j.serving.gone) in
    let packets = answers_to own j.served.first [] j.served.items in
    let answers : messages_in packets ≡ Answers own j.served.first j.served.items = answers_from own j.served.first [] j.served.items in
    let r = first_ones packets j.served.handed p.b.port.outbox items (answers_full own j.served.first [] j.served.items) (subst AllFit (sym answers) j.serving.fit) j.serving.answers front in
    let more = answers-prefix own first (map Whole t.taken) (map Whole t.rest) in
    let asked : map Whole t.taken ++ map Whole t.rest ≡ map Whole (Asked p.a.present.identity p.requests) =
    sym (map-append Whole t.taken t.rest) ∙ ap (map Whole) (t.split ∙ j.asking.messages ∙ ap (Asked p.a.present.identity) j.requests) in
    let some : r.taken ++ r.rest ≡ Answers own first (map Whole t.taken) =
    r.split ∙ answers ∙ ap (Answers own j.served.first) t.is ∙ ap (λ (f : Files). Answers own f (map Whole t.taken)) j.had in
    let all : r.taken ++ (r.rest ++ more.0) ≡ asked_answers p.a.present.identity own first p.requests =
    sym (append_assoc r.taken r.rest more.0) ∙ ap (λ (l : List Message). l ++ more.0) some ∙ more.1 ∙ ap (Answers own first) asked in (
      map Whole (r.rest ++ more.0),
      ap (λ (l : List Item). l ++ map Whole (r.rest ++ more.0)) r.is ∙ sym (map-append Whole r.taken (r.rest ++ more.0)) ∙ ap (map Whole) all,
    )

read_before : (first : Files) (p : Pair) (j : IsLinked first p) → (back : List Item) × (j.asked.answers ++ back ≡ map Whole (asked_answers p.a.present.identity p.b.present.setup first p.requests))
read_before first p j =
    in_order first p j j.asked.answers
    (served_prefix p.a.port.link p.b.port.link.setup.seg_size j.served.handed j.asked.given p.a.port.offset j.asked.answers j.ways.back.positive j.ways.back.stands j.asking.gone)

-- ---- The requests are admissible.

-- both ends, and the requests that were asked: all of them were admissible
pub record IsSoundPair (first : Files) (p : Pair) : Type 0 where
  pub linked : IsLinked first p
  pub own_a : IsBufsiz p.a.present.identity.bufsiz
  pub own_b : IsBufsiz p.b.present.setup.identity.bufsiz
  pub admissible : AreAllAdmissible p.a.present.identity p.b.present.setup first [] p.requests

all_expected : (first : Files) → AreFiles first → (p : Pair) → IsSoundPair first p → AreExpected p.a.present.identity p.b.present.setup first p.requests
all_expected first good p s = none-unexpected p.a.present.identity p.b.present.setup s.own_a s.own_b first good p.requests s.admissible

one_more : (first : Files) → AreFiles first → (p : Pair) (new : AskingValue) (request : Request) (n : ℕ) → IsSoundPair first p → AskedOne request p.a new n
    → AreAllAdmissible p.a.present.identity p.b.present.setup first [] (p.requests ++ request ∷ [])
one_more first good p new request n s a =
    let j = s.linked in
    let may : IsAdmissible p.a.present.identity p.requests j.asked.answers request =
    subst (λ (l : List Request). IsAdmissible p.a.present.identity l j.asked.answers request) j.requests (a.asks.admissible j.asked.requests j.asked.answers j.asking.asking) in
    let front = read_before first p j in
    let all = all_read p.a.present.identity p.b.present.setup first p.requests j.asked.answers front.0 (all_expected first good p s) front.1 may.0 in
    admissible-more p.a.present.identity p.b.present.setup first [] p.requests request s.admissible (subst (λ (l : List Item). IsAdmissible p.a.present.identity p.requests l request) all may)

-- ---- Each end keeps its BUFSIZ.

own_a : (old new : Pair) (event : AskingEvent) (ws : List WrittenPacket) → PairStepped old (AtA event) ws new → new.a.present.identity ≡ old.a.present.identity
own_a old new (Asks request) ws s = s.0.1.identity
own_a old new (By (Came bytes)) ws s = ap (λ (v : AskingValue). v.present.identity) s.0.0.3
own_a old new (By GoesOn) ws s =
    let t = s.0.0 in
    let (heard, all, over) = t.2 in
    ap (λ (v : AskingValue). v.present.identity) t.4
    ∙ elim over [
      | inl same ↦ ap (λ (v : AskingValue). v.present.identity) same
      | inr h ↦ ap (λ (v : AskingValue). v.present.identity) (handed_is heard t.0 h.0 h.1)
    ]
    ∙ (read_grows old.a heard all.0 all.2).identity
own_a old new (By (Repeats k)) ws s = ap (λ (v : AskingValue). v.present.identity) s.0.0.3

own_b : (old new : Pair) (event : EndEvent) (ws : List WrittenPacket) → PairStepped old (AtB event) ws new → new.b.present.setup ≡ old.b.present.setup
own_b old new (Came bytes) ws s = ap (λ (v : ServingValue). v.present.setup) s.0.0.3
own_b old new GoesOn ws s =
    let t = s.0.0 in
    ap (λ (v : ServingValue). v.present.setup) t.4 ∙ (worked_grew old.b t.0 t.2).setup
own_b old new (Repeats k) ws s = ap (λ (v : ServingValue). v.present.setup) s.0.0.3

-- ---- Every event.

stays : (first : Files) (old new : Pair) → IsSoundPair first old → IsLinked first new → new.a.present.identity ≡ old.a.present.identity → new.b.present.setup ≡ old.b.present.setup
    → AreAllAdmissible old.a.present.identity old.b.present.setup first [] new.requests → IsSoundPair first new
stays first old new s linked a b admissible =
    record {
      linked = linked;
      own_a = subst (λ (c : Configuration). IsBufsiz c.bufsiz) (sym a) s.own_a;
      own_b = subst (λ (c : ServerSetup). IsBufsiz c.identity.bufsiz) (sym b) s.own_b;
      admissible = subst (λ (n : Configuration). AreAllAdmissible n new.b.present.setup first [] new.requests) (sym a)
          (subst (λ (n : ServerSetup). AreAllAdmissible old.a.present.identity n first [] new.requests) (sym b) admissible);
    }

same_requests : (first : Files) (old new : Pair) → IsSoundPair first old → new.requests ≡ old.requests ++ [] → AreAllAdmissible old.a.present.identity old.b.present.setup first [] new.requests
same_requests first old new s e =
    subst (AreAllAdmissible old.a.present.identity old.b.present.setup first []) (sym (e ∙ append-nil old.requests)) s.admissible

asked_sound : (first : Files) → AreFiles first → (old new : Pair) (event : AskingEvent) (ws : List WrittenPacket) → PairStepped old (AtA event) ws new → IsSoundPair first old
    → AreAllAdmissible old.a.present.identity old.b.present.setup first [] new.requests
asked_sound first good old new (Asks request) ws s sound =
    subst (AreAllAdmissible old.a.present.identity old.b.present.setup first []) (sym (ap (λ (p : Pair). p.requests) s.1)) (one_more first good old new.a request s.0.0 sound s.0.1)
asked_sound first good old new (By (Came bytes)) ws s sound = same_requests first old new sound (ap (λ (p : Pair). p.requests) s.1)
asked_sound first good old new (By GoesOn) ws s sound = same_requests first old new sound (ap (λ (p : Pair). p.requests) s.1)
asked_sound first good old new (By (Repeats k)) ws s sound = same_requests first old new sound (ap (λ (p : Pair). p.requests) s.1)

step_sound : (first : Files) → AreFiles first → (old new : Pair) (event : PairEvent) (ws : List WrittenPacket) → PairStepped old event ws new → IsSoundPair first old → IsSoundPair first new
step_sound first good old new (AtA event) ws s sound =
    stays first old new sound (pair_step first old new (AtA event) ws s sound.linked) (own_a old new event ws s) (ap (λ (p : Pair). p.b.present.setup) s.1) (asked_sound first good old new event ws s sound)
step_sound first good old new (AtB event) ws s sound =
    stays first old new sound (pair_step first old new (AtB event) ws s sound.linked) (ap (λ (p : Pair). p.a.present.identity) s.1) (own_b old new event ws s)
    (subst (AreAllAdmissible old.a.present.identity old.b.present.setup first []) (sym (ap (λ (p : Pair). p.requests) s.1)) sound.admissible)

pub run_sound : (first : Files) → AreFiles first → (events : List PairEvent) (old new : Pair) → RunsBy PairStepped old events new → IsSoundPair first old → IsSoundPair first new
run_sound first good [] old new r s = subst (IsSoundPair first) (sym r) s
run_sound first good (event ∷ events) old new r s = run_sound first good events r.0 new r.3 (step_sound first good old r.0 event r.1 r.2 s)

-- ---- The next answer.

pub ends_within : (bytes : List ℕ) (at : ℕ) (item : Item) (next : ℕ) → ItemAt bytes at item next → next ≤ length bytes
ends_within bytes at (Whole m) next h = let some = stands_some m h.0 (drop at bytes) h.1 in omega (arith, some, h.1.there, length-drop at bytes, h.2)
ends_within bytes at (Malformed fault) next h = omega (arith, h.4)

pub next_expected : (first : Files) → AreFiles first → (p : Pair) (s : IsSoundPair first p) (bytes : List ℕ) (later : List (List ℕ)) (answer : Item) (next : ℕ) → AreBytes bytes
    → p.a.port.link.coming.inbox ≡ bytes ∷ later → ItemAt bytes p.a.port.offset answer next → is_unexpected s.linked.asked.requests s.linked.asked.answers answer ≢ true
next_expected first good p s bytes later answer next fits came reads =
    let j = s.linked in
    let size = p.b.port.link.setup.seg_size in
    let within = ends_within bytes p.a.port.offset answer next reads in
    let gone = port_gone p.a.port bytes later next j.asked.given j.asked.answers answer fits came j.asking.gone reads within in
    let stands = port_given p.a.port bytes later next size j.served.handed j.asked.given came j.ways.back.stands in
    let q = gone_on p.a.port bytes later next in
    let front = served_prefix q.link size j.served.handed (processed_after j.asked.given bytes next) q.offset (j.asked.answers ++ answer ∷ []) j.ways.back.positive stands gone in
    let all = in_order first p j (j.asked.answers ++ answer ∷ []) front in
    let split : j.asked.answers ++ answer ∷ all.0 ≡ map Whole (asked_answers p.a.present.identity p.b.present.setup first p.requests) = sym (append_assoc j.asked.answers (answer ∷ []) all.0) ∙ all.1 in
    λ wrong. all_expected first good p s j.asked.answers all.0 answer split (ap (λ (l : List Request). is_unexpected l j.asked.answers answer) (sym j.requests) ∙ wrong)

pub none_refused : (first : Files) → AreFiles first → (p : Pair) (after : AskingValue) (f : ReadFault) → IsSoundPair first p → AreBytes (oldest_message p.a.port.link.coming.inbox) → ReadNone p.a after f → f ≢ read_fault.Unexpected
none_refused first good p after read_fault.Unexpected s fits n =
    let there = n.refused.3 in
    let bytes : AreBytes n.bytes = subst (λ (l : List (List ℕ)). AreBytes (oldest_message l)) n.came fits in
    λ same. next_expected first good p s n.bytes n.later there.0 there.1 bytes n.came there.2 (there.3 s.linked.asked.requests s.linked.asked.answers s.linked.asking.asking)
none_refused first good p after read_fault.Failed s fits n = λ same. cc same
none_refused first good p after read_fault.NoMemory s fits n = λ same. cc same
