-- What the calls of an asking end leave of what it did.
use Rattle.std.proofs.Common.{◌≡◌, inl, inr, eq-eqb, ◌-◌, ℕ, ◌+◌, ◌<◌, ◌≤◌, arith, refl, sym, ◌∙◌, subst, ap, append_assoc, true, false, true≢false, List, [], ◌∷◌, ◌++◌, length}
use Rattle.std.specs.Prelude.{Result, Ok, Err, IfOk, IfErr, ◌==◌, Option, nat_le, if◌then◌else◌, option_map, option_to_list}
use Rattle.std.proofs.lemmas.Bool.{cases_eq, ne_eqb}
use Rattle.std.proofs.lemmas.List.{append-nil, map-append}
use Rattle.std.proofs.lemmas.List.Elements.{All-append}
use Rattle.dap_msg.specs.declared.message.Configuration.{Configuration}
use Rattle.dap_fields.specs.Spelling.{AreBytes}
use Rattle.dap_msg.specs.declared.message.Message.{Message}
use Rattle.dap_msg.specs.Canon.{canon}
use Rattle.dap_msg.specs.declared.items.Item.{Item}
use Rattle.dap_msg.specs.Items.{IsOffset, ItemAt}
use Rattle.dap_msg.specs.Sendable.{AreSendable}
use Rattle.dap_msg.specs.Blocked.{NspMessage, blocked_bytes, Blocked, blocked_after, all_joined, messages_in, AllFit}
use Rattle.dap_msg.specs.Inner.Blocked.{IsWithinLimit, AllWithin}
use Rattle.dap_msg.proofs.ForCallers.{messages_in-Blocked, within_limit, one_item}
use Rattle.nsp_link.specs.Link.{LinkValue, Sends, SendsStill, Stands, with_inbox}
use Rattle.nsp_link.proofs.ForCallers.{sends_all, may_queue_parts}
use Rattle.dap_accessed.specs.Served.{AllAtMost}
use Rattle.dap_accessing.specs.Request.{Request}
use Rattle.dap_accessing.specs.declared.report.Report.{Report}
use Rattle.dap_accessing.specs.declared.fault.ReadStep.{ReadStep}
use Rattle.dap_accessing.specs.Asked.{Asked, messages_of}
use Rattle.dap_accessing.specs.Told.{Told}
use Rattle.dap_accessing.specs.Phase.{limit_after}
use Rattle.dap_accessing.specs.Present.{ClientState, ClientAfter}
use Rattle.dap_accessing.specs.Each.{ReadsOn, put_back, reported_after}
use Rattle.dap_accessing.specs.Calls.{AsksRequest, Reads}
use Rattle.dap_end.specs.Histories.{AreFull, asked_one, with_answer_read}
use Rattle.dap_end.specs.Ports.{HandsOver, PortValue, gone_on}
use Rattle.dap_end.specs.Moved.{with_link, with_outbox_sent}
use Rattle.dap_end.specs.Writing.{Extends}
use Rattle.dap_end.specs.Moved.{sent_more}
use Rattle.dap_end.specs.Going.{processed_after}
use Rattle.dap_end.specs.Going.{GoneThrough}
use Rattle.dap_accessing.specs.declared.fault.AskFault.{AskFault}
use Rattle.dap_accessing.specs.declared.fault.AskFault.TheVariants.{NoMemory}
use Rattle.dap_accessing.specs.declared.fault.ReadFault.{ReadFault}
use Rattle.dap_end.specs.Asking.{HasAsked, AskedOne, ReadOne, ReadNone}
use Rattle.dap_end.specs.Hearing.{ReadOn}
use Rattle.dap_end.specs.Hearing.{nothing_read, one_read}
use Rattle.dap_end.specs.Done.{AskingValue, ClientHistory}
use Rattle.dap_end.specs.Inner.Kept.{IsPort, AreMessages}
use Rattle.dap_end.specs.Inner.AskingView.{asking_of}
use Rattle.dap_end.proofs.Taking.{Grown}
use Rattle.dap_end.proofs.Going.{gone_stays}
use Rattle.dap_end.proofs.ServingOne.{port_given, port_gone, all_short, fit-both}
use Rattle.dap_end.proofs.Proceeding.{work, item_left}
use Rattle.dap_end.specs.Histories.{Still}

-- a packet came
pub still_received : (v : AskingValue) (link : LinkValue) → Grown v.port.link link → SendsStill v.port.link link → Still HasAsked v (record v { port = with_link v.port link })
still_received v link g sends = λ past h.
    record {
      asking = h.asking;
      gone = subst (λ (l : List (List ℕ)). GoneThrough past.given l v.port.offset past.answers) (sym g.inbox) (gone_stays past.given v.port.link.coming.inbox g.more v.port.offset past.answers h.gone);
      sends = sends past.handed h.sends;
      messages = h.messages;
      waiting = h.waiting;
      fit = h.fit;
      full = h.full;
    }

-- what waited was passed on
after_handed : (past : ClientHistory) (v : AskingValue) → HasAsked past v → HasAsked (record past { handed = past.handed ++ v.port.outbox }) (record v { port = with_outbox_sent v.port })
after_handed past v h =
    record {
      asking = h.asking;
      gone = h.gone;
      sends = sends_all v.port.link past.handed v.port.outbox h.sends;
      messages = h.messages;
      waiting = append-nil (past.handed ++ v.port.outbox) ∙ h.waiting;
      fit = h.fit;
      full = h.full;
    }

-- the end then
pub handed_is : (old new : AskingValue) (n : ℕ) → HandsOver old new n → new ≡ record old { port = with_outbox_sent old.port }
handed_is old new n h = h.1

pub handed_history : (old new : AskingValue) (n : ℕ) → HandsOver old new n → (past : ClientHistory) → HasAsked past old → HasAsked (record past { handed = past.handed ++ old.port.outbox }) new
handed_history old new n h past a = subst (HasAsked (record past { handed = past.handed ++ old.port.outbox })) (sym (handed_is old new n h)) (after_handed past old a)

-- ---- A request.

in_append : (xs ys : List NspMessage) → messages_in (xs ++ ys) ≡ messages_in xs ++ messages_in ys
in_append [] ys = refl
in_append (x ∷ xs) ys = ap (λ (l : List Message). x ++ l) (in_append xs ys) ∙ sym (append_assoc x (messages_in xs) (messages_in ys))

pub Asked-more : (own : Configuration) (requests : List Request) (request : Request) → Asked own (requests ++ request ∷ []) ≡ Asked own requests ++ messages_of own request
Asked-more own [] request = append-nil (messages_of own request)
Asked-more own (r ∷ requests) request =
    ap (λ (l : List Message). messages_of own r ++ l) (Asked-more own requests request) ∙ sym (append_assoc (messages_of own r) (Asked own requests) (messages_of own request))

pub sendable-fit : (limit : ℕ) (messages : List Message) → AreSendable limit messages → AllFit messages
sendable-fit limit [] h = tt
sendable-fit limit (m ∷ messages) h = (h.0.0, sendable-fit limit messages h.1)

pub full-both : (one two : List NspMessage) → AreFull one → AreFull two → AreFull (one ++ two)
full-both [] two h k = k
full-both (p ∷ one) two h k = (h.0, full-both one two h.1 k)

full-within : (limit : ℕ) (packets : List NspMessage) → AllWithin limit packets → AreFull packets
full-within limit [] h = tt
full-within limit ([] ∷ packets) h = absurd h.0
full-within limit ((m ∷ more) ∷ packets) h = ((λ e. (let none : ⊥ = cc in none)), full-within limit packets h.1)

pub full-blocked : (limit : ℕ) (messages : List Message) → AreFull (Blocked limit messages)
full-blocked limit messages = full-within limit (Blocked limit messages) (within_limit limit messages)

pub asks_one : (request : Request) (old : AskingValue) (after : ClientState) (messages outbox : List (List ℕ)) (n : ℕ) → AsksRequest request old.present after messages → after.own ≡ old.present.own → after.identity ≡ old.present.identity
    → outbox ≡ old.port.outbox ++ messages → n ≡ length messages → AskedOne request old (asking_of (record old.port { outbox = outbox }) after) n
asks_one request old after messages outbox n asks own identity is count =
    record {
      messages = messages;
      asks = asks;
      own = own;
      identity = identity;
      port = ap (λ (l : List (List ℕ)). record old.port { outbox = l }) is;
      count = count;
    }

pub asked_history : (request : Request) (old new : AskingValue) (n : ℕ) → AskedOne request old new n → (past : ClientHistory) → HasAsked past old → HasAsked (asked_one past old.present.identity request) new
asked_history request old new n a past h =
    let asks = a.asks in
    let messages = a.messages in
    let limit = limit_after (Told past.requests past.answers) in
    let block = Blocked limit (messages_of old.present.identity request) in
    let is_limit : asks.limit ≡ limit = asks.is_limit past.requests past.answers h.asking in
    let outbox : new.port.outbox ≡ old.port.outbox ++ messages = ap (λ (p : PortValue). p.outbox) a.port in
    record {
      asking = asks.stands past.requests past.answers h.asking;
      gone = subst (λ (p : PortValue). GoneThrough past.given p.link.coming.inbox p.offset past.answers) (sym a.port) h.gone;
      sends = subst (λ (p : PortValue). Sends p.link past.handed) (sym a.port) h.sends;
      messages = in_append past.asked block ∙ ap (λ (l : List Message). messages_in past.asked ++ l) (messages_in-Blocked limit (messages_of old.present.identity request))
          ∙ ap (λ (l : List Message). l ++ messages_of old.present.identity request) h.messages
          ∙ sym (Asked-more old.present.identity past.requests request) ∙ ap (λ (k : Configuration). Asked k (past.requests ++ request ∷ [])) (sym a.identity);
      waiting = ap (λ (l : List (List ℕ)). past.handed ++ l) outbox ∙ sym (append_assoc past.handed old.port.outbox messages)
          ∙ ap (λ (l : List (List ℕ)). l ++ messages) h.waiting ∙ ap (λ (l : List (List ℕ)). all_joined past.asked ++ l) (asks.spelled ∙ ap (λ (n : ℕ). all_joined (Blocked n (messages_of old.present.identity request))) is_limit) ∙ sym (map-append blocked_bytes past.asked block);
      fit =
          subst AllFit (sym (in_append past.asked block ∙ ap (λ (l : List Message). messages_in past.asked ++ l) (messages_in-Blocked limit (messages_of old.present.identity request))))
          (fit-both (messages_in past.asked) (messages_of old.present.identity request) h.fit (sendable-fit _ (messages_of old.present.identity request) (asks.admissible past.requests past.answers h.asking).2));
      full = full-both past.asked block h.full (full-blocked limit (messages_of old.present.identity request));
    }

-- none of its NSP messages is longer than an end takes
AreWithin : ℕ → List Message → Type 0
AreWithin limit [] = Unit {0}
AreWithin limit (m ∷ messages) = (length (canon m) ≤ limit) × AreWithin limit messages

within-front : (limit : ℕ) (xs ys : List Message) → AreWithin limit (xs ++ ys) → AreWithin limit xs
unfolding AreWithin
within-front limit [] ys h = tt
within-front limit (x ∷ xs) ys h = (h.0, within-front limit xs ys h.1)

within-back : (limit : ℕ) (xs ys : List Message) → AreWithin limit (xs ++ ys) → AreWithin limit ys
unfolding AreWithin
within-back limit [] ys h = h
within-back limit (x ∷ xs) ys h = within-back limit xs ys h.1

within-one : (limit : ℕ) (p : NspMessage) → IsWithinLimit limit p → AreWithin limit p → length (blocked_bytes p) ≤ limit
unfolding AreWithin
within-one limit [] h all = absurd h
within-one limit (m ∷ []) h all = let one = ap length (append-nil (canon m)) in omega (arith, one, all.0)
within-one limit (m ∷ n ∷ more) h all = h

packets-within : (limit : ℕ) (packets : List NspMessage) → AllWithin limit packets → AreWithin limit (messages_in packets) → AllAtMost limit (all_joined packets)
packets-within limit [] h all = tt
packets-within limit (p ∷ packets) h all =
    (within-one limit p h.0 (within-front limit p (messages_in packets) all), packets-within limit packets h.1 (within-back limit p (messages_in packets) all))

sendable-within : (limit : ℕ) (messages : List Message) → AreSendable limit messages → AreWithin limit messages
unfolding AreWithin
sendable-within limit [] h = tt
sendable-within limit (m ∷ messages) h = (h.0.1, sendable-within limit messages h.1)

pub asks_short : (request : Request) (old after : ClientState) (messages : List (List ℕ)) → AsksRequest request old after messages → AreMessages messages
asks_short request old after messages asks =
    let limit = asks.limit in
    subst AreMessages (sym asks.spelled)
    (all_short limit (all_joined (Blocked limit (messages_of old.identity request))) asks.most
    (packets-within limit (Blocked limit (messages_of old.identity request)) (within_limit limit (messages_of old.identity request))
    (subst (AreWithin limit) (sym (messages_in-Blocked limit (messages_of old.identity request))) (sendable-within limit (messages_of old.identity request) asks.sendable))))

pub port_asks : (p : PortValue) (messages outbox : List (List ℕ)) → IsPort p → AreMessages messages → outbox ≡ p.outbox ++ messages → IsPort (record p { outbox = outbox })
port_asks p messages outbox h short is =
    record { offset = h.offset; short = subst AreMessages (sym is) (All-append (λ m. length m ≤ 65535) p.outbox messages h.short short) }

-- there are no more NSP messages than messages
blocked-few : (limit : ℕ) (last : NspMessage) (messages : List Message) → length (blocked_after limit last messages) ≤ length messages + 1
blocked-few limit last [] = omega arith
blocked-few limit last (m ∷ messages) =
    elim (nat_le (length (blocked_bytes (last ++ m ∷ []))) limit) as (λ b. length (if b then blocked_after limit (last ++ m ∷ []) messages else last ∷ blocked_after limit (m ∷ []) messages) ≤ length (m ∷ messages) + 1) [
      | true ↦ omega (arith, blocked-few limit (last ++ m ∷ []) messages)
      | false ↦ omega (arith, blocked-few limit (m ∷ []) messages)
    ]

pub few_blocked : (limit : ℕ) (messages : List Message) → length (Blocked limit messages) ≤ length messages
few_blocked limit [] = omega arith
few_blocked limit (m ∷ messages) = omega (arith, blocked-few limit (m ∷ []) messages)

-- ---- An answer.

-- one answer more was read, where the client stands as after it
read_past : (past : ClientHistory) (port new : PortValue) (before after : ClientState) (bytes : List ℕ) (later : List (List ℕ)) (answer : Item) (next : ℕ) → AreBytes bytes → port.link.coming.inbox ≡ bytes ∷ later
    → ItemAt bytes port.offset answer next → next ≤ length bytes → after.identity ≡ before.identity → new ≡ gone_on port bytes later next → HasAsked past (asking_of port before)
    → ClientAfter past.requests (past.answers ++ answer ∷ []) after → HasAsked (with_answer_read past bytes answer next) (asking_of new after)
read_past past port new before after bytes later answer next fits inbox reads within identity is h stands =
    subst (λ (p : PortValue). HasAsked (with_answer_read past bytes answer next) (asking_of p after)) (sym is) (record {
      asking = stands;
      gone = port_gone port bytes later next past.given past.answers answer fits inbox h.gone reads within;
      sends = record { queue = h.sends.queue; acked = h.sends.acked; part = h.sends.part };
      messages = h.messages ∙ ap (λ (k : Configuration). Asked k past.requests) (sym identity);
      waiting = h.waiting;
      fit = h.fit;
      full = h.full;
    })

pub reads_one : (old : AskingValue) (bytes : List ℕ) (later : List (List ℕ)) → AreBytes bytes → (after : ClientState) (port : PortValue) (step : ReadStep) → old.port.link.coming.inbox ≡ bytes ∷ later → IsOffset old.port.offset bytes
    → (r : Reads bytes old.port.offset old.present after step) → ReadsOn bytes old.port.offset old.present after step → step.next ≤ length bytes → after.own ≡ old.present.own → after.identity ≡ old.present.identity
    → port ≡ gone_on old.port bytes later step.next → ReadOne old (asking_of port after) step.report
reads_one old bytes later fits after port step inbox offset r on within own identity is =
    let same : on.answer ≡ r.answer = (one_item bytes old.port.offset r.answer on.answer step.next step.next fits r.reads on.reads).0 in
    record {
      works = r.works;
      still_works = r.still_works;
      one = record { bytes = bytes; later = later; came = inbox; fits = fits; item = r.answer; next = step.next; reads = r.reads; offset = offset };
      port = is;
      own = own;
      identity = identity;
      expected = λ past h. r.expected past.requests past.answers h.asking;
      past = λ past h. read_past past old.port port old.present after bytes later r.answer step.next fits inbox r.reads within identity is h (r.stands past.requests past.answers h.asking);
      told = λ past h. r.told past.requests past.answers h.asking;
      past_on = λ told past b h. read_past past old.port port (put_back told old.present) (put_back told after) bytes later r.answer step.next fits inbox r.reads within identity is h
          (subst (λ (i : Item). ClientAfter past.requests (past.answers ++ i ∷ []) (put_back told after)) same (on.stands told past.requests past.answers b h.asking));
      told_on = λ told past b h. subst (λ (i : Item). Told past.requests (past.answers ++ i ∷ []) ≡ Told past.requests past.answers ++ option_to_list (option_map (reported_after told) step.report)) same
          (on.told told past.requests past.answers b h.asking);
    }

pub some_first : (inbox : List (List ℕ)) → 0 < length inbox → (bytes : List ℕ) × (later : List (List ℕ)) × (inbox ≡ bytes ∷ later)
some_first [] h = absurd (omega arith)
some_first (m ∷ inbox) h = (m, inbox, refl)

-- ---- Several answers.

-- What the end did grew into this, and these are the reports that were told.
pub record HasRead (past now : ClientHistory) (old new : AskingValue) (reports : List Report) : Type 0 where
  pub is : HasAsked now new
  pub requests : now.requests ≡ past.requests
  pub asked : now.asked ≡ past.asked
  pub handed : now.handed ≡ past.handed
  pub answers : (more : List Item) × (now.answers ≡ past.answers ++ more)
  pub told : Told past.requests now.answers ≡ Told past.requests past.answers ++ reports
  -- what left the link was read
  pub given : now.given ++ new.port.link.coming.inbox ≡ past.given ++ old.port.link.coming.inbox
  pub stands : (size : ℕ) (messages : List (List ℕ)) → Stands old.port.link size messages past.given
      → Stands new.port.link size messages now.given

pub record ReadMore (old new : AskingValue) (reports : List Report) : Type 0 where
  pub link : new.port.link ≡ with_inbox old.port.link new.port.link.coming.inbox
  pub outbox : new.port.outbox ≡ old.port.outbox
  pub own : new.present.own ≡ old.present.own
  pub identity : new.present.identity ≡ old.present.identity
  pub past : (past : ClientHistory) → HasAsked past old → (now : ClientHistory) × HasRead past now old new reports

read_nothing : (v : AskingValue) → ReadMore v v []
read_nothing v =
    record {
      link = refl;
      outbox = refl;
      own = refl;
      identity = refl;
      past = λ past h. (
        past,
        record {
          is = h;
          requests = refl;
          asked = refl;
          handed = refl;
          answers = ([], sym (append-nil past.answers));
          told = sym (append-nil (Told past.requests past.answers));
          given = refl;
          stands = λ size messages s. s;
        },
      );
    }

pub read_none : (v : AskingValue) (reports : List Report) → Extends reports reports (ReadOn v v)
read_none v reports = ([], sym (append-nil reports), nothing_read)

-- what left, and what is left
split_given : (given inbox later : List (List ℕ)) (bytes : List ℕ) (next : ℕ) → inbox ≡ bytes ∷ later →
    let ends = next == length bytes in processed_after given bytes next ++ (if ends then later else inbox) ≡ given ++ inbox
split_given given inbox later bytes next came =
    elim (cases_eq next (length bytes)) [
      | inl end ↦ rw (eq-eqb next (length bytes) end) (append_assoc given (bytes ∷ []) later ∙ ap (λ (l : List (List ℕ)). given ++ l) (sym came))
      | inr inside ↦ rw (ne_eqb next (length bytes) inside) refl
    ]

read_grew : (a b c : AskingValue) (report : Option Report) (told : List Report) (past : ClientHistory) (now : ClientHistory) → HasRead past now a b told → (r : ReadOne b c report) → HasRead past (with_answer_read now r.one.bytes r.one.item r.one.next) a c (told ++ option_to_list report)
read_grew a b c report told past now g r =
    let link : c.port.link ≡ with_inbox b.port.link (if r.one.next == length r.one.bytes then r.one.later else b.port.link.coming.inbox) = ap (λ (p : PortValue). p.link) r.port in
    record {
      is = r.past now g.is;
      requests = g.requests;
      asked = g.asked;
      handed = g.handed;
      answers = (g.answers.0 ++ r.one.item ∷ [], ap (λ (l : List Item). l ++ r.one.item ∷ []) g.answers.1 ∙ append_assoc past.answers g.answers.0 (r.one.item ∷ []));
      told = ap (λ (l : List Request). Told l (now.answers ++ r.one.item ∷ [])) (sym g.requests) ∙ r.told now g.is
          ∙ ap (λ (l : List Request). Told l now.answers ++ option_to_list report) g.requests
          ∙ ap (λ (l : List Report). l ++ option_to_list report) g.told ∙ append_assoc (Told past.requests past.answers) told (option_to_list report);
      given = subst (λ (l : LinkValue). processed_after now.given r.one.bytes r.one.next ++ l.coming.inbox ≡ now.given ++ b.port.link.coming.inbox) (sym link)
          (split_given now.given b.port.link.coming.inbox r.one.later r.one.bytes r.one.next r.one.came) ∙ g.given;
      stands = λ size messages s. subst (λ (l : LinkValue). Stands l size messages (with_answer_read now r.one.bytes r.one.item r.one.next).given) (sym link)
          (port_given b.port r.one.bytes r.one.later r.one.next size messages now.given r.one.came (g.stands size messages s));
    }

read_then : (a b c : AskingValue) (told : List Report) (report : Option Report) → ReadMore a b told → ReadOne b c report → ReadMore a c (told ++ option_to_list report)
read_then a b c told report m r =
    let link : c.port.link ≡ with_inbox b.port.link (if r.one.next == length r.one.bytes then r.one.later else b.port.link.coming.inbox) = ap (λ (p : PortValue). p.link) r.port in
    let here : c.port.link ≡ with_inbox b.port.link c.port.link.coming.inbox = subst (λ (l : LinkValue). l ≡ with_inbox b.port.link l.coming.inbox) (sym link) refl in
    record {
      link = here ∙ ap (λ (l : LinkValue). with_inbox l c.port.link.coming.inbox) m.link;
      outbox = ap (λ (p : PortValue). p.outbox) r.port ∙ m.outbox;
      own = r.own ∙ m.own;
      identity = r.identity ∙ m.identity;
      past = λ past h. (let g = m.past past h in (with_answer_read g.0 r.one.bytes r.one.item r.one.next, read_grew a b c report told past g.0 g.1 r));
    }

read_behind : (a b c : AskingValue) (told more all : List Report) → ReadMore a b told → ReadOn b c more → all ≡ told ++ more → ReadMore a c all
read_behind a b c told more all m nothing_read e = subst (ReadMore a b) (sym (e ∙ append-nil told)) m
read_behind a b c told more all m (one_read mid report rest r on is) e =
    read_behind a mid c (told ++ option_to_list report) rest all (read_then a b mid told report m r) on
    (e ∙ ap (λ (l : List Report). told ++ l) is ∙ sym (append_assoc told (option_to_list report) rest))

pub read_grows : (a b : AskingValue) (reports : List Report) → ReadOn a b reports → ReadMore a b reports
read_grows a b reports on = read_behind a a b [] reports reports (read_nothing a) on refl

-- what was read on counts after what the end did
pub counted : (past : ClientHistory) (old new : AskingValue) (reports : List Report) → HasAsked past old → ReadMore old new reports → (given : List (List ℕ)) × (answers : List Item)
    × HasAsked (record past { given = given; answers = past.answers ++ answers }) new × (given ++ new.port.link.coming.inbox ≡ past.given ++ old.port.link.coming.inbox)
    × (Told past.requests (past.answers ++ answers) ≡ Told past.requests past.answers ++ reports)
counted past old new reports h m =
    let (now, g) = m.past past h in
    let requests : HasAsked (record now { requests = past.requests }) new = subst (λ (l : List Request). HasAsked (record now { requests = l }) new) g.requests g.is in
    let asked : HasAsked (record now { requests = past.requests; asked = past.asked }) new = subst (λ (l : List NspMessage). HasAsked (record now { requests = past.requests; asked = l }) new) g.asked requests in
    let handed : HasAsked (record past { given = now.given; answers = now.answers }) new = subst (λ (l : List (List ℕ)). HasAsked (record past { given = now.given; answers = now.answers; handed = l }) new) g.handed asked in (
      now.given,
      g.answers.0,
      subst (λ (l : List Item). HasAsked (record past { given = now.given; answers = l }) new) g.answers.1 handed,
      g.given,
      ap (Told past.requests) (sym g.answers.1) ∙ g.told,
    )

read_on : (a b c : AskingValue) (reports : List Report) (report : Option Report) → ReadOn a b reports → ReadOne b c report → ReadOn a c (reports ++ option_to_list report)
read_on a b c reports report nothing_read r = one_read c report [] r nothing_read (sym (append-nil (option_to_list report)))
read_on a b c reports report (one_read mid first more s on is) r =
    one_read mid first (more ++ option_to_list report) s (read_on mid b c more report on r)
    (ap (λ (l : List Report). l ++ option_to_list report) is ∙ append_assoc (option_to_list first) more (option_to_list report))

pub read_more : (a b c : AskingValue) (report : Option Report) (before all new : List Report) → Extends before all (ReadOn a b) → ReadOne b c report → new ≡ all ++ option_to_list report → Extends before new (ReadOn a c)
read_more a b c report before all new m r is = (
  m.0 ++ option_to_list report,
  is ∙ ap (λ (l : List Report). l ++ option_to_list report) m.1 ∙ append_assoc before m.0 (option_to_list report),
  read_on a b c m.0 report m.2 r,
)

pub read_falls : (old new : AskingValue) (report : Option Report) → ReadOne old new report → work new.port.link.coming.inbox - new.port.offset < work old.port.link.coming.inbox - old.port.offset
read_falls old new report r =
    subst (λ (p : PortValue). work p.link.coming.inbox - p.offset < work old.port.link.coming.inbox - old.port.offset) (sym r.port)
    (item_left old.port r.one)

pub still_sent : (v : AskingValue) (port : PortValue) (n : ℕ) → port ≡ sent_more v.port n → Still HasAsked v (record v { port = port })
still_sent v port n e =
    subst (λ (p : PortValue). Still HasAsked v (asking_of p v.present)) (sym e)
    (λ past h. record { asking = h.asking; gone = h.gone; sends = record { queue = h.sends.queue; acked = h.sends.acked; part = h.sends.part }; messages = h.messages; waiting = h.waiting; fit = h.fit; full = h.full })

-- ---- Going on.

-- a link to which something was handed runs
pub works_after : (old new : AskingValue) (n : ℕ) → HandsOver old new n → new.port.link.failed ≡ false
works_after old new n h = ap (λ (v : AskingValue). v.port.link.failed) (handed_is old new n h) ∙ (may_queue_parts old.port.link old.port.outbox h.0).0

-- ---- Where the end failed, the answer that failed it is left.

pub left_asked : (old new : AskingValue) (request : Request) (r : Result ℕ AskFault) → IfOk r (λ n. AskedOne request old new n) → IfErr r (λ f. (new.port ≡ old.port) × (new.present ≡ old.present) × (f ≡ NoMemory))
    → (old.present.failed ≡ true → 0 < length old.port.link.coming.inbox) → new.present.failed ≡ true → 0 < length new.port.link.coming.inbox
left_asked old new request (Ok n) ok err left failed = absurd (true≢false (sym failed ∙ ok.asks.still_works))
left_asked old new request (Err f) ok err left failed =
    subst (λ (p : PortValue). 0 < length p.link.coming.inbox) (sym err.0) (left (ap (λ (p : ClientState). p.failed) (sym err.1) ∙ failed))

pub left_unread : (old new : AskingValue) (f : ReadFault) → ReadNone old new f → 0 < length new.port.link.coming.inbox
left_unread old new f n = subst (λ (p : PortValue). 0 < length p.link.coming.inbox) (sym n.port) (let some = ap length n.came in omega (arith, some))

pub left_read : (old new : AskingValue) (r : Result (Option Report) ReadFault) → IfOk r (λ report. ReadOne old new report) → IfErr r (λ f. ReadNone old new f) → new.present.failed ≡ true → 0 < length new.port.link.coming.inbox
left_read old new (Ok report) ok err failed = absurd (true≢false (sym failed ∙ ok.still_works))
left_read old new (Err f) ok err failed = left_unread old new f err
