-- One item was served.
use Rattle.std.proofs.Common.{◌≡◌, ℕ, ◌≤◌, arith, refl, sym, ◌∙◌, subst, ap, Bool, true, false, List, [], ◌∷◌, ◌++◌, length, inl, inr, eq-eqb}
use Rattle.std.specs.Prelude.{◌==◌, if◌then◌else◌, Some, None, slice_get}
use Rattle.std.proofs.lemmas.Bool.{cases_eq, ne_eqb}
use Rattle.std.proofs.lemmas.List.{append-nil, map-append}
use Rattle.std.proofs.lemmas.List.Elements.{All-cons}
use Rattle.dap_accessed.specs.declared.setup.ServerSetup.{ServerSetup}
use Rattle.dap_fields.specs.Spelling.{AreBytes}
use Rattle.dap_msg.specs.declared.items.Item.{Item}
use Rattle.dap_msg.specs.Items.{ItemAt, IsOffset}
use Rattle.dap_msg.specs.Blocked.{NspMessage, Blocked, all_joined, bodies, blocked_bytes, AllFit}
use Rattle.dap_msg.specs.declared.message.Message.{Message}
use Rattle.nsp_link.specs.Link.{Stands, with_inbox}
use Rattle.nsp_link.proofs.ForCallers.{stands_given}
use Rattle.dap_accessed.specs.Groups.{Answers, answers_added, limit_for}
use Rattle.dap_accessed.proofs.ForCallers.{Answers-more}
use Rattle.dap_accessed.specs.Present.{Present}
use Rattle.dap_accessed.specs.Served.{ServesItemAt, AllAtMost}
use Rattle.dap_accessed.specs.declared.served.Served.{Served}
use Rattle.dap_end.specs.Histories.{history_after_item}
use Rattle.dap_end.specs.Ports.{PortValue, gone_on}
use Rattle.dap_end.specs.Going.{oldest_message}
use Rattle.dap_end.specs.Going.{processed_after}
use Rattle.dap_end.specs.Going.{GoneThrough}
use Rattle.dap_end.specs.Serving.{IsAfter, ServedOne}
use Rattle.dap_end.specs.Done.{ServingValue, ServerHistory, answers_to}
use Rattle.dap_end.specs.Inner.Kept.{IsPort, AreMessages}
use Rattle.dap_end.specs.Inner.ServingView.{serving_of}
use Rattle.dap_end.proofs.Going.{gone_one}
use Rattle.dap_end.proofs.Answering.{answer_to, answers-more}
use Rattle.dap_end.proofs.Taking.{first_offset}

pub no_first : (inbox : List (List ℕ)) → slice_get inbox 0 ≡ None → inbox ≡ []
no_first [] e = refl
no_first (x ∷ inbox) e = let none : ⊥ = cc in absurd none

pub has_first : (inbox : List (List ℕ)) (bytes : List ℕ) → slice_get inbox 0 ≡ Some bytes → (later : List (List ℕ)) × (inbox ≡ bytes ∷ later)
has_first [] bytes e = let none : ⊥ = cc in absurd none
has_first (x ∷ inbox) bytes e = (inbox, let same : x ≡ bytes = cc in ap (λ (y : List ℕ). y ∷ inbox) same)

pub no_length : (l : List (List ℕ)) → length l ≡ 0 → l ≡ []
no_length [] e = refl
no_length (x ∷ l) e = absurd (omega arith)

-- what `advance` does, by whether the message was the last one
abbrev pub GoesOn : PortValue → PortValue → Bool → ℕ → Type 0
GoesOn p new last next =
    (last ≡ false → new ≡ record p { offset = next })
    × (last ≡ true → (bytes : List ℕ) (later : List (List ℕ)) → p.link.coming.inbox ≡ bytes ∷ later → new ≡ record p { link = with_inbox p.link later; offset = 0 })

gone_by : (p new : PortValue) (last : Bool) (bytes : List ℕ) (later : List (List ℕ)) (next : ℕ) → p.link.coming.inbox ≡ bytes ∷ later → GoesOn p new last next
    → new ≡ record p { link = with_inbox p.link (if last then later else p.link.coming.inbox); offset = if last then 0 else next }
gone_by p new true bytes later next inbox h = h.1 refl bytes later inbox
gone_by p new false bytes later next inbox h = h.0 refl

pub gone_is : (p new : PortValue) (bytes : List ℕ) (later : List (List ℕ)) (next : ℕ) (last : Bool) → last ≡ (next == length bytes) → p.link.coming.inbox ≡ bytes ∷ later → GoesOn p new last next → new ≡ gone_on p bytes later next
gone_is p new bytes later next last is inbox h = gone_by p new (next == length bytes) bytes later next inbox (subst (λ (b : Bool). GoesOn p new b next) is h)

-- ---- The step.

pub port_given : (p : PortValue) (bytes : List ℕ) (later : List (List ℕ)) (next size : ℕ) (messages given : List (List ℕ)) → p.link.coming.inbox ≡ bytes ∷ later → Stands p.link size messages given
    → Stands (gone_on p bytes later next).link size messages (processed_after given bytes next)
port_given p bytes later next size messages given inbox h =
    elim (cases_eq next (length bytes)) [
      | inl end ↦ rw (eq-eqb next (length bytes) end) (stands_given p.link bytes later size messages given inbox h)
      | inr inside ↦ rw (ne_eqb next (length bytes) inside) h
    ]

-- and what was processed
pub port_gone : (p : PortValue) (bytes : List ℕ) (later : List (List ℕ)) (next : ℕ) (given : List (List ℕ)) (items : List Item) (item : Item) → AreBytes bytes → p.link.coming.inbox ≡ bytes ∷ later → GoneThrough given p.link.coming.inbox p.offset items
    → ItemAt bytes p.offset item next → next ≤ length bytes → GoneThrough (processed_after given bytes next) (gone_on p bytes later next).link.coming.inbox (gone_on p bytes later next).offset (items ++ item ∷ [])
port_gone p bytes later next given items item fits inbox h reads within =
    let gone = gone_one given later bytes p.offset next items item fits (subst (λ (l : List (List ℕ)). GoneThrough given l p.offset items) inbox h) reads within in
    subst (λ (l : List (List ℕ)). let ends = next == length bytes in GoneThrough (processed_after given bytes next) (if ends then later else l) (if ends then 0 else next) (items ++ item ∷ [])) (sym inbox) gone

pub fit-both : (one two : List Message) → AllFit one → AllFit two → AllFit (one ++ two)
fit-both [] two h k = k
fit-both (m ∷ one) two h k = (h.0, fit-both one two h.1 k)

module _ (old : ServingValue) (bytes : List ℕ) (later : List (List ℕ)) (inbox : old.port.link.coming.inbox ≡ bytes ∷ later) (fits : AreBytes bytes) where
  past_one : (after : Present) (s : Served) (serves : ServesItemAt bytes old.port.offset old.present after s) → old.port.outbox ≡ [] → s.next ≤ length bytes
      → (past : ServerHistory) → IsAfter past old
      → IsAfter (history_after_item past bytes serves.item s.next) (serving_of (record (gone_on old.port bytes later s.next) { outbox = bodies s.answers.items }) after)
  past_one after s serves idle within past h =
      let limit : serves.limit ≡ limit_for old.present.setup past.first past.items = serves.is_limit past.first past.items h.serving in
      let block : List NspMessage = answer_to old.present.setup past.first past.items serves.item in
      record {
        serving = serves.stands past.first past.items h.serving;
        gone = port_gone old.port bytes later s.next past.given past.items serves.item fits inbox h.gone serves.reads within;
        sends = record { queue = h.sends.queue; acked = h.sends.acked; part = h.sends.part };
        answers =
            ap (λ (l : List (List ℕ)). past.handed ++ l)
            (serves.answers past.first past.items h.serving ∙ ap (λ (n : ℕ). all_joined (Blocked n (answers_added old.present.setup past.first past.items serves.item))) limit)
            ∙ ap (λ (l : List (List ℕ)). l ++ all_joined block) (sym (append-nil past.handed) ∙ ap (λ (l : List (List ℕ)). past.handed ++ l) (sym idle) ∙ h.answers)
            ∙ sym (map-append blocked_bytes (answers_to old.present.setup past.first [] past.items) block)
            ∙ ap all_joined (sym (answers-more old.present.setup past.first past.items serves.item))
            ∙ ap (λ (n : ServerSetup). all_joined (answers_to n past.first [] (past.items ++ serves.item ∷ []))) (sym serves.same_setup);
        fit =
            subst (λ (n : ServerSetup). AllFit (Answers n past.first (past.items ++ serves.item ∷ []))) (sym serves.same_setup)
            (subst AllFit (sym (Answers-more old.present.setup past.first past.items serves.item))
            (fit-both (Answers old.present.setup past.first past.items) (answers_added old.present.setup past.first past.items serves.item) h.fit (serves.fits past.first past.items h.serving)));
      }

  pub served_one : (after : Present) (s : Served) (port : PortValue) (next n : ℕ)
      → old.port.outbox ≡ [] → IsOffset old.port.offset bytes → (serves : ServesItemAt bytes old.port.offset old.present after s)
      → s.next ≡ next → next ≤ length bytes
      → port ≡ record (gone_on old.port bytes later next) { outbox = bodies s.answers.items } → n ≡ length (bodies s.answers.items)
      → ServedOne old (serving_of port after) n
  served_one after s port next n idle offset serves same within port_is count =
      let to : port ≡ record (gone_on old.port bytes later s.next) { outbox = bodies s.answers.items } = port_is ∙ ap (λ (k : ℕ). record (gone_on old.port bytes later k) { outbox = bodies s.answers.items }) (sym same) in
      let le : s.next ≤ length bytes = omega arith in
      record {
        idle = idle;
        one = record { bytes = bytes; later = later; came = inbox; fits = fits; item = serves.item; next = s.next; reads = serves.reads; offset = offset };
        port = to ∙ ap (λ (l : List (List ℕ)). record (gone_on old.port bytes later s.next) { outbox = l }) (sym (ap (λ (p : PortValue). p.outbox) to));
        own = serves.same_own;
        setup = serves.same_setup;
        count = count ∙ ap length (sym (ap (λ (p : PortValue). p.outbox) to));
        past = λ past h. subst (λ (p : PortValue). IsAfter (history_after_item past bytes serves.item s.next) (serving_of p after)) (sym to) (past_one after s serves idle le past h);
      }

pub offset_there : (p : PortValue) (bytes : List ℕ) (later : List (List ℕ)) → p.link.coming.inbox ≡ bytes ∷ later → IsPort p → IsOffset p.offset bytes
offset_there p bytes later inbox h = subst (λ (l : List (List ℕ)). IsOffset p.offset (oldest_message l)) inbox h.offset

-- ---- The port stays one.

pub all_short : (limit : ℕ) (list : List (List ℕ)) → limit ≤ 65535 → AllAtMost limit list → AreMessages list
all_short limit [] le h = λ k d lt. absurd (omega arith)
all_short limit (x ∷ list) le h = All-cons (λ m. length m ≤ 65535) x list (omega (arith, le, h.0)) (all_short limit list le h.1)

pub port_goes : (p : PortValue) (bytes : List ℕ) (later outbox : List (List ℕ)) (next limit : ℕ) → p.link.coming.inbox ≡ bytes ∷ later → IsPort p → next ≤ length bytes
    → limit ≤ 65535 → AllAtMost limit outbox → IsPort (record (gone_on p bytes later next) { outbox = outbox })
port_goes p bytes later outbox next limit inbox h within le short =
    record {
      offset =
          elim (cases_eq next (length bytes)) [
            | inl end ↦ rw (eq-eqb next (length bytes) end) (first_offset (oldest_message later))
            | inr inside ↦ rw (ne_eqb next (length bytes) inside, inbox) (inl (omega (arith, within, inside)))
          ];
      short = all_short limit outbox le short;
    }
