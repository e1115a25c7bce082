-- How many bytes wait on a link of a node, and when nothing is left.
use Rattle.std.proofs.Common.{◌≡◌, ℕ, ◌+◌, ◌<◌, ◌≤◌, arith, refl, sym, ◌∙◌, subst, ap, false, List, [], ◌∷◌, ◌++◌, length, inl, inr}
use Rattle.std.specs.Prelude.{◌⊎◌, Result, Ok, Err}
use Rattle.std.proofs.lemmas.Bool.{cases_lt, both_ways}
use Rattle.nsp_link.specs.declared.link.Got.{Got}
use Rattle.nsp_link.specs.declared.link.Got.TheVariants.{AckOnly}
use Rattle.nsp_link.specs.declared.link.LinkSetup.{LinkSetup}
use Rattle.nsp_link.specs.declared.fault.LinkFault.{LinkFault}
use Rattle.nsp_link.specs.Cutting.{total_length}
use Rattle.nsp_link.specs.Link.{IsSetup, LinkValue, Sends, may_send, waiting_bytes}
use Rattle.nsp_link.proofs.ForCallers.{bytes_queued, fewer_wait, may_send_by, none_waits as none_waits_here, sends_all}
use Rattle.dap_end.specs.declared.fault.EndFault.{EndFault}
use Rattle.dap_end.specs.declared.fault.EndFault.TheVariants as end_fault
use Rattle.dap_end.specs.declared.fault.TakeFault.{TakeFault}
use Rattle.dap_end.specs.declared.fault.TakeFault.TheVariants as take_fault
use Rattle.dap_end.specs.By.{ServedBy, ServesAt, TurnsBy, no_turn, one_turn, serves_by}
use Rattle.dap_end.specs.Moved.{sent_more}
use Rattle.dap_end.specs.Ports.{EndValue, HandsOver, PortValue, bytes_waiting}
use Rattle.dap_end.specs.Turns.{DidAll, TakesPacket, TookIn, TookThen, WentOn, WritesReplies, WroteThen}
use Rattle.dap_end.proofs.ForCallers.{inbox_posted, none_waits, grown}

-- nothing came that isn't served, no answer waits or is queued, and all that was sent is acknowledged
abbrev pub IsRested : PortValue → Type 0
IsRested port = (port.link.coming.inbox ≡ []) × (port.outbox ≡ []) × (port.link.queue ≡ []) × (port.link.sent ≡ port.link.acked)

module _ {P : Type 0} (serves : ServesAt P) where
  abbrev V : Type 0
  V = EndValue P

  -- ---- Serving.

  setup_posted : (old mid : V) (count : ℕ) → HandsOver old mid count → mid.port.link.setup ≡ old.port.link.setup
  setup_posted old mid count p = ap (λ (v : V). v.port.link.setup) p.1

  bytes_posted : (old new : V) (n : ℕ) → HandsOver old new n → 0 < old.port.link.setup.seg_size → bytes_waiting new.port ≡ bytes_waiting old.port
  bytes_posted old new n p pos =
      let same = ap (λ (v : V). bytes_waiting v.port) p.1 in
      let queued = bytes_queued old.port.link old.port.outbox pos in
      omega (arith, same, queued)

  sized : (old mid new : V) (count n : ℕ) → HandsOver old mid count → ServedBy serves mid new n → new.port.link.setup ≡ old.port.link.setup
  sized old mid new count n p s = ap (λ (q : PortValue). q.link.setup) s.port ∙ setup_posted old mid count p

  -- the answers to the item wait besides what waited
  served_bytes : (old mid new : V) (count n : ℕ) → HandsOver old mid count → ServedBy serves mid new n → 0 < old.port.link.setup.seg_size → bytes_waiting new.port ≡ bytes_waiting old.port + total_length new.port.outbox
  served_bytes old mid new count n p s pos =
      let here = ap (λ (q : PortValue). waiting_bytes q.link) s.port in
      let none = ap total_length (none_waits old mid count p) in
      omega (arith, here, none, bytes_posted old mid count p pos)

  -- what waits before, or what waits beside the answers to one item
  abbrev Bounded : (most : ℕ) (old first new : V) → Type 0
  Bounded most old first new =
      (bytes_waiting new.port ≤ bytes_waiting old.port)
      ⊎ ((last posted mid : V) × (count n : ℕ) × TurnsBy serves most first last × HandsOver last posted count × ServedBy serves posted mid n × (bytes_waiting new.port < most + total_length mid.port.outbox))

  turn_bounded : (most : ℕ) (old new : V) → 0 < old.port.link.setup.seg_size → TurnsBy serves most old new → Bounded most old old new
  turn_bounded most old new pos no_turn = inl (omega arith)
  turn_bounded most old new pos (one_turn posted mid count n p room s on) =
      let one = served_bytes old posted mid count n p s pos in
      let size : 0 < mid.port.link.setup.seg_size = subst (λ (t : LinkSetup). 0 < t.seg_size) (sym (sized old posted mid count n p s)) pos in
      elim (turn_bounded most mid new size on) [
        | inl le ↦ inr (old, posted, mid, count, n, no_turn, p, s, omega (arith, one, room, le))
        | inr more ↦ inr (more.0, more.1, more.2, more.3, more.4, one_turn posted mid count n p room s more.5, more.6, more.7, more.8)
      ]

  -- as many bytes wait elsewhere
  bounded_as : (most : ℕ) (old first new other : V) → bytes_waiting other.port ≡ bytes_waiting new.port → Bounded most old first new → Bounded most old first other
  bounded_as most old first new other same (inl le) = inl (omega (arith, same, le))
  bounded_as most old first new other same (inr h) = inr (h.0, h.1, h.2, h.3, h.4, h.5, h.6, h.7, omega (arith, same, h.8))

  pub turn_sized : (most : ℕ) (old new : V) → TurnsBy serves most old new → new.port.link.setup ≡ old.port.link.setup
  turn_sized most old new no_turn = refl
  turn_sized most old new (one_turn posted mid count n p room s on) = turn_sized most mid new on ∙ sized old posted mid count n p s

  turn_posted : (most : ℕ) (old mid new : V) (n : ℕ) → 0 < old.port.link.setup.seg_size → TurnsBy serves most old mid → HandsOver mid new n → Bounded most old old new
  turn_posted most old mid new n pos on p =
      let size : 0 < mid.port.link.setup.seg_size = subst (λ (t : LinkSetup). 0 < t.seg_size) (sym (turn_sized most old mid on)) pos in
      bounded_as most old old mid new (bytes_posted mid new n p size) (turn_bounded most old mid pos on)

  all_bounded : (most : ℕ) (old new : V) (r : Result (Unit {0}) EndFault) → 0 < old.port.link.setup.seg_size → DidAll (serves_by serves most) old new r → Bounded most old old new
  all_bounded most old new (Ok u) pos d = turn_posted most old d.0 new d.1 pos d.2 d.4
  all_bounded most old new (Err (end_fault.Link f)) pos (mid, on, inl (is, h)) =
      bounded_as most old old mid new (ap (λ (v : V). bytes_waiting v.port) is) (turn_bounded most old mid pos on)
  all_bounded most old new (Err (end_fault.Link f)) pos (mid, on, inr (want, room, p, may)) = turn_posted most old mid new p.0 pos on p.1
  all_bounded most old new (Err (end_fault.Read f)) pos d = absurd d.2

  -- ---- Writing changes nothing of it.

  wrote_bounded : (most : ℕ) (old new : V) (out all : List (List ℕ)) (wrote : PortValue → PortValue → List (List ℕ) → Type 0) (n : ℕ) → 0 < old.port.link.setup.seg_size
      → (w : WroteThen (serves_by serves most) wrote old new out all) → new.port ≡ sent_more w.mid.port n → Bounded most old old new
  wrote_bounded most old new out all wrote n pos w sent =
      bounded_as most old old w.mid new (ap (λ (p : PortValue). bytes_waiting p) sent) (all_bounded most old w.mid (Ok tt) pos w.done)

  answer_bounded : (most : ℕ) (old new : V) (got : Got) (out all : List (List ℕ)) (r : Result (Unit {0}) EndFault) → 0 < old.port.link.setup.seg_size
      → WritesReplies (serves_by serves most) old new got out all r → Bounded most old old new
  answer_bounded most old new got out all (Ok u) pos w = wrote_bounded most old new out all _ _ pos w w.wrote.2.1.sent
  answer_bounded most old new got out all (Err f) pos (inl h) = all_bounded most old new (Err f) pos h.0
  answer_bounded most old new got out all (Err f) pos (inr h) = wrote_bounded most old new out all _ _ pos h.1 h.1.wrote.2.0.sent

  pub going_bounded : (most : ℕ) (old new : V) (out all : List (List ℕ)) (r : Result (Unit {0}) EndFault) → 0 < old.port.link.setup.seg_size → WentOn (serves_by serves most) old new out all r → Bounded most old old new
  going_bounded most old new out all r pos w = answer_bounded most old new AckOnly out all r pos w

  -- ---- A packet.

  took_fewer : (old new : V) (bytes : List ℕ) (r : Result Got LinkFault) → TookIn old new bytes r → bytes_waiting new.port ≤ bytes_waiting old.port
  took_fewer old new bytes r t =
      let fewer = fewer_wait old.port.link new.port.link bytes r t.receives in
      let same = ap (λ (v : V). total_length v.port.outbox) t.rest in
      omega (arith, fewer, same)

  bounded_before : (most : ℕ) (old first new : V) → bytes_waiting first.port ≤ bytes_waiting old.port → Bounded most first first new → Bounded most old first new
  bounded_before most old first new fewer (inl le) = inl (omega (arith, fewer, le))
  bounded_before most old first new fewer (inr h) = inr h

  abbrev pub TakenBy : (most : ℕ) (old new : V) (bytes : List ℕ) → Type 0
  TakenBy most old new bytes = (first : V) × (q : Result Got LinkFault) × TookIn old first bytes q × Bounded most old first new

  then_bounded : (most : ℕ) (old new : V) (bytes : List ℕ) (got : Got) (out all : List (List ℕ)) (r : Result (Unit {0}) EndFault) → 0 < old.port.link.setup.seg_size
      → TookThen (serves_by serves most) old new bytes got out all r → TakenBy most old new bytes
  then_bounded most old new bytes got out all r pos (mid, t, w) =
      let g = grown old.port.link mid.port.link bytes (Ok got) t.receives in
      let size : 0 < mid.port.link.setup.seg_size = subst (λ (s : LinkSetup). 0 < s.seg_size) (sym g.setup) pos in
      (mid, Ok got, t, bounded_before most old mid new (took_fewer old mid bytes (Ok got) t) (answer_bounded most mid new got out all r size w))

  pub taking_bounded : (most : ℕ) (old new : V) (bytes : List ℕ) (out all : List (List ℕ)) (r : Result Got TakeFault) → 0 < old.port.link.setup.seg_size → TakesPacket (serves_by serves most) old new bytes out all r → TakenBy most old new bytes
  taking_bounded most old new bytes out all (Ok got) pos t = then_bounded most old new bytes got out all (Ok tt) pos t
  taking_bounded most old new bytes out all (Err (take_fault.Refused f)) pos t = (new, Err f, t.0, inl (took_fewer old new bytes (Err f) t.0))
  taking_bounded most old new bytes out all (Err (take_fault.Unfinished got f)) pos t = then_bounded most old new bytes got out all (Err f) pos t

  -- ---- Some messages are sent.

  abbrev pub HasSent : PortValue → Type 0
  HasSent p = (handed : List (List ℕ)) × Sends p.link handed

  posted_sends : (old new : V) (n : ℕ) → HandsOver old new n → HasSent old.port → HasSent new.port
  posted_sends old new n p h = subst (λ (v : V). HasSent v.port) (sym p.1) (h.0 ++ old.port.outbox, sends_all old.port.link h.0 old.port.outbox h.1)

  served_sends : (old new : V) (n : ℕ) → ServedBy serves old new n → HasSent old.port → HasSent new.port
  served_sends old new n s h = subst (λ (p : PortValue). HasSent p) (sym s.port) (h.0, record { queue = h.1.queue; acked = h.1.acked; part = h.1.part })

  turn_sends : (most : ℕ) (old new : V) → TurnsBy serves most old new → HasSent old.port → HasSent new.port
  turn_sends most old new no_turn h = h
  turn_sends most old new (one_turn posted mid count n p room s on) h = turn_sends most mid new on (served_sends posted mid n s (posted_sends old posted count p h))

  -- ---- What serving leaves of the counts.

  turn_acked : (most : ℕ) (old new : V) → TurnsBy serves most old new → (new.port.link.acked ≡ old.port.link.acked) × (new.port.link.sent ≡ old.port.link.sent)
  turn_acked most old new no_turn = (refl, refl)
  turn_acked most old new (one_turn posted mid count n p room s on) =
      let rest = turn_acked most mid new on in
      let one : mid.port.link.acked ≡ old.port.link.acked = ap (λ (q : PortValue). q.link.acked) s.port ∙ ap (λ (v : V). v.port.link.acked) p.1 in
      let two : mid.port.link.sent ≡ old.port.link.sent = ap (λ (q : PortValue). q.link.sent) s.port ∙ ap (λ (v : V). v.port.link.sent) p.1 in
      (rest.0 ∙ one, rest.1 ∙ two)

  -- nothing to serve, and nothing served
  pub turn_idle : (most : ℕ) (old new : V) → TurnsBy serves most old new → old.port.link.coming.inbox ≡ [] → new ≡ old
  turn_idle most old new no_turn e = refl
  turn_idle most old new (one_turn posted mid count n p room s on) e =
      let same : posted.port.link.coming.inbox ≡ [] = inbox_posted old posted count p ∙ e in
      let some : s.one.bytes ∷ s.one.later ≡ [] = sym s.one.came ∙ same in
      let none : ⊥ = cc in absurd none

  none_queued : (v : LinkValue) (n : ℕ) → length v.queue ≡ n → v.sent ≡ v.acked → 0 < v.setup.window → may_send v ≡ false → n ≡ 0
  none_queued v n is sent room full =
      elim (cases_lt 0 n) [
        | inl some ↦ absurd (both_ways (may_send v) full (may_send_by v (omega (arith, is, sent, some)) (omega (arith, sent, room))))
        | inr none ↦ omega (arith, none)
      ]

  no_pieces : {A : Type 0} (l : List A) → length l ≡ 0 → l ≡ []
  no_pieces [] e = refl
  no_pieces (x ∷ l) e = absurd (omega (arith, e))

  -- Once it has gone on, and all that was sent is acknowledged, nothing is left.
  module _ (most : ℕ) (old new : V) (got : Got) (out all : List (List ℕ)) (some : 0 < most) (good : IsSetup old.port.link.setup) (has : HasSent old.port) (w : WritesReplies (serves_by serves most) old new got out all (Ok tt)) where
    abbrev mid : V
    mid = w.mid

    abbrev turned : V
    turned = w.done.0

    sent : new.port ≡ sent_more mid.port (length w.wrote.2.0)
    sent = w.wrote.2.1.sent

    setup_turned : turned.port.link.setup ≡ old.port.link.setup
    setup_turned = turn_sized most old turned w.done.2

    setup_new : new.port.link.setup ≡ old.port.link.setup
    setup_new = ap (λ (p : PortValue). p.link.setup) sent ∙ setup_posted turned mid w.done.1 w.done.4 ∙ setup_turned

    pub new_setup : IsSetup new.port.link.setup
    new_setup = subst IsSetup (sym setup_new) good

    has_mid : HasSent mid.port
    has_mid = posted_sends turned mid w.done.1 w.done.4 (turn_sends most old turned w.done.2 has)

    pub has_new : HasSent new.port
    has_new = subst (λ (p : PortValue). HasSent p) (sym sent) (has_mid.0, record { queue = has_mid.1.queue; acked = has_mid.1.acked; part = has_mid.1.part })

    pub acked_new : new.port.link.acked ≡ old.port.link.acked
    acked_new = ap (λ (p : PortValue). p.link.acked) sent ∙ ap (λ (v : V). v.port.link.acked) w.done.4.1 ∙ (turn_acked most old turned w.done.2).0

    sent_mid : mid.port.link.sent ≡ old.port.link.sent
    sent_mid = ap (λ (v : V). v.port.link.sent) w.done.4.1 ∙ (turn_acked most old turned w.done.2).1

    pub sent_new : old.port.link.sent ≤ new.port.link.sent
    sent_new = let is = ap (λ (p : PortValue). p.link.sent) sent in omega (arith, is, sent_mid)

    inbox_new : new.port.link.coming.inbox ≡ turned.port.link.coming.inbox
    inbox_new = ap (λ (p : PortValue). p.link.coming.inbox) sent ∙ inbox_posted turned mid w.done.1 w.done.4

    outbox_new : new.port.outbox ≡ []
    outbox_new = ap (λ (p : PortValue). p.outbox) sent ∙ none_waits turned mid w.done.1 w.done.4

    queue_new : new.port.link.sent ≡ new.port.link.acked → new.port.link.queue ≡ []
    queue_new acked = no_pieces new.port.link.queue (none_queued new.port.link (length new.port.link.queue) refl acked (omega (arith, new_setup.2)) w.wrote.2.2)

    abbrev turned_size : 0 < turned.port.link.setup.seg_size
    turned_size = subst (λ (t : LinkSetup). 0 < t.seg_size) (sym setup_turned) (omega (arith, good.0))

    much : new.port.link.sent ≡ new.port.link.acked → most ≤ bytes_waiting turned.port → ⊥
    much acked more =
        let zero_bytes = none_waits_here new.port.link has_new.0 (omega (arith, new_setup.0)) has_new.1 (queue_new acked) in
        let idle = ap total_length outbox_new in
        let same = ap (λ (p : PortValue). bytes_waiting p) sent in
        let posted = bytes_posted turned mid w.done.1 w.done.4 turned_size in
        omega (arith, some, more, zero_bytes, idle, same, posted)

    pub nothing_left : new.port.link.sent ≡ new.port.link.acked → IsRested new.port
    nothing_left acked = (elim w.done.3 [ inl none ↦ inbox_new ∙ none | inr more ↦ absurd (much acked more) ], outbox_new, queue_new acked, acked)
