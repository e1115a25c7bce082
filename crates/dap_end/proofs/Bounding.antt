-- How many bytes wait once an end that serves has gone on.
use Rattle.std.proofs.Common.{◌≡◌, ℕ, ◌+◌, ◌<◌, ◌≤◌, arith, refl, sym, ◌∙◌, subst, ap, false, List, [], ◌∷◌, length, inl, inr}
use Rattle.std.specs.Prelude.{Result, Ok, Err}
use Rattle.std.proofs.lemmas.Bool.{cases_lt}
use Rattle.nsp_link.specs.declared.link.Got.{Got}
use Rattle.nsp_link.specs.declared.link.Got.TheVariants.{AckOnly}
use Rattle.nsp_link.specs.declared.link.LinkSetup.{LinkSetup}
use Rattle.nsp_link.specs.declared.fault.LinkFault.{LinkFault}
use Rattle.nsp_link.specs.Cutting.{total_length}
use Rattle.nsp_link.specs.Link.{LinkValue, Sends, may_send, waiting_bytes}
use Rattle.nsp_link.proofs.ForCallers.{fewer_wait, may_send_by, none_waits}
use Rattle.dap_end.specs.declared.fault.EndFault.{EndFault}
use Rattle.dap_end.specs.declared.fault.EndFault.TheVariants as end_fault
use Rattle.dap_end.specs.declared.fault.TakeFault.{TakeFault}
use Rattle.dap_end.specs.declared.fault.TakeFault.TheVariants as take_fault
use Rattle.dap_end.specs.Done.{ServingValue, ServerHistory}
use Rattle.dap_end.specs.Ports.{PortValue, HandsOver, bytes_waiting}
use Rattle.dap_end.specs.Moved.{sent_more}
use Rattle.dap_end.specs.Serving.{IsAfter, ServedOne}
use Rattle.dap_end.specs.Taking.{ServedInTurn, begins, goes, IsBounded, serves}
use Rattle.dap_end.specs.Turns.{DidAll, WroteThen, WentOn, WritesReplies, TookIn, TookThen, TakesPacket}
use Rattle.dap_end.proofs.Afterwards.{posted_is}
use Rattle.dap_end.proofs.Determined.{running}
use Rattle.dap_end.proofs.Proceeding.{bytes_posted, inbox_posted, none_waits as none_here}
use Rattle.dap_end.proofs.Taking.{grown}

-- ---- Serving.

sized : (old mid new : ServingValue) (count n : ℕ) → HandsOver old mid count → ServedOne mid new n → new.port.link.setup ≡ old.port.link.setup
sized old mid new count n p s = ap (λ (q : PortValue). q.link.setup) s.port ∙ ap (λ (v : ServingValue). v.port.link.setup) (posted_is old mid count p)

-- the answers to the item wait besides what waited
served_bytes : (old mid new : ServingValue) (count n : ℕ) → HandsOver old mid count → ServedOne mid new n → 0 < old.port.link.setup.seg_size
    → bytes_waiting new.port ≡ bytes_waiting old.port + total_length new.port.outbox
served_bytes old mid new count n p s pos =
    let here = ap (λ (q : PortValue). waiting_bytes q.link) s.port in
    let none = ap total_length (none_here old mid count p) in
    omega (arith, here, none, bytes_posted old mid count p pos)

turn_bounded : (most : ℕ) (old new : ServingValue) → 0 < old.port.link.setup.seg_size → ServedInTurn most old new → IsBounded most old old new
turn_bounded most old new pos begins = inl (omega arith)
turn_bounded most old new pos (goes posted mid count n p room s on) =
    let one = served_bytes old posted mid count n p s pos in
    let size : 0 < mid.port.link.setup.seg_size = subst (λ (t : LinkSetup). 0 < t.seg_size) (sym (sized old posted mid count n p s)) pos in
    elim (turn_bounded most mid new size on) [
      | inl le ↦ inr (old, posted, mid, count, n, begins, p, s, omega (arith, one, room, le))
      | inr more ↦ inr (more.0, more.1, more.2, more.3, more.4, goes posted mid count n p room s more.5, more.6, more.7, more.8)
    ]

-- as many bytes wait elsewhere
bounded_as : (most : ℕ) (old first new other : ServingValue) → bytes_waiting other.port ≡ bytes_waiting new.port → IsBounded most old first new → IsBounded most old first other
bounded_as most old first new other same (inl le) = inl (omega (arith, same, le))
bounded_as most old first new other same (inr h) = inr (h.0, h.1, h.2, h.3, h.4, h.5, h.6, h.7, omega (arith, same, h.8))

turn_sized : (most : ℕ) (old new : ServingValue) → ServedInTurn most old new → new.port.link.setup ≡ old.port.link.setup
turn_sized most old new begins = refl
turn_sized most old new (goes posted mid count n p room s on) = turn_sized most mid new on ∙ sized old posted mid count n p s

turn_posted : (most : ℕ) (old mid new : ServingValue) (n : ℕ) → 0 < old.port.link.setup.seg_size → ServedInTurn most old mid → HandsOver mid new n → IsBounded most old old new
turn_posted most old mid new n pos on p =
    let size : 0 < mid.port.link.setup.seg_size = subst (λ (t : LinkSetup). 0 < t.seg_size) (sym (turn_sized most old mid on)) pos in
    bounded_as most old old mid new (bytes_posted mid new n p size) (turn_bounded most old mid pos on)

all_bounded : (most : ℕ) (old new : ServingValue) (r : Result (Unit {0}) EndFault) → 0 < old.port.link.setup.seg_size → DidAll (serves most) old new r → IsBounded most old old new
all_bounded most old new (Ok u) pos d = turn_posted most old d.0 new d.1 pos d.2 d.4
all_bounded most old new (Err (end_fault.Link f)) pos (mid, on, inl (is, h)) =
    bounded_as most old old mid new (ap (λ (v : ServingValue). bytes_waiting v.port) is) (turn_bounded most old mid pos on)
all_bounded most old new (Err (end_fault.Link f)) pos (mid, on, inr (want, room, p, may)) = turn_posted most old mid new p.0 pos on p.1
all_bounded most old new (Err (end_fault.Read f)) pos d = absurd d.2

-- ---- Writing changes nothing of it.

wrote_bounded : (most : ℕ) (old new : ServingValue) (out all : List (List ℕ)) (wrote : PortValue → PortValue → List (List ℕ) → Type 0) (n : ℕ) → 0 < old.port.link.setup.seg_size
    → (w : WroteThen (serves most) wrote old new out all) → new.port ≡ sent_more w.mid.port n → IsBounded most old old new
wrote_bounded most old new out all wrote n pos w sent =
    bounded_as most old old w.mid new (ap (λ (p : PortValue). bytes_waiting p) sent) (all_bounded most old w.mid (Ok tt) pos w.done)

answer_bounded : (most : ℕ) (old new : ServingValue) (got : Got) (out all : List (List ℕ)) (r : Result (Unit {0}) EndFault) → 0 < old.port.link.setup.seg_size
    → WritesReplies (serves most) old new got out all r → IsBounded most old old new
answer_bounded most old new got out all (Ok u) pos w = wrote_bounded most old new out all _ _ pos w w.wrote.2.1.sent
answer_bounded most old new got out all (Err f) pos (inl h) = all_bounded most old new (Err f) pos h.0
answer_bounded most old new got out all (Err f) pos (inr h) = wrote_bounded most old new out all _ _ pos h.1 h.1.wrote.2.0.sent

pub going_bounded : (most : ℕ) (old new : ServingValue) (out all : List (List ℕ)) (r : Result (Unit {0}) EndFault) → 0 < old.port.link.setup.seg_size
    → WentOn (serves most) old new out all r → IsBounded most old old new
going_bounded most old new out all r pos w = answer_bounded most old new AckOnly out all r pos w

-- ---- A packet.

took_fewer : (old new : ServingValue) (bytes : List ℕ) (r : Result Got LinkFault) → TookIn old new bytes r → bytes_waiting new.port ≤ bytes_waiting old.port
took_fewer old new bytes r t =
    let fewer = fewer_wait old.port.link new.port.link bytes r t.receives in
    let same = ap (λ (v : ServingValue). total_length v.port.outbox) t.rest in
    omega (arith, fewer, same)

bounded_before : (most : ℕ) (old first new : ServingValue) → bytes_waiting first.port ≤ bytes_waiting old.port → IsBounded most first first new → IsBounded most old first new
bounded_before most old first new fewer (inl le) = inl (omega (arith, fewer, le))
bounded_before most old first new fewer (inr h) = inr h

abbrev TakenBy : (most : ℕ) (old new : ServingValue) (bytes : List ℕ) → Type 0
TakenBy most old new bytes = (first : ServingValue) × (q : Result Got LinkFault) × TookIn old first bytes q × IsBounded most old first new

then_bounded : (most : ℕ) (old new : ServingValue) (bytes : List ℕ) (got : Got) (out all : List (List ℕ)) (r : Result (Unit {0}) EndFault) → 0 < old.port.link.setup.seg_size
    → TookThen (serves most) old new bytes got out all r → TakenBy most old new bytes
then_bounded most old new bytes got out all r pos (mid, t, w) =
    let g = grown old.port.link mid.port.link bytes (Ok got) t.receives in
    let size : 0 < mid.port.link.setup.seg_size = subst (λ (s : LinkSetup). 0 < s.seg_size) (sym g.setup) pos in
    (mid, Ok got, t, bounded_before most old mid new (took_fewer old mid bytes (Ok got) t) (answer_bounded most mid new got out all r size w))

pub taking_bounded : (most : ℕ) (old new : ServingValue) (bytes : List ℕ) (out all : List (List ℕ)) (r : Result Got TakeFault) → 0 < old.port.link.setup.seg_size
    → TakesPacket (serves most) old new bytes out all r → TakenBy most old new bytes
taking_bounded most old new bytes out all (Ok got) pos t = then_bounded most old new bytes got out all (Ok tt) pos t
taking_bounded most old new bytes out all (Err (take_fault.Refused f)) pos t = (new, Err f, t.0, inl (took_fewer old new bytes (Err f) t.0))
taking_bounded most old new bytes out all (Err (take_fault.Unfinished got f)) pos t = then_bounded most old new bytes got out all (Err f) pos t

-- ---- Nothing is left where all is acknowledged.

none_queued : (v : LinkValue) (n : ℕ) → length v.queue ≡ n → v.sent ≡ v.acked → 0 < v.setup.window → may_send v ≡ false → n ≡ 0
none_queued v n is sent room full =
    elim (cases_lt 0 n) [
      | inl some ↦ absurd (running (may_send v) (may_send_by v (omega (arith, is, sent, some)) (omega (arith, sent, room))) full)
      | inr none ↦ omega (arith, none)
    ]

no_pieces : {A : Type 0} (l : List A) → length l ≡ 0 → l ≡ []
no_pieces [] e = refl
no_pieces (x ∷ l) e = absurd (omega (arith, e))

resting : (most : ℕ) (mid new : ServingValue) (handed : List (List ℕ)) (n count : ℕ) → 0 < most → 0 < new.port.link.setup.seg_size → 0 < new.port.link.setup.window → Sends new.port.link handed
    → (served : ServingValue) → HandsOver mid served n → new.port ≡ sent_more served.port count → bytes_waiting served.port ≡ bytes_waiting mid.port → may_send new.port.link ≡ false
    → new.port.link.sent ≡ new.port.link.acked → most ≤ bytes_waiting mid.port → ⊥
resting most mid new handed n count some pos room sends served p sent same full all much =
    let none : new.port.link.queue ≡ [] = no_pieces new.port.link.queue (none_queued new.port.link (length new.port.link.queue) refl all room full) in
    let zero = none_waits new.port.link handed pos sends none in
    let idle = ap total_length (none_here mid served n p) in
    let link = ap (λ (q : PortValue). waiting_bytes q.link) sent in
    omega (arith, some, much, same, zero, idle, link)

pub all_served : (most : ℕ) (past : ServerHistory) (old new : ServingValue) (out all : List (List ℕ)) → 0 < most → 0 < old.port.link.setup.seg_size → 0 < new.port.link.setup.window
    → IsAfter past new → WentOn (serves most) old new out all (Ok tt) → new.port.link.sent ≡ new.port.link.acked → new.port.link.coming.inbox ≡ []
all_served most past old new out all some pos room h w acked =
    let d = w.done in
    let sent = w.wrote.2.1.sent in
    let inbox : new.port.link.coming.inbox ≡ d.0.port.link.coming.inbox = ap (λ (p : PortValue). p.link.coming.inbox) sent ∙ inbox_posted d.0 w.mid d.1 d.4 in
    let before : 0 < d.0.port.link.setup.seg_size = subst (λ (t : LinkSetup). 0 < t.seg_size) (sym (turn_sized most old d.0 d.2)) pos in
    let setup : new.port.link.setup ≡ d.0.port.link.setup = ap (λ (p : PortValue). p.link.setup) sent ∙ ap (λ (v : ServingValue). v.port.link.setup) (posted_is d.0 w.mid d.1 d.4) in
    let size : 0 < new.port.link.setup.seg_size = subst (λ (t : LinkSetup). 0 < t.seg_size) (sym setup) before in
    elim d.3 [
      | inl none ↦ inbox ∙ none
      | inr much ↦ absurd (resting most d.0 new past.handed d.1 _ some size room h.sends w.mid d.4 sent (bytes_posted d.0 w.mid d.1 d.4 before) w.wrote.2.2 acked much)
    ]
