-- What an end that serves did, through its calls; and that it did nothing before a segment came.
use Rattle.std.proofs.Common.{◌≡◌, ℕ, ◌<◌, arith, refl, sym, ◌∙◌, subst, ap, Bool, true, false, List, [], ◌∷◌, ◌++◌, length, inl, inr}
use Rattle.std.specs.Prelude.{◌⊎◌, ◌+◌, ◌==◌, ◌&&◌, drop, Result, Ok, Err, nat_lt, if◌then◌else◌}
use Rattle.nsp_seg.specs.declared.packet.Packet.{Packet}
use Rattle.nsp_seg.specs.declared.packet.Packet.TheVariants.{Segment, DataAck}
use Rattle.nsp_link.specs.declared.link.Got.{Got}
use Rattle.nsp_link.specs.declared.fault.LinkFault.{LinkFault}
use Rattle.nsp_link.specs.Cutting.{Piece}
use Rattle.nsp_link.specs.Coming.{Coming, with_all_taken}
use Rattle.nsp_link.specs.Holding.{following}
use Rattle.nsp_link.proofs.ForCallers.{inserted}
use Rattle.std.specs.declared.cmp.Ordering.TheVariants.{Less, Equal, Greater}
use Rattle.std.specs.Ordering.{match_ordering}
use Rattle.nsp_link.specs.Link.{LinkValue, piece_of, failed_link}
use Rattle.nsp_link.specs.Receiving.{ReceivesPacket, run, segment_number, taking_in, ends_link, ReceivesBounded, BoundedBytes, LetsGo, Receives}
use Rattle.dap_end.specs.Histories.{history_after_item}
use Rattle.dap_end.specs.declared.fault.EndFault.{EndFault}
use Rattle.dap_end.specs.declared.fault.EndFault.TheVariants as end_fault
use Rattle.dap_end.specs.declared.fault.TakeFault.{TakeFault}
use Rattle.dap_end.specs.declared.fault.TakeFault.TheVariants as take_fault
use Rattle.dap_end.specs.Ports.{HandsOver, HasCome, PortValue}
use Rattle.dap_end.specs.Moved.{with_link}
use Rattle.dap_end.specs.Moved.{sent_more}
use Rattle.dap_end.specs.Serving.{IsAfter, ServedOne}
use Rattle.dap_end.specs.Taking.{ServedInTurn, begins, goes}
use Rattle.dap_end.specs.Done.{ServingValue, ServerHistory, nothing_yet}
use Rattle.dap_end.specs.Turns.{DidAll, WroteThen, TookIn, TakesPacket, WentOn}
use Rattle.dap_end.specs.Histories.{Still}
use Rattle.dap_end.specs.Taking.{serves}
use Rattle.dap_end.proofs.Taking.{grown}
use Rattle.dap_end.proofs.Afterwards.{after_received, posted_is, posted_history}
use Rattle.dap_end.proofs.Proceeding.{still_by}
use Rattle.nsp_link.proofs.ForCallers.{taken_count}
use Rattle.dap_end.proofs.Determined.{no_next}
use Rattle.dap_end.specs.Inner.ServingView.{with_port}

-- ---- A packet.

-- a segment came, or nothing did
abbrev Comes : LinkValue → LinkValue → Type 0
Comes old new =
    ((0 < new.coming.received) ⊎ (0 < length new.held)) ⊎ ((new.coming.received ≡ old.coming.received) × (new.held ≡ old.held) × (new.coming.inbox ≡ old.coming.inbox))

stays : (v : LinkValue) → Comes v v
stays v = inr (refl, refl, refl)

along : (old new other : LinkValue) → new ≡ other → Comes old other → Comes old new
along old new other e h = subst (Comes old) (sym e) h

some_by : (a b : Bool) (x h : ℕ × Piece) (held more : List (ℕ × Piece)) → 0 < length (match_ordering (if a then Less else (if b then Equal else Greater)) (x ∷ h ∷ held) (h ∷ held) (h ∷ more))
some_by true b x h held more = omega arith
some_by false true x h held more = omega arith
some_by false false x h held more = omega arith

inserted_some : (k : ℕ) (p : Piece) (held : List (ℕ × Piece)) → 0 < length (inserted k p held)
inserted_some k p [] = omega arith
inserted_some k p (h ∷ held) = some_by (nat_lt k h.0) (k == h.0) (k, p) h held (inserted k p held)

in_by : (v : LinkValue) (k : ℕ) (p : Piece) (next near : Bool) → let c : Coming = if next then with_all_taken v.coming (run v p) else v.coming in
    Comes v (record v { coming = c; held = if next then drop (length (following k v.held)) v.held else (if near then inserted k p v.held else v.held) })
in_by v k p true near = inl (inl (omega (arith, taken_count v.coming (run v p))))
in_by v k p false true = inl (inr (inserted_some k p v.held))
in_by v k p false false = stays v

in_comes : (v : LinkValue) (k : ℕ) (p : Piece) → Comes v (taking_in v k p)
in_comes v k p = in_by v k p (k == v.coming.received + 1) (nat_lt v.coming.received k && nat_lt k (v.coming.received + 1 + v.setup.window))

stopped_comes : (v : LinkValue) (ends : Bool) → Comes v (if ends then failed_link v else v)
stopped_comes v true = inr (refl, refl, refl)
stopped_comes v false = stays v

received_comes : (old new : LinkValue) (p : Packet) (r : Result Got LinkFault) → ReceivesPacket old p r new → Comes old new
received_comes old new (Segment s) (Ok got) (_, (_, _, acks)) = along old new _ acks.2 (in_comes old (segment_number old s.number) (piece_of s))
received_comes old new (DataAck s) (Ok got) (_, (_, acks)) = along old new _ acks.2 (inr (refl, refl, refl))
received_comes old new p (Err e) (_, left) = along old new _ left (stopped_comes old (ends_link e))

let_go_comes : (old new : LinkValue) (p : Packet) (r : Result Got LinkFault) → LetsGo old p r new → Comes old new
let_go_comes old new (Segment s) (Ok got) (_, _, acks) = along old new _ acks.2 (inr (refl, refl, refl))
let_go_comes old new (Segment s) (Err e) (_, left) = along old new _ left (stopped_comes old (ends_link e))
let_go_comes old new (DataAck s) r h = absurd h

bounded_comes : (old new : LinkValue) (p : Packet) (r : Result Got LinkFault) → ReceivesBounded old p r new → Comes old new
bounded_comes old new p r (inl h) = let_go_comes old new p r h.1
bounded_comes old new p r (inr h) = received_comes old new p r h.1

bytes_come : (old new : LinkValue) (bytes : List ℕ) (r : Result Got LinkFault) → BoundedBytes old new bytes r → Comes old new
bytes_come old new bytes r (inl h) = along old new old h.3 (stays old)
bytes_come old new bytes r (inr h) = bounded_comes old new h.0 r h.2

comes_by : (failed : Bool) (old new : LinkValue) (bytes : List ℕ) (r : Result Got LinkFault) → old.failed ≡ failed → Receives old new bytes r → Comes old new
comes_by true old new bytes r e h = along old new old (h.failed e).1 (stays old)
comes_by false old new bytes r e h = bytes_come old new bytes r (h.any e)

-- ---- The end.

-- the end is as after some past, in which it did nothing before a segment came
abbrev pub IsKnown : ServingValue → Type 0
IsKnown v = (past : ServerHistory) × IsAfter past v × (HasCome v.port ⊎ ((past ≡ nothing_yet past.first) × (v.port.link.coming.inbox ≡ [])))

known_by : (old : ServingValue) (link : LinkValue) → Comes old.port.link link → Still IsAfter old (with_port old (with_link old.port link)) → IsKnown old → IsKnown (with_port old (with_link old.port link))
known_by old link (inl came) still (past, h, c) = (past, still past h, inl came)
known_by old link (inr same) still (past, h, inl (inl lt)) = (past, still past h, inl (inl (subst (λ (n : ℕ). 0 < n) (sym same.0) lt)))
known_by old link (inr same) still (past, h, inl (inr lt)) = (past, still past h, inl (inr (subst (λ (l : List (ℕ × Piece)). 0 < length l) (sym same.1) lt)))
known_by old link (inr same) still (past, h, inr none) = (past, still past h, inr (none.0, same.2 ∙ none.1))

known_in : (old : ServingValue) (link : LinkValue) (bytes : List ℕ) (r : Result Got LinkFault) → Receives old.port.link link bytes r → Still IsAfter old (with_port old (with_link old.port link)) → IsKnown old → IsKnown (with_port old (with_link old.port link))
known_in old link bytes r h still k = known_by old link (comes_by old.port.link.failed old.port.link link bytes r refl h) still k

posted_known : (v new : ServingValue) (n : ℕ) → HandsOver v new n → IsKnown v → IsKnown new
posted_known v new n p (past, h, inl came) =
    (record past { handed = past.handed ++ v.port.outbox }, posted_history v new n p past h, inl (subst (λ (w : ServingValue). HasCome w.port) (sym (posted_is v new n p)) came))
posted_known v new n p (past, h, inr none) =
    let first = nothing_yet past.first in
    let there : IsAfter first v = subst (λ (q : ServerHistory). IsAfter q v) none.0 h in
    let outbox : v.port.outbox ≡ [] = there.answers in
    let after : IsAfter first new = subst (λ (l : List (List ℕ)). IsAfter (record first { handed = l }) new) outbox (posted_history v new n p first there) in
    (first, after, inr (refl, ap (λ (w : ServingValue). w.port.link.coming.inbox) (posted_is v new n p) ∙ none.1))

served_known : (v new : ServingValue) (n : ℕ) → ServedOne v new n → IsKnown v → IsKnown new
served_known v new n s (past, h, inl came) =
    (history_after_item past s.one.bytes s.one.item s.one.next, s.past past h, inl (subst (λ (p : PortValue). HasCome p) (sym s.port) came))
served_known v new n s (past, h, inr none) = absurd (no_next s.one.bytes s.one.later (sym none.1 ∙ s.one.came))

turn_known : (most : ℕ) (a b : ServingValue) → ServedInTurn most a b → IsKnown a → IsKnown b
turn_known most a b begins k = k
turn_known most a b (goes p m count n x room y on) k = turn_known most m b on (served_known p m n y (posted_known a p count x k))

all_known : (most : ℕ) (a b : ServingValue) (r : Result (Unit {0}) EndFault) → DidAll (serves most) a b r → IsKnown a → IsKnown b
all_known most a b (Ok u) d k = posted_known d.0 b d.1 d.4 (turn_known most a d.0 d.2 k)
all_known most a b (Err (end_fault.Link f)) (mid, on, inl (is, h)) k = subst IsKnown (sym is) (turn_known most a mid on k)
all_known most a b (Err (end_fault.Link f)) (mid, on, inr (want, room, p, may)) k = posted_known mid b p.0 p.1 (turn_known most a mid on k)
all_known most a b (Err (end_fault.Read f)) d k = absurd d.2

wrote_known : (most : ℕ) (old new : ServingValue) (out all : List (List ℕ)) (wrote : PortValue → PortValue → List (List ℕ) → Type 0) → (w : WroteThen (serves most) wrote old new out all) → (n : ℕ) → new.port ≡ sent_more w.mid.port n → IsKnown old → IsKnown new
wrote_known most old new out all wrote w n sent k =
    let (past, h, did) = all_known most old w.mid (Ok tt) w.done k in (
      past,
      subst (IsAfter past) (sym w.rest) (still_by w.mid new.port n sent past h),
      elim did [
        | inl came ↦ inl (subst (λ (p : PortValue). HasCome p) (sym sent) came)
        | inr none ↦ inr (none.0, ap (λ (p : PortValue). p.link.coming.inbox) sent ∙ none.1)
      ],
    )

pub going_known : (most : ℕ) (old new : ServingValue) (out all : List (List ℕ)) (r : Result (Unit {0}) EndFault) → WentOn (serves most) old new out all r → IsKnown old → IsKnown new
going_known most old new out all (Ok u) h k = wrote_known most old new out all _ h _ h.wrote.2.1.sent k
going_known most old new out all (Err f) (inl h) k = all_known most old new (Err f) h.0 k
going_known most old new out all (Err f) (inr h) k = wrote_known most old new out all _ h.1 _ h.1.wrote.2.0.sent k

in_known : (old new : ServingValue) (bytes : List ℕ) (r : Result Got LinkFault) → TookIn old new bytes r → IsKnown old → IsKnown new
in_known old new bytes r t k =
    let still : Still IsAfter old (with_port old (with_link old.port new.port.link)) = λ past h. after_received past old new.port.link (grown old.port.link new.port.link bytes r t.receives) t.receives.sends h in
    subst IsKnown (sym t.rest) (known_in old new.port.link bytes r t.receives still k)

pub taking_known : (most : ℕ) (old new : ServingValue) (bytes : List ℕ) (out all : List (List ℕ)) (r : Result Got TakeFault) → TakesPacket (serves most) old new bytes out all r → IsKnown old → IsKnown new
taking_known most old new bytes out all (Ok got) t k = wrote_known most t.0 new out all _ t.2 _ t.2.wrote.2.1.sent (in_known old t.0 bytes (Ok got) t.1 k)
taking_known most old new bytes out all (Err (take_fault.Refused f)) t k = in_known old new bytes (Err f) t.0 k
taking_known most old new bytes out all (Err (take_fault.Unfinished got f)) (mid, t, inl h) k = all_known most mid new (Err f) h.0 (in_known old mid bytes (Ok got) t k)
taking_known most old new bytes out all (Err (take_fault.Unfinished got f)) (mid, t, inr h) k = wrote_known most mid new out all _ h.1 _ h.1.wrote.2.0.sent (in_known old mid bytes (Ok got) t k)

pub new_known : (first : _) (v : ServingValue) → IsAfter (nothing_yet first) v → v.port.link.coming.inbox ≡ [] → IsKnown v
new_known first v h none = (nothing_yet first, h, inr (refl, none))
