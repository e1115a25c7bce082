-- A packet is refused for one reason, and one that is taken isn't refused.
use Rattle.std.proofs.Common.{◌≡◌, ℕ, ◌+◌, ◌≤◌, arith, refl, sym, ◌∙◌, subst, ap, Bool, true, false, List, [], ◌∷◌, length, inl, inr}
use Rattle.std.specs.Prelude.{◌≢◌, ◌<◌, ◌==◌, ◌⊎◌, slice_index, Option, Some, None, Result, Ok, Err}
use Rattle.std.proofs.lemmas.Bool.{eq-eqb}
use Rattle.nsp_seg.specs.declared.packet.SegFault.{SegFault}
use Rattle.nsp_seg.specs.declared.packet.Packet.{Packet}
use Rattle.nsp_seg.specs.declared.packet.Packet.TheVariants.{Segment, DataAck}
use Rattle.nsp_seg.proofs.ForCallers.{spells-one, spells-apart, fault-one}
use Rattle.nsp_link.specs.declared.link.Got.{Got}
use Rattle.nsp_link.specs.declared.link.Got.TheVariants.{Accepted}
use Rattle.nsp_link.specs.declared.fault.LinkFault.{LinkFault}
use Rattle.nsp_link.specs.declared.fault.LinkFault.TheVariants.{Malformed, WrongLink, BadSequence, MessageTooLong, Exhausted, NoMemory}
use Rattle.nsp_link.specs.Cutting.{Piece}
use Rattle.nsp_link.specs.Limits.{max_segments}
use Rattle.nsp_link.specs.Coming.{Coming, with_taken, with_all_taken, FitsNext, AllFitInOrder, Misfits, MisfitsOne, RefusesAll}
use Rattle.nsp_link.specs.Link.{LinkValue, IsBetween, first_ack, got_of, piece_of, with_acked}
use Rattle.nsp_link.specs.Receiving.{newly_acked, ReceivesPacket, Refuses, Acknowledges, segment_number, taking_in, run, end_after_refusal, ReceivedBytes, LetsGo, ReceivesBounded, BoundedBytes, Receives}

-- ---- Segments that follow one another.

one_apart : (limit : ℕ) (c : Coming) (p : Piece) (e : LinkFault) → Misfits limit c p e → FitsNext limit c p → ⊥
one_apart limit c p BadSequence m a = m a.0
one_apart limit c p MessageTooLong m a = omega (arith, m.1, a.1)
one_apart limit c p e m a = absurd m

all_apart : (limit : ℕ) (c : Coming) (ps : List Piece) (e : LinkFault) → MisfitsOne limit c ps e → AllFitInOrder limit c ps → ⊥
unfolding MisfitsOne AllFitInOrder
all_apart limit c [] e m a = m
all_apart limit c (p ∷ ps) e (inl m) a = one_apart limit c p e m a.0
all_apart limit c (p ∷ ps) e (inr m) a = all_apart limit (with_taken c p) ps e m.1 a.1

one_reason : (limit : ℕ) (c : Coming) (p : Piece) (e f : LinkFault) → Misfits limit c p e → Misfits limit c p f → e ≡ f
one_reason limit c p BadSequence BadSequence m n = refl
one_reason limit c p BadSequence MessageTooLong m n = absurd (m n.0)
one_reason limit c p BadSequence f m n = absurd n
one_reason limit c p MessageTooLong BadSequence m n = absurd (n m.0)
one_reason limit c p MessageTooLong MessageTooLong m n = refl
one_reason limit c p MessageTooLong f m n = absurd n
one_reason limit c p e f m n = absurd m

first_reason : (limit : ℕ) (c : Coming) (ps : List Piece) (e f : LinkFault) → MisfitsOne limit c ps e → MisfitsOne limit c ps f → e ≡ f
unfolding MisfitsOne
first_reason limit c [] e f m n = absurd m
first_reason limit c (p ∷ ps) e f (inl m) (inl n) = one_reason limit c p e f m n
first_reason limit c (p ∷ ps) e f (inl m) (inr n) = absurd (one_apart limit c p e m n.0)
first_reason limit c (p ∷ ps) e f (inr m) (inl n) = absurd (one_apart limit c p f n m.0)
first_reason limit c (p ∷ ps) e f (inr m) (inr n) = first_reason limit (with_taken c p) ps e f m.1 n.1

refuses_one : (limit : ℕ) (c : Coming) (ps : List Piece) (e f : LinkFault) → e ≢ NoMemory → f ≢ NoMemory → RefusesAll limit c ps e → RefusesAll limit c ps f → e ≡ f
refuses_one limit c ps BadSequence BadSequence ne nf a b = refl
refuses_one limit c ps BadSequence MessageTooLong ne nf a b = first_reason limit c ps BadSequence MessageTooLong a b
refuses_one limit c ps BadSequence Exhausted ne nf a b = absurd (all_apart limit c ps BadSequence a b.0)
refuses_one limit c ps BadSequence NoMemory ne nf a b = absurd (nf refl)
refuses_one limit c ps BadSequence f ne nf a b = absurd b
refuses_one limit c ps MessageTooLong BadSequence ne nf a b = first_reason limit c ps MessageTooLong BadSequence a b
refuses_one limit c ps MessageTooLong MessageTooLong ne nf a b = refl
refuses_one limit c ps MessageTooLong Exhausted ne nf a b = absurd (all_apart limit c ps MessageTooLong a b.0)
refuses_one limit c ps MessageTooLong NoMemory ne nf a b = absurd (nf refl)
refuses_one limit c ps MessageTooLong f ne nf a b = absurd b
refuses_one limit c ps Exhausted BadSequence ne nf a b = absurd (all_apart limit c ps BadSequence b a.0)
refuses_one limit c ps Exhausted MessageTooLong ne nf a b = absurd (all_apart limit c ps MessageTooLong b a.0)
refuses_one limit c ps Exhausted Exhausted ne nf a b = refl
refuses_one limit c ps Exhausted NoMemory ne nf a b = absurd (nf refl)
refuses_one limit c ps Exhausted f ne nf a b = absurd b
refuses_one limit c ps NoMemory f ne nf a b = absurd (ne refl)
refuses_one limit c ps e f ne nf a b = absurd a

-- how many were taken then
pub taken_count : (c : Coming) (ps : List Piece) → (with_all_taken c ps).received ≡ c.received + length ps
unfolding with_all_taken
taken_count c [] = omega arith
taken_count c (p ∷ ps) = omega (arith, taken_count (with_taken c p) ps)

-- segments that were taken aren't refused
taken_apart : (limit : ℕ) (c : Coming) (ps : List Piece) (e : LinkFault) → e ≢ NoMemory → AllFitInOrder limit c ps → (with_all_taken c ps).received ≤ max_segments → RefusesAll limit c ps e → ⊥
taken_apart limit c ps BadSequence ne a few b = all_apart limit c ps BadSequence b a
taken_apart limit c ps MessageTooLong ne a few b = all_apart limit c ps MessageTooLong b a
taken_apart limit c ps Exhausted ne a few b = omega (arith, taken_count c ps, few, b.1)
taken_apart limit c ps NoMemory ne a few b = ne refl
taken_apart limit c ps e ne a few b = absurd b

-- ---- One packet.

acks_one : (old mid one two : LinkValue) (number : Option ℕ) → Acknowledges old number mid one → Acknowledges old number mid two → one ≡ two
acks_one old mid one two number a b =
    let counts : a.0 ≡ b.0 = (let both = sym a.1 ∙ b.1 in cc) in
    a.2 ∙ ap (with_acked mid) counts ∙ sym b.2

received_one : (old one two : LinkValue) (p : Packet) (g h : Got) → ReceivesPacket old p (Ok g) one → ReceivesPacket old p (Ok h) two → (g ≡ h) × (one ≡ two)
received_one old one two (Segment s) g h (_, (a, _, acks)) (_, (b, _, others)) =
    (a ∙ sym b, acks_one old (taking_in old (segment_number old s.number) (piece_of s)) one two (first_ack s.ack1 s.ack2) acks others)
received_one old one two (DataAck s) g h (_, (a, acks)) (_, (b, others)) = (a ∙ sym b, acks_one old old one two (first_ack (Some s.ack1) s.ack2) acks others)

-- the next segment and those that follow it aren't refused where they were taken
next_apart : (old one : LinkValue) (k : ℕ) (p : Piece) (g : Got) (e : LinkFault) (count : ℕ) → e ≢ NoMemory → one.coming.received ≤ max_segments → k ≡ old.coming.received + 1
    → g ≡ got_of old.coming.received (Some k) → (g ≡ Accepted → AllFitInOrder old.setup.max_message old.coming (run old p)) → one ≡ with_acked (taking_in old k p) count → RefusesAll old.setup.max_message old.coming (run old p) e → ⊥
next_apart old one k p g e count ne few next same fits left out =
    let test : (k == old.coming.received + 1) ≡ true = eq-eqb k (old.coming.received + 1) next in
    let got : got_of old.coming.received (Some k) ≡ Accepted = rw test refl in
    let all : (taking_in old k p).coming.received ≡ (with_all_taken old.coming (run old p)).received = rw test refl in
    taken_apart old.setup.max_message old.coming (run old p) e ne (fits (same ∙ got)) (subst (λ (n : ℕ). n ≤ max_segments) (ap (λ (v : LinkValue). v.coming.received) left ∙ all) few) out

-- a packet that was taken isn't refused
taken_or_not : (old one two : LinkValue) (p : Packet) (g : Got) (e : LinkFault) → e ≢ NoMemory → one.coming.received ≤ max_segments → ReceivesPacket old p (Ok g) one → ReceivesPacket old p (Err e) two → ⊥
taken_or_not old one two (Segment s) g e ne few a (inl (out, _), _) = out a.0
taken_or_not old one two (Segment s) g e ne few (_, (_, _, acks)) (inr (_, inl (none, _)), _) = let none-is : ⊥ = (let both = sym none ∙ acks.1 in cc) in none-is
taken_or_not old one two (Segment s) g e ne few (_, (same, fits, acks)) (inr (_, inr (_, inl (next, out))), _) =
    next_apart old one (segment_number old s.number) (piece_of s) g e acks.0 ne few next same fits acks.2 out
taken_or_not old one two (Segment s) g e ne few a (inr (_, inr (_, inr (_, memory))), _) = ne memory
taken_or_not old one two (DataAck s) g e ne few a (inl (out, _), _) = out a.0
taken_or_not old one two (DataAck s) g e ne few (_, (_, acks)) (inr (_, (none, _)), _) = let none-is : ⊥ = (let both = sym none ∙ acks.1 in cc) in none-is

refuses_same : (old : LinkValue) (p : Packet) (e f : LinkFault) → e ≢ NoMemory → f ≢ NoMemory → Refuses old p e → Refuses old p f → e ≡ f
refuses_same old (Segment s) e f ne nf (inl a) (inl b) = a.1 ∙ sym b.1
refuses_same old (Segment s) e f ne nf (inl a) (inr (believed, _)) = absurd (believed a.0)
refuses_same old (Segment s) e f ne nf (inr (believed, _)) (inl b) = absurd (believed b.0)
refuses_same old (Segment s) e f ne nf (inr (_, inl a)) (inr (_, inl b)) = refuses_one old.setup.max_message old.coming (run old (piece_of s)) e f ne nf a.1 b.1
refuses_same old (Segment s) e f ne nf (inr (_, inl a)) (inr (_, inr b)) = absurd (nf b.1)
refuses_same old (Segment s) e f ne nf (inr (_, inr a)) (inr b) = absurd (ne a.1)
refuses_same old (DataAck s) e f ne nf a b = a.1 ∙ sym b.1

not_taken : (old one two : LinkValue) (p : Packet) (e f : LinkFault) → e ≢ NoMemory → f ≢ NoMemory → ReceivesPacket old p (Err e) one → ReceivesPacket old p (Err f) two → (e ≡ f) × (one ≡ two)
not_taken old one two p e f ne nf (out, left) (also, right) =
    let same : e ≡ f = reason out also in
    (same, left ∙ ap (λ (x : LinkFault). end_after_refusal x old) same ∙ sym right)
  where
    reason : (((IsBetween old.setup.remote old.setup.local p → ⊥) × (e ≡ WrongLink)) ⊎ (IsBetween old.setup.remote old.setup.local p × Refuses old p e)) → (((IsBetween old.setup.remote old.setup.local p → ⊥) × (f ≡ WrongLink)) ⊎ (IsBetween old.setup.remote old.setup.local p × Refuses old p f)) → e ≡ f
    reason (inl a) (inl b) = a.1 ∙ sym b.1
    reason (inl a) (inr b) = absurd (a.0 b.0)
    reason (inr a) (inl b) = absurd (b.0 a.0)
    reason (inr a) (inr b) = refuses_same old p e f ne nf a.1 b.1

abbrev got_by : Got → Result Got LinkFault
got_by got = Ok got

abbrev failed_by : LinkFault → Result Got LinkFault
failed_by f = Err f

abbrev malformed_by : SegFault → Result Got LinkFault
malformed_by f = Err (Malformed f)

packet_same : (old one two : LinkValue) (p : Packet) (r s : Result Got LinkFault) → r ≢ Err NoMemory → s ≢ Err NoMemory → one.coming.received ≤ max_segments → two.coming.received ≤ max_segments
    → ReceivesPacket old p r one → ReceivesPacket old p s two → (r ≡ s) × (one ≡ two)
packet_same old one two p (Ok g) (Ok h) nr ns few less a b =
    let same = received_one old one two p g h a b in (ap got_by same.0, same.1)
packet_same old one two p (Ok g) (Err f) nr ns few less a b = absurd (taken_or_not old one two p g f (λ k. ns (ap failed_by k)) few a b)
packet_same old one two p (Err e) (Ok h) nr ns few less a b = absurd (taken_or_not old two one p h e (λ k. nr (ap failed_by k)) less b a)
packet_same old one two p (Err e) (Err f) nr ns few less a b =
    let same = not_taken old one two p e f (λ k. nr (ap failed_by k)) (λ k. ns (ap failed_by k)) a b in
    (ap failed_by same.0, same.1)

-- ---- Any bytes.

abbrev AreBytes : List ℕ → Type 0
AreBytes bytes = (i : ℕ) → slice_index bytes i < 256

-- what any end does that hasn't failed is determined, out of memory aside
pub bytes_same : (old one two : LinkValue) (bytes : List ℕ) (r s : Result Got LinkFault) → AreBytes bytes → r ≢ Err NoMemory → s ≢ Err NoMemory → one.coming.received ≤ max_segments → two.coming.received ≤ max_segments
    → ReceivedBytes old one bytes r → ReceivedBytes old two bytes s → (r ≡ s) × (one ≡ two)
bytes_same old one two bytes r s fits nr ns few less (inl a) (inl b) =
    (a.1 ∙ ap malformed_by (fault-one a.0 b.0 bytes fits a.2 b.2) ∙ sym b.1, a.3 ∙ sym b.3)
bytes_same old one two bytes r s fits nr ns few less (inl a) (inr b) = absurd (spells-apart b.0 a.0 bytes fits b.1 a.2)
bytes_same old one two bytes r s fits nr ns few less (inr a) (inl b) = absurd (spells-apart a.0 b.0 bytes fits a.1 b.2)
bytes_same old one two bytes r s fits nr ns few less (inr a) (inr b) =
    packet_same old one two a.0 r s nr ns few less a.2 (subst (λ (p : Packet). ReceivesPacket old p s two) (spells-one b.0 a.0 bytes b.1 a.1) b.2)

-- ---- An end that holds nothing oversize.

let_go_same : (old one two : LinkValue) (p : Packet) (r s : Result Got LinkFault) → LetsGo old p r one → LetsGo old p s two → (r ≡ s) × (one ≡ two)
let_go_same old one two (Segment s) (Ok g) (Ok h) (_, a, acks) (_, b, others) =
    (ap got_by (a ∙ sym b), acks_one old old one two (first_ack s.ack1 s.ack2) acks others)
let_go_same old one two (Segment s) (Ok g) (Err f) (way, _, _) (inl (out, _), _) = absurd (out way)
let_go_same old one two (Segment s) (Ok g) (Err f) (_, _, acks) (inr (_, none, _), _) = let both = sym none ∙ acks.1 in absurd cc
let_go_same old one two (Segment s) (Err e) (Ok h) (inl (out, _), _) (way, _, _) = absurd (out way)
let_go_same old one two (Segment s) (Err e) (Ok h) (inr (_, none, _), _) (_, _, acks) = let both = sym none ∙ acks.1 in absurd cc
let_go_same old one two (Segment s) (Err e) (Err f) (why, left) (also, right) =
    let same : e ≡ f = reason why also in
    (ap failed_by same, left ∙ ap (λ (x : LinkFault). end_after_refusal x old) same ∙ sym right)
  where
    Why : LinkFault → Type 0
    Why x = ((IsBetween old.setup.remote old.setup.local (Segment s) → ⊥) × (x ≡ WrongLink)) ⊎ (IsBetween old.setup.remote old.setup.local (Segment s) × (newly_acked old (first_ack s.ack1 s.ack2) ≡ None) × (x ≡ BadSequence))

    reason : Why e → Why f → e ≡ f
    reason (inl a) (inl b) = a.1 ∙ sym b.1
    reason (inl a) (inr b) = absurd (a.0 b.0)
    reason (inr a) (inl b) = absurd (b.0 a.0)
    reason (inr a) (inr b) = a.2 ∙ sym b.2
let_go_same old one two (DataAck s) r t a b = absurd a

bounded_same : (old one two : LinkValue) (p : Packet) (r s : Result Got LinkFault) → r ≢ Err NoMemory → s ≢ Err NoMemory → one.coming.received ≤ max_segments → two.coming.received ≤ max_segments
    → ReceivesBounded old p r one → ReceivesBounded old p s two → (r ≡ s) × (one ≡ two)
bounded_same old one two p r s nr ns few less (inl (_, a)) (inl (_, b)) = let_go_same old one two p r s a b
bounded_same old one two p r s nr ns few less (inl (long, _)) (inr (fits, _)) = let both = sym long ∙ fits in absurd cc
bounded_same old one two p r s nr ns few less (inr (fits, _)) (inl (long, _)) = let both = sym long ∙ fits in absurd cc
bounded_same old one two p r s nr ns few less (inr (_, a)) (inr (_, b)) = packet_same old one two p r s nr ns few less a b

bounded_bytes_same : (old one two : LinkValue) (bytes : List ℕ) (r s : Result Got LinkFault) → AreBytes bytes → r ≢ Err NoMemory → s ≢ Err NoMemory → one.coming.received ≤ max_segments → two.coming.received ≤ max_segments
    → BoundedBytes old one bytes r → BoundedBytes old two bytes s → (r ≡ s) × (one ≡ two)
bounded_bytes_same old one two bytes r s fits nr ns few less (inl a) (inl b) =
    (a.1 ∙ ap malformed_by (fault-one a.0 b.0 bytes fits a.2 b.2) ∙ sym b.1, a.3 ∙ sym b.3)
bounded_bytes_same old one two bytes r s fits nr ns few less (inl a) (inr b) = absurd (spells-apart b.0 a.0 bytes fits b.1 a.2)
bounded_bytes_same old one two bytes r s fits nr ns few less (inr a) (inl b) = absurd (spells-apart a.0 b.0 bytes fits a.1 b.2)
bounded_bytes_same old one two bytes r s fits nr ns few less (inr a) (inr b) =
    bounded_same old one two a.0 r s nr ns few less a.2 (subst (λ (p : Packet). ReceivesBounded old p s two) (spells-one b.0 a.0 bytes b.1 a.1) b.2)

receives_by : (failed : Bool) (old one two : LinkValue) (bytes : List ℕ) (r s : Result Got LinkFault) → old.failed ≡ failed → AreBytes bytes → r ≢ Err NoMemory → s ≢ Err NoMemory
    → Receives old one bytes r → Receives old two bytes s → (r ≡ s) × (one ≡ two)
receives_by true old one two bytes r s e fits nr ns a b = ((a.failed e).0 ∙ sym (b.failed e).0, (a.failed e).1 ∙ sym (b.failed e).1)
receives_by false old one two bytes r s e fits nr ns a b = bounded_bytes_same old one two bytes r s fits nr ns a.few b.few (a.any e) (b.any e)

-- what taking a packet in comes to, out of memory aside
pub receives_same : (old one two : LinkValue) (bytes : List ℕ) (r s : Result Got LinkFault) → AreBytes bytes → r ≢ Err NoMemory → s ≢ Err NoMemory → Receives old one bytes r → Receives old two bytes s → (r ≡ s) × (one ≡ two)
receives_same old one two bytes r s fits nr ns a b = receives_by old.failed old one two bytes r s refl fits nr ns a b
