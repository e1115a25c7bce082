-- The NSP messages of a link are those that its own segments make, whatever came.
use Rattle.std.proofs.Common.{◌≡◌, ℕ, ◌+◌, refl, sym, ◌∙◌, subst, ap, append_assoc, true, false, List, [], ◌∷◌, ◌++◌, length, drop, inl, inr, arith, zero, suc, eq-eqb}
use Rattle.std.specs.Prelude.{Bool, ◌&&◌, nat_lt, Result, Ok, Err, if◌then◌else◌}
use Rattle.std.specs.List.{AllByRecursion}
use Rattle.std.proofs.lemmas.Bool.{cases_eq, cases_lt, lt-ltb, le-ltb, ne_eqb}
use Rattle.nsp_seg.specs.declared.packet.Packet.{Packet}
use Rattle.nsp_seg.specs.declared.packet.Packet.TheVariants.{Segment, DataAck}
use Rattle.nsp_seg.specs.declared.packet.SegmentFields.{SegmentFields}
use Rattle.nsp_seg.specs.Packets.{Spells}
use Rattle.nsp_link.specs.declared.link.Got.{Got}
use Rattle.nsp_link.specs.declared.link.LinkSetup.{LinkSetup}
use Rattle.nsp_link.specs.declared.fault.LinkFault.{LinkFault}
use Rattle.nsp_link.specs.Cutting.{Piece}
use Rattle.nsp_link.specs.Coming.{Coming, body_with, nothing_came, with_taken, with_all_taken}
use Rattle.nsp_link.specs.Holding.{following}
use Rattle.nsp_link.specs.Link.{LinkValue, failed_link, new_link, piece_of, with_acked}
use Rattle.nsp_link.specs.Receiving.{BoundedBytes, LetsGo, Receives, ReceivesPacket, ends_link, run, segment_number, taking_in}
use Rattle.nsp_link.proofs.ForCallers.{inserted}
use Rattle.dap_end.specs.Headline.{Arrival}
use Rattle.dap_network.specs.Served.{EachCame, CameAs, IsMadeOf}

-- ---- More came.

came_more : (came : List Arrival) (c : Arrival) (number : ℕ) (piece : Piece) → CameAs came number piece → CameAs (came ++ c ∷ []) number piece
came_more came c number piece h =
    record {
      before = h.before;
      bytes = h.bytes;
      front = h.front;
      back = h.back ++ c ∷ [];
      there = ap (λ (l : List Arrival). l ++ c ∷ []) h.there ∙ append_assoc h.front ((h.before, h.bytes) ∷ h.back) (c ∷ []);
      segment = h.segment;
      spelled = h.spelled;
      numbered = h.numbered;
      is = h.is;
    }

all_more : (came : List Arrival) (c : Arrival) (from : ℕ) (pieces : List Piece) → EachCame came from pieces → EachCame (came ++ c ∷ []) from pieces
all_more came c from [] h = tt
all_more came c from (p ∷ pieces) h = (came_more came c from p h.0, all_more came c (from + 1) pieces h.1)

abbrev Held : List Arrival → List (ℕ × Piece) → Type 0
Held came held = AllByRecursion (λ h. CameAs came h.0 h.1) held

held_more : (came : List Arrival) (c : Arrival) (held : List (ℕ × Piece)) → Held came held → Held (came ++ c ∷ []) held
held_more came c [] h = tt
held_more came c (x ∷ held) h = (came_more came c x.0 x.1 h.0, held_more came c held h.1)

-- ---- Segments after others.

all_then : (came : List Arrival) (from : ℕ) (xs ys : List Piece) → EachCame came from xs → EachCame came (from + length xs) ys → EachCame came from (xs ++ ys)
all_then came from [] ys h k = subst (λ (n : ℕ). EachCame came n ys) (let e : from + 0 ≡ from = omega arith in e) k
all_then came from (x ∷ xs) ys h k =
    (h.0, all_then came (from + 1) xs ys h.1 (subst (λ (n : ℕ). EachCame came n ys) (let e : from + length (x ∷ xs) ≡ (from + 1) + length xs = omega arith in e) k))

-- those that follow what was taken, of those held
all_follow : (came : List Arrival) (k : ℕ) (held : List (ℕ × Piece)) → Held came held → EachCame came (k + 1) (following k held)
unfolding following
all_follow came k [] h = tt
all_follow came k (x ∷ held) h = elim (cases_eq x.0 (k + 1)) [
  | inl e ↦ rw (eq-eqb x.0 (k + 1) e) (subst (λ (i : ℕ). CameAs came i x.1) e h.0, all_follow came (k + 1) held h.1)
  | inr ne ↦ rw (ne_eqb x.0 (k + 1) ne) tt
]

held_drop : (came : List Arrival) (n : ℕ) (held : List (ℕ × Piece)) → Held came held → Held came (drop n held)
held_drop came zero held h = h
held_drop came (suc n) [] h = tt
held_drop came (suc n) (x ∷ held) h = held_drop came n held h.1

held_put : (came : List Arrival) (k : ℕ) (p : Piece) (held : List (ℕ × Piece)) → CameAs came k p → Held came held → Held came (inserted k p held)
held_put came k p [] at h = (at, tt)
held_put came k p (x ∷ held) at h = elim (cases_lt k x.0) [
  | inl lt ↦ rw (lt-ltb k x.0 lt) (at, h)
  | inr le ↦ elim (cases_eq k x.0) [
    | inl e ↦ rw (le-ltb k x.0 le, eq-eqb k x.0 e) h
    | inr ne ↦ rw (le-ltb k x.0 le, ne_eqb k x.0 ne) (h.0, held_put came k p held at h.1)
  ]
]

-- ---- What was taken.

-- with NSP messages that left before
abbrev with_front : List (List ℕ) → Coming → Coming
with_front given c = record c { inbox = given ++ c.inbox }

taken_last : (given : List (List ℕ)) (c : Coming) (p : Piece) (last : Bool) → (if last then (given ++ c.inbox) ++ body_with c p.payload ∷ [] else given ++ c.inbox) ≡ given ++ (if last then c.inbox ++ body_with c p.payload ∷ [] else c.inbox)
taken_last given c p true = append_assoc given c.inbox (body_with c p.payload ∷ [])
taken_last given c p false = refl

taken_front : (given : List (List ℕ)) (c : Coming) (p : Piece) → with_taken (with_front given c) p ≡ with_front given (with_taken c p)
taken_front given c p = ap (λ (l : List (List ℕ)). record (with_taken c p) { inbox = l }) (taken_last given c p p.last)

all_front : (given : List (List ℕ)) (c : Coming) (ps : List Piece) → with_all_taken (with_front given c) ps ≡ with_front given (with_all_taken c ps)
unfolding with_all_taken
all_front given c [] = refl
all_front given c (p ∷ ps) = ap (λ (d : Coming). with_all_taken d ps) (taken_front given c p) ∙ all_front given (with_taken c p) ps

taken_both : (c : Coming) (xs ys : List Piece) → with_all_taken c (xs ++ ys) ≡ with_all_taken (with_all_taken c xs) ys
unfolding with_all_taken
taken_both c [] ys = refl
taken_both c (x ∷ xs) ys = taken_both (with_taken c x) xs ys

taken_count : (c : Coming) (ps : List Piece) → (with_all_taken c ps).received ≡ c.received + length ps
unfolding with_all_taken
taken_count c [] = omega arith
taken_count c (p ∷ ps) = let rest = taken_count (with_taken c p) ps in omega (arith, rest)

-- ---- A packet.

module _ (came : List Arrival) (old : LinkValue) (bytes : List ℕ) (given : List (List ℕ)) (h : IsMadeOf came old given) where
  abbrev now : List Arrival
  now = came ++ (old, bytes) ∷ []

  -- nothing moved of what came
  stays : (new : LinkValue) → new.coming ≡ old.coming → new.held ≡ old.held → IsMadeOf now new given
  stays new coming held =
      record {
        pieces = h.pieces;
        all = all_more came (old, bytes) 1 h.pieces h.all;
        taken = h.taken ∙ ap (λ (c : Coming). with_front given c) (sym coming);
        held = subst (Held now) (sym held) (held_more came (old, bytes) old.held h.held);
      }

  -- a segment
  module _ (s : SegmentFields) (spelled : Spells (Segment s) bytes) where
    abbrev k : ℕ
    k = segment_number old s.number

    abbrev p : Piece
    p = piece_of s

    here : CameAs now k p
    here = record { before = old; bytes = bytes; front = came; back = []; there = refl; segment = s; spelled = spelled; numbered = refl; is = refl }

    counted : old.coming.received ≡ length h.pieces
    counted = let all = taken_count nothing_came h.pieces in let is = ap (λ (c : Coming). c.received) h.taken in omega (arith, all, is)

    held_now : Held now old.held
    held_now = held_more came (old, bytes) old.held h.held

    -- an early one is held within the window
    kept : (b : Bool) → Held now (if b then inserted k p old.held else old.held)
    kept true = held_put now k p old.held here held_now
    kept false = held_now

    took : IsMadeOf now (taking_in old k p) given
    took = elim (cases_eq k (old.coming.received + 1)) [
      | inl e ↦
          let ps = run old p in
          let next : EachCame now (1 + length h.pieces) ps = (
            subst (λ (i : ℕ). CameAs now i p) (let f : k ≡ 1 + length h.pieces = omega (arith, e, counted) in f) here,
            subst (λ (i : ℕ). EachCame now i (following (old.coming.received + 1) old.held)) (let f : (old.coming.received + 1) + 1 ≡ (1 + length h.pieces) + 1 = omega (arith, counted) in f) (all_follow now (old.coming.received + 1) old.held held_now),
          ) in
          rw (eq-eqb k (old.coming.received + 1) e)
          (record {
            pieces = h.pieces ++ ps;
            all = all_then now 1 h.pieces ps (all_more came (old, bytes) 1 h.pieces h.all) next;
            taken = taken_both nothing_came h.pieces ps ∙ ap (λ (c : Coming). with_all_taken c ps) h.taken ∙ all_front given old.coming ps;
            held = held_drop now (length (following k old.held)) old.held held_now;
          })
      | inr ne ↦
          rw (ne_eqb k (old.coming.received + 1) ne)
          (record {
            pieces = h.pieces;
            all = all_more came (old, bytes) 1 h.pieces h.all;
            taken = h.taken;
            held = kept (nat_lt old.coming.received k && nat_lt k (old.coming.received + 1 + old.setup.window));
          })
    ]

  -- ---- Any bytes.

  acknowledged : (mid new : LinkValue) (count : ℕ) → new ≡ with_acked mid count → IsMadeOf now mid given → IsMadeOf now new given
  acknowledged mid new count e m = subst (λ (v : LinkValue). IsMadeOf now v given) (sym e) (record { pieces = m.pieces; all = m.all; taken = m.taken; held = m.held })

  same : IsMadeOf now old given
  same = stays old refl refl

  refused : (new : LinkValue) (ends : Bool) → new ≡ (if ends then failed_link old else old) → IsMadeOf now new given
  refused new true e = stays new (ap (λ (v : LinkValue). v.coming) e) (ap (λ (v : LinkValue). v.held) e)
  refused new false e = stays new (ap (λ (v : LinkValue). v.coming) e) (ap (λ (v : LinkValue). v.held) e)

  received : (new : LinkValue) (q : Packet) (r : Result Got LinkFault) → Spells q bytes → ReceivesPacket old q r new → IsMadeOf now new given
  received new (Segment s) (Ok got) spelled (_, (_, _, acks)) = acknowledged (taking_in old (segment_number old s.number) (piece_of s)) new acks.0 acks.2 (took s spelled)
  received new (DataAck s) (Ok got) spelled (_, (_, acks)) = acknowledged old new acks.0 acks.2 same
  received new q (Err e) spelled (_, left) = refused new (ends_link e) left

  let_go : (new : LinkValue) (q : Packet) (r : Result Got LinkFault) → LetsGo old q r new → IsMadeOf now new given
  let_go new (Segment s) (Ok got) (_, _, acks) = acknowledged old new acks.0 acks.2 same
  let_go new (Segment s) (Err e) (_, left) = refused new (ends_link e) left
  let_go new (DataAck s) r x = absurd x

  from_bytes : (new : LinkValue) (r : Result Got LinkFault) → BoundedBytes old new bytes r → IsMadeOf now new given
  from_bytes new r (inl x) = stays new (ap (λ (v : LinkValue). v.coming) x.3) (ap (λ (v : LinkValue). v.held) x.3)
  from_bytes new r (inr (q, spelled, inl x)) = let_go new q r x.1
  from_bytes new r (inr (q, spelled, inr x)) = received new q r spelled x.1

  by_state : (new : LinkValue) (r : Result Got LinkFault) (failed : Bool) → old.failed ≡ failed → Receives old new bytes r → IsMadeOf now new given
  by_state new r true e x = let is = (x.failed e).1 in stays new (ap (λ (v : LinkValue). v.coming) is) (ap (λ (v : LinkValue). v.held) is)
  by_state new r false e x = from_bytes new r (x.any e)

  -- whatever came
  pub made_more : (new : LinkValue) (r : Result Got LinkFault) → Receives old new bytes r → IsMadeOf now new given
  made_more new r x = by_state new r old.failed refl x

-- nothing came
pub made_none : (setup : LinkSetup) → IsMadeOf [] (new_link setup) []
unfolding with_all_taken
made_none setup = record { pieces = []; all = tt; taken = refl; held = tt }
