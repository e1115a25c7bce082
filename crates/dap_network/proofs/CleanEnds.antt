-- A clean stretch of a link of a node ends.
use Rattle.std.proofs.Common.{◌≡◌, ℕ, ◌+◌, ◌<◌, ◌≤◌, arith, refl, sym, ◌∙◌, subst, ap, true, false, List, [], ◌++◌, length, inl, inr}
use Rattle.nsp_seg.specs.Packets.{Spells}
use Rattle.nsp_link.specs.Due.{IsDue}
use Rattle.std.specs.Prelude.{max, ◌⊎◌, ◌==◌, nat_lt, if◌then◌else◌, drop, Bool, Option, Some, None, Ok, slice_get}
use Rattle.std.proofs.lemmas.Bool.{cases_lt}
use Rattle.std.proofs.lemmas.List.{length-append, length-drop}
use Rattle.nsp_seg.specs.declared.packet.Packet.{Packet}
use Rattle.nsp_seg.specs.declared.packet.Packet.TheVariants.{Segment, DataAck}
use Rattle.nsp_link.specs.declared.link.Got.{Got}
use Rattle.nsp_link.specs.declared.link.Got.TheVariants.{AckOnly, Accepted, Early, Repeat}
use Rattle.nsp_link.specs.Cutting.{cut}
use Rattle.nsp_link.specs.Link.{IsSetup, LinkValue}
use Rattle.nsp_link.specs.Receiving.{BoundedBytes, Receives, ReceivesBounded, segment_number}
use Rattle.dap_end.specs.By.{ServesAt, serves_by, end_with}
use Rattle.dap_end.specs.Node.{HasPort, NodeLinkValue, NodeValue, OnLink, serves_on, without_notes}
use Rattle.dap_shared.specs.Noted.{NotedServed}
use Rattle.dap_network.proofs.Sets.{set_here}
use Rattle.dap_end.specs.Ports.{EndValue, PortValue}
use Rattle.dap_end.specs.Turns.{TakesPacket, TookIn, WritesReplies}
use Rattle.dap_network.specs.Bounded.{CleanStretch, IsClean, at_rest, one_clean, others_do}
use Rattle.dap_network.proofs.AnyBounds.{HasSent, IsRested, acked_new, has_new, new_setup, nothing_left, sent_new, turn_idle}

-- ---- A packet that only acknowledges.

-- no segment is answered so
never_only : (received k : ℕ) (b c : Bool) → AckOnly ≡ (if b then Accepted else (if c then Early else Repeat)) → ⊥
never_only received k true c e = cc
never_only received k false true e = cc
never_only received k false false e = cc

module _ (old new : LinkValue) (bytes : List ℕ) where
  abbrev Same : Type 0
  Same = (new.coming.inbox ≡ old.coming.inbox) × (new.sent ≡ old.sent) × (new.setup ≡ old.setup) × (n : ℕ) × (new.queue ≡ drop n old.queue)

  from_packet : (p : Packet) → ReceivesBounded old p (Ok AckOnly) new → Same
  from_packet (Segment s) (inl h) = let (way, early, acks) = h.1 in let none : ⊥ = cc in absurd none
  from_packet (DataAck s) (inl h) = absurd h.1
  from_packet (Segment s) (inr h) =
      let (way, (is, fits, acks)) = h.1 in absurd (never_only old.coming.received (segment_number old s.number) (segment_number old s.number == old.coming.received + 1) (nat_lt old.coming.received (segment_number old s.number)) is)
  from_packet (DataAck s) (inr h) =
      let (way, (is, acks)) = h.1 in (ap (λ (v : LinkValue). v.coming.inbox) acks.2, ap (λ (v : LinkValue). v.sent) acks.2, ap (λ (v : LinkValue). v.setup) acks.2, acks.0, ap (λ (v : LinkValue). v.queue) acks.2)

  from_bytes : BoundedBytes old new bytes (Ok AckOnly) → Same
  from_bytes (inl h) = let none : ⊥ = cc h.1 in absurd none
  from_bytes (inr h) = from_packet h.0 h.2

  by_state : (failed : Bool) → old.failed ≡ failed → Receives old new bytes (Ok AckOnly) → Same
  by_state true e h = let is = (h.failed e).0 in let none : ⊥ = cc in absurd none
  by_state false e h = from_bytes (h.any e)

  -- what came stays, and what was sent
  pub only_acks : Receives old new bytes (Ok AckOnly) → Same
  only_acks h = by_state old.failed refl h

-- ---- A clean stretch.

queue_more : (link : LinkValue) (outbox : List (List ℕ)) → outbox ≡ [] → length link.queue ≡ 0 → length (link.queue ++ cut link.setup.seg_size outbox) ≡ 0
unfolding cut
queue_more link outbox none empty =
    let l = length-append link.queue (cut link.setup.seg_size outbox) in
    let e : length (cut link.setup.seg_size outbox) ≡ 0 = ap (λ (o : List (List ℕ)). length (cut link.setup.seg_size o)) none in
    omega (arith, l, e, empty)

module _ {P : Type 0} (serves : ServesAt P) (most : ℕ) (some : 0 < most) where
  module _ (old new : EndValue P) (c : IsClean (serves_by serves most) old new) (good : IsSetup old.port.link.setup) (has : HasSent serves old.port) where
    abbrev mid : EndValue P
    mid = c.mid

    same : Same old.port.link mid.port.link c.bytes
    same = only_acks old.port.link mid.port.link c.bytes c.took.receives

    good_mid : IsSetup mid.port.link.setup
    good_mid = subst IsSetup (sym same.2) good

    has_mid : HasSent serves mid.port
    has_mid = (has.0, c.took.receives.sends has.0 has.1)

    pub good_new : IsSetup new.port.link.setup
    good_new = new_setup serves most mid new AckOnly c.out c.all some good_mid has_mid c.answers

    pub has_still : HasSent serves new.port
    has_still = has_new serves most mid new AckOnly c.out c.all some good_mid has_mid c.answers

    acked_is : new.port.link.acked ≡ old.port.link.sent
    acked_is = acked_new serves most mid new AckOnly c.out c.all some good_mid has_mid c.answers ∙ c.acknowledges

    sent_is : old.port.link.sent ≤ new.port.link.sent
    sent_is = let le = sent_new serves most mid new AckOnly c.out c.all some good_mid has_mid c.answers in omega (arith, le, same.1)

    -- it wrote a segment, or nothing is left
    pub one_call : (old.port.link.sent + 1 ≤ new.port.link.sent) ⊎ IsRested new.port
    one_call =
        elim (cases_lt old.port.link.sent new.port.link.sent) [
          | inl lt ↦ inl (omega (arith, lt))
          | inr le ↦ inr (nothing_left serves most mid new AckOnly c.out c.all some good_mid has_mid c.answers (omega (arith, le, sent_is, acked_is)))
        ]

    -- where nothing was left, nothing is
    pub still_done : IsRested old.port → IsRested new.port
    still_done d =
        let w = c.answers in
        let turned : EndValue P = w.done.0 in
        let outbox : mid.port.outbox ≡ [] = ap (λ (v : EndValue P). v.port.outbox) c.took.rest ∙ d.1 in
        let idle : turned ≡ mid = turn_idle serves most mid turned w.done.2 (same.0 ∙ d.0) in
        let none : turned.port.outbox ≡ [] = ap (λ (v : EndValue P). v.port.outbox) idle ∙ outbox in
        let sends = has_mid.1 in
        let empty : length mid.port.link.queue ≡ 0 = (let is = ap length same.4 in let l = length-drop same.3 old.port.link.queue in let e = ap length d.2 in omega (arith, is, l, e)) in
        let posted : length w.mid.port.link.queue ≡ 0 = ap (λ (v : EndValue P). length v.port.link.queue) w.done.4.1 ∙ queue_more turned.port.link turned.port.outbox none (ap (λ (v : EndValue P). length v.port.link.queue) idle ∙ empty) in
        let acked : w.mid.port.link.acked ≡ mid.port.link.acked = ap (λ (v : EndValue P). v.port.link.acked) w.done.4.1 ∙ ap (λ (v : EndValue P). v.port.link.acked) idle in
        let sent : w.mid.port.link.sent ≡ mid.port.link.sent = ap (λ (v : EndValue P). v.port.link.sent) w.done.4.1 ∙ ap (λ (v : EndValue P). v.port.link.sent) idle in
        let is_sent = ap (λ (p : PortValue). p.link.sent) w.wrote.2.1.sent in
        let is_acked = ap (λ (p : PortValue). p.link.acked) w.wrote.2.1.sent in
        let is_queue = ap (λ (p : PortValue). length p.link.queue) w.wrote.2.1.sent in
        nothing_left serves most mid new AckOnly c.out c.all some good_mid has_mid c.answers
        (elim (cases_lt 0 (length w.wrote.2.0)) [
          | inl wrote ↦ (let there = w.wrote.2.1.there wrote in omega (arith, there, is_sent, is_acked, is_queue, posted, acked, sent, same.1, c.acknowledges, wrote))
          | inr quiet ↦ omega (arith, quiet, is_sent, is_acked, acked, sent, same.1, c.acknowledges)
        ])

-- ---- On a link of a node.

open_port : (link : ℕ) (v : NodeValue) (p q : PortValue) → HasPort link v p → HasPort link v q → p ≡ q
open_port link v p q a b = let same : Some (Some p) ≡ Some (Some q) = sym a ∙ b in cc

module _ (link most : ℕ) (some : 0 < most) where
  -- so far it wrote as many segments, or nothing is left
  abbrev Ends : ℕ → PortValue → PortValue → Type 0
  Ends n old new = (old.link.sent + n ≤ new.link.sent) ⊎ IsRested new

  abbrev plain : NodeValue → PortValue → NodeLinkValue
  plain v port = end_with port (without_notes v.noted)

  node_port : (old mid : NodeValue) (port : PortValue) → OnLink link (IsClean (serves_on link most)) old mid → HasPort link old port → (after : PortValue) × (present : _) × HasPort link mid after × IsClean (serves_on link most) (plain old port) (end_with after present)
  node_port old mid port on at =
      let same : on.before ≡ port = open_port link old on.before port on.there at in
      let there : HasPort link mid on.after = ap (λ (l : List (Option PortValue)). slice_get l link) on.ports ∙ set_here old.ports link (Some on.before) (Some on.after) on.there in
      (on.after, mid.noted, there, subst (λ (p : PortValue). IsClean (serves_on link most) (plain old p) (end_with on.after mid.noted)) same on.does)

  pub done_stays : (n : ℕ) (old new : NodeValue) (port last : PortValue) → CleanStretch link most n old new → HasPort link old port → HasPort link new last → IsSetup port.link.setup → HasSent (NotedServed link) port → IsRested port → IsRested last
  done_stays n old new port last at_rest at to good has d = subst IsRested (open_port link old port last at to) d
  done_stays n old new port last (one_clean mid on more) at to good has d =
      let (after, present, there, c) = node_port old mid port on at in
      let old_end = plain old port in
      let new_end = end_with after present in
      done_stays _ mid new after last more there to (good_new (NotedServed link) most some old_end new_end c good has) (has_still (NotedServed link) most some old_end new_end c good has) (still_done (NotedServed link) most some old_end new_end c good has d)
  done_stays n old new port last (others_do mid same more) at to good has d = done_stays _ mid new port last more (same ∙ at) to good has d

  pub stretch_ends : (n : ℕ) (old new : NodeValue) (port last : PortValue) → CleanStretch link most n old new → HasPort link old port → HasPort link new last → IsSetup port.link.setup → HasSent (NotedServed link) port → Ends n port last
  stretch_ends n old new port last at_rest at to good has =
      let same = open_port link old port last at to in inl (let e = ap (λ (p : PortValue). p.link.sent) same in omega (arith, e))
  stretch_ends n old new port last (one_clean mid on more) at to good has =
      let (after, present, there, c) = node_port old mid port on at in
      let old_end = plain old port in
      let new_end = end_with after present in
      let good2 = good_new (NotedServed link) most some old_end new_end c good has in
      let has2 = has_still (NotedServed link) most some old_end new_end c good has in
      elim (one_call (NotedServed link) most some old_end new_end c good has) [
        | inr d ↦ inr (done_stays _ mid new after last more there to good2 has2 d)
        | inl lt ↦ elim (stretch_ends _ mid new after last more there to good2 has2) [
          | inr d ↦ inr d
          | inl le ↦ inl (omega (arith, lt, le))
        ]
      ]
  stretch_ends n old new port last (others_do mid same more) at to good has = stretch_ends _ mid new port last more (same ∙ at) to good has

  pub clean_ends : (n : ℕ) (old new : NodeValue) (port last : PortValue) → CleanStretch link most n old new → HasPort link old port → HasPort link new last → IsSetup port.link.setup → HasSent (NotedServed link) port → last.link.sent < port.link.sent + n → IsRested last
  clean_ends n old new port last c at to good has lt = elim (stretch_ends n old new port last c at to good has) [ inl le ↦ absurd (omega (arith, le, lt)) | inr d ↦ d ]

-- ---- A peer that keeps the rules.

-- its packet that acknowledges all that was sent is such a packet, where all was done
module _ {P : Type 0} (serves : ServesAt P) (most : ℕ) where
  pub ack_is_clean : (old new : EndValue P) (size : ℕ) (messages given : List (List ℕ)) (q : Packet) (bytes : List ℕ) (out all : List (List ℕ)) (got : Got) → old.port.link.acked ≤ old.port.link.sent
      → IsDue old.port.link size messages given q None old.port.link.sent → Spells q bytes → TakesPacket (serves_by serves most) old new bytes out all (Ok got) → IsClean (serves_by serves most) old new
  ack_is_clean old new size messages given q bytes out all got le due spelled (mid, t, w) =
      let told = t.receives.due size messages given q None old.port.link.sent spelled due in
      let is : got ≡ AckOnly = told.0 in
      let acked : mid.port.link.acked ≡ old.port.link.sent = (let e = told.1.acked in let m : max old.port.link.acked old.port.link.sent ≡ old.port.link.sent = omega (arith, le) in e ∙ m) in
      record {
        bytes = bytes;
        mid = mid;
        took = subst (λ (g : Got). TookIn old mid bytes (Ok g)) is t;
        acknowledges = acked;
        out = out;
        all = all;
        answers = subst (λ (g : Got). WritesReplies (serves_by serves most) mid new g out all (Ok tt)) is w;
      }
