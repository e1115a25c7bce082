-- One of two joined links does something by itself: it writes a packet, or its end goes on.
use Rattle.std.proofs.Common.{◌≡◌, ℕ, zero, suc, ◌+◌, ◌-◌, ◌<◌, ◌≤◌, arith, refl, sym, ◌∙◌, subst, ap, List, [], ◌∷◌, ◌++◌, length}
use Rattle.std.specs.Prelude.{Option, Some, IfSome}
use Rattle.std.proofs.lemmas.List.{append-nil}
use Rattle.nsp_link.specs.Link.{LinkValue, Stands, Sends, with_inbox, AreShort}
use Rattle.dap_end.specs.Ports.{PortValue}
use Rattle.dap_end.specs.Writing.{AreSegments, WroteMore}
use Rattle.dap_end.specs.Headline.{WrittenPacket, AreWrittenOf}
use Rattle.dap_end.specs.Calls.{numbered_packets, WroteOne}
use Rattle.dap_end.proofs.Packets.{all_written, numbered_written, one_written}
use Rattle.dap_end.proofs.Proceeding.{none_short}
use Rattle.dap_end.proofs.Running.{went_written}
use Rattle.dap_end.proofs.Ways.{AreTrue, AreJoined, moved, LinkMoved, works, counts_numbered}

-- the packets of an end that wrote one are true
one_true : (v : LinkValue) (k : Option ℕ) (w : WrittenPacket) → IfSome k (λ n. n ≤ v.sent) → WroteOne v k w → AreTrue v.sent v.coming.received (w ∷ [])
one_true v k w was h =
    (record { segment = subst (λ (s : Option ℕ). IfSome s (λ n. n ≤ v.sent)) (sym h.0) was; acks = omega (arith, h.1) }, tt)

-- the same, and the end moved by nothing else
pub wrote_one : (a b : LinkValue) (from_a from_b to_a to_b : List (List ℕ)) (wire_a wire_b : List WrittenPacket) (k : Option ℕ) (w : WrittenPacket) → AreJoined a b from_a from_b to_a to_b wire_a wire_b → Sends a from_a → IfSome k (λ n. n ≤ a.sent) → WroteOne a k w
    → AreJoined a b from_a from_b to_a to_b (wire_a ++ w ∷ []) wire_b
wrote_one a b from_a from_b to_a to_b wire_a wire_b k w j sends was one =
    subst (λ (l : List (List ℕ)). AreJoined a b l from_b to_a to_b (wire_a ++ w ∷ []) wire_b) (append-nil from_a)
    (works a b from_a from_b to_a to_b [] to_a wire_a wire_b (w ∷ []) a.coming.inbox a.queue a.sent j (record { more = omega arith; within = j.there.within }) (none_short a) j.back.stands
    (subst (λ (l : List (List ℕ)). AreWrittenOf a l (wire_a ++ w ∷ [])) (sym (append-nil from_a)) (all_written a from_a wire_a (w ∷ []) j.there.packets (one_written a from_a k w sends one, tt)))
    (one_true a k w was one))

same_front : (v link : LinkValue) (sent : ℕ) → link ≡ record (with_inbox v link.coming.inbox) { queue = link.queue } → record link { sent = sent } ≡ moved v link.coming.inbox link.queue sent
same_front v link sent e = subst (λ (l : LinkValue). record l { sent = sent } ≡ moved v l.coming.inbox l.queue sent) (sym e) refl

within_by : (v link : LinkValue) (sent n : ℕ) → link ≡ record (with_inbox v link.coming.inbox) { queue = link.queue } → sent ≡ link.sent + n → (0 < n → sent ≤ link.acked + link.setup.window) → v.sent ≤ v.acked + v.setup.window → LinkMoved v link.coming.inbox link.queue sent
within_by v link sent zero e is within before =
    let same : link.sent ≡ v.sent = ap (λ (l : LinkValue). l.sent) e in record { more = omega (arith, is, same); within = omega (arith, is, same, before) }
within_by v link sent (suc n) e is within before =
    let same : link.sent ≡ v.sent = ap (λ (l : LinkValue). l.sent) e in
    let acked : link.acked ≡ v.acked = ap (λ (l : LinkValue). l.acked) e in
    let window : link.setup.window ≡ v.setup.window = ap (λ (l : LinkValue). l.setup.window) e in
    record { more = omega (arith, is, same); within = omega (arith, within (omega arith), acked, window) }

-- an end goes on: this is its link in between, and then this many segments were written
pub goes : (a b link : LinkValue) (new : PortValue) (port : PortValue) (from_a from_b to_a to_b more given now : List (List ℕ)) (wire_a wire_b : List WrittenPacket) (packets : List (List ℕ)) → AreJoined a b from_a from_b to_a to_b wire_a wire_b → port.link ≡ link
    → link ≡ record (with_inbox a link.coming.inbox) { queue = link.queue } → WroteMore port new packets → now ≡ from_a ++ more → AreShort a more → Stands link b.setup.seg_size from_b given → Sends link now
    → AreJoined new.link b now from_b given to_b (wire_a ++ numbered_packets (link.sent + 1) link.coming.received packets) wire_b
goes a b link new port from_a from_b to_a to_b more given now wire_a wire_b packets j at counts w is short stands sends =
    let n = length packets in
    let ws = numbered_packets (link.sent + 1) link.coming.received packets in
    let sent : ℕ = link.sent + n in
    let new_is : new.link ≡ record link { sent = sent } = ap (λ (p : PortValue). p.link) w.sent ∙ ap (λ (l : LinkValue). record l { sent = l.sent + n }) at in
    let to : new.link ≡ moved a link.coming.inbox link.queue sent = new_is ∙ same_front a link sent counts in
    let within : 0 < n → sent ≤ link.acked + link.setup.window = λ some. subst (λ (l : LinkValue). l.sent ≤ l.acked + l.setup.window) new_is (w.within some) in
    let moves : LinkMoved a link.coming.inbox link.queue sent = within_by a link sent n counts refl within j.there.within in
    let same_sent : link.sent ≡ a.sent = ap (λ (l : LinkValue). l.sent) counts in
    let same_received : link.coming.received ≡ a.coming.received = ap (λ (l : LinkValue). l.coming.received) counts in
    let wrote : AreWrittenOf link now ws = numbered_written link now (link.sent + 1) packets sends (subst (λ (l : LinkValue). AreSegments l (l.sent + 1) packets) at w.writes) in
    let all : AreWrittenOf new.link now (wire_a ++ ws) = went_written a link new.link from_a more now wire_a ws counts is (new_is ∙ ap (λ (k : ℕ). record link { sent = k }) (sym (ap (λ (l : LinkValue). l.sent) new_is))) j.there.packets wrote in
    let stands' : Stands (moved a link.coming.inbox link.queue sent) b.setup.seg_size from_b given =
    subst (λ (l : LinkValue). Stands l b.setup.seg_size from_b given) (same_front a link sent counts) (record { taken = stands.taken; held = stands.held }) in
    let packets' : AreWrittenOf (moved a link.coming.inbox link.queue sent) (from_a ++ more) (wire_a ++ ws) =
    subst (λ (l : LinkValue). AreWrittenOf l (from_a ++ more) (wire_a ++ ws)) to (subst (λ (h : List (List ℕ)). AreWrittenOf new.link h (wire_a ++ ws)) is all) in
    let true_ws : AreTrue sent a.coming.received ws = subst (λ (k : ℕ). AreTrue sent k ws) same_received (counts_numbered link packets) in
    subst (λ (h : List (List ℕ)). AreJoined new.link b h from_b given to_b (wire_a ++ ws) wire_b) (sym is)
    (subst (λ (l : LinkValue). AreJoined l b (from_a ++ more) from_b given to_b (wire_a ++ ws) wire_b) (sym to)
    (works a b from_a from_b to_a to_b more given wire_a wire_b ws link.coming.inbox link.queue sent j moves short stands' packets' true_ws))

pub again_sent : (v : LinkValue) (i : ℕ) → i < v.sent - v.acked → IfSome (Some (v.acked + 1 + i)) (λ n. n ≤ v.sent)
again_sent v i lt = omega arith
