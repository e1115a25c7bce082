-- Writing segments, one after another.
use Rattle.std.proofs.Common.{◌≡◌, ℕ, ◌+◌, ◌≤◌, arith, refl, sym, ◌∙◌, subst, ap, append_assoc, List, [], ◌∷◌, ◌++◌, length, inl, inr, add-zero, true, false, IsTrue}
use Rattle.std.specs.Prelude.{Some, None, Option, Result, Ok, Err, IfOk, IfErr, OnOk, OnErr, IfSome, Bool}
use Rattle.std.specs.Global.{Vec}
use Rattle.std.proofs.lemmas.List.{append-nil, length-append}
use Rattle.nsp_link.specs.declared.link.Got.{Got}
use Rattle.nsp_link.specs.declared.fault.LinkFault.{LinkFault}
use Rattle.nsp_link.specs.Link.{LinkValue, Sends, Writes, may_send}
use Rattle.nsp_link.specs.Sending.{WritesNext, WritesSent}
use Rattle.nsp_link.proofs.ForCallers.{may_send_parts}
use Rattle.dap_end.specs.Ports.{PortValue}
use Rattle.dap_end.specs.Moved.{with_link}
use Rattle.nsp_link.specs.declared.fault.LinkFault.TheVariants as fault
use Rattle.dap_end.specs.Writing.{AcknowledgesIf, AreSegments, WroteMore, Extends, wants_ack, WroteAnswer, WrotePart}
use Rattle.dap_end.specs.Moved.{sent_more}

-- ---- One.

one_segment : (p new : PortValue) (bytes : List ℕ) → IsTrue (may_send p.link) → new ≡ sent_more p 1 → WritesSent p.link (Some (p.link.sent + 1)) bytes → WroteMore p new (bytes ∷ [])
one_segment p new bytes may sent writes =
    let parts = may_send_parts p.link may in
    record {
      sent = sent;
      writes = (writes, tt);
      there = λ some. subst (λ (q : PortValue). q.link.sent ≤ q.link.acked + length q.link.queue) (sym sent) (omega (arith, parts.0));
      within = λ some. subst (λ (q : PortValue). q.link.sent ≤ q.link.acked + q.link.setup.window) (sym sent) (omega (arith, parts.1));
    }

pub wrote_next : (p : PortValue) (link : LinkValue) (r : Result (Option (Vec ℕ)) LinkFault) → IfOk r (λ o. IfSome o (λ b. WritesNext p.link link b.items))
    → IfOk r (λ o. IfSome o (λ b. WritesSent p.link (Some (p.link.sent + 1)) b.items)) → IfOk r (λ o. IfSome o (λ b. WroteMore p (with_link p link) (b.items ∷ [])))
wrote_next p link (Ok None) next sent = tt
wrote_next p link (Ok (Some b)) next sent = one_segment p (with_link p link) b.items next.0 (ap (with_link p) next.1) sent
wrote_next p link (Err f) next sent = tt

pub wrote_known : (p : PortValue) (link : LinkValue) (r : Result (Vec ℕ) LinkFault) → IfOk r (λ b. WritesNext p.link link b.items) → IfOk r (λ b. WritesSent p.link (Some (p.link.sent + 1)) b.items)
    → IfOk r (λ b. WroteMore p (with_link p link) (b.items ∷ []))
wrote_known p link (Ok b) next sent = one_segment p (with_link p link) b.items next.0 (ap (with_link p) next.1) sent
wrote_known p link (Err f) next sent = tt

-- ---- Several.

pub segments_more : (v : LinkValue) (k : ℕ) (packets : List (List ℕ)) (bytes : List ℕ) → AreSegments v k packets → WritesSent v (Some (k + length packets)) bytes
    → AreSegments v k (packets ++ bytes ∷ [])
segments_more v k [] bytes h w = (subst (λ (n : ℕ). WritesSent v (Some n) bytes) (add-zero k) w, tt)
segments_more v k (p ∷ packets) bytes h w = (h.0, segments_more v (k + 1) packets bytes h.1 (subst (λ (n : ℕ). WritesSent v (Some n) bytes) (omega arith) w))

pub wrote_nothing : (p : PortValue) → WroteMore p p []
wrote_nothing p = record { sent = ap (λ (n : ℕ). with_link p (record p.link { sent = n })) (sym (add-zero p.link.sent)); writes = tt; there = λ some. absurd (omega arith); within = λ some. absurd (omega arith) }

pub wrote_none : (p : PortValue) (out : List (List ℕ)) → Extends out out (WroteMore p p)
wrote_none p out = ([], sym (append-nil out), wrote_nothing p)

still_sends : (a : PortValue) (n : ℕ) (handed : List (List ℕ)) → Sends a.link handed → Sends (sent_more a n).link handed
still_sends a n handed h = record { queue = h.queue; acked = h.acked; part = h.part }

wrote_then : (a b c : PortValue) (packets : List (List ℕ)) (bytes : List ℕ) → WroteMore a b packets → WroteMore b c (bytes ∷ []) → WroteMore a c (packets ++ bytes ∷ [])
wrote_then a b c packets bytes m w =
    record {
      sent = w.sent ∙ ap (λ (p : PortValue). sent_more p 1) m.sent
          ∙ ap (λ (n : ℕ). with_link a (record a.link { sent = n })) (let long = length-append packets (bytes ∷ []) in omega arith);
      there = λ some. w.there (omega arith);
      within = λ some. w.within (omega arith);
      writes =
          segments_more a.link (a.link.sent + 1) packets bytes m.writes (λ handed h.
          subst (λ (n : ℕ). Writes a.link handed (Some n) a.link.coming.received bytes) (omega arith)
          (subst (λ (p : PortValue). Writes p.link handed (Some (p.link.sent + 1)) p.link.coming.received bytes) m.sent
          (w.writes.0 handed (subst (λ (p : PortValue). Sends p.link handed) (sym m.sent) (still_sends a (length packets) handed h)))));
    }

pub wrote_more : (a b c : PortValue) (out all new : List (List ℕ)) (bytes : List ℕ) → Extends out all (WroteMore a b) → WroteMore b c (bytes ∷ []) → new ≡ all ++ bytes ∷ [] → Extends out new (WroteMore a c)
wrote_more a b c out all new bytes m w is =
    (m.0 ++ bytes ∷ [], is ∙ ap (λ (l : List (List ℕ)). l ++ bytes ∷ []) m.1 ∙ append_assoc out m.0 (bytes ∷ []), wrote_then a b c m.0 bytes m.2 w)

-- ---- An answer.

-- how many were written
pub written_count : (old new : PortValue) (out all : List (List ℕ)) → (w : Extends out all (WroteMore old new)) → length all ≡ length out + length w.0
written_count old new out all w = ap length w.1 ∙ length-append out w.0

-- one acknowledgement more is written, or none
acked : (new : PortValue) (out all after written : List (List ℕ)) (wants : Bool) → all ≡ out ++ written → AcknowledgesIf new wants all after → Extends out after (AcknowledgesIf new wants written)
acked new out all after written false e a = (written, a ∙ e, refl)
acked new out all after written true e a = (written ++ a.0 ∷ [], a.1 ∙ ap (λ (l : List (List ℕ)). l ++ a.0 ∷ []) e ∙ append_assoc out written (a.0 ∷ []), (a.0, refl, a.2))

pub answered : (old new : PortValue) (got : Got) (out all after : List (List ℕ)) (count : ℕ) (r : Result (Unit {0}) LinkFault) → (w : Extends out all (WroteMore old new)) → may_send new.link ≡ false → length w.0 ≡ count
    → OnOk r (AcknowledgesIf new (wants_ack got count) all after) → OnOk r (Extends out after (WroteAnswer old new got))
answered old new got out all after count (Ok u) w full long a =
    let b = acked new out all after w.0 (wants_ack got (length w.0)) w.1 (subst (λ (n : ℕ). AcknowledgesIf new (wants_ack got n) all after) (sym long) a) in
    (b.0, b.1, (w.0, w.2, full, b.2))
answered old new got out all after count (Err f) w full long a = tt

-- memory was wanting for a segment, or for it
pub part_emit : (old new : PortValue) (got : Got) (out all : List (List ℕ)) (f : LinkFault) → Extends out all (WroteMore old new) → (f ≡ fault.NoMemory) × IsTrue (may_send new.link) → (f ≡ fault.NoMemory) × Extends out all (WrotePart old new got)
part_emit old new got out all f w h = (h.0, (w.0, w.1, (w.2, inl h.1)))

pub part_ack : (old new : PortValue) (got : Got) (out all after : List (List ℕ)) (count : ℕ) (r : Result (Unit {0}) LinkFault) → (w : Extends out all (WroteMore old new)) → length w.0 ≡ count → OnErr r (wants_ack got count ≡ true)
    → IfErr r (λ f. f ≡ fault.NoMemory) → OnErr r (after ≡ all) → IfErr r (λ f. (f ≡ fault.NoMemory) × Extends out after (WrotePart old new got))
part_ack old new got out all after count (Ok u) w long wants h same = tt
part_ack old new got out all after count (Err f) w long wants h same =
    (h, (w.0, same ∙ w.1, (w.2, inr (ap (wants_ack got) long ∙ wants))))
