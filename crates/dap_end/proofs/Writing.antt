-- The packets that are written follow from what was passed on.
use Rattle.std.proofs.Common.{◌≡◌, ℕ, ◌+◌, ◌<◌, ◌≤◌, arith, refl, sym, ◌∙◌, subst, ap, true, false, List, [], ◌∷◌, ◌++◌, length, inl, inr, true≢false}
use Rattle.std.specs.Prelude.{Bool, Some}
use Rattle.std.proofs.lemmas.Bool.{cases_lt}
use Rattle.nsp_seg.specs.Packets.{spelling}
use Rattle.nsp_link.specs.declared.link.Got.{Got}
use Rattle.nsp_link.specs.Cutting.{cut}
use Rattle.nsp_link.specs.Link.{LinkValue, Sends, may_send}
use Rattle.nsp_link.specs.Sending.{ack_packet_of}
use Rattle.nsp_link.proofs.ForCallers.{may_send_by, written_one}
use Rattle.dap_end.specs.Ports.{PortValue}
use Rattle.dap_end.specs.Writing.{AcknowledgesIf, AreSegments, WroteMore, WroteAnswer, wants_ack}
use Rattle.dap_end.specs.Moved.{sent_more}

-- what counts as sent is there, and within the window
abbrev pub IsWithin : LinkValue → Type 0
IsWithin v = (v.sent ≤ v.acked + length v.queue) × (v.sent ≤ v.acked + v.setup.window)

counts_one : (p : PortValue) (n m : ℕ) → may_send (sent_more p n).link ≡ false → (0 < m → IsWithin (sent_more p m).link) → (n < m) → ⊥
counts_one p n m full within lt =
    let w = within (omega arith) in
    let may = may_send_by (sent_more p n).link (omega (arith, w.0, lt)) (omega (arith, w.1, lt)) in true≢false (sym may ∙ full)

count_one : (p : PortValue) (n m : ℕ) → may_send (sent_more p n).link ≡ false → may_send (sent_more p m).link ≡ false → (0 < n → IsWithin (sent_more p n).link) → (0 < m → IsWithin (sent_more p m).link) → n ≡ m
count_one p n m a b wa wb =
    elim (cases_lt n m) [
      | inl lt ↦ absurd (counts_one p n m a wb lt)
      | inr le ↦ (elim (cases_lt m n) [ inl lt ↦ absurd (counts_one p m n b wa lt) | inr other ↦ omega arith ])
    ]

pub segments_one : (v : LinkValue) (handed : List (List ℕ)) (k : ℕ) (one two : List (List ℕ)) → Sends v handed → length one ≡ length two → AreSegments v k one → AreSegments v k two → one ≡ two
segments_one v handed k [] [] sends e a b = refl
segments_one v handed k [] (y ∷ two) sends e a b = absurd (omega arith)
segments_one v handed k (x ∷ one) [] sends e a b = absurd (omega arith)
segments_one v handed k (x ∷ one) (y ∷ two) sends e a b =
    ap (λ (z : List ℕ). z ∷ one) (written_one v.setup.local v.setup.remote (cut v.setup.seg_size handed) (Some k) v.coming.received x y (a.0 handed sends) (b.0 handed sends))
    ∙ ap (λ (l : List (List ℕ)). y ∷ l) (segments_one v handed (k + 1) one two sends (omega arith) a.1 b.1)

acks_same : (v w : PortValue) (wants : Bool) (written one two : List (List ℕ)) → v ≡ w → AcknowledgesIf v wants written one → AcknowledgesIf w wants written two → one ≡ two
acks_same v w false written one two same a b = a ∙ sym b
acks_same v w true written one two same a b =
    let bytes : a.0 ≡ b.0 = a.2.1 ∙ ap (λ (p : PortValue). spelling (ack_packet_of p.link)) same ∙ sym b.2.1 in
    a.1 ∙ ap (λ (l : List ℕ). written ++ l ∷ []) bytes ∙ sym b.1

pub wrote_one : (p one two : PortValue) (handed xs ys : List (List ℕ)) → Sends p.link handed → WroteMore p one xs → WroteMore p two ys → may_send one.link ≡ false → may_send two.link ≡ false → (one ≡ two) × (xs ≡ ys)
wrote_one p one two handed xs ys sends a b fa fb =
    let full_a = subst (λ (q : PortValue). may_send q.link ≡ false) a.sent fa in
    let full_b = subst (λ (q : PortValue). may_send q.link ≡ false) b.sent fb in
    let within_a : 0 < length xs → IsWithin (sent_more p (length xs)).link = subst (λ (q : PortValue). 0 < length xs → IsWithin q.link) a.sent (λ some. (a.there some, a.within some)) in
    let within_b : 0 < length ys → IsWithin (sent_more p (length ys)).link = subst (λ (q : PortValue). 0 < length ys → IsWithin q.link) b.sent (λ some. (b.there some, b.within some)) in
    let count : length xs ≡ length ys = count_one p (length xs) (length ys) full_a full_b within_a within_b in
    (a.sent ∙ ap (sent_more p) count ∙ sym b.sent, segments_one p.link handed (p.link.sent + 1) xs ys sends count a.writes b.writes)

pub answer_one : (p one two : PortValue) (handed : List (List ℕ)) (got : Got) (xs ys : List (List ℕ)) → Sends p.link handed → WroteAnswer p one got xs → WroteAnswer p two got ys → (one ≡ two) × (xs ≡ ys)
answer_one p one two handed got xs ys sends a b =
    let both = wrote_one p one two handed a.0 b.0 sends a.1 b.1 a.2 b.2 in
    let there = subst (λ (l : List (List ℕ)). AcknowledgesIf two (wants_ack got (length l)) l ys) (sym both.1) b.3 in
    (both.0, acks_same one two (wants_ack got (length a.0)) a.0 xs ys both.0 a.3 there)

-- ---- One packet.

-- it is that of the next segment
pub segment_one : (p one two : PortValue) (handed : List (List ℕ)) (xs ys : List ℕ) → Sends p.link handed → WroteMore p one (xs ∷ []) → WroteMore p two (ys ∷ []) → (one ≡ two) × (xs ≡ ys)
segment_one p one two handed xs ys sends a b =
    let all : xs ∷ [] ≡ ys ∷ [] = segments_one p.link handed (p.link.sent + 1) (xs ∷ []) (ys ∷ []) sends refl a.writes b.writes in
    (a.sent ∙ sym b.sent, (let first : xs ≡ ys = cc in first))

-- and there is one that may be sent
pub one_there : (p one : PortValue) (xs : List ℕ) → WroteMore p one (xs ∷ []) → may_send p.link ≡ false → ⊥
one_there p one xs a none =
    let same : p.link.sent + 0 ≡ p.link.sent = omega arith in
    let full : may_send (sent_more p 0).link ≡ false = ap (λ (n : ℕ). may_send (record p.link { sent = n })) same ∙ none in
    let within : 0 < 1 → IsWithin (sent_more p 1).link = subst (λ (q : PortValue). 0 < 1 → IsWithin q.link) a.sent (λ some. (a.there some, a.within some)) in
    counts_one p 0 1 full within (omega arith)
