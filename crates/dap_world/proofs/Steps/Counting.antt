-- The segments that the machine counts are those that a link cuts.
use Rattle.std.proofs.Common.{◌≡◌, ℕ, ◌+◌, arith, refl, sym, ◌∙◌, ap, List, [], ◌∷◌, ◌++◌, length, take, drop}
use Rattle.std.proofs.lemmas.List.{length-append, length-map, length-drop, take-map}
use Rattle.std.proofs.Math.Seq.{take-append_seam}
use Rattle.std.proofs.lemmas.List.FromFn.{length-map-range_with_len}
use Rattle.std.proofs.lemmas.Grind.{flat_map-append}
use Rattle.dap_msg.specs.Blocked.{NspMessage, blocked_bytes, all_joined}
use Rattle.nsp_link.specs.Cutting.{cut, cut_message, piece_at, count_of}
use Rattle.nsp_link.specs.Link.{LinkValue, Sends}
use Rattle.dap_world.specs.Machine.{segments_of}
use Rattle.dap_world.specs.Inner.Sides.{SideValue, segments_with}

length-cut_message : (size : ℕ) (message : List ℕ) → length (cut_message size message) ≡ count_of size (length message)
unfolding cut_message
length-cut_message size message = length-map-range_with_len (piece_at size message) 0 (count_of size (length message))

pub cut-append : (size : ℕ) (xs ys : List (List ℕ)) → cut size (xs ++ ys) ≡ cut size xs ++ cut size ys
unfolding cut
cut-append size xs ys = flat_map-append (cut_message size) xs ys

pub cut-none : (size : ℕ) → length (cut size []) ≡ 0
unfolding cut
cut-none size = refl

-- the segments of a message and those after it
pub segments-first : (size : ℕ) (x : List ℕ) (rest : List (List ℕ)) → length (cut size (x ∷ rest)) ≡ count_of size (length x) + length (cut size rest)
unfolding cut
segments-first size x rest = omega (arith, length-append (cut_message size x) (cut size rest), length-cut_message size x)

pub segments-cut : (size : ℕ) (xs : List NspMessage) → segments_of size xs ≡ length (cut size (all_joined xs))
segments-cut size [] = sym (cut-none size)
segments-cut size (x ∷ xs) = omega (arith, segments-first size (blocked_bytes x) (all_joined xs), segments-cut size xs)

-- what was passed on is the front of the NSP messages
pub handed-bytes : (n : ℕ) (handed waiting : List (List ℕ)) (packets : List NspMessage) → n ≡ length handed → handed ++ waiting ≡ all_joined packets → handed ≡ all_joined (take n packets)
handed-bytes n handed waiting packets is e =
    sym (take-append_seam handed waiting) ∙ ap (take (length handed)) e ∙ take-map blocked_bytes (length handed) packets ∙ ap (λ (k : ℕ). all_joined (take k packets)) (sym is)

pub segments-handed : (size n : ℕ) (handed waiting : List (List ℕ)) (packets : List NspMessage) → n ≡ length handed → handed ++ waiting ≡ all_joined packets
    → segments_of size (take n packets) ≡ length (cut size handed)
segments-handed size n handed waiting packets is e =
    segments-cut size (take n packets) ∙ ap (λ (l : List (List ℕ)). length (cut size l)) (sym (handed-bytes n handed waiting packets is e))

-- the segments of a link that are acknowledged or queued are all
pub queued : (v : LinkValue) (messages : List (List ℕ)) → Sends v messages → v.acked + length v.queue ≡ length (cut v.setup.seg_size messages)
queued v messages sends =
    let same : length v.queue ≡ length (drop v.acked (cut v.setup.seg_size messages)) = ap length sends.queue in
    omega (arith, length-drop v.acked (cut v.setup.seg_size messages), sends.acked)

abbrev pub segments_queued : SideValue → ℕ
segments_queued s = segments_with s.link s.outbox

-- all segments, those that wait too
pub all_segments : (s : SideValue) (handed : List (List ℕ)) → Sends s.link handed → length (cut s.link.setup.seg_size (handed ++ s.outbox)) ≡ segments_queued s
all_segments s handed sends =
    let cuts = ap length (cut-append s.link.setup.seg_size handed s.outbox) in
    omega (arith, cuts, length-append (cut s.link.setup.seg_size handed) (cut s.link.setup.seg_size s.outbox), queued s.link handed sends)

-- as many NSP messages were passed on, and wait
pub counted : (n : ℕ) (handed waiting : List (List ℕ)) (packets : List NspMessage) → n ≡ length handed → handed ++ waiting ≡ all_joined packets → n + length waiting ≡ length packets
counted n handed waiting packets is e =
    ap (λ (k : ℕ). k + length waiting) is ∙ sym (length-append handed waiting) ∙ ap length e ∙ length-map packets blocked_bytes
