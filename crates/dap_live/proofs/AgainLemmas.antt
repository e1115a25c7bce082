-- One packet more that is sent again.
use Rattle.std.proofs.Common.{◌≡◌, ℕ, List, [], ◌∷◌, ◌++◌, sym, ap, ◌∙◌, append_assoc}
use Rattle.std.proofs.lemmas.List.{append-nil}
use Rattle.std.proofs.lemmas.Grind.{flat_map-append}
use Rattle.dap_live.specs.Texts.{packet_text, packets_text}

one_text : (packets : List (List ℕ)) (bytes : List ℕ) → packets_text packets ++ packet_text bytes ≡ packets_text (packets ++ bytes ∷ [])
one_text packets bytes =
    sym (flat_map-append packet_text packets (bytes ∷ []) ∙ ap (λ l. packets_text packets ++ l) (append-nil (packet_text bytes)))

pub adds_one : (old mid new : List ℕ) (packets : List (List ℕ)) (bytes : List ℕ) → mid ≡ old ++ packets_text packets → new ≡ mid ++ packet_text bytes
    → new ≡ old ++ packets_text (packets ++ bytes ∷ [])
adds_one old mid new packets bytes before now =
    now ∙ ap (λ l. l ++ packet_text bytes) before ∙ append_assoc old (packets_text packets) (packet_text bytes) ∙ ap (λ l. old ++ l) (one_text packets bytes)
