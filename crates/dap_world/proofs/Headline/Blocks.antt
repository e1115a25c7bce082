-- The NSP messages that both ends have to send.
use Rattle.std.proofs.Common.{◌≡◌, ℕ, zero, suc, refl, sym, ◌∙◌, ap, append_assoc, List, [], ◌∷◌, ◌++◌, drop}
use Rattle.std.proofs.lemmas.List.{append-nil}
use Rattle.dap_msg.specs.declared.message.Message.{Message}
use Rattle.dap_msg.specs.Blocked.{NspMessage, Blocked, messages_in}
use Rattle.dap_msg.proofs.ForCallers.{messages_in-Blocked}
use Rattle.dap_accessing.specs.Request.{Request}
use Rattle.dap_world.specs.Plain.{messages_of, Asked}
use Rattle.dap_end.proofs.ForCallers.{full-blocked, full-both, in_append}
use Rattle.dap_world.specs.Inner.Parts.{asked_packets}
use Rattle.dap_end.specs.Histories.{AreFull}

-- ---- They have the messages of the definitions.

pub asked-all : (own_a own_b : ℕ) (rs : List Request) → messages_in (asked_packets own_a own_b rs) ≡ Asked own_a rs
asked-all own_a own_b [] = refl
asked-all own_a own_b (r ∷ rs) =
    in_append (Blocked own_b (messages_of own_a r)) (asked_packets own_a own_b rs)
    ∙ ap (λ (l : List Message). l ++ messages_in (asked_packets own_a own_b rs)) (messages_in-Blocked own_b (messages_of own_a r))
    ∙ ap (λ (l : List Message). messages_of own_a r ++ l) (asked-all own_a own_b rs)

pub asked-more : (own_a own_b : ℕ) (rs : List Request) (r : Request) → asked_packets own_a own_b (rs ++ r ∷ []) ≡ asked_packets own_a own_b rs ++ Blocked own_b (messages_of own_a r)
asked-more own_a own_b [] r = append-nil (Blocked own_b (messages_of own_a r))
asked-more own_a own_b (q ∷ rs) r =
    ap (λ (l : List NspMessage). Blocked own_b (messages_of own_a q) ++ l) (asked-more own_a own_b rs r)
    ∙ sym (append_assoc (Blocked own_b (messages_of own_a q)) (asked_packets own_a own_b rs) (Blocked own_b (messages_of own_a r)))

-- ---- None is empty.

pub full-drop : (n : ℕ) (xs : List NspMessage) → AreFull xs → AreFull (drop n xs)
full-drop zero [] h = tt
full-drop (suc n) [] h = tt
full-drop zero (x ∷ xs) h = h
full-drop (suc n) (x ∷ xs) h = full-drop n xs h.1

pub asked-full : (own_a own_b : ℕ) (rs : List Request) → AreFull (asked_packets own_a own_b rs)
asked-full own_a own_b [] = tt
asked-full own_a own_b (r ∷ rs) = full-both (Blocked own_b (messages_of own_a r)) (asked_packets own_a own_b rs) (full-blocked own_b (messages_of own_a r)) (asked-full own_a own_b rs)
