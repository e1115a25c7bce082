-- The messages that were joined into an NSP message are what is read there.
use Rattle.std.proofs.Common.{◌≡◌, ℕ, ◌+◌, arith, refl, sym, ◌∙◌, subst, ap, List, [], ◌∷◌, ◌++◌, length, take, drop}
use Rattle.std.proofs.lemmas.List.{append-nil, length-append}
use Rattle.std.proofs.lemmas.Grind.{flat_map-append}
use Rattle.dap_msg.specs.declared.message.Message.{Message}
use Rattle.dap_msg.specs.declared.items.Item.TheVariants.{Whole}
use Rattle.dap_msg.specs.Items.{ItemAt}
use Rattle.dap_msg.specs.Canon.{canon, Fits}
use Rattle.dap_msg.specs.Blocked.{blocked_bytes, AllFit}
use Rattle.dap_msg.proofs.ForCallers.{read_in_place}

pub joined-append : (a b : List Message) → blocked_bytes (a ++ b) ≡ blocked_bytes a ++ blocked_bytes b
joined-append a b = flat_map-append canon a b

pub joined-one : (a : List Message) (m : Message) → blocked_bytes (a ++ m ∷ []) ≡ blocked_bytes a ++ canon m
joined-one a m = joined-append a (m ∷ []) ∙ ap (λ (l : List ℕ). blocked_bytes a ++ l) (append-nil (canon m))

-- the message stands at its offset
pub at_item : (begun more : List Message) (m : Message) → Fits m → ItemAt (blocked_bytes (begun ++ m ∷ more)) (length (blocked_bytes begun)) (Whole m) (length (blocked_bytes begun) + length (canon m))
at_item begun more m fits =
    subst (λ (l : List ℕ). ItemAt l (length (blocked_bytes begun)) (Whole m) (length (blocked_bytes begun) + length (canon m))) (sym (joined-append begun (m ∷ more)))
    (read_in_place m fits (blocked_bytes begun) (blocked_bytes more))

pub fit_at : (begun more : List Message) (m : Message) → AllFit (begun ++ m ∷ more) → Fits m
fit_at [] more m h = h.0
fit_at (b ∷ begun) more m h = fit_at begun more m h.1

-- how far it goes
pub ends_at : (begun more : List Message) (m : Message) → length (blocked_bytes (begun ++ m ∷ more)) ≡ (length (blocked_bytes begun) + length (canon m)) + length (blocked_bytes more)
ends_at begun more m =
    let split = ap length (joined-append begun (m ∷ more)) in
    omega (arith, split, length-append (blocked_bytes begun) (blocked_bytes (m ∷ more)), length-append (canon m) (blocked_bytes more))

-- its bytes
pub bytes_at : (begun more : List Message) (m : Message) → take (length (canon m)) (drop (length (blocked_bytes begun)) (blocked_bytes (begun ++ m ∷ more))) ≡ canon m
bytes_at begun more m =
    ap (λ (l : List ℕ). take (length (canon m)) (drop (length (blocked_bytes begun)) l)) (joined-append begun (m ∷ more))
    ∙ ap (take (length (canon m))) (dropped (blocked_bytes begun) (canon m ++ blocked_bytes more)) ∙ taken (canon m) (blocked_bytes more)
  where
    dropped : (a b : List ℕ) → drop (length a) (a ++ b) ≡ b
    dropped [] b = refl
    dropped (x ∷ a) b = dropped a b

    taken : (a b : List ℕ) → take (length a) (a ++ b) ≡ a
    taken [] b = refl
    taken (x ∷ a) b = ap (λ (l : List ℕ). x ∷ l) (taken a b)
