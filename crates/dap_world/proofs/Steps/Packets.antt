-- Lists of NSP messages: what is passed on, and what came.
use Rattle.std.proofs.Common.{◌≡◌, ℕ, zero, suc, ◌+◌, ◌≤◌, arith, refl, ◌∙◌, true, false, subst, ap, append_assoc, List, [], ◌∷◌, ◌++◌, length, take}
use Rattle.std.specs.Prelude.{nat_le, ◌-◌, Some, if◌then◌else◌, slice_get}
use Rattle.std.proofs.lemmas.List.{take-append-le, take_more, length-append, append-nil}
use Rattle.std.proofs.lemmas.Option.{slice_get_within, get_or_from_slice_get}
use Rattle.dap_msg.specs.declared.message.Message.{Message}
use Rattle.dap_msg.specs.Blocked.{NspMessage, blocked_bytes, messages_in}
use Rattle.nsp_link.specs.Cutting.{count_of}
use Rattle.dap_end.proofs.ForCallers.{in_append}
use Rattle.dap_world.specs.Machine.{arrived_messages}

-- what came is a front of what was passed on
pub arrived-front : (seg r : ℕ) (xs : List NspMessage) → (rest : List Message) × (messages_in (arrived_messages seg r xs) ++ rest ≡ messages_in xs)
arrived-front seg r [] = ([], refl)
arrived-front seg r (x ∷ xs) =
    let n = count_of seg (length (blocked_bytes x)) in
    elim (nat_le n r) as (λ b. (rest : List Message) × (messages_in (if b then x ∷ arrived_messages seg (r - n) xs else []) ++ rest ≡ x ++ messages_in xs)) [
      | true ↦ let f = arrived-front seg (r - n) xs in (f.0, append_assoc x (messages_in (arrived_messages seg (r - n) xs)) f.0 ∙ ap (λ l. x ++ l) f.1)
      | false ↦ (x ++ messages_in xs, refl)
    ]

-- more segments, and more that is passed on, leave no less
pub arrived-more : (seg r t : ℕ) (xs ys : List NspMessage) → r ≤ t → length (messages_in (arrived_messages seg r xs)) ≤ length (messages_in (arrived_messages seg t (xs ++ ys)))
arrived-more seg r t [] ys le = omega arith
arrived-more seg r t (x ∷ xs) ys le =
    let n = count_of seg (length (blocked_bytes x)) in
    elim (nat_le n r) as (λ b. nat_le n r ≡ b → length (messages_in (if b then x ∷ arrived_messages seg (r - n) xs else [])) ≤ length (messages_in (if nat_le n t then x ∷ arrived_messages seg (t - n) (xs ++ ys) else []))) [
      | true ↦ λ e. elim (nat_le n t) as (λ b. nat_le n t ≡ b → length (x ++ messages_in (arrived_messages seg (r - n) xs)) ≤ length (messages_in (if b then x ∷ arrived_messages seg (t - n) (xs ++ ys) else []))) [
        | true ↦ λ e'. omega (arith, length-append x (messages_in (arrived_messages seg (r - n) xs)), length-append x (messages_in (arrived_messages seg (t - n) (xs ++ ys))), arrived-more seg (r - n) (t - n) xs ys (omega arith))
        | false ↦ λ e'. let no : ⊥ = grind (arith, e, e') in absurd no
      ] refl
      | false ↦ λ e. omega arith
    ] refl

pub arrived-later : (seg r t : ℕ) (xs : List NspMessage) → r ≤ t → length (messages_in (arrived_messages seg r xs)) ≤ length (messages_in (arrived_messages seg t xs))
arrived-later seg r t xs le = subst (λ (l : List NspMessage). length (messages_in (arrived_messages seg r xs)) ≤ length (messages_in (arrived_messages seg t l))) (append-nil xs) (arrived-more seg r t xs [] le)

pub get-front : (xs ys : List Message) (n : ℕ) (m : Message) → slice_get xs n ≡ Some m → slice_get (xs ++ ys) n ≡ Some m
get-front [] ys n m e = let no : ⊥ = cc in absurd no
get-front (x ∷ xs) ys zero m e = e
get-front (x ∷ xs) ys (suc n) m e = get-front xs ys n m e

pub take-next : (xs : List Message) (n : ℕ) (m : Message) → slice_get xs n ≡ Some m → take (n + 1) xs ≡ take n xs ++ m ∷ []
take-next xs n m e = take_more xs n m (slice_get_within xs n m e) ∙ ap (λ x. take n xs ++ x ∷ []) (get_or_from_slice_get xs n m m e)

-- what was served stays so when more is passed on
pub served-stays : (n : ℕ) (seg r : ℕ) (xs ys : List NspMessage) → n ≤ length (messages_in (arrived_messages seg r xs)) → take n (messages_in (xs ++ ys)) ≡ take n (messages_in xs)
served-stays n seg r xs ys le =
    let f = arrived-front seg r xs in
    ap (take n) (in_append xs ys) ∙ take-append-le n (messages_in xs) (messages_in ys) (omega (arith, le, length-append (messages_in (arrived_messages seg r xs)) f.0, ap length f.1))
