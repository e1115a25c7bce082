-- Blocking goes one message at a time, and loses none.
use Rattle.std.proofs.Common.{◌≡◌, ◌≢◌, ℕ, ◌<◌, ◌≤◌, refl, sym, ◌∙◌, ap, append_assoc, List, [], ◌∷◌, ◌++◌, length, arith}
use Rattle.std.proofs.lemmas.Grind.{flat_map-append}
use Rattle.std.proofs.lemmas.Bool.Decides.{nat_tests}
use Rattle.std.specs.List.{AllByRecursion, concat}
use Rattle.std.proofs.lemmas.List.{append-nil}
use Rattle.dap_msg.specs.Message.{Message}
use Rattle.dap_msg.specs.Canon.{canon}
use Rattle.dap_msg.specs.Blocked.{NspMessage, blocked_bytes, blocked_after, Blocked, all_joined, block_one, messages_in}
use Rattle.dap_msg.specs.Inner.Blocked.{IsWithinLimit, AllWithin}

joined-append : (a b : List Message) → blocked_bytes (a ++ b) ≡ blocked_bytes a ++ blocked_bytes b
joined-append a b = flat_map-append canon a b

pub joined-one : (a : NspMessage) (m : Message) → blocked_bytes (a ++ m ∷ []) ≡ blocked_bytes a ++ canon m
joined-one a m = joined-append a (m ∷ []) ∙ ap (λ l. blocked_bytes a ++ l) (append-nil (canon m))

messages_in-after : (limit : ℕ) (last : NspMessage) (messages : List Message) → messages_in (blocked_after limit last messages) ≡ last ++ messages
messages_in-after limit last [] = refl
messages_in-after limit last (m ∷ messages) = grind (arith, append_assoc, messages_in-after limit (last ++ m ∷ []) messages, messages_in-after limit (m ∷ []) messages)

pub messages_in-Blocked : (limit : ℕ) (messages : List Message) → messages_in (Blocked limit messages) ≡ messages
messages_in-Blocked limit [] = refl
messages_in-Blocked limit (m ∷ messages) = messages_in-after limit (m ∷ []) messages

-- what stands before the last NSP message isn't touched
past-first : (limit : ℕ) (first : List ℕ) (last : NspMessage) (messages : List Message) (m : List ℕ)
    → block_one limit (first ∷ all_joined (blocked_after limit last messages)) m ≡ first ∷ block_one limit (all_joined (blocked_after limit last messages)) m
unfolding block_one
past-first limit first last [] m = refl
past-first limit first last (n ∷ messages) m = grind (arith, past-first limit first (last ++ n ∷ []) messages m)

last-more : (limit : ℕ) (last : NspMessage) (m : Message) → all_joined (blocked_after limit last (m ∷ [])) ≡ block_one limit (blocked_bytes last ∷ []) (canon m)
unfolding block_one
last-more limit last m = grind (arith, joined-one last m, append-nil)

blocked_after-more : (limit : ℕ) (last : NspMessage) (messages : List Message) (m : Message) → all_joined (blocked_after limit last (messages ++ m ∷ [])) ≡ block_one limit (all_joined (blocked_after limit last messages)) (canon m)
blocked_after-more limit last [] m = last-more limit last m
blocked_after-more limit last (n ∷ messages) m = grind (arith, blocked_after-more limit (last ++ n ∷ []) messages m, blocked_after-more limit (n ∷ []) messages m, past-first limit (blocked_bytes last) (n ∷ []) messages (canon m))

pub Blocked-more : (limit : ℕ) (messages : List Message) (m : Message) → all_joined (Blocked limit (messages ++ m ∷ [])) ≡ block_one limit (all_joined (Blocked limit messages)) (canon m)
unfolding block_one
Blocked-more limit [] m = ap (λ l. l ∷ []) (append-nil (canon m))
Blocked-more limit (n ∷ messages) m = blocked_after-more limit (n ∷ []) messages m

-- ---- Spellings, and the limit.

pub end_to_end : (packets : List NspMessage) → concat (all_joined packets) ≡ blocked_bytes (messages_in packets)
end_to_end [] = refl
end_to_end (packet ∷ packets) = ap (λ l. blocked_bytes packet ++ l) (end_to_end packets) ∙ sym (joined-append packet (messages_in packets))

one_joined : (limit : ℕ) (last : NspMessage) (m : Message) → length (blocked_bytes (last ++ m ∷ [])) ≤ limit → IsWithinLimit limit (last ++ m ∷ [])
one_joined limit [] m le = tt
one_joined limit (a ∷ []) m le = le
one_joined limit (a ∷ b ∷ last) m le = le

within_after : (limit : ℕ) (last : NspMessage) (messages : List Message) → IsWithinLimit limit last → AllWithin limit (blocked_after limit last messages)
within_after limit last [] h = (h, tt)
within_after limit last (m ∷ messages) h = grind (arith, nat_tests, h, within_after limit (m ∷ []) messages tt, one_joined limit last m, within_after limit (last ++ m ∷ []) messages)

pub within_limit : (limit : ℕ) (messages : List Message) → AllWithin limit (Blocked limit messages)
within_limit limit [] = tt
within_limit limit (m ∷ messages) = within_after limit (m ∷ []) messages tt

pub joined_end_to_end : (limit : ℕ) (messages : List Message) → concat (all_joined (Blocked limit messages)) ≡ blocked_bytes messages
joined_end_to_end limit messages = end_to_end (Blocked limit messages) ∙ ap blocked_bytes (messages_in-Blocked limit messages)

is_some : (limit : ℕ) (packet : NspMessage) → IsWithinLimit limit packet → packet ≢ []
is_some limit [] h = absurd h
is_some limit (m ∷ packet) h = λ e. absurd cc

pub some_each : (limit : ℕ) (packets : List NspMessage) → AllWithin limit packets → AllByRecursion (λ packet. packet ≢ []) packets
some_each limit [] h = tt
some_each limit (packet ∷ packets) h = (is_some limit packet h.0, some_each limit packets h.1)

several_within : (limit : ℕ) (packet : NspMessage) → IsWithinLimit limit packet → 1 < length packet → length (blocked_bytes packet) ≤ limit
several_within limit [] h lt = absurd h
several_within limit (m ∷ []) h lt = absurd (omega (arith, lt))
several_within limit (m ∷ second ∷ more) h lt = h

pub within_each : (limit : ℕ) (packets : List NspMessage) → AllWithin limit packets → AllByRecursion (λ packet. 1 < length packet → length (blocked_bytes packet) ≤ limit) packets
within_each limit [] h = tt
within_each limit (packet ∷ packets) h = (several_within limit packet h.0, within_each limit packets h.1)
