-- What an end has of a peer's messages, said by the messages.
use Rattle.std.specs.Prelude.{◌≡◌, ℕ, ◌+◌, ◌-◌, ◌*◌, ◌<◌, ◌≤◌, ◌==◌, List, [], ◌++◌, length, take, Option, Some, None, slice_index_or, if◌then◌else◌}
use Rattle.nsp_link.specs.Cutting.{cut}
use Rattle.nsp_link.specs.Coming.{Coming, nothing_came, with_all_taken}

-- The first segments of these messages, taken one after another, make what there is, and what was returned before it.
abbrev pub HasTaken : Coming → ℕ → (messages given : List (List ℕ)) → Type 0
HasTaken c size messages given = with_all_taken nothing_came (take c.received (cut size messages)) ≡ record c { inbox = given ++ c.inbox }

-- Of the first r segments of these messages just the first n messages are whole.
pub record AreWholeIn (size : ℕ) (messages : List (List ℕ)) (r n : ℕ) : Type 0 where
  pub some : n ≤ length messages
  pub whole : length (cut size (take n messages)) ≤ r
  pub next : n < length messages → r < length (cut size (take (n + 1) messages))
  pub all : r ≤ length (cut size messages)

-- the bytes of those of the first r segments whose message, the one after the first n, isn't whole
abbrev pub begun_bytes : ℕ → List (List ℕ) → ℕ → ℕ → Option (List ℕ)
begun_bytes size messages r n =
    let over = r - length (cut size (take n messages)) in
    if over == 0 then None else Some (take (size * over) (slice_index_or messages n []))

-- Of these messages a receiving end has taken segments: those before `inbox` were returned, those in it are whole, and
-- of the next one `partial` has the first bytes.
pub record HasWhole (c : Coming) (size : ℕ) (messages given : List (List ℕ)) : Type 0 where
  pub count : ℕ
  pub whole : AreWholeIn size messages c.received count
  pub inbox : given ++ c.inbox ≡ take count messages
  pub partial : c.partial ≡ begun_bytes size messages c.received count
