-- Segments that were taken in separately, and the state after they are joined to what was there before.
use Rattle.std.specs.Prelude.{ℕ, List, [], ◌∷◌, ◌++◌, Option, Some, None, unwrap_or, option_map}
use Rattle.nsp_link.specs.Coming.{Coming}

-- the message whose bytes came first
abbrev pub first_message : List (List ℕ) → Option (List ℕ) → Option (List ℕ)
first_message [] partial = partial
first_message (m ∷ ms) partial = Some m

-- this body in place of that one
abbrev pub with_oldest : List ℕ → ℕ → List (List ℕ) → Option (List ℕ) → Coming
with_oldest body received [] partial = record { received = received; partial = Some body; inbox = [] }
with_oldest body received (m ∷ ms) partial = record { received = received; partial = partial; inbox = body ∷ ms }

-- the first message that was taken in separately continues the one that was begun
abbrev pub going_on : Option (List ℕ) → Coming → Coming
going_on None aside = aside
going_on (Some body) aside = with_oldest (body ++ unwrap_or (first_message aside.inbox aside.partial) []) aside.received aside.inbox aside.partial

abbrev pub coming_after : List (List ℕ) → Coming → Coming
coming_after inbox aside = record { received = aside.received; partial = aside.partial; inbox = inbox ++ aside.inbox }

abbrev pub with_begun : Coming → Coming → Coming
with_begun before aside = coming_after before.inbox (going_on before.partial aside)

-- what is taken in separately begins without the bytes and messages that are there
abbrev pub emptied_of : Coming → Coming
emptied_of before = record { received = before.received; partial = option_map (λ body. []) before.partial; inbox = [] }
