-- The limit on NSP messages.
use Rattle.std.specs.Prelude.{ℕ, ◌≤◌, List, [], ◌∷◌, length}
use Rattle.std.specs.List.{AllByRecursion}
use Rattle.dap_msg.specs.Blocked.{NspMessage, blocked_bytes}

-- an NSP message is within the limit, unless it has one message alone
abbrev pub IsWithinLimit : ℕ → NspMessage → Type 0
IsWithinLimit limit [] = ⊥
IsWithinLimit limit (m ∷ []) = Unit {0}
IsWithinLimit limit (m ∷ second ∷ more) = length (blocked_bytes (m ∷ second ∷ more)) ≤ limit

abbrev pub AllWithin : ℕ → List NspMessage → Type 0
AllWithin limit packets = AllByRecursion (IsWithinLimit limit) packets
