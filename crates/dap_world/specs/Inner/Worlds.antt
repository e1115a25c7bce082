-- What is true of every world.
use Rattle.std.specs.Prelude.{ℕ, ◌≡◌, ◌+◌, ◌≤◌, ◌<◌, List, [], ◌∷◌, ◌++◌, length, map, Option, Some, None}
use Rattle.dap_msg.specs.declared.items.Item.TheVariants.{Whole}
use Rattle.dap_msg.specs.Blocked.{messages_in}
use Rattle.dap_world.specs.Plain.{Answers, Asked}
use Rattle.nsp_link.specs.Limits.{max_window, max_segments}
use Rattle.dap_world.specs.Agreement.{IsBufsiz, AreAdmissible}
use Rattle.dap_events.specs.declared.event.End.TheVariants.{A, B}
use Rattle.dap_world.specs.Machine.{State, EndState, Sending, served_by_b, arrived_at, segments_of}

-- ---- Each direction.

-- the counts of a direction are in order, within the window and the segments there are
pub record CountsInOrder (window there sent acked taken : ℕ) : Type 0 where
  pub acked_taken : acked ≤ taken
  pub taken_sent : taken ≤ sent
  pub within_window : sent ≤ acked + window
  pub sent_there : sent ≤ there
  pub few : there ≤ max_segments

-- what is held rises from above a number, and was sent
abbrev pub AreEarly : ℕ → ℕ → List ℕ → Type 0
AreEarly low sent [] = Unit {0}
AreEarly low sent (k ∷ held) = (low < k) × (k ≤ sent) × AreEarly k sent held

abbrev pub WasSent : ℕ → Option ℕ → Type 0
WasSent sent None = Unit {0}
WasSent sent (Some k) = (1 ≤ k) × (k ≤ sent)

-- each packet carries a segment that was sent, if any, and acknowledges no more than was taken
abbrev pub AreTrue : ℕ → ℕ → List Sending → Type 0
AreTrue sent taken [] = Unit {0}
AreTrue sent taken (p ∷ wire) = WasSent sent p.segment × (p.acks ≤ taken) × AreTrue sent taken wire

pub record IsDirection (window there sent acked taken : ℕ) (held : List ℕ) (back : ℕ) (packets : List Sending) : Type 0 where
  pub counts : CountsInOrder window there sent acked taken
  pub early : AreEarly (taken + 1) sent held
  pub wire : AreTrue sent back packets

-- what one end sends, and the other takes
abbrev pub ReachesPeer : (seg_size window : ℕ) → (from to : EndState) → Type 0
ReachesPeer seg_size window from to =
    IsDirection window (segments_of seg_size from.handed) from.sent from.acked to.taken to.held from.taken from.wire

-- ---- Both.

pub record IsWorld (s : State) : Type 0 where
  pub window : s.window ≤ max_window
  pub some : 1 ≤ s.window
  pub own_a : IsBufsiz s.own_a
  pub own_b : IsBufsiz s.own_b
  pub from_a : ReachesPeer s.seg_size s.window s.a s.b
  pub from_b : ReachesPeer s.seg_size s.window s.b s.a
  -- each request was admissible when it was asked
  pub admissible : AreAdmissible s.own_a s.own_b [] s.requests
  -- what A asked is what was passed on, and what waits
  pub asked : messages_in (s.a.handed ++ s.a.waiting) ≡ Asked s.own_a s.requests
  -- what B answered likewise
  pub answered : messages_in (s.b.handed ++ s.b.waiting) ≡ Answers s.own_b [] (map Whole (served_by_b s))
  pub served : s.served ≤ length (arrived_at s B)
  pub read : s.read ≤ length (arrived_at s A)
