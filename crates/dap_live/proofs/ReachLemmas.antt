-- How far an order was done.
use Rattle.std.proofs.Common.{◌≡◌, ◌⊎◌, inl, inr, ℕ, Bool, true, false, List, sym, true≢false}
use Rattle.std.specs.Prelude.{MatchBool}
use Rattle.nsp_link.specs.Link.{LinkValue}
use Rattle.dap_live.specs.Both.{LeavesEnd}
use Rattle.dap_live.specs.Sending.{UnlessFailed}

-- ---- What is left.

pub where_left : (left : Bool) → left ≡ true → (Goes Stays : Type 0) → Goes → MatchBool left Goes Stays
where_left true some Goes Stays goes = goes
where_left false some Goes Stays goes = absurd (true≢false (sym some))

pub where_none : (left : Bool) → left ≡ false → (Goes Stays : Type 0) → Stays → MatchBool left Goes Stays
where_none false none Goes Stays stays = stays
where_none true none Goes Stays stays = absurd (true≢false none)

-- ---- On a link that runs.

pub unless_runs : (failed : Bool) → failed ≡ false → (Nothing This : Type 0) → This → MatchBool failed Nothing This
unless_runs false works Nothing This this = this
unless_runs true works Nothing This this = absurd (true≢false works)

pub unless_failed : (failed : Bool) → failed ≡ true → (Nothing This : Type 0) → Nothing → MatchBool failed Nothing This
unless_failed true fails Nothing This nothing = nothing
unless_failed false fails Nothing This nothing = absurd (true≢false (sym fails))

pub unless_reached : {E C : Type 0} (link : LinkValue) → link.failed ≡ false → (was : C) (old new : E) (This : List ℕ → C → Type 0)
    → ((new ≡ old) ⊎ ((said : List ℕ) × (came : C) × This said came))
    → (new ≡ old) ⊎ ((said : List ℕ) × (came : C) × UnlessFailed link said (LeavesEnd was old new came) (This said came))
unless_reached link works was old new This (inl same) = inl same
unless_reached link works was old new This (inr done) = inr (done.0, done.1, unless_runs link.failed works _ _ done.2)
