-- ServerRuns by what came in them.
use Rattle.std.proofs.Common.{subst, List, [], ◌∷◌, ◌++◌, ℕ, inl, inr}
use Rattle.std.specs.List.{AllByRecursion}
use Rattle.nsp_link.specs.Link.{LinkValue}
use Rattle.dap_accessing.specs.Request.{Request}
use Rattle.dap_accessing.specs.declared.report.Report.{Report}
use Rattle.dap_end.specs.Done.{ServingValue, AskingValue}
use Rattle.dap_end.specs.Headline.{Arrival, WrittenPacket}
use Rattle.dap_end.specs.Calls.{IsOneOf, RunsAs, ServerRuns, AskingRunsAs, AskingRuns}
use Rattle.dap_end.proofs.Running as serving
use Rattle.dap_end.proofs.Hearing as hearing
use Rattle.dap_end.proofs.Calling as asking

-- each of these is so
each_is : (comes : LinkValue → List ℕ → Type 0) (came : List Arrival) → AllByRecursion (λ c. comes c.0 c.1) came → (v : LinkValue) (bytes : List ℕ) → IsOneOf came v bytes → comes v bytes
each_is comes [] all v bytes h = absurd h
each_is comes (c ∷ came) all v bytes (inl is) = subst (λ (x : Arrival). comes x.0 x.1) is all.0
each_is comes (c ∷ came) all v bytes (inr h) = each_is comes came all.1 v bytes h

in_front : (came later : List Arrival) (v : LinkValue) (bytes : List ℕ) → IsOneOf came v bytes → IsOneOf (came ++ later) v bytes
in_front [] later v bytes h = absurd h
in_front (c ∷ came) later v bytes (inl is) = inl is
in_front (c ∷ came) later v bytes (inr h) = inr (in_front came later v bytes h)

in_back : (came later : List Arrival) (v : LinkValue) (bytes : List ℕ) → IsOneOf later v bytes → IsOneOf (came ++ later) v bytes
in_back [] later v bytes h = h
in_back (c ∷ came) later v bytes h = inr (in_back came later v bytes h)

-- ---- ServerRuns of one end in which all that came came so.

pub served_as : (comes : LinkValue → List ℕ → Type 0) (came : List Arrival) (old new : ServingValue) (wrote : List WrittenPacket) → AllByRecursion (λ c. comes c.0 c.1) came → ServerRuns came old new wrote → RunsAs comes old new wrote
served_as comes came old new wrote all r = (r.0, serving.runs_where (IsOneOf came) comes (each_is comes came all) r.0 (old, []) (new, wrote) r.1)

pub asked_as : (comes : LinkValue → List ℕ → Type 0) (came : List Arrival) (requests : List Request) (old new : AskingValue) (reports : List Report) (wrote : List WrittenPacket) → AllByRecursion (λ c. comes c.0 c.1) came
    → AskingRuns came requests old new reports wrote → AskingRunsAs comes requests old new reports wrote
asked_as comes came requests old new reports wrote all r = (r.0, r.1, hearing.runs_where (IsOneOf came) comes (each_is comes came all) r.0 (old, [], []) (new, reports, wrote) r.2)

-- ---- ServerRuns join.

pub more_served : (came later : List Arrival) (old mid new : ServingValue) (ws more : List WrittenPacket) → ServerRuns came old mid ws → ServerRuns later mid new more → ServerRuns (came ++ later) old new (ws ++ more)
more_served came later old mid new ws more r q =
    serving.more_calls (IsOneOf (came ++ later)) old mid new ws more
    (r.0, serving.runs_where (IsOneOf came) (IsOneOf (came ++ later)) (in_front came later) r.0 (old, []) (mid, ws) r.1)
    (q.0, serving.runs_where (IsOneOf later) (IsOneOf (came ++ later)) (in_back came later) q.0 (mid, []) (new, more) q.1)

pub more_asked : (came later : List Arrival) (requests others : List Request) (old mid new : AskingValue) (rs ss : List Report) (ws more : List WrittenPacket) → AskingRuns came requests old mid rs ws → AskingRuns later others mid new ss more
    → AskingRuns (came ++ later) (requests ++ others) old new (rs ++ ss) (ws ++ more)
more_asked came later requests others old mid new rs ss ws more r q =
    asking.more_calls (IsOneOf (came ++ later)) requests others old mid new rs ss ws more
    (r.0, r.1, hearing.runs_where (IsOneOf came) (IsOneOf (came ++ later)) (in_front came later) r.0 (old, [], []) (mid, rs, ws) r.2)
    (q.0, q.1, hearing.runs_where (IsOneOf later) (IsOneOf (came ++ later)) (in_back came later) q.0 (mid, [], []) (new, ss, more) q.2)
