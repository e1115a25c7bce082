-- ServerRuns of each of two ends are runs of both.
use Rattle.std.proofs.Common.{refl, sym, ◌∙◌, subst, ap, append_assoc, List, [], ◌∷◌, ◌++◌, map}
use Rattle.std.specs.List.{AllByRecursion}
use Rattle.std.proofs.lemmas.List.{append-nil}
use Rattle.dap_accessing.specs.Request.{Request}
use Rattle.dap_accessing.specs.declared.report.Report.{Report}
use Rattle.dap_end.specs.Done.{ServingValue, AskingValue}
use Rattle.dap_end.specs.Runs.{RunsBy}
use Rattle.dap_end.specs.Headline.{Arrival, WrittenPacket}
use Rattle.dap_end.specs.Joined.{Pair, IsBrought}
use Rattle.dap_end.specs.Calls.{EndEvent, ServingStepped, ServerRuns, AskingEvent, AskingStepped, AskingRuns, requests_in, AtA, AtB, PairStepped, PairRuns}
use Rattle.dap_end.proofs.Stepping.{runs_then}
use Rattle.dap_end.proofs.Running as serving
use Rattle.dap_end.proofs.Hearing.{requests_of}
use Rattle.dap_end.proofs.Calling.{SoFar, after_these}
use Rattle.dap_end.proofs.Arriving.{served_as, asked_as}

asking_events : (p : Pair) (events : List AskingEvent) (now : SoFar) → RunsBy (AskingStepped (IsBrought p.from_b)) (p.a, p.reports, p.from_a) events now
    → RunsBy PairStepped p (map AtA events) (record p { a = now.0; from_a = now.2; requests = p.requests ++ requests_in events; reports = now.1 })
asking_events p [] now r =
    ap (λ (x : SoFar). record p { a = x.0; from_a = x.2; requests = p.requests ++ []; reports = x.1 }) r ∙ ap (λ (l : List Request). record p { requests = l }) (append-nil p.requests)
asking_events p (event ∷ events) now r =
    let mid = r.0 in
    let q : Pair = record p { a = mid.0; from_a = mid.2; requests = p.requests ++ requests_in (event ∷ []); reports = mid.1 } in
    let same = append_assoc p.requests (requests_in (event ∷ [])) (requests_in events) ∙ ap (λ (l : List Request). p.requests ++ l) (requests_of event events) in
    (q, r.1, (r.2, refl), subst (λ (l : List Request). RunsBy PairStepped q (map AtA events) (record p { a = now.0; from_a = now.2; requests = l; reports = now.1 })) same (asking_events q events now r.3))

pub asking_pair : (old : Pair) (a : AskingValue) (came : List Arrival) (requests : List Request) (reports : List Report) (wrote : List WrittenPacket) → AllByRecursion (λ c. IsBrought old.from_b c.0 c.1) came
    → AskingRuns came requests old.a a reports wrote → PairRuns old (record old { a = a; from_a = old.from_a ++ wrote; requests = old.requests ++ requests; reports = old.reports ++ reports })
asking_pair old a came requests reports wrote brought run =
    let r = asked_as (IsBrought old.from_b) came requests old.a a reports wrote brought run in
    let now : SoFar = (a, old.reports ++ reports, old.from_a ++ wrote) in
    let all = asking_events old r.0 now (after_these (IsBrought old.from_b) r.0 old.a a old.reports reports old.from_a wrote r.2) in
    (map AtA r.0, subst (λ (l : List Request). RunsBy PairStepped old (map AtA r.0) (record old { a = a; from_a = old.from_a ++ wrote; requests = old.requests ++ l; reports = old.reports ++ reports })) (sym r.1) all)

abbrev Wrote : Type 0
Wrote = ServingValue × List WrittenPacket

serving_events : (p : Pair) (events : List EndEvent) (now : Wrote) → RunsBy (ServingStepped (IsBrought p.from_a)) (p.b, p.from_b) events now → RunsBy PairStepped p (map AtB events) (record p { b = now.0; from_b = now.1 })
serving_events p [] now r = ap (λ (x : Wrote). record p { b = x.0; from_b = x.1 }) r
serving_events p (event ∷ events) now r =
    let q : Pair = record p { b = r.0.0; from_b = r.0.1 } in (q, r.1, (r.2, refl), serving_events q events now r.3)

pub serving_pair : (old : Pair) (b : ServingValue) (came : List Arrival) (wrote : List WrittenPacket) → AllByRecursion (λ c. IsBrought old.from_a c.0 c.1) came → ServerRuns came old.b b wrote → PairRuns old (record old { b = b; from_b = old.from_b ++ wrote })
serving_pair old b came wrote brought run =
    let r = served_as (IsBrought old.from_a) came old.b b wrote brought run in
    let behind = subst (λ (l : List WrittenPacket). RunsBy (ServingStepped (IsBrought old.from_a)) (old.b, l) r.0 (b, old.from_b ++ wrote)) (append-nil old.from_b)
    (serving.shifted (IsBrought old.from_a) r.0 old.from_b (old.b, []) (b, wrote) r.1) in
    (map AtB r.0, serving_events old r.0 (b, old.from_b ++ wrote) behind)

pub more_pairs : (old mid new : Pair) → PairRuns old mid → PairRuns mid new → PairRuns old new
more_pairs old mid new r q = (r.0 ++ q.0, runs_then PairStepped r.0 q.0 old mid new r.1 q.1)
