-- While an answer is left to be read, a report is due.
use Rattle.std.proofs.Common.{◌≡◌, ℕ, suc, ◌+◌, ◌≤◌, ◌<◌, arith, sym, ◌∙◌, ap, List, [], ◌∷◌, ◌++◌, length, map, take}
use Rattle.std.proofs.lemmas.List.{append-nil, length-append, length-map, length-take-le, take-append-drop, take-take, map-append}
use Rattle.std.proofs.lemmas.Option.{slice_get_within}
use Rattle.std.specs.Prelude.{drop}
use Rattle.dap_msg.specs.declared.message.Message.{Message}
use Rattle.dap_msg.specs.declared.items.Item.{Item}
use Rattle.dap_msg.specs.declared.items.Item.TheVariants.{Whole}
use Rattle.dap_msg.specs.Blocked.{messages_in}
use Rattle.dap_world.specs.Plain.{Answers}
use Rattle.dap_accessing.specs.Request.{Request}
use Rattle.dap_accessing.specs.declared.report.Report.{Report}
use Rattle.dap_accessing.specs.Told.{Hearing, Reports, Waits, Unexpected, hear, Told}
use Rattle.dap_accessing.proofs.ForCallers.{told_by, Told-told_by, reports_grow}
use Rattle.dap_end.proofs.ForCallers.{in_append}
use Rattle.dap_events.specs.declared.event.End.TheVariants.{A}
use Rattle.dap_world.specs.Agreement.{request_answers}
use Rattle.dap_world.specs.Machine.{State, arrived_at, sent_by, served_by_b, answers_read, reports_by_a}
use Rattle.dap_world.specs.Inner.Worlds.{IsWorld}
use Rattle.dap_world.specs.Settling.{RanBy}
use Rattle.dap_world.specs.Inner.Settling.{IsOneDue}
use Rattle.dap_world.specs.Inner.Settling.{ReadPart}
use Rattle.dap_world.proofs.Headline.Agreeing.{none-unexpected}
use Rattle.dap_world.proofs.Headline.Asking.{all_told, answers-prefix}
use Rattle.dap_world.proofs.Headline.Kept.{came-handed, read-front, served-front}
use Rattle.dap_world.proofs.Stretch.Onward.{ran_on, told_same}

-- no more reports than requests
no_more_by : (rs : List Request) (h : Hearing) → ((rest : List Item) → length (Told rs rest) ≤ length rs) → length (told_by rs h) ≤ suc (length rs)
no_more_by rs (Reports done rest) on = omega (arith, on rest)
no_more_by rs Waits on = omega arith
no_more_by rs Unexpected on = omega arith

pub no_more : (rs : List Request) (answers : List Item) → length (Told rs answers) ≤ length rs
no_more [] answers = omega arith
no_more (r ∷ rs) answers = omega (arith, ap length (Told-told_by r rs answers), no_more_by rs (hear r answers) (λ rest. no_more rs rest))

-- how many answers there are
pub answered_length : (s : State) → IsWorld s → length (arrived_at s A) ≤ length (Answers s.own_b [] (map Whole (served_by_b s)))
answered_length s h =
    let all = ap length (sym (in_append s.b.handed s.b.waiting) ∙ h.answered) in
    omega (arith, came-handed s A, length-append (sent_by s.b) (messages_in s.b.waiting), all)

-- with an answer left, some request has no report
pub some_due : (s : State) → IsWorld s → s.read < length (Answers s.own_b [] (map Whole (served_by_b s))) → length (Told s.requests (answers_read s)) ≡ length s.requests → ⊥
some_due s h lt none =
    let front = read-front s h in
    let all = all_told s.own_a s.own_b s.requests (answers_read s) front.0 (none-unexpected s.own_a s.own_b h.own_a h.own_b s.requests h.admissible) front.1 none in
    let asked = served-front s h in
    let more = answers-prefix s.own_b (map Whole (served_by_b s)) (map Whole asked.0) in
    let same : Answers s.own_b [] (map Whole (served_by_b s)) ++ more.0 ≡ request_answers s.own_a s.own_b s.requests =
    more.1 ∙ ap (Answers s.own_b []) (sym (map-append Whole (served_by_b s) asked.0) ∙ ap (map Whole) asked.1) in
    let answers = Answers s.own_b [] (map Whole (served_by_b s)) in
    omega (
      arith,
      lt,
      ap length all,
      length-map (take s.read answers) Whole,
      length-map (request_answers s.own_a s.own_b s.requests) Whole,
      length-take-le s.read answers (omega (arith, lt)),
      ap length same,
      length-append answers more.0,
    )

nothing_more : (xs more : List Report) → length (xs ++ more) ≤ length xs → xs ++ more ≡ xs
nothing_more xs [] le = append-nil xs
nothing_more xs (x ∷ more) le = absurd (omega (arith, le, length-append xs (x ∷ more)))

-- a front of the answers that leaves one is told no more than a front before it that leaves one report due at most
told_read : (s new : State) → ReadPart s new → IsWorld new → length s.requests ≤ length (Told s.requests (answers_read s)) + 1 → Told new.requests (answers_read new) ≡ Told s.requests (answers_read s)
told_read s new part h due =
    let is = part.read in
    let answers = Answers s.own_b [] (map Whole (served_by_b s)) in
    let same_requests : new.requests ≡ s.requests = ap (λ (t : State). t.requests) is in
    let same_answers : answers_read new ≡ map Whole (take new.read answers) = ap (λ (t : State). map Whole (take new.read (Answers t.own_b [] (map Whole (served_by_b t))))) is in
    let split : take s.read answers ++ drop s.read (take new.read answers) ≡ take new.read answers = front_of answers s.read new.read part.more in
    let grows = reports_grow s.requests (answers_read s) (map Whole (drop s.read (take new.read answers))) in
    let told : Told new.requests (answers_read new) ≡ Told s.requests (answers_read s) ++ grows.0 =
    ap (λ (r : List Request). Told r (answers_read new)) same_requests
    ∙ ap (Told s.requests) (same_answers ∙ ap (map Whole) (sym split) ∙ map-append Whole (take s.read answers) (drop s.read (take new.read answers)))
    ∙ grows.1 in
    let there = slice_get_within _ new.read part.next part.there in
    let few : length (Told new.requests (answers_read new)) < length s.requests =
    fewer (length (Told new.requests (answers_read new))) (length s.requests) (omega (arith, no_more new.requests (answers_read new), ap length same_requests))
    (λ e. some_due new h (omega (arith, there, answered_length new h)) (e ∙ sym (ap length same_requests))) in
    told ∙ nothing_more (Told s.requests (answers_read s)) grows.0 (omega (arith, few, due, ap length told))
  where
    fewer : (a b : ℕ) → a ≤ b → (a ≡ b → ⊥) → a < b
    fewer a b le apart = omega (arith, le, apart)

    front_of : (xs : List Message) (i j : ℕ) → i ≤ j → take i xs ++ drop i (take j xs) ≡ take j xs
    front_of xs i j le = ap (λ (l : List Message). l ++ drop i (take j xs)) (sym (take-take i j xs le)) ∙ take-append-drop i (take j xs)

pub untold : (old s new : State) (n : ℕ) → IsWorld old → RanBy old s n → s.read ≡ old.read → ReadPart s new → IsWorld new → IsOneDue old → reports_by_a new ≡ reports_by_a old
unfolding reports_by_a
untold old s new n h ran same part w due =
    let before : Told s.requests (answers_read s) ≡ Told old.requests (answers_read old) = told_same old s n h ran same in
    let requests : s.requests ≡ old.requests = (ran_on old s n h ran).requests in
    told_read s new part w (omega (arith, due, ap length before, ap length requests)) ∙ before
