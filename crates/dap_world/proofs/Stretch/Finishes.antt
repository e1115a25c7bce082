-- Nothing is left to do: every request has its report.
use Rattle.std.proofs.Common.{◌≡◌, ℕ, ◌+◌, ◌≤◌, ◌<◌, arith, sym, ◌∙◌, subst, ap, List, [], ◌++◌, length, map, take}
use Rattle.std.specs.Prelude.{None}
use Rattle.std.proofs.lemmas.List.{append-nil, length-map, length-take-le, take_all}
use Rattle.std.proofs.lemmas.Option.{slice_get_within}
use Rattle.dap_msg.specs.declared.message.Message.{Message}
use Rattle.dap_msg.specs.declared.items.Item.TheVariants.{Whole}
use Rattle.dap_msg.specs.Blocked.{NspMessage, messages_in}
use Rattle.dap_world.specs.Plain.{Answers, Asked}
use Rattle.dap_accessing.specs.Told.{Told}
use Rattle.dap_world.specs.Agreement.{reports_of}
use Rattle.dap_events.specs.declared.event.End.{End}
use Rattle.dap_events.specs.declared.event.End.TheVariants.{A, B}
use Rattle.dap_world.specs.Machine.{State, arrived_at, answers_read, files_of, next_to_read, reports_by_a, segments_of, sent_by, served_by_b}
use Rattle.dap_world.specs.Inner.Worlds.{IsWorld}
use Rattle.dap_world.specs.Settling.{AllTold, FinishesIn, IsEmpty, IsFinished, RanBy, unacked_count}
use Rattle.dap_world.specs.Inner.Settling.{NothingSent}
use Rattle.dap_world.specs.Inner.Settling.{AreEmpty, ReadEvery, ReadPart, SentBoth, ServedEvery, SettledBoth}
use Rattle.dap_world.proofs.Headline.Agreeing.{one-report-each}
use Rattle.dap_world.proofs.Headline.Kept.{headline_of}
use Rattle.dap_world.proofs.Stretch.Onward.{ran_still}
use Rattle.dap_world.proofs.Stretch.ServingAll.{arrived_empty_b, none_past}
use Rattle.dap_world.proofs.Stretch.Settles.{ran_both}
use Rattle.dap_world.proofs.Stretch.Untold.{answered_length}

-- ---- What is finished is told.

-- nothing waits: what was passed on is all
handed_all : (handed waiting : List NspMessage) (all : List Message) → waiting ≡ [] → messages_in (handed ++ waiting) ≡ all → messages_in handed ≡ all
handed_all handed waiting all none is = ap messages_in (sym (append-nil handed) ∙ ap (λ (l : List NspMessage). handed ++ l) (sym none)) ∙ is

pub all_told : (s : State) → IsWorld s → IsFinished s → AllTold s
unfolding reports_by_a files_of
all_told s h f =
    let sent : sent_by s.a ≡ Asked s.own_a s.requests = handed_all s.a.handed s.a.waiting (Asked s.own_a s.requests) f.a.waiting h.asked in
    let taken : served_by_b s ≡ Asked s.own_a s.requests = f.served ∙ sent in
    let reports : Told s.requests (answers_read s) ≡ reports_of s.own_a s.own_b s.requests = ap (Told s.requests) (f.read ∙ ap (λ (l : List Message). map Whole (Answers s.own_b [] (map Whole l))) taken) in
    record {
      sent = sent;
      taken = taken;
      reports = reports;
      each = ap length reports ∙ one-report-each s.own_a s.own_b h.own_a h.own_b s.requests h.admissible;
    }

-- ---- The last answers are read.

empty_read : (s new : State) (end : End) → new ≡ record s { read = new.read } → IsEmpty s end → IsEmpty new end
empty_read s new A is e =
    record {
      waiting = ap (λ (t : State). t.a.waiting) is ∙ e.waiting;
      sent = ap (λ (t : State). t.a.sent) is ∙ e.sent ∙ sym (ap (λ (t : State). segments_of t.seg_size t.a.handed) is);
      acked = ap (λ (t : State). unacked_count t A) is ∙ e.acked;
    }
empty_read s new B is e =
    record {
      waiting = ap (λ (t : State). t.b.waiting) is ∙ e.waiting;
      sent = ap (λ (t : State). t.b.sent) is ∙ e.sent ∙ sym (ap (λ (t : State). segments_of t.seg_size t.b.handed) is);
      acked = ap (λ (t : State). unacked_count t B) is ∙ e.acked;
    }

-- where all were read, no answer is left
read_all : (s : State) → IsWorld s → IsEmpty s B → next_to_read s ≡ None → length (Answers s.own_b [] (map Whole (served_by_b s))) ≤ s.read
read_all s h e none =
    let all : sent_by s.b ≡ Answers s.own_b [] (map Whole (served_by_b s)) = handed_all s.b.handed s.b.waiting (Answers s.own_b [] (map Whole (served_by_b s))) e.waiting h.answered in
    let came = arrived_empty_b s h e in
    most (length (Answers s.own_b [] (map Whole (served_by_b s)))) s.read (λ lt. none_past (arrived_at s A) s.read (omega (arith, lt, ap length all, ap length came)) none)
  where
    most : (a b : ℕ) → (b < a → ⊥) → a ≤ b
    most a b stop = omega (arith, stop)

is_finished : (s new : State) (n : ℕ) → IsWorld new → AreEmpty s → length (sent_by s.a) ≤ s.served → ReadEvery s new n → IsFinished new
is_finished s new n w e all r =
    let b = empty_read s new B r.read e.1 in
    let answers = Answers new.own_b [] (map Whole (served_by_b new)) in
    record {
      a = empty_read s new A r.read e.0;
      b = b;
      served = take_all new.served (sent_by new.a) (omega (arith, all, ap (λ (t : State). t.served) r.read, ap (λ (t : State). length (sent_by t.a)) r.read));
      read = ap (map Whole) (take_all new.read answers (read_all new w b r.none_left));
    }

-- ---- Where nothing is left to do, nothing is done.

pub all_served : (s : State) → IsWorld s → IsFinished s → length (sent_by s.a) ≤ s.served
all_served s h f = omega (arith, ap length f.served, length-take-le s.served (sent_by s.a) (headline_of s h).taken_there)

none_to_read : (s : State) → IsWorld s → IsFinished s → length (arrived_at s A) ≤ s.read
none_to_read s h f =
    let answers = Answers s.own_b [] (map Whole (served_by_b s)) in
    omega (
      arith,
      ap length f.read,
      length-map (take s.read answers) Whole,
      length-map answers Whole,
      length-take-le s.read answers (headline_of s h).answers_there,
      answered_length s h,
    )

pub still_settled : (old new : State) (n : ℕ) → IsFinished old → SettledBoth old new n → new ≡ old
still_settled old new n f h = ran_still old new n h.ran (h.nothing f.a.acked f.b.acked)

pub are_empty : (s : State) → IsFinished s → AreEmpty s
are_empty s f = (f.a, f.b)

pub still_sent : (old new : State) (n : ℕ) → IsFinished old → SentBoth old new n → new ≡ old
still_sent old new n f h = ran_still old new n h.ran (h.nothing (are_empty old f))

pub still_served : (old new : State) (n : ℕ) → IsWorld old → IsFinished old → ServedEvery old new n → new ≡ old
still_served old new n w f h = ran_still old new n h.done.ran (h.done.nothing (h.only (all_served old w f)))

pub unread : (s new : State) → IsWorld s → ReadPart s new → IsFinished s → ⊥
unread s new h part f =
    let there = slice_get_within _ new.read part.next part.there in
    omega (arith, none_to_read s h f, there, part.more, ap (λ (t : State). length (arrived_at t A)) part.read)

none_read : (s new : State) (n : ℕ) → IsWorld s → IsWorld new → IsFinished s → ReadEvery s new n → n ≡ 0
none_read s new n h w f r = omega (arith, none_to_read s h f, w.read, r.count, ap (λ (t : State). length (arrived_at t A)) r.read)

-- ---- All of it.

pub still_sent_from : (old s1 s2 : State) (n1 n2 : ℕ) → SettledBoth old s1 n1 → SentBoth s1 s2 n2 → IsFinished old → s2 ≡ old
still_sent_from old s1 s2 n1 n2 a b f = let one = still_settled old s1 n1 f a in still_sent s1 s2 n2 (subst IsFinished (sym one) f) b ∙ one

module _ (old s1 s2 s3 : State) (n1 n2 n3 : ℕ) (h : IsWorld old) (a : SettledBoth old s1 n1) (b : SentBoth s1 s2 n2) (c : ServedEvery s2 s3 n3) where
  pub ran_two : RanBy old s2 (n1 + n2)
  ran_two = ran_both old s1 s2 n1 n2 a.ran b.ran

  pub ran_three : RanBy old s3 ((n1 + n2) + n3)
  ran_three = ran_both old s2 s3 (n1 + n2) n3 ran_two c.done.ran

  pub still_two : IsFinished old → s1 ≡ old
  still_two f = still_settled old s1 n1 f a

  pub still_three : IsFinished old → s2 ≡ old
  still_three f = still_sent_from old s1 s2 n1 n2 a b f

  pub still_four : IsFinished old → s3 ≡ old
  still_four f = let two = still_three f in still_served s2 s3 n3 (subst IsWorld (sym two) h) (subst IsFinished (sym two) f) c ∙ two

  pub finished : (new : State) (n4 : ℕ) → NothingSent old s1 → IsWorld s3 → IsWorld new → ReadEvery s3 new n4 → FinishesIn old new (((n1 + n2) + n3) + n4)
  finished new n4 rest w3 w r =
      let done = is_finished s3 new n4 w c.done.empty c.all r in
      let ran = ran_both old s3 new ((n1 + n2) + n3) n4 ran_three r.ran in
      let sent_a = rest.sent A in
      let sent_b = rest.sent B in
      let moved_a = ap (λ (t : State). t.a.sent) r.read in
      let moved_b = ap (λ (t : State). t.b.sent) r.read in
      let moved = ap (λ (t : State). t.served) r.read in
      record {
        ran = ran;
        finished = done;
        told = all_told new w done;
        bound = omega (
          arith,
          a.count,
          b.count,
          c.done.count,
          r.count,
          sent_a,
          sent_b,
          b.sent_a,
          b.sent_b,
          c.done.sent_a,
          c.done.sent_b,
          moved_a,
          moved_b,
          moved,
          rest.same.served,
          rest.same.read,
          b.served,
          b.read,
          c.done.served,
          c.done.read,
        );
        only = λ f.
            let one = still_two f in
            let two = still_three f in
            let three = still_four f in
            omega (
              arith,
              a.nothing f.a.acked f.b.acked,
              b.nothing (are_empty s1 (subst IsFinished (sym one) f)),
              c.done.nothing (c.only (all_served s2 (subst IsWorld (sym two) h) (subst IsFinished (sym two) f))),
              none_read s3 new n4 w3 w (subst IsFinished (sym three) f) r,
            );
      }
