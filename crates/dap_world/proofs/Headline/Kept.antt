-- What is true of every world stays so, whatever happens; and the headline follows from it.
use Rattle.std.proofs.Common.{◌≡◌, ℕ, ◌+◌, ◌≤◌, arith, refl, sym, ◌∙◌, Bool, true, subst, ap, append_assoc, List, [], ◌∷◌, ◌++◌, length, take, drop, map}
use Rattle.std.specs.Prelude.{Option, Some, None, slice_get}
use Rattle.std.proofs.lemmas.List.{take-append-drop, append-nil, length-append, length-take-le, map-append}
use Rattle.std.proofs.lemmas.Option.{slice_get_within}
use Rattle.dap_msg.specs.declared.message.Message.{Message}
use Rattle.dap_msg.specs.declared.items.Item.{Item}
use Rattle.dap_msg.specs.declared.items.Item.TheVariants.{Whole}
use Rattle.dap_msg.specs.Blocked.{NspMessage, messages_in}
use Rattle.dap_msg.proofs.ForCallers.{messages_in-Blocked}
use Rattle.dap_world.specs.Plain.{Answers, answers_added, messages_of, Asked, IsAdmissible}
use Rattle.dap_world.proofs.Plain.{Answers-more, Asked-more}
use Rattle.dap_accessing.specs.Request.{Request}
use Rattle.nsp_link.specs.Limits.{max_segments}
use Rattle.dap_world.specs.Agreement.{request_answers}
use Rattle.dap_events.specs.declared.event.End.{End}
use Rattle.dap_events.specs.declared.event.End.TheVariants.{A, B}
use Rattle.dap_events.specs.declared.event.Event.{Event}
use Rattle.dap_events.specs.declared.event.Event.TheVariants as event
use Rattle.dap_events.specs.declared.event.Step.{Step}
use Rattle.dap_events.specs.declared.setup.WorldSetup.{WorldSetup}
use Rattle.dap_world.specs.Setups.{IsWorldSetup}
use Rattle.dap_world.specs.Machine.{files_of, reports_by_a, State, EndState, Sending, initial_state, other_end, end_of, with_end, arrived_messages, arrived_at, sent_by, served_by_b, answers_read, asking, world_after_request, end_after_post, wrote, end_after_delivery, answering, served_one, with_read, segments_of, Steps, StepsFreely}
use Rattle.dap_end.specs.Runs.{RunsBy}
use Rattle.dap_accessed.specs.Present as accessed
use Rattle.dap_accessed.specs.Groups as of_any
use Rattle.dap_accessed.specs.Setup.{plain_setup}
use Rattle.dap_accessed.specs.declared.setup.ServerSetup.{ServerSetup}
use Rattle.dap_end.proofs.ForCallers.{in_append}
use Rattle.dap_world.specs.Inner.Parts.{Parts, state_of}
use Rattle.dap_world.specs.Inner.Worlds.{WasSent, IsDirection, IsWorld, ReachesPeer}
use Rattle.dap_world.specs.Headline.{HeadlineOf}
use Rattle.dap_world.proofs.Headline.Agreeing.{none-unexpected}
use Rattle.dap_world.proofs.Headline.Asking.{all_read, answers-prefix, admissible-more}
use Rattle.dap_world.proofs.Steps.Directions.{kept-there, kept-writes, kept-acked, kept-came, segments_of-append, AreTrue-at}
use Rattle.dap_world.proofs.Steps.Packets.{arrived-front, arrived-more, arrived-later, get-front, take-next, served-stays}

-- ---- The headline of a state.

-- what came is among what the other end passed on
pub came-handed : (s : State) (end : End) → length (arrived_at s end) ≤ length (sent_by (end_of s (other_end end)))
came-handed s end =
    let from = end_of s (other_end end) in
    let front = arrived-front s.seg_size (end_of s end).taken from.handed in
    omega (arith, length-append (arrived_at s end) front.0, ap length front.1)

pub headline_of : (s : State) → IsWorld s → HeadlineOf s
unfolding files_of reports_by_a
headline_of s h =
    record {
      sent_in_order = (messages_in s.a.waiting, sym (in_append s.a.handed s.a.waiting) ∙ h.asked);
      taken_in_order = refl;
      taken_there = omega (arith, h.served, came-handed s B);
      files_after = refl;
      reports_told = refl;
      answers_there =
          let all = ap length (sym (in_append s.b.handed s.b.waiting) ∙ h.answered) in
          omega (arith, h.read, came-handed s A, length-append (sent_by s.b) (messages_in s.b.waiting), all);
    }

-- the files that the accessed end keeps
pub files_are : (p : Parts) → p.accessed.setup ≡ plain_setup p.accessed.own → accessed.StandsAfter [] (map Whole (served_by_b (state_of p))) p.accessed → p.accessed.files ≡ files_of (state_of p)
unfolding files_of
files_are p plain stands =
    ap (λ (v : accessed.Present). v.files) stands ∙ ap (λ (own : ServerSetup). of_any.After own [] (map Whole (served_by_b (state_of p)))) plain

-- ---- A new world.

is_idle : (window : ℕ) → IsDirection window 0 0 0 0 [] 0 []
is_idle window =
    record { counts = record { acked_taken = omega arith; taken_sent = omega arith; within_window = omega arith; sent_there = omega arith; few = omega arith }; early = tt; wire = tt }

pub is_fresh : (setup : WorldSetup) → IsWorldSetup setup → IsWorld (initial_state setup)
is_fresh setup h =
    record {
      window = h.window_limit;
      some = h.window;
      own_a = h.own_a;
      own_b = h.own_b;
      from_a = is_idle setup.window;
      from_b = is_idle setup.window;
      admissible = tt;
      asked = refl;
      answered = refl;
      served = omega arith;
      read = omega arith;
    }

-- ---- Ask.

-- what was served is a front of what was asked
pub served-front : (s : State) → IsWorld s → (rest : List Message) × (served_by_b s ++ rest ≡ Asked s.own_a s.requests)
served-front s h = (
  drop s.served (sent_by s.a) ++ messages_in s.a.waiting,
  sym (append_assoc (served_by_b s) (drop s.served (sent_by s.a)) (messages_in s.a.waiting))
      ∙ ap (λ (l : List Message). l ++ messages_in s.a.waiting) (take-append-drop s.served (sent_by s.a))
      ∙ sym (in_append s.a.handed s.a.waiting) ∙ h.asked,
)

-- no more was served than was passed on
pub served_there : (s : State) → IsWorld s → s.served ≤ length (sent_by s.a)
served_there s h = omega (arith, h.served, came-handed s B)

pub served_count : (s : State) → IsWorld s → length (served_by_b s) ≡ s.served
served_count s h = length-take-le s.served (sent_by s.a) (served_there s h)

-- what was read is a front of the answers to all that was asked
pub read-front : (s : State) → IsWorld s → (back : List Item) × (answers_read s ++ back ≡ map Whole (request_answers s.own_a s.own_b s.requests))
read-front s h =
    let asked = served-front s h in
    let answers = Answers s.own_b [] (map Whole (served_by_b s)) in
    let more = answers-prefix s.own_b (map Whole (served_by_b s)) (map Whole asked.0) in (
      map Whole (drop s.read answers ++ more.0),
      sym (map-append Whole (take s.read answers) (drop s.read answers ++ more.0))
          ∙ ap (map Whole) (sym (append_assoc (take s.read answers) (drop s.read answers) more.0) ∙ ap (λ (l : List Message). l ++ more.0) (take-append-drop s.read answers)
          ∙ more.1 ∙ ap (Answers s.own_b []) (sym (map-append Whole (served_by_b s) asked.0) ∙ ap (map Whole) asked.1)),
    )

-- where a request is admissible all answers were read
pub all-answers : (s : State) (r : Request) → IsWorld s → IsAdmissible s.own_a s.requests (answers_read s) r → answers_read s ≡ map Whole (request_answers s.own_a s.own_b s.requests)
all-answers s r h m =
    let front = read-front s h in
    all_read s.own_a s.own_b s.requests (answers_read s) front.0 (none-unexpected s.own_a s.own_b h.own_a h.own_b s.requests h.admissible) front.1 m.0

kept-asked : (s : State) (r : Request) → IsWorld s → IsAdmissible s.own_a s.requests (answers_read s) r → IsWorld (world_after_request s r)
kept-asked s r h m =
    let packets = asking s r in
    record {
      window = h.window;
      some = h.some;
      own_a = h.own_a;
      own_b = h.own_b;
      from_a = h.from_a;
      from_b = h.from_b;
      admissible = admissible-more s.own_a s.own_b [] s.requests r h.admissible (subst (λ (l : List Item). IsAdmissible s.own_a s.requests l r) (all-answers s r h m) m);
      asked = ap messages_in (sym (append_assoc s.a.handed s.a.waiting packets)) ∙ in_append (s.a.handed ++ s.a.waiting) packets
          ∙ ap (λ l. messages_in (s.a.handed ++ s.a.waiting) ++ l) (messages_in-Blocked _ (messages_of s.own_a r))
          ∙ ap (λ l. l ++ messages_of s.own_a r) h.asked ∙ sym (Asked-more s.own_a s.requests r);
      answered = h.answered;
      served = h.served;
      read = h.read;
    }

-- ---- An end moves.

pub now_at : (s new : State) (end : End) (e : EndState) → new ≡ with_end s end e → end_of new end ≡ e
now_at s new A e is = ap (λ (t : State). t.a) is
now_at s new B e is = ap (λ (t : State). t.b) is

-- and the other one doesn't
pub still_at : (s new : State) (end : End) (e : EndState) → new ≡ with_end s (other_end end) e → end_of new end ≡ end_of s end
still_at s new A e is = ap (λ (t : State). t.a) is
still_at s new B e is = ap (λ (t : State). t.b) is

pub other_still : (s new : State) (end : End) (e : EndState) → new ≡ with_end s end e → end_of new (other_end end) ≡ end_of s (other_end end)
other_still s new A e is = ap (λ (t : State). t.b) is
other_still s new B e is = ap (λ (t : State). t.a) is

pub twice : (end : End) → other_end (other_end end) ≡ end
twice A = refl
twice B = refl

-- what an end sends, and what comes to it
pub direction : (s : State) (end : End) → IsWorld s → ReachesPeer s.seg_size s.window (end_of s end) (end_of s (other_end end))
direction s A h = h.from_a
direction s B h = h.from_b

pub back : (s : State) (end : End) → IsWorld s → ReachesPeer s.seg_size s.window (end_of s (other_end end)) (end_of s end)
back s A h = h.from_b
back s B h = h.from_a

-- It may move so: both directions stand in order, it has the same to send, and passed on and took no less.
record Moves (s : State) (end : End) (e : EndState) : Type 0 where
  out : ReachesPeer s.seg_size s.window e (end_of s (other_end end))
  comes : ReachesPeer s.seg_size s.window (end_of s (other_end end)) e
  all : messages_in (e.handed ++ e.waiting) ≡ messages_in ((end_of s end).handed ++ (end_of s end).waiting)
  more : List NspMessage
  handed : e.handed ≡ (end_of s end).handed ++ more
  taken : (end_of s end).taken ≤ e.taken

-- no less came, once more was passed on or taken
more_came : (seg taken n : ℕ) (handed more now : List NspMessage) → now ≡ handed ++ more → n ≤ length (messages_in (arrived_messages seg taken handed)) → n ≤ length (messages_in (arrived_messages seg taken now))
more_came seg taken n handed more now is le =
    subst (λ (l : List NspMessage). n ≤ length (messages_in (arrived_messages seg taken l))) (sym is) (omega (arith, le, arrived-more seg taken taken handed more (omega arith)))

kept-moves : (s : State) (end : End) (e : EndState) → IsWorld s → Moves s end e → IsWorld (with_end s end e)
kept-moves s A e h m =
    record {
      window = h.window;
      some = h.some;
      own_a = h.own_a;
      own_b = h.own_b;
      from_a = m.out;
      from_b = m.comes;
      admissible = h.admissible;
      asked = m.all ∙ h.asked;
      answered = h.answered
          ∙ ap (λ l. Answers s.own_b [] (map Whole l)) (sym (ap (λ l. take s.served (messages_in l)) m.handed ∙ served-stays s.served s.seg_size s.b.taken s.a.handed m.more h.served));
      served = more_came s.seg_size s.b.taken s.served s.a.handed m.more e.handed m.handed h.served;
      read = omega (arith, h.read, arrived-later s.seg_size s.a.taken e.taken s.b.handed m.taken);
    }
kept-moves s B e h m =
    record {
      window = h.window;
      some = h.some;
      own_a = h.own_a;
      own_b = h.own_b;
      from_a = m.comes;
      from_b = m.out;
      admissible = h.admissible;
      asked = h.asked;
      answered = m.all ∙ h.answered;
      served = omega (arith, h.served, arrived-later s.seg_size s.b.taken e.taken s.a.handed m.taken);
      read = more_came s.seg_size s.a.taken s.read s.b.handed m.more e.handed m.handed h.read;
    }

kept-posted : (s : State) (end : End) → IsWorld s → segments_of s.seg_size (end_after_post (end_of s end)).handed ≤ max_segments → IsWorld (with_end s end (end_after_post (end_of s end)))
kept-posted s end h few =
    let e = end_of s end in
    kept-moves s end (end_after_post e) h
    (record {
      out = kept-there _ _ _ _ _ _ _ _ (direction s end h) (segments_of s.seg_size (end_after_post (end_of s end)).handed) (omega (arith, segments_of-append s.seg_size e.handed e.waiting)) few;
      comes = back s end h;
      all = ap messages_in (append-nil (e.handed ++ e.waiting));
      more = e.waiting;
      handed = refl;
      taken = omega arith;
    })

kept-wrote : (s : State) (end : End) (sent : ℕ) (segment : Option ℕ) → IsWorld s
    → (end_of s end).sent ≤ sent → sent ≤ (end_of s end).acked + s.window → sent ≤ segments_of s.seg_size (end_of s end).handed → WasSent sent segment → IsWorld (with_end s end (wrote (end_of s end) sent segment))
kept-wrote s end sent segment h le within there was =
    kept-moves s end (wrote (end_of s end) sent segment) h
    (record {
      out = kept-writes _ _ _ _ _ _ _ _ (direction s end h) sent (record { segment = segment; acks = (end_of s end).taken }) le within there was (omega arith);
      comes = back s end h;
      all = refl;
      more = [];
      handed = sym (append-nil (end_of s end).handed);
      taken = omega arith;
    })

-- what comes was sent, and acknowledges no more than was taken
pub true_of : (s : State) (end : End) (j : ℕ) (p : Sending) → IsWorld s → slice_get (end_of s (other_end end)).wire j ≡ Some p → WasSent (end_of s (other_end end)).sent p.segment × (p.acks ≤ (end_of s (other_end end)).taken)
true_of s end j p h at = AreTrue-at (end_of s (other_end end)).wire j p (end_of s (other_end end)).sent (end_of s (other_end end)).taken (back s end h).wire at

-- what is taken when it comes
pub came_in : (s : State) (end : End) (keep : Bool) (j : ℕ) (p : Sending) → IsWorld s → slice_get (end_of s (other_end end)).wire j ≡ Some p
    → ReachesPeer s.seg_size s.window (end_of s (other_end end)) (end_after_delivery keep (end_of s end) p) × ((end_of s end).taken ≤ (end_after_delivery keep (end_of s end) p).taken)
came_in s end keep j p h at = kept-came _ _ _ _ _ _ _ _ (back s end h) keep p.segment (true_of s end j p h at).0

kept-comes : (keep : Bool) (s : State) (end : End) (j : ℕ) (p : Sending) → IsWorld s → slice_get (end_of s (other_end end)).wire j ≡ Some p → IsWorld (with_end s end (end_after_delivery keep (end_of s end) p))
kept-comes keep s end j p h at =
    let came = came_in s end keep j p h at in
    kept-moves s end (end_after_delivery keep (end_of s end) p) h
    (record {
      out = kept-acked _ _ _ _ _ _ _ _ (direction s end h) p.acks (end_after_delivery keep (end_of s end) p).taken (true_of s end j p h at).1 came.1;
      comes = came.0;
      all = refl;
      more = [];
      handed = sym (append-nil (end_of s end).handed);
      taken = came.1;
    })

-- ---- Serve and Read.

-- the messages that B served, once it served the next
pub taken-more : (s : State) (m : Message) → slice_get (arrived_at s B) s.served ≡ Some m → take (s.served + 1) (sent_by s.a) ≡ served_by_b s ++ m ∷ []
taken-more s m e =
    let f = arrived-front s.seg_size s.b.taken s.a.handed in
    take-next (sent_by s.a) s.served m (subst (λ (l : List Message). slice_get l s.served ≡ Some m) f.1 (get-front (arrived_at s B) f.0 s.served m e))

kept-served : (s : State) (m : Message) → IsWorld s → s.b.waiting ≡ [] → slice_get (arrived_at s B) s.served ≡ Some m → IsWorld (served_one s m)
kept-served s m h empty e =
    let answers = answers_added s.own_b [] (map Whole (served_by_b s)) (Whole m) in
    record {
      window = h.window;
      some = h.some;
      own_a = h.own_a;
      own_b = h.own_b;
      from_a = h.from_a;
      from_b = h.from_b;
      admissible = h.admissible;
      asked = h.asked;
      answered = in_append s.b.handed (answering s m)
          ∙ ap (λ l. messages_in s.b.handed ++ l) (messages_in-Blocked _ answers)
          ∙ ap (λ l. l ++ answers) (ap messages_in (sym (append-nil s.b.handed) ∙ ap (λ (w : List NspMessage). s.b.handed ++ w) (sym empty)) ∙ h.answered)
          ∙ sym (Answers-more s.own_b [] (map Whole (served_by_b s)) (Whole m))
          ∙ ap (Answers s.own_b []) (sym (map-append Whole (served_by_b s) (m ∷ [])))
          ∙ ap (λ l. Answers s.own_b [] (map Whole l)) (sym (taken-more s m e));
      served = omega (arith, slice_get_within _ s.served m e);
      read = h.read;
    }

kept-read : (s : State) (m : Message) → IsWorld s → slice_get (arrived_at s A) s.read ≡ Some m → IsWorld (with_read s)
kept-read s m h e =
    record {
      window = h.window;
      some = h.some;
      own_a = h.own_a;
      own_b = h.own_b;
      from_a = h.from_a;
      from_b = h.from_b;
      admissible = h.admissible;
      asked = h.asked;
      answered = h.answered;
      served = h.served;
      read = omega (arith, slice_get_within _ s.read m e);
    }

-- ---- Whatever happens.

-- a step is one of those that ends are free to take
freely : (old new : State) (e : Event) (answer : Step) → Steps old e answer new → StepsFreely old e answer new
unfolding Steps
freely old new (event.Ask request) answer step = step
freely old new (event.Post end) answer step = step
freely old new (event.Emit end) answer step = step
freely old new (event.Resend end i) answer step = step
freely old new (event.Ack end) answer step = step
freely old new (event.Deliver end j) answer step = (true, step)
freely old new event.Serve answer step = step
freely old new event.Read answer step = step

kept-freely : (old new : State) (e : Event) (answer : Step) → StepsFreely old e answer new → IsWorld old → IsWorld new
unfolding Steps
kept-freely old new (event.Ask request) answer step h = subst IsWorld (sym step.2) (kept-asked old request h step.0)
kept-freely old new (event.Post end) answer step h = subst IsWorld (sym step.3) (kept-posted old end h step.1)
kept-freely old new (event.Emit end) answer step h =
    let d = end_of old end in
    let counts = (direction old end h).counts in
    subst IsWorld (sym step.2) (kept-wrote old end (d.sent + 1) (Some (d.sent + 1)) h (omega arith) (omega (arith, step.0.1, counts.acked_taken, counts.taken_sent)) (omega (arith, step.0.0)) (omega arith, omega arith))
kept-freely old new (event.Resend end i) answer step h =
    let d = end_of old end in
    let counts = (direction old end h).counts in
    subst IsWorld (sym step.2) (kept-wrote old end d.sent (Some (d.acked + 1 + i)) h (omega arith) counts.within_window counts.sent_there (omega arith, omega (arith, step.0)))
kept-freely old new (event.Ack end) answer step h =
    let counts = (direction old end h).counts in
    subst IsWorld (sym step.1) (kept-wrote old end (end_of old end).sent None h (omega arith) counts.within_window counts.sent_there tt)
kept-freely old new (event.Deliver end j) answer (keep, step) h = subst IsWorld (sym step.3) (kept-comes keep old end j step.0 h step.1.0)
kept-freely old new event.Serve answer step h = subst IsWorld (sym step.4) (kept-served old step.0 h step.1 step.2)
kept-freely old new event.Read answer step h = subst IsWorld (sym step.3) (kept-read old step.0 h step.1)

pub kept-step : (old new : State) (e : Event) (answer : Step) → Steps old e answer new → IsWorld old → IsWorld new
kept-step old new e answer step h = kept-freely old new e answer (freely old new e answer step) h

kept-run : (events : List Event) (old new : State) → RunsBy StepsFreely old events new → IsWorld old → IsWorld new
kept-run [] old new run h = subst IsWorld (sym run) h
kept-run (e ∷ events) old new run h = kept-run events run.0 new run.3 (kept-freely old run.0 e run.1 run.2 h)

-- what is true of every world is true after every run from a new one
pub runs_sound : (setup : WorldSetup) (events : List Event) (new : State) → IsWorldSetup setup → RunsBy StepsFreely (initial_state setup) events new → IsWorld new
runs_sound setup events new h run = kept-run events (initial_state setup) new run (is_fresh setup h)

-- the headline of every run from a new world
pub headline : (setup : WorldSetup) (events : List Event) (new : State) → IsWorldSetup setup → RunsBy StepsFreely (initial_state setup) events new → HeadlineOf new
headline setup events new h run = headline_of new (runs_sound setup events new h run)
