-- What a schedule comes to is determined by its lines.
use Rattle.std.proofs.Common.{◌≡◌, ℕ, ◌+◌, List, [], ◌∷◌, ◌++◌, codes, Some, sym, ap, ◌∙◌, subst, refl}
use Rattle.std.specs.List.{concat}
use Rattle.std.specs.Fmt.{decimal}
use Rattle.hex.specs.Hex.{encode_lower}
use Rattle.dap_accessing.specs.declared.report.Report.{Report}
use Rattle.dap_events.specs.declared.event.End.{End}
use Rattle.dap_events.specs.declared.event.Event.{Event}
use Rattle.dap_events.specs.declared.event.Step.{Step}
use Rattle.dap_events.specs.declared.event.Step.TheVariants as step
use Rattle.dap_events.specs.declared.setup.WorldSetup.{WorldSetup}
use Rattle.dap_world.specs.Machine.{State, Sending, files_of, initial_state}
use Rattle.dap_world.specs.Setups.{IsWorldSetup}
use Rattle.dap_world.specs.Wires.{IsOnWire}
use Rattle.dap_world.proofs.ForCallers.{no_step, one_on_wire, one_reason, one_step}
use Rattle.dap_text.specs.Reports.{report_text}
use Rattle.dap_orders.specs.Schedules.{Numbered, numbered_lines}
use Rattle.dap_capture.specs.Inner.Playing.{events_of}
use Rattle.dap_text.specs.Tables.{files_text}
use Rattle.dap_capture.specs.Played.{IsPacketWritten, IsStepText, PlaysSchedule, Plays, all_played, empty, end_text, event_line, one_played, played, refusal_line, refusal_text, setup_refused, stops}
use Rattle.linewise.specs.declared.fault.Outcome.{Outcome}

same_end : (a b : End) (x : _) → x ≡ Some a → x ≡ Some b → b ≡ a
same_end a b x e f = cc

same_sending : (a b : Sending) (x : _) → x ≡ Some a → x ≡ Some b → b ≡ a
same_sending a b x e f = cc

same_report : (a b : Report) (x : _) → x ≡ Some a → x ≡ Some b → a ≡ b
same_report a b x e f = cc

same_word : (a b : List ℕ) (x : _) → x ≡ Some a → x ≡ Some b → a ≡ b
same_word a b x e f = cc

same_setup : (a b : WorldSetup) (x : _) → x ≡ Some a → x ≡ Some b → b ≡ a
same_setup a b x e f = cc

one_packet : (s : State) (end : End) (index : ℕ) (a b : List ℕ) → IsPacketWritten s end index a → IsPacketWritten s end index b → a ≡ b
one_packet s end index a b (sending, at, bytes, packet, printed) (sending', at', bytes', packet', printed') =
    let same = one_on_wire s end sending bytes bytes' packet (subst (λ (p : Sending). IsOnWire s end p bytes') (same_sending sending sending' _ at at') packet') in
    printed ∙ ap (λ (x : List ℕ). concat (codes "packet " ∷ end_text end ∷ codes " " ∷ decimal index ∷ codes " " ∷ encode_lower x ∷ [])) same ∙ sym printed'

one_answer : (s : State) (e : Event) (answer : Step) (a b : List ℕ) → IsStepText s e answer a → IsStepText s e answer b → a ≡ b
one_answer s e (step.Asked count) a b one two = one ∙ sym two
one_answer s e (step.Posted count) a b one two = one ∙ sym two
one_answer s e (step.Packet index) a b one two =
    let end = same_end one.0 two.0 _ one.1 two.1 in
    one_packet s one.0 index a b one.2 (subst (λ (x : End). IsPacketWritten s x index b) end two.2)
one_answer s e (step.Delivered got) a b one two = one ∙ sym two
one_answer s e (step.Served count) a b one two = one ∙ sym two
one_answer s e step.Nothing a b one two = one ∙ sym two
one_answer s e step.Reported a b (report, newest, printed) (report', newest', printed') =
    printed ∙ ap (λ (r : Report). codes "report " ++ report_text r) (same_report report report' _ newest newest') ∙ sym printed'

one_run : (s : State) (number : ℕ) (events : List Event) (one two : Outcome) (a b : List ℕ) → Plays s number events one a → Plays s number events two b → (one ≡ two) × (a ≡ b)
one_run s number [] one two a b all_played all_played = (refl, refl)
one_run s number (e ∷ events) one two a b (one_played answer new text rest went says on) (one_played answer' new' text' rest' went' says' on') =
    let same = one_step s e answer answer' new new' went went' in
    let texts = one_answer new e answer text text' says
    (subst (λ (x : State). IsStepText x e answer text') (sym same.1) (subst (λ (x : Step). IsStepText new' e x text') (sym same.0) says')) in
    let rests = one_run new (number + 1) events one two rest rest' on (subst (λ (x : State). Plays x (number + 1) events two rest') (sym same.1) on') in
    (rests.0, ap (λ (t : List ℕ). event_line number t ++ rest) texts ∙ ap (λ (t : List ℕ). event_line number text' ++ t) rests.1)
one_run s number (e ∷ events) one two a b (one_played answer new text rest went says on) (stops f word why says') = absurd (no_step s e f why (answer, new, went))
one_run s number (e ∷ events) one two a b (stops f word why says) (one_played answer new text rest went says' on) = absurd (no_step s e f why (answer, new, went))
one_run s number (e ∷ events) one two a b (stops f word why says) (stops g word' why' says') =
    let same = one_reason s e f g why why' in
    let words = same_word word word' _ says (ap refusal_text same ∙ says') in
    (refl, ap (λ (w : List ℕ). refusal_line number w ++ files_text (files_of s)) words)

one_schedule : (lines : List Numbered) (one two : Outcome) (a b : List ℕ) → PlaysSchedule lines one a → PlaysSchedule lines two b → (one ≡ two) × (a ≡ b)
one_schedule [] one two a b empty empty = (refl, refl)
one_schedule (first ∷ others) one two a b (setup_refused setup says bad) (setup_refused setup' says' bad') = (refl, refl)
one_schedule (first ∷ others) one two a b (setup_refused setup says bad) (played setup' says' good plays) =
    absurd (bad (subst IsWorldSetup (same_setup setup setup' _ says says') good))
one_schedule (first ∷ others) one two a b (played setup says good plays) (setup_refused setup' says' bad) =
    absurd (bad (subst IsWorldSetup (same_setup setup' setup _ says' says) good))
one_schedule (first ∷ others) one two a b (played setup says good plays) (played setup' says' good' plays') =
    one_run (initial_state setup) 1 (events_of others) one two a b plays
    (subst (λ (x : WorldSetup). Plays (initial_state x) 1 (events_of others) two b) (same_setup setup setup' _ says says') plays')

pub one_text : (input a b : List ℕ) (one two : Outcome) → PlaysSchedule (numbered_lines input) one a → PlaysSchedule (numbered_lines input) two b → (one ≡ two) × (a ≡ b)
one_text input a b one two = one_schedule (numbered_lines input) one two a b
