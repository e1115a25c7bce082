-- What an admissible request finds: every answer was read.
use Rattle.std.proofs.Common.{◌≡◌, suc, refl, sym, ◌∙◌, true, false, subst, ap, append_assoc, arith, List, [], ◌∷◌, ◌++◌, length, map}
use Rattle.std.proofs.lemmas.List.{append-nil}
use Rattle.dap_accessed.specs.declared.setup.ServerSetup.{ServerSetup}
use Rattle.dap_msg.specs.declared.message.Configuration.{Configuration}
use Rattle.dap_msg.specs.declared.message.Message.{Message}
use Rattle.dap_msg.specs.declared.items.Item.{Item}
use Rattle.dap_msg.specs.declared.items.Item.TheVariants.{Whole}
use Rattle.dap_accessed.specs.Groups.{Answers, answers_added}
use Rattle.dap_accessed.proofs.ForCallers.{Answers-more}
use Rattle.dap_accessing.specs.Request.{Request}
use Rattle.dap_accessing.specs.Told.{Hearing, Reports, Waits, Unexpected, hear, Told, Due, NothingDue, AnswersDue, Wrong, due_after, is_unexpected}
use Rattle.dap_accessing.specs.Phase.{IsNoneDue, IsAdmissible}
use Rattle.dap_accessing.proofs.ForCallers.{Stays, stays, told_by, Told-told_by}
use Rattle.dap_accessing.proofs.ForCallers.{due_by, due-due_by, each_told}
use Rattle.dap_accessed.specs.Standing.{Files}
use Rattle.dap_end.specs.Agreement.{asked_answers, AreAllAdmissible}
use Rattle.dap_end.specs.Agreement.{AreExpected}

stays_out_of_sequence_by : (r : Request) (rs : List Request) (answers : List Item) (answer : Item) (first : Hearing) → Stays first (hear r (answers ++ answer ∷ [])) (answer ∷ [])
    → length (told_by rs first) ≡ suc (length rs) → ((rest : List Item) → length (Told rs rest) ≡ length rs → due_after rs (rest ++ answer ∷ []) ≡ Wrong)
    → due_by r rs (answers ++ answer ∷ []) (hear r (answers ++ answer ∷ [])) ≡ Wrong
stays_out_of_sequence_by r rs answers answer (Reports done rest) s e on = ap (due_by r rs (answers ++ answer ∷ [])) s ∙ on rest (omega arith)
stays_out_of_sequence_by r rs answers answer Waits s e on = let no : ⊥ = omega arith in absurd no
stays_out_of_sequence_by r rs answers answer Unexpected s e on = let no : ⊥ = omega arith in absurd no

-- where there is a report for each request, one answer more is out of sequence
pub stays_out_of_sequence : (rs : List Request) (answers : List Item) (answer : Item) → length (Told rs answers) ≡ length rs → due_after rs (answers ++ answer ∷ []) ≡ Wrong
stays_out_of_sequence [] [] answer e = refl
stays_out_of_sequence [] (a ∷ answers) answer e = refl
stays_out_of_sequence (r ∷ rs) answers answer e =
    due-due_by r rs (answers ++ answer ∷ [])
    ∙ stays_out_of_sequence_by r rs answers answer (hear r answers) (stays r answers (answer ∷ [])) (ap length (sym (Told-told_by r rs answers)) ∙ e) (λ rest f. stays_out_of_sequence rs rest answer f)

unexpected_by : (d : Due) → d ≡ Wrong → (elim d [ NothingDue ↦ false | AnswersDue _ _ ↦ false | Wrong ↦ true ]) ≡ true
unexpected_by NothingDue e = absurd cc
unexpected_by (AnswersDue r l) e = absurd cc
unexpected_by Wrong e = refl

pub is_unexpected-then : (rs : List Request) (answers : List Item) (answer : Item) → length (Told rs answers) ≡ length rs → is_unexpected rs answers answer ≡ true
is_unexpected-then rs answers answer e = unexpected_by (due_after rs (answers ++ answer ∷ [])) (stays_out_of_sequence rs answers answer e)

-- a front of the answers that leaves no report to come is all of them
left_by : (own_a : Configuration) (own_b : ServerSetup) (first : Files) (rs : List Request) (front back : List Item) → AreExpected own_a own_b first rs → front ++ back ≡ map Whole (asked_answers own_a own_b first rs)
    → length (Told rs front) ≡ length rs → back ≡ []
left_by own_a own_b first rs front [] expected e told = refl
left_by own_a own_b first rs front (answer ∷ back) expected e told = absurd (expected front back answer e (is_unexpected-then rs front answer told))

pub all_told : (own_a : Configuration) (own_b : ServerSetup) (first : Files) (rs : List Request) (front back : List Item) → AreExpected own_a own_b first rs → front ++ back ≡ map Whole (asked_answers own_a own_b first rs)
    → length (Told rs front) ≡ length rs → front ≡ map Whole (asked_answers own_a own_b first rs)
all_told own_a own_b first rs front back expected e told =
    sym (append-nil front) ∙ ap (λ (l : List Item). front ++ l) (sym (left_by own_a own_b first rs front back expected e told)) ∙ e

-- none is left after a front after which no report is due
pub none_left : (own_a : Configuration) (own_b : ServerSetup) (first : Files) (rs : List Request) (front back : List Item) → AreExpected own_a own_b first rs → front ++ back ≡ map Whole (asked_answers own_a own_b first rs)
    → IsNoneDue rs front → back ≡ []
none_left own_a own_b first rs front back expected e none = left_by own_a own_b first rs front back expected e (each_told rs front none)

pub all_read : (own_a : Configuration) (own_b : ServerSetup) (first : Files) (rs : List Request) (front back : List Item) → AreExpected own_a own_b first rs → front ++ back ≡ map Whole (asked_answers own_a own_b first rs)
    → IsNoneDue rs front → front ≡ map Whole (asked_answers own_a own_b first rs)
all_read own_a own_b first rs front back expected e none = all_told own_a own_b first rs front back expected e (each_told rs front none)

-- the answers to a front of items are a front of the answers
pub answers-prefix : (own : ServerSetup) (first : Files) (items more : List Item) → (rest : List Message) × (Answers own first items ++ rest ≡ Answers own first (items ++ more))
answers-prefix own first items [] = ([], append-nil (Answers own first items) ∙ ap (Answers own first) (sym (append-nil items)))
answers-prefix own first items (x ∷ more) =
    let next = answers-prefix own first (items ++ x ∷ []) more in
    let here = answers_added own first items x in (
      here ++ next.0,
      sym (append_assoc (Answers own first items) here next.0) ∙ ap (λ (l : List Message). l ++ next.0) (sym (Answers-more own first items x)) ∙ next.1 ∙ ap (Answers own first) (append_assoc items (x ∷ []) more),
    )

-- one request more that was admissible
pub admissible-more : (own_a : Configuration) (own_b : ServerSetup) (first : Files) (before rs : List Request) (r : Request) → AreAllAdmissible own_a own_b first before rs
    → IsAdmissible own_a (before ++ rs) (map Whole (asked_answers own_a own_b first (before ++ rs))) r → AreAllAdmissible own_a own_b first before (rs ++ r ∷ [])
admissible-more own_a own_b first before [] r all m =
    (subst (λ (l : List Request). IsAdmissible own_a l (map Whole (asked_answers own_a own_b first l)) r) (append-nil before) m, tt)
admissible-more own_a own_b first before (q ∷ rs) r all m = (
  all.0,
  admissible-more own_a own_b first (before ++ q ∷ []) rs r all.1
      (subst (λ (l : List Request). IsAdmissible own_a l (map Whole (asked_answers own_a own_b first l)) r) (sym (append_assoc before (q ∷ []) rs)) m),
)
