-- What the proofs of callers cite: which command words name, and that they name one.
use Rattle.std.proofs.Common.{◌≡◌, List, [], ◌∷◌, refl, ap, ◌∙◌, sym, arith, Some}
use Rattle.std.specs.Prelude.{slice_index}
use Rattle.clap.specs.Words.{Text, fault_of}
use Rattle.clap.proofs.OnLiterals.{clap_on_literals}
use Rattle.dap_words.specs.declared.choice.Choice.{Choice}
use Rattle.dap_words.specs.declared.choice.Choice.TheVariants.{Show, Msg, Run}
use Rattle.dap_words.specs.Choosing.{Chooses, dapnsp, word_of}

-- on the words of a command
pub no_fault : (program : Text) (choice : Choice) → fault_of dapnsp (program ∷ word_of choice ∷ []) ≡ []
unfolding clap_on_literals
no_fault program Show = refl
no_fault program Msg = refl
no_fault program Run = refl

pub chooses : (program : Text) (choice : Choice) → Chooses (program ∷ word_of choice ∷ []) choice
unfolding clap_on_literals
chooses program Show = refl
chooses program Msg = refl
chooses program Run = refl

apart : {X : Type 0} (a b : Text) → a ≡ b → (slice_index a 0 ≡ slice_index b 0 → ⊥) → X
apart a b same differ = absurd (differ (ap (λ t. slice_index t 0) same))

-- two commands have two words
pub same_choice : (a b : Choice) → word_of a ≡ word_of b → a ≡ b
same_choice Show Show same = refl
same_choice Show Msg same = apart (word_of Show) (word_of Msg) same (omega arith)
same_choice Show Run same = apart (word_of Show) (word_of Run) same (omega arith)
same_choice Msg Show same = apart (word_of Msg) (word_of Show) same (omega arith)
same_choice Msg Msg same = refl
same_choice Msg Run same = apart (word_of Msg) (word_of Run) same (omega arith)
same_choice Run Show same = apart (word_of Run) (word_of Show) same (omega arith)
same_choice Run Msg same = apart (word_of Run) (word_of Msg) same (omega arith)
same_choice Run Run same = refl

pub one_choice : (words : List Text) (a b : Choice) → Chooses words a → Chooses words b → a ≡ b
one_choice words a b first second = let same : Some (word_of a) ≡ Some (word_of b) = sym first ∙ second in same_choice a b cc
