-- What the program's command line makes of words.
use Rattle.std.proofs.Common.{◌≡◌, ◌⊎◌, inl, inr, ℕ, List, [], Bool, true, false, refl, ap, ◌∙◌, codes, Option, Some, None, option_map, cond}
use Rattle.std.specs.Prelude.{Box, is_some, slice_get, unwrap_or}
use Rattle.clap.specs.Words.{Text, Row, subcommand_of, subcommand_rows_of, subcommand_name_of, has_subcommand, is_simple, is_simple_and_free}
use Rattle.clap.specs.Simple.{built, entered, label_of, rows_at, subcommand_rows, argument_words, names_of, new_app, Shape}
use Rattle.clap.specs.Walk.{answers_to, stop_after}
use Rattle.std.specs.Box.{box_value}
use Rattle.clap.specs.declared.parser.matches.ArgMatches.{ArgMatches}
use Rattle.clap.specs.declared.parser.matches.ArgMatches.TheViews.{out-ArgMatches, out-SubCommand}
use Rattle.clap.specs.declared.parser.matches.SubCommand.{SubCommand}
use Rattle.clap.proofs.OnLiterals.{clap_on_literals}
use Rattle.dap_words.specs.declared.choice.Choice.{Choice}
use Rattle.dap_words.specs.declared.choice.Choice.TheVariants.{Show, Msg, Run}
use Rattle.dap_words.specs.Choosing.{Chooses, dapnsp, word_of}

pub name_in : Option (Text × List Row) → Option Text
name_in = option_map (λ p. p.0)

pub is_simple_line : is_simple dapnsp ≡ true
unfolding clap_on_literals
is_simple_line = refl

-- the name is that of a command, or there is none
pub IsOne : Option Text → Type 0
IsOne name = (name ≡ None) ⊎ ((choice : Choice) × (name ≡ Some (word_of choice)))

one_or_next : (b : Bool) (f : Shape → Text × List Row) (s : Shape) (choice : Choice) (next : Option Shape) → (f s).0 ≡ word_of choice
    → IsOne (name_in (option_map f next)) → IsOne (name_in (option_map f (cond b (Some s) next)))
unfolding name_in IsOne
one_or_next true f s choice next is others = inr (choice, ap Some is)
one_or_next false f s choice next is others = others

shape_at : ℕ → Shape
shape_at index = unwrap_or (slice_get (built dapnsp).subs index) (new_app []).top

entered_one : (stop : Option (Text × List Text)) → IsOne (name_in (entered (built dapnsp) stop))
unfolding name_in shape_at IsOne
entered_one None = inl refl
entered_one (Some p) =
    one_or_next (answers_to p.0 (label_of (shape_at 0))) (λ s. rows_at s p.1) (shape_at 0) Show _ refl
    (one_or_next (answers_to p.0 (label_of (shape_at 1))) (λ s. rows_at s p.1) (shape_at 1) Msg _ refl
    (one_or_next (answers_to p.0 (label_of (shape_at 2))) (λ s. rows_at s p.1) (shape_at 2) Run None refl (inl refl)))

module _ {Z : Type 0} where
  no_name : (o : Option (Box SubCommand Z)) → name_in (subcommand_rows o) ≡ None → is_some o ≡ true → ⊥
  unfolding name_in
  no_name None none met = let no : ⊥ = cc in no
  no_name (Some found) none met = let no : ⊥ = cc in no

  same_name : (o : Option (Box SubCommand Z)) → option_map (λ b. (out-SubCommand (box_value b)).name.now) o ≡ name_in (subcommand_rows o)
  unfolding name_in
  same_name None = refl
  same_name (Some found) = refl

-- a parse that met a subcommand met one of the three
pub chose_one : (words : List Text) (m : ArgMatches) → subcommand_rows_of m ≡ subcommand_of dapnsp words → has_subcommand m ≡ true
    → (choice : Choice) × (name_in (subcommand_of dapnsp words) ≡ Some (word_of choice)) × (subcommand_name_of m ≡ Some (word_of choice))
unfolding IsOne
chose_one words m same met =
    elim (entered_one (stop_after (built dapnsp).top.rules (names_of (built dapnsp)) (argument_words dapnsp words))) [
      | inl none ↦ absurd (no_name (out-ArgMatches m).subcommand (ap name_in same ∙ none) met)
      | inr some ↦ (some.0, some.1, same_name (out-ArgMatches m).subcommand ∙ ap name_in same ∙ some.1)
    ]

pub is_free_line : is_simple_and_free dapnsp ≡ true
unfolding clap_on_literals
is_free_line = refl

-- a word of a command is one of these
pub one_of_three : (choice : Choice) (word : Text) → Some word ≡ Some (word_of choice)
    → (word ≡ codes "show" → ⊥) → (word ≡ codes "msg" → ⊥) → (word ≡ codes "run" → ⊥) → ⊥
one_of_three Show word same show msg run = show cc
one_of_three Msg word same show msg run = msg cc
one_of_three Run word same show msg run = run cc
