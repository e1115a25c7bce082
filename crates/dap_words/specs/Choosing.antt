-- Which command the words of the program name.
use Rattle.std.specs.Prelude.{◌≡◌, [], ◌∷◌, List, codes, Some, option_map}
use Rattle.std.specs.List.{fold}
use Rattle.clap.specs.Words.{App, Text, new_app, with_subcommand, subcommand_of}
use Rattle.linewise.specs.Programs.{new_program}
use Rattle.dap_words.specs.declared.choice.Choice.{Choice}
use Rattle.dap_words.specs.declared.choice.Choice.TheVariants.{Show, Msg, Run}

-- the name of a command
abbrev pub word_of : Choice → Text
word_of Show = codes "show"
word_of Msg = codes "msg"
word_of Run = codes "run"

-- the command line: one of three subcommands
abbrev pub dapnsp : App
dapnsp = fold (λ app name. with_subcommand app ((new_app name).top)) (new_program (codes "dapnsp"))
    (word_of Show ∷ word_of Msg ∷ word_of Run ∷ [])

-- `clap` finds the subcommand of this command in the words
abbrev pub Chooses : List Text → Choice → Type 0
Chooses words choice = option_map (λ p. p.0) (subcommand_of dapnsp words) ≡ Some (word_of choice)
