-- How the command line is built.
use Rattle.std.specs.Prelude.{◌≡◌, true, false}
use Rattle.clap.specs.declared.builder.command.Command.{Command}
use Rattle.clap.specs.declared.builder.command.Command.TheViews.{out-Command}
use Rattle.clap.specs.Words.{app_of, Text, new_app, with_subcommand}
use Rattle.dap_words.specs.Choosing.{dapnsp}

-- a command that is the program's command line
pub record IsDapnspLine (command : Command) : Type 0 where
  pub app : app_of command ≡ dapnsp
  pub local : (out-Command command).has_globals ≡ false
  pub required : (out-Command command).subcommand_required ≡ true

-- the command has one subcommand more than another
pub record HasOneMore (before : Command) (name : Text) (command : Command) : Type 0 where
  pub app : app_of command ≡ with_subcommand (app_of before) ((new_app name).top)
  pub local : (out-Command before).has_globals ≡ false → (out-Command command).has_globals ≡ false
  pub required : (out-Command command).subcommand_required ≡ (out-Command before).subcommand_required
