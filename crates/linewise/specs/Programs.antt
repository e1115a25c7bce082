-- What the command lines of both programs have in common.
use Rattle.std.specs.Prelude.{true}
use Rattle.clap.specs.Words.{App, Text, new_app}
use Rattle.clap.specs.Simple.{on_top}

-- a program that needs a subcommand, and has none for help
abbrev pub new_program : Text → App
new_program name = on_top (λ top. record top { subcommand_required = true; disable_help_subcommand = true }) (new_app name)
