use Rattle.std.proofs.Common.{◌∙◌, ap}
use Rattle.clap.specs.Words.{found_of}
use Rattle.live_cli.specs.Words.{is_word}
use Rattle.live_cli.proofs.GivenLemmas.{given_rows}
use Rattle.live_cli.proofs.words.is_given.Goals as goal

pub returns : goal.returns
returns c = c.is_word.ensures ∙ ap is_word c.value_source.ensures ∙ given_rows (found_of c.args.matches.now) c.args.name.now
