use Rattle.std.proofs.Common.{◌∙◌, ap, ℕ, List}
use Rattle.std.specs.List.{list_any}
use Rattle.std.specs.Str.Lines.{lines}
use Rattle.decnet_frames.specs.Founds.{founds_of_file}
use Rattle.decnet_frames.specs.Lines.{founds_of_lines, is_refused}
use Rattle.decnet_frames.specs.declared.ways.Between.TheVariants.{All}
use Rattle.cap_cli.proofs.LawLemmas.{all_taken, all_written, are_lines}
use Rattle.cap_cli.proofs.laws.lines_of_a_file_are_listed_as_the_file.Goals as goal

pub returns-clause-form : goal.returns-clause-form
returns-clause-form c = λ between records written rest are. are_lines (founds_of_file between records) written rest are

pub returns-clause-packets : goal.returns-clause-packets
returns-clause-packets c = λ between records written rest end founds bytes are have.
    let input = all_written (founds_of_file between records) written rest are in
    let read = c.written_lines_are_read.ensures.read between records bytes in
    let clean = c.written_lines_are_read.ensures.clean between records bytes in (
      have.0 ∙ ap (λ (l : List ℕ). founds_of_lines All l) input ∙ all_taken _ ∙ read,
      have.2 ∙ ap (λ (l : List ℕ). list_any is_refused (lines l)) input ∙ clean,
    )
