use Rattle.std.proofs.Common.{◌∙◌, subst, sym}
use Rattle.decnet_frames.specs.HexLines.{all_hex_lines}
use Rattle.decnet_frames.specs.Founds.{founds_of_file}
use Rattle.decnet_frames.specs.Lines.{founds_of_lines}
use Rattle.decnet_frames.specs.declared.ways.Between.TheVariants.{All}
use Rattle.cap_cli.specs.Running.{Founds}
use Rattle.cap_cli.specs.Tasks.{TextsOf, chosen_of}
use Rattle.cap_cli.proofs.InputLemmas.{FoundBytes, OneReading, frames_bytes, lines_bytes, one_file, one_of_lines, one_text_by}
use Rattle.cap_cli.proofs.LawLemmas.{all_taken}
use Rattle.cap_cli.proofs.laws.inputs_have_one_text.Goals as goal

pub returns-clause-lines : goal.returns-clause-lines
returns-clause-lines c = λ options input end other founds others written rest text ends have texts have' texts'.
    let same = one_of_lines options.between input end other founds others have have' in
    let bytes : FoundBytes founds = subst FoundBytes (sym have.0) (lines_bytes options.between input) in
    let moved = subst (λ (f : Founds). TextsOf options f text ends) (sym same.1) texts' in
    let one = one_text_by options.lines options founds written rest text ends (c.packets_have_one_listing.ensures (chosen_of options) founds written rest text ends bytes) texts moved in
    (same.0, same.1, one.0, one.1)

pub returns-clause-file : goal.returns-clause-file
returns-clause-file c = λ options input end other founds others written rest text ends are have texts have' texts'.
    let laws = c.files_have_one_reading.ensures in
    let law : OneReading = record { whole = laws.whole; stops = laws.stops; cut = laws.cut; whole_or_stops = laws.whole_or_stops; whole_or_cut = laws.whole_or_cut; cut_or_stops = laws.cut_or_stops } in
    let same = one_file law options.between input end other founds others have have' in
    let records = have.0 in
    let read = c.written_lines_are_read.ensures.read options.between records (frames_bytes end.fault input records have.1 are) in
    let all : FoundBytes (founds_of_lines All (all_hex_lines (founds_of_file options.between records))) = lines_bytes All (all_hex_lines (founds_of_file options.between records)) in
    let bytes : FoundBytes founds = subst FoundBytes (all_taken _ ∙ read ∙ sym have.2) all in
    let moved = subst (λ (f : Founds). TextsOf options f text ends) (sym same.1) texts' in
    let one = one_text_by options.lines options founds written rest text ends (c.packets_have_one_listing.ensures (chosen_of options) founds written rest text ends bytes) texts moved in
    (same.0, same.1, one.0, one.1)
