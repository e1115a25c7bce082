use Rattle.std.proofs.Common.{◌∙◌, ap, sym, subst, List, map, string_bytes}
use Rattle.std.specs.Prelude.{IfErr, IfSome, Option, option_and_then}
use Rattle.clap.specs.Words.{App, HasKind, Row, Text, fault_of, is_simple_and_free, found_of, rows_of}
use Rattle.live_cli.specs.Words.{daplive, end_in as end_of_rows}
use Rattle.live_cli.specs.Inner.Spelling.{IsMisspelt}
use Rattle.live_cli.proofs.RunLemmas.{fails_with, is_free_line, subcommand_is}
use Rattle.live_cli.proofs.words.read_words.Goals as goal

pub returns-in_err-matches-clause-kinds : goal.returns-in_err-matches-clause-kinds
returns-in_err-matches-clause-kinds c =
    let words = map string_bytes c.args.words.now in
    let line = c.in_ok-command.ensures.line in
    fails_with c.from_residual-in_err-matches.result (fault_of daplive words) c.in_err-matches.field-0.0 c.from_residual-in_err-matches.ensures.1
    (subst (λ (a : App). HasKind (fault_of a words) c.in_err-matches.field-0.0) line.app (c.in_err-matches.ensures.kinds (ap is_simple_and_free line.app ∙ is_free_line)))

pub returns-clause-kinds : goal.returns-clause-kinds
returns-clause-kinds c =
    let words = map string_bytes c.args.words.now in
    let line = c.in_ok-command.ensures.line in
    ap (λ (a : App). fault_of a words) (sym line.app) ∙ c.in_ok-matches.ensures.kinds (ap is_simple_and_free line.app ∙ is_free_line)

pub returns-clause-options : goal.returns-clause-options
returns-clause-options c =
    let words = map string_bytes c.args.words.now in
    let found = c.in-Some in
    let is = subcommand_is c.in_ok-command.command c.in_ok-matches.matches words found.name.now (rows_of (found_of found.matches.now))
    c.in_ok-command.ensures.line.app c.in_ok-matches.ensures.matches found.ensures.name found.ensures.rows in
    c.end_in.ensures.options ∙ sym (ap (option_and_then end_of_rows) is)

pub returns-clause-misspelt : goal.returns-clause-misspelt
returns-clause-misspelt c =
    let words = map string_bytes c.args.words.now in
    let found = c.in-Some in
    let is = subcommand_is c.in_ok-command.command c.in_ok-matches.matches words found.name.now (rows_of (found_of found.matches.now))
    c.in_ok-command.ensures.line.app c.in_ok-matches.ensures.matches found.ensures.name found.ensures.rows in
    subst (λ (o : Option (Text × List Row)). IfErr c.end_in.result (λ m. IfSome o (λ found. IsMisspelt found.1 m))) (sym is) c.end_in.ensures.misspelt
