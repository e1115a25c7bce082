-- Each option before the one that is told is right.
use Rattle.std.proofs.Common.{[], ◌∷◌, List, drop}
use Rattle.std.specs.Prelude.{codes}
use Rattle.clap.specs.Words.{Row, Text, found_of, rows_of}
use Rattle.live_cli.specs.declared.words.Digits.{Digits}
use Rattle.live_cli.specs.declared.words.Digits.TheVariants.{Abilities, Address, Bytes, Code, Number}
use Rattle.live_cli.specs.declared.words.Role.TheVariants.{Serve}
use Rattle.live_cli.specs.Inner.Spelling.{IsFirstWrong, link_spellings, name_spellings, own_spellings, spellings}
use Rattle.live_cli.proofs.FirstLemmas.{among, later, of_server, passed_on}
use Rattle.live_cli.proofs.words.options_in.Goals as goal

pub returns-in_err-local-clause-first : goal.returns-in_err-local-clause-first
returns-in_err-local-clause-first c =
    let rows : List Row = rows_of (found_of c.args.matches.now) in
    let all : List (Text × Digits) = spellings c.args.role in
    let m = c.in_err-local.field-0.0 in
    passed_on c.from_residual.result m (IsFirstWrong all rows) c.from_residual.ensures.1
    (among rows ((codes "local", Address) ∷ []) (drop 1 all) m c.in_err-local.ensures.first)

pub returns-in_err-remote-clause-first : goal.returns-in_err-remote-clause-first
returns-in_err-remote-clause-first c =
    let rows : List Row = rows_of (found_of c.args.matches.now) in
    let all : List (Text × Digits) = spellings c.args.role in
    let m = c.in_err-remote.field-0.0 in
    passed_on c.from_residual-in_err-remote.result m (IsFirstWrong all rows) c.from_residual-in_err-remote.ensures.1
    (later rows ((codes "local", Address) ∷ []) (drop 1 all) m c.in_ok-local.ensures.right
    (among rows ((codes "remote", Address) ∷ []) (drop 2 all) m c.in_err-remote.ensures.first))

pub returns-in_err-segment-clause-first : goal.returns-in_err-segment-clause-first
returns-in_err-segment-clause-first c =
    let rows : List Row = rows_of (found_of c.args.matches.now) in
    let all : List (Text × Digits) = spellings c.args.role in
    let m = c.in_err-segment.field-0.0 in
    passed_on c.from_residual-in_err-segment.result m (IsFirstWrong all rows) c.from_residual-in_err-segment.ensures.1
    (later rows ((codes "local", Address) ∷ []) (drop 1 all) m c.in_ok-local.ensures.right
    (later rows ((codes "remote", Address) ∷ []) (drop 2 all) m c.in_ok-remote.ensures.right
    (among rows ((codes "segment", Number) ∷ []) (drop 3 all) m c.in_err-segment.ensures.first)))

pub returns-in_err-window-clause-first : goal.returns-in_err-window-clause-first
returns-in_err-window-clause-first c =
    let rows : List Row = rows_of (found_of c.args.matches.now) in
    let all : List (Text × Digits) = spellings c.args.role in
    let m = c.in_err-window.field-0.0 in
    passed_on c.from_residual-in_err-window.result m (IsFirstWrong all rows) c.from_residual-in_err-window.ensures.1
    (later rows ((codes "local", Address) ∷ []) (drop 1 all) m c.in_ok-local.ensures.right
    (later rows ((codes "remote", Address) ∷ []) (drop 2 all) m c.in_ok-remote.ensures.right
    (later rows ((codes "segment", Number) ∷ []) (drop 3 all) m c.in_ok-segment.ensures.right
    (among rows ((codes "window", Number) ∷ []) (drop 4 all) m c.in_err-window.ensures.first))))

pub returns-in_err-number_in-clause-first : goal.returns-in_err-number_in-clause-first
returns-in_err-number_in-clause-first c =
    let rows : List Row = rows_of (found_of c.args.matches.now) in
    let all : List (Text × Digits) = spellings c.args.role in
    let m = c.in_err-number_in.field-0.0 in
    passed_on c.from_residual-in_err-number_in.result m (IsFirstWrong all rows) c.from_residual-in_err-number_in.ensures.1
    (later rows ((codes "local", Address) ∷ []) (drop 1 all) m c.in_ok-local.ensures.right
    (later rows ((codes "remote", Address) ∷ []) (drop 2 all) m c.in_ok-remote.ensures.right
    (later rows ((codes "segment", Number) ∷ []) (drop 3 all) m c.in_ok-segment.ensures.right
    (later rows ((codes "window", Number) ∷ []) (drop 4 all) m c.in_ok-window.ensures.right
    (among rows ((codes "buffer", Number) ∷ []) (drop 5 all) m c.in_err-number_in.ensures.first)))))

pub returns-in_err-ostype-clause-first : goal.returns-in_err-ostype-clause-first
returns-in_err-ostype-clause-first c =
    let rows : List Row = rows_of (found_of c.args.matches.now) in
    let all : List (Text × Digits) = spellings c.args.role in
    let m = c.in_err-ostype.field-0.0 in
    passed_on c.from_residual-in_err-ostype.result m (IsFirstWrong all rows) c.from_residual-in_err-ostype.ensures.1
    (later rows ((codes "local", Address) ∷ []) (drop 1 all) m c.in_ok-local.ensures.right
    (later rows ((codes "remote", Address) ∷ []) (drop 2 all) m c.in_ok-remote.ensures.right
    (later rows ((codes "segment", Number) ∷ []) (drop 3 all) m c.in_ok-segment.ensures.right
    (later rows ((codes "window", Number) ∷ []) (drop 4 all) m c.in_ok-window.ensures.right
    (later rows ((codes "buffer", Number) ∷ []) (drop 5 all) m c.in_ok-number_in.ensures.right
    (among rows ((codes "ostype", Code) ∷ []) (drop 6 all) m c.in_err-ostype.ensures.first))))))

pub returns-in_err-filesys-clause-first : goal.returns-in_err-filesys-clause-first
returns-in_err-filesys-clause-first c =
    let rows : List Row = rows_of (found_of c.args.matches.now) in
    let all : List (Text × Digits) = spellings c.args.role in
    let m = c.in_err-filesys.field-0.0 in
    passed_on c.from_residual-in_err-filesys.result m (IsFirstWrong all rows) c.from_residual-in_err-filesys.ensures.1
    (later rows ((codes "local", Address) ∷ []) (drop 1 all) m c.in_ok-local.ensures.right
    (later rows ((codes "remote", Address) ∷ []) (drop 2 all) m c.in_ok-remote.ensures.right
    (later rows ((codes "segment", Number) ∷ []) (drop 3 all) m c.in_ok-segment.ensures.right
    (later rows ((codes "window", Number) ∷ []) (drop 4 all) m c.in_ok-window.ensures.right
    (later rows ((codes "buffer", Number) ∷ []) (drop 5 all) m c.in_ok-number_in.ensures.right
    (later rows ((codes "ostype", Code) ∷ []) (drop 6 all) m c.in_ok-ostype.ensures.right
    (among rows ((codes "filesys", Code) ∷ []) (drop 7 all) m c.in_err-filesys.ensures.first)))))))

pub returns-in_err-syscap-clause-first : goal.returns-in_err-syscap-clause-first
returns-in_err-syscap-clause-first c =
    let rows : List Row = rows_of (found_of c.args.matches.now) in
    let all : List (Text × Digits) = spellings c.args.role in
    let m = c.in_err-syscap.field-0.0 in
    passed_on c.from_residual-in_err-syscap.result m (IsFirstWrong all rows) c.from_residual-in_err-syscap.ensures.1
    (later rows ((codes "local", Address) ∷ []) (drop 1 all) m c.in_ok-local.ensures.right
    (later rows ((codes "remote", Address) ∷ []) (drop 2 all) m c.in_ok-remote.ensures.right
    (later rows ((codes "segment", Number) ∷ []) (drop 3 all) m c.in_ok-segment.ensures.right
    (later rows ((codes "window", Number) ∷ []) (drop 4 all) m c.in_ok-window.ensures.right
    (later rows ((codes "buffer", Number) ∷ []) (drop 5 all) m c.in_ok-number_in.ensures.right
    (later rows ((codes "ostype", Code) ∷ []) (drop 6 all) m c.in_ok-ostype.ensures.right
    (later rows ((codes "filesys", Code) ∷ []) (drop 7 all) m c.in_ok-filesys.ensures.right
    (among rows ((codes "syscap", Abilities) ∷ []) (drop 8 all) m c.in_err-syscap.ensures.first))))))))

pub returns-in_err-waiting-clause-first : goal.returns-in_err-waiting-clause-first
returns-in_err-waiting-clause-first c =
    let rows : List Row = rows_of (found_of c.args.matches.now) in
    let all : List (Text × Digits) = spellings c.args.role in
    let own : List (Text × Digits) = own_spellings Serve in
    let m = c.in_err-waiting.field-0.0 in
    passed_on c.from_residual-in_err-waiting.result m (IsFirstWrong all rows) c.from_residual-in_err-waiting.ensures.1
    (later rows ((codes "local", Address) ∷ []) (drop 1 all) m c.in_ok-local.ensures.right
    (later rows ((codes "remote", Address) ∷ []) (drop 2 all) m c.in_ok-remote.ensures.right
    (later rows ((codes "segment", Number) ∷ []) (drop 3 all) m c.in_ok-segment.ensures.right
    (later rows ((codes "window", Number) ∷ []) (drop 4 all) m c.in_ok-window.ensures.right
    (later rows ((codes "buffer", Number) ∷ []) (drop 5 all) m c.in_ok-number_in.ensures.right
    (later rows ((codes "ostype", Code) ∷ []) (drop 6 all) m c.in_ok-ostype.ensures.right
    (later rows ((codes "filesys", Code) ∷ []) (drop 7 all) m c.in_ok-filesys.ensures.right
    (later rows ((codes "syscap", Abilities) ∷ []) (drop 8 all) m c.in_ok-syscap.ensures.right
    (of_server c.args.role rows m c.in_err-waiting.ensures.served
    (among rows ((codes "waiting", Bytes) ∷ []) (drop 1 own) m c.in_err-waiting.ensures.first))))))))))

pub returns-in_err-links-clause-first : goal.returns-in_err-links-clause-first
returns-in_err-links-clause-first c =
    let rows : List Row = rows_of (found_of c.args.matches.now) in
    let all : List (Text × Digits) = spellings c.args.role in
    let own : List (Text × Digits) = own_spellings Serve in
    let m = c.in_err-links.field-0.0 in
    passed_on c.from_residual-in_err-links.result m (IsFirstWrong all rows) c.from_residual-in_err-links.ensures.1
    (later rows ((codes "local", Address) ∷ []) (drop 1 all) m c.in_ok-local.ensures.right
    (later rows ((codes "remote", Address) ∷ []) (drop 2 all) m c.in_ok-remote.ensures.right
    (later rows ((codes "segment", Number) ∷ []) (drop 3 all) m c.in_ok-segment.ensures.right
    (later rows ((codes "window", Number) ∷ []) (drop 4 all) m c.in_ok-window.ensures.right
    (later rows ((codes "buffer", Number) ∷ []) (drop 5 all) m c.in_ok-number_in.ensures.right
    (later rows ((codes "ostype", Code) ∷ []) (drop 6 all) m c.in_ok-ostype.ensures.right
    (later rows ((codes "filesys", Code) ∷ []) (drop 7 all) m c.in_ok-filesys.ensures.right
    (later rows ((codes "syscap", Abilities) ∷ []) (drop 8 all) m c.in_ok-syscap.ensures.right
    (of_server c.args.role rows m c.in_err-links.ensures.served
    (later rows ((codes "waiting", Bytes) ∷ []) (drop 1 own) m (c.in_ok-waiting.ensures.right c.in_err-links.ensures.served)
    (among rows link_spellings (drop 4 own) m c.in_err-links.ensures.first)))))))))))

pub returns-in_err-names-clause-first : goal.returns-in_err-names-clause-first
returns-in_err-names-clause-first c =
    let rows : List Row = rows_of (found_of c.args.matches.now) in
    let all : List (Text × Digits) = spellings c.args.role in
    let own : List (Text × Digits) = own_spellings Serve in
    let m = c.in_err-names.field-0.0 in
    passed_on c.from_residual-in_err-names.result m (IsFirstWrong all rows) c.from_residual-in_err-names.ensures.1
    (later rows ((codes "local", Address) ∷ []) (drop 1 all) m c.in_ok-local.ensures.right
    (later rows ((codes "remote", Address) ∷ []) (drop 2 all) m c.in_ok-remote.ensures.right
    (later rows ((codes "segment", Number) ∷ []) (drop 3 all) m c.in_ok-segment.ensures.right
    (later rows ((codes "window", Number) ∷ []) (drop 4 all) m c.in_ok-window.ensures.right
    (later rows ((codes "buffer", Number) ∷ []) (drop 5 all) m c.in_ok-number_in.ensures.right
    (later rows ((codes "ostype", Code) ∷ []) (drop 6 all) m c.in_ok-ostype.ensures.right
    (later rows ((codes "filesys", Code) ∷ []) (drop 7 all) m c.in_ok-filesys.ensures.right
    (later rows ((codes "syscap", Abilities) ∷ []) (drop 8 all) m c.in_ok-syscap.ensures.right
    (of_server c.args.role rows m c.in_err-names.ensures.served
    (later rows ((codes "waiting", Bytes) ∷ []) (drop 1 own) m (c.in_ok-waiting.ensures.right c.in_err-names.ensures.served)
    (later rows link_spellings (drop 4 own) m (c.in_ok-links.ensures.right c.in_err-names.ensures.served)
    (among rows name_spellings (drop 7 own) m c.in_err-names.ensures.first))))))))))))
