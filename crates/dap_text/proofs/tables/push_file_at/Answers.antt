-- The line of the file stands first.
use Rattle.std.proofs.Common.{rules}
use Rattle.dap_accessed.specs.Standing.{name_at, file_at}
use Rattle.dap_text.specs.Tables.{file_line}
use Rattle.dap_text.proofs.TableLemmas.{file_next}
use Rattle.dap_text.proofs.tables.push_file_at.Goals as goal

pub returns-clause-line : goal.returns-clause-line
returns-clause-line c =
    let files = c.args.files.now in (
      file_line (name_at c.args.at files) (file_at c.args.at files).shape (file_at c.args.at files).look,
      file_next c.args.at files (search rules),
      rw (c.name.ensures, c.shape.ensures.same, c.look.ensures, c.file-file.ensures) at c.in_ok-push_file_line.ensures.added,
    )
