-- After the last file there is no record.
use Rattle.std.proofs.Common.{rules, sym}
use Rattle.std.proofs.lemmas.List.{append-nil}
use Rattle.dap_text.proofs.TableLemmas.{none_there}
use Rattle.dap_text.proofs.tables.push_record_from.Goals as goal

pub returns-then-at-count-clause-line : goal.returns-then-at-count-clause-line
returns-then-at-count-clause-line c = (none_there c.args.at c.args.from c.args.files.now (search rules), sym (append-nil _))
