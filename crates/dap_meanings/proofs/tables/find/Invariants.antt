use Rattle.std.proofs.Common.{◌≡◌, drop, map}
use Rattle.dap_meanings.specs.Tables.{word_in}
use Rattle.dap_meanings.specs.Words.{entry_of}
use Rattle.dap_meanings.proofs.tables.find.Given as goal

abbrev pub invariant-loop-entry : goal.invariant-loop-entry
invariant-loop-entry l = word_in (map entry_of (drop l.entry-index l.table)) l.number ≡ word_in (map entry_of l.table) l.number
