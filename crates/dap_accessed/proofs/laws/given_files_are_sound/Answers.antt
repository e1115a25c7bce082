use Rattle.dap_accessed.proofs.Given.{record-given}
use Rattle.dap_accessed.specs.Adding.{name_given}
use Rattle.dap_accessed.proofs.NewNames.{given-none}
use Rattle.dap_accessed.proofs.SoundTables.{files-more}
use Rattle.dap_accessed.proofs.laws.given_files_are_sound.Goals as goal

pub returns-clause-file : goal.returns-clause-file
returns-clause-file c = λ names files name asked h good may. files-more files (name_given names name files) asked h good (given-none names name files may)

pub returns-clause-record : goal.returns-clause-record
returns-clause-record c = λ files n body h some may. record-given files n body h some may
