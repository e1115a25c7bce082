use Rattle.dap_msg.proofs.Extents.{file_data_short, file_data_long}
use Rattle.dap_msg.proofs.laws.measures_file_data.Goals as goal

pub returns-clause-short : goal.returns-clause-short
returns-clause-short c = λ recnum payload lt. file_data_short recnum payload lt

pub returns-clause-long : goal.returns-clause-long
returns-clause-long c = λ recnum payload le. file_data_long recnum payload le
