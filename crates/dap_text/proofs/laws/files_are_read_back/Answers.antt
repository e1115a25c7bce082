use Rattle.dap_text.proofs.ReadBack.{file_back}
use Rattle.dap_text.proofs.laws.files_are_read_back.Goals as goal

pub returns : goal.returns
returns c = file_back
