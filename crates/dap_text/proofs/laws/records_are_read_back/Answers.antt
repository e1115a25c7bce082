use Rattle.dap_text.proofs.ReadBack.{record_back}
use Rattle.dap_text.proofs.laws.records_are_read_back.Goals as goal

pub returns : goal.returns
returns c = record_back
