use Rattle.std.proofs.Common.{refl, inr}
use Rattle.dap_msg.specs.BothEnds.{number_of}
use Rattle.dap_accessing.specs.declared.report.Report.TheVariants as report
use Rattle.dap_accessing.proofs.pending.hear_record.Goals as goal

pub returns-in-Err : goal.returns-in-Err
returns-in-Err c = rw c.in-Filedata.is (refl, inr (report.Found (number_of c.in-Filedata.recnum) c.in-Filedata.payload, λ rest. refl))
