use Rattle.std.proofs.Common.{subst}
use Rattle.std.specs.Prelude.{OnOk}
use Rattle.dap_accessed.specs.Adding.{MayStore}
use Rattle.dap_accessed.specs.Standing.{file_at}
use Rattle.dap_shared.specs.Noted.{NotedValue}
use Rattle.dap_shared.specs.Shared.{AtFile}
use Rattle.dap_shared.proofs.noted.NotedFiles.add_record.Goals as goal

pub returns-clause-may : goal.returns-clause-may
returns-clause-may c =
    subst (λ (v : NotedValue). OnOk c.add_record.result (AtFile c.args.name.now v.shared (λ at. MayStore (file_at at v.shared.files) c.args.number c.args.body.now)))
    c.self.view_is c.add_record.ensures.may
