use Rattle.std.proofs.Common.{◌≡◌, false, true, rules}
use Rattle.dap_accessing.specs.declared.request.Request.TheVariants.{Fetch}
use Rattle.dap_live.specs.Asking.{AnswersAsk}
use Rattle.dap_live.proofs.ResultLemmas.{err_from}
use Rattle.dap_live.proofs.ReachLemmas.{unless_reached}
use Rattle.dap_live.proofs.asking.fetch_each.Goals as goal

pub returns-clause-err : goal.returns-clause-err
returns-clause-err c =
    let works : c.args.asking.now.end.port.link.failed ≡ false = search rules in
    let old = c.args.asking.now in
    let new = c.ask_running.new.asking in
    err_from c.ask_running.result c.ask_running.ensures.err (λ why. unless_reached old.end.port.link works _ old new (AnswersAsk true old Fetch new) why)
