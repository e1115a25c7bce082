use Rattle.dap_network.proofs.Asking.{peer_leads}
use Rattle.dap_network.proofs.laws.peer_calls_are_events.Goals as goal

pub returns : goal.returns
returns c = λ link old peer client came requests reports wrote at brought run. peer_leads link old peer client came requests reports wrote at brought run
