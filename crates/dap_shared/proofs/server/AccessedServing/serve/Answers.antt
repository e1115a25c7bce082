use Rattle.dap_shared.proofs.server.AccessedServing.serve.Goals as goal

pub returns-clause-unrefused : goal.returns-clause-unrefused
returns-clause-unrefused c = λ silent. c.serve_item.ensures.unrefused silent.0 silent.1 silent.2 silent.3
