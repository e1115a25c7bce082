use Rattle.dap_end.specs.By.{TurnsBy, end_with}
use Rattle.dap_end.specs.Inner.Kept.{IsPort}
use Rattle.dap_end.proofs.ByTurns.{left}
use Rattle.dap_end.proofs.turns.serve_all.Given as goal

abbrev pub invariant-loop : goal.invariant-loop
invariant-loop g l = record {
  turns : TurnsBy (g.S.Serving.serves l.link) l.most_waiting (end_with l.initial.port l.initial.server) (end_with l.port l.server);
  kept : IsPort l.port;
  link : g.S.Serving.has_link l.server l.link;
}

abbrev pub decreases-loop : goal.decreases-loop
decreases-loop g l = left l.port
