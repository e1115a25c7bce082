use Rattle.std.proofs.Common.{◌≡◌, replicate}
use Rattle.dap_accessed.specs.Sessions.{session_with}
use Rattle.dap_shared.proofs.shared.new_sessions.Given as goal

abbrev pub invariant-loop : goal.invariant-loop
invariant-loop l = l.sessions.items ≡ replicate l.counter (session_with l.setup)
