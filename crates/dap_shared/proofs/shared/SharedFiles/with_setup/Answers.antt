use Rattle.std.proofs.Common.{[], subst, sym}
use Rattle.dap_accessed.specs.Standing.{Files}
use Rattle.dap_shared.specs.Shared.{SharedAfter}
use Rattle.dap_shared.specs.Inner.Held.{IsHeld}
use Rattle.dap_shared.proofs.Held.{new-held}
use Rattle.dap_shared.proofs.Stepping.{new-shared}
use Rattle.dap_shared.proofs.shared.SharedFiles.with_setup.Goals as goal

pub invariant_of-result : goal.invariant_of-result
invariant_of-result c =
    subst (λ (files : Files). IsHeld (record { own = c.args.setup.identity.bufsiz; setup = c.args.setup; files = files; sessions = c.in_ok-sessions.sessions.items })) (sym c.new.ensures)
    (new-held c.args.setup c.args.links c.in_ok-sessions.sessions.items c.requires c.in_ok-sessions.ensures)

pub returns-clause-stands : goal.returns-clause-stands
returns-clause-stands c =
    subst (λ (files : Files). SharedAfter [] [] (record { own = c.args.setup.identity.bufsiz; setup = c.args.setup; files = files; sessions = c.in_ok-sessions.sessions.items })) (sym c.new.ensures)
    (new-shared c.args.setup c.args.links c.in_ok-sessions.sessions.items c.in_ok-sessions.ensures)
