use Rattle.std.proofs.Common.{ap, ◌∙◌}
use Rattle.dap_accessed.specs.Present.{Present}
use Rattle.dap_accessed.specs.Sessions.{with_files}
use Rattle.dap_accessed.specs.declared.accessed.Accessed.TheInside.{Inside}
use Rattle.dap_accessed.proofs.Lateness.{stands_given}
use Rattle.dap_accessed.proofs.accessed.Accessed.add.Goals as goal

pub returns-clause-stands : goal.returns-clause-stands
returns-clause-stands c =
    stands_given c.args.self.now _ (c.is_fresh.ensures.yes c.if-not-is_fresh.false)
    (ap (λ (i : Inside). with_files c.make.new.self i.session) c.self-inside.view_is ∙ ap (λ (p : Present). record p { files = c.make.new.self }) c.self.view_is)
