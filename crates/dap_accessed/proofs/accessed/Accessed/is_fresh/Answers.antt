use Rattle.std.proofs.Common.{◌∙◌, ap}
use Rattle.dap_accessed.specs.Present.{Present}
use Rattle.dap_accessed.specs.declared.accessed.Accessed.TheInside.{Inside}
use Rattle.dap_accessed.proofs.Freshness.{is-late}
use Rattle.dap_accessed.proofs.accessed.Accessed.is_fresh.Goals as goal

pub returns-in_default : goal.returns-in_default
returns-in_default c = record {
  yes = λ e. cc;
  no = λ e. is-late c.args.self.now (λ f. c.in_default.not-Fresh (ap (λ (i : Inside). i.session.phase) c.self-inside.view_is ∙ (ap (λ (p : Present). p.phase) c.self.view_is ∙ f)));
}
