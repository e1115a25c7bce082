use Rattle.std.proofs.Common.{◌∙◌, ◌++◌, ap, refl, inl, inr, List, ℕ, codes}
use Rattle.nsp_link.specs.declared.fault.LinkFault.TheVariants.{BadSetup}
use Rattle.dap_live.specs.Texts.{link_refusal, refused_with}
use Rattle.dap_live.proofs.ResultLemmas.{ok_from}
use Rattle.dap_live.proofs.node.refuse_link.Goals as goal

pub returns-in_ok-push_refused : goal.returns-in_ok-push_refused
returns-in_ok-push_refused c = (
  refused_with (codes "no-links"),
  inr (c.is_setup.ensures.yes c.if-is_setup.true, refl),
  c.in_ok-push_refused.ensures ∙ ap (λ (l : List ℕ). l ++ (refused_with (codes "no-links")).0) c.requires,
  refl,
)

pub returns-else-is_setup : goal.returns-else-is_setup
returns-else-is_setup c =
    ok_from c.push_link_refusal.result c.push_link_refusal.ensures
    (λ became adds. (
      link_refusal BadSetup,
      inl (c.is_setup.ensures.no c.if-is_setup.false, refl),
      adds.0 ∙ ap (λ (l : List ℕ). l ++ (link_refusal BadSetup).0) c.requires,
      adds.1,
    ))
