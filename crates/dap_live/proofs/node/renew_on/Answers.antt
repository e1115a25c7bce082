use Rattle.std.proofs.Common.{◌≡◌, ◌∙◌, ap, subst}
use Rattle.nsp_link.specs.declared.link.LinkSetup.{LinkSetup}
use Rattle.nsp_link.specs.Link.{LinkValue}
use Rattle.rec_file.specs.declared.picks.Rights.{Rights}
use Rattle.dap_shared.specs.Shared.{rights_on}
use Rattle.dap_live.specs.Orders.{most_anew, setup_anew}
use Rattle.dap_live.specs.Node.{BeginsOn, about}
use Rattle.dap_live.proofs.ResultLemmas.{ok_from}
use Rattle.dap_live.proofs.node.renew_on.Goals as goal

pub returns-clause-ok : goal.returns-clause-ok
returns-clause-ok c =
    let at = c.link_of.ensures in
    let old = about c.args.link c.args.node.now in
    let setup : c.set_up_anew-setup.result ≡ setup_anew at.0.link.setup c.args.anew =
    c.set_up_anew-setup.ensures ∙ ap (λ (s : LinkSetup). setup_anew s c.args.anew) (c.setup.ensures ∙ ap (λ (l : LinkValue). l.setup) at.2) in
    let most : c.rights_anew-most.result ≡ most_anew (rights_on c.args.link c.args.node.now.node.noted.shared) c.args.anew =
    c.rights_anew-most.ensures ∙ ap (λ (r : Rights). most_anew r c.args.anew) c.rights.ensures.held in
    ok_from c.begin_on.result c.begin_on.ensures.ok
    (λ became begins. (
      at.0,
      at.1,
      subst (λ (s : LinkSetup). BeginsOn c.args.link s (most_anew (rights_on c.args.link c.args.node.now.node.noted.shared) c.args.anew) old c.begin_on.new.node c.begin_on.new.text.items became) setup
          (subst (λ (r : Rights). BeginsOn c.args.link c.set_up_anew-setup.result r old c.begin_on.new.node c.begin_on.new.text.items became) most begins),
    ))

pub begin_on-requires-clause-alone : goal.begin_on-requires-clause-alone
begin_on-requires-clause-alone c = λ other p has is.
    let at = c.link_of.ensures in
    c.requires.alone at.0 p other at.1 has
    (is ∙ ap (λ (s : LinkSetup). s.local) (c.set_up_anew-setup.ensures ∙ ap (λ (s : LinkSetup). setup_anew s c.args.anew) (c.setup.ensures ∙ ap (λ (l : LinkValue). l.setup) at.2)))
