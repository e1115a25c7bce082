use Rattle.std.proofs.Common.{◌∙◌, arith, ap, subst}
use Rattle.nsp_link.specs.declared.link.LinkSetup.{LinkSetup}
use Rattle.nsp_link.specs.Link.{IsSetup}
use Rattle.dap_msg.specs.Blocked.{bodies}
use Rattle.dap_end.specs.Ports.{new_port}
use Rattle.dap_events.specs.declared.event.End.TheVariants.{A}
use Rattle.dap_world.proofs.Headline.Kept.{headline_of}
use Rattle.dap_world.proofs.Steps.New.{new_sound, world_setup}
use Rattle.dap_world.proofs.world.World.new.Goals as goal

pub invariant_of-result : goal.invariant_of-result
invariant_of-result c =
    (new_sound c.args.setup c.in-Ok.end c.in-Ok-new.end c.new-3.result.items c.new-4.result.items c.new-5.result.items (bodies c.new-6.result.items) c.new-7.result.items
    c.new-3.ensures.items c.new-4.ensures.items c.new-5.ensures.items (ap bodies c.new-6.ensures.items) c.new-7.ensures.items
    (world_setup c.args.setup A (omega (arith, c.if-setup-lt-MIN_BUFFER.false)) (omega (arith, c.if-setup-lt-MIN_BUFFER-2.false)) (subst (λ (l : LinkSetup). IsSetup l) c.link_setup.ensures c.in-Ok.ensures.setup))
    (c.in-Ok.ensures.ok.0, c.in-Ok.ensures.ok.1 ∙ ap (λ (l : LinkSetup). new_port l) c.link_setup.ensures, c.in-Ok.ensures.ok.2) (c.in-Ok-new.ensures.ok.0, c.in-Ok-new.ensures.ok.1 ∙ ap (λ (l : LinkSetup). new_port l) c.link_setup-2.ensures, c.in-Ok-new.ensures.ok.2) c.in-Ok.ensures.identity c.in-Ok-new.ensures.plain).0

pub returns-clause-headline : goal.returns-clause-headline
returns-clause-headline c =
    headline_of _
    (new_sound c.args.setup c.in-Ok.end c.in-Ok-new.end c.new-3.result.items c.new-4.result.items c.new-5.result.items (bodies c.new-6.result.items) c.new-7.result.items
    c.new-3.ensures.items c.new-4.ensures.items c.new-5.ensures.items (ap bodies c.new-6.ensures.items) c.new-7.ensures.items
    (world_setup c.args.setup A (omega (arith, c.if-setup-lt-MIN_BUFFER.false)) (omega (arith, c.if-setup-lt-MIN_BUFFER-2.false)) (subst (λ (l : LinkSetup). IsSetup l) c.link_setup.ensures c.in-Ok.ensures.setup))
    (c.in-Ok.ensures.ok.0, c.in-Ok.ensures.ok.1 ∙ ap (λ (l : LinkSetup). new_port l) c.link_setup.ensures, c.in-Ok.ensures.ok.2) (c.in-Ok-new.ensures.ok.0, c.in-Ok-new.ensures.ok.1 ∙ ap (λ (l : LinkSetup). new_port l) c.link_setup-2.ensures, c.in-Ok-new.ensures.ok.2) c.in-Ok.ensures.identity c.in-Ok-new.ensures.plain).0.world
