use Rattle.std.proofs.Common.{◌∙◌, arith, sym, ap, length, take}
use Rattle.std.proofs.lemmas.List.{length-map, length-take-le, take-map}
use Rattle.dap_msg.specs.Canon.{canon}
use Rattle.dap_world.specs.Machine.{sent_by}
use Rattle.dap_world.specs.Inner.WorldView.{parts_of}
use Rattle.dap_world.specs.Inner.Parts.{state_of}
use Rattle.dap_world.proofs.Headline.Kept.{served_there}
use Rattle.dap_world.proofs.world.World.taken.Goals as goal

pub slice_bounds-result-end : goal.slice_bounds-result-end
slice_bounds-result-end c =
    let s = state_of (parts_of c.self.inside) in
    let there = served_there s c.self.invariant.world in
    let same = ap length c.self.invariant.sent_is in
    let kept = length-map c.self.inside.sent.items (λ v. v.items) in
    let sent = length-map (sent_by s.a) canon in
    sym (length-take-le c.self.inside.served c.deref.result.now (omega (arith, there, same, kept, sent, c.deref.ensures.len, c.self.inside.sent.ok.0)))

pub returns : goal.returns
returns c =
    let served = c.self.inside.served in
    let sent = sent_by (state_of (parts_of c.self.inside)).a in
    rw (← c.self.view_is, c.deref.ensures.value)
    (sym (take-map (λ v. v.items) served c.self.inside.sent.items) ∙ ap (take served) c.self.invariant.sent_is ∙ take-map canon served sent)
