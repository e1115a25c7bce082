use Rattle.std.proofs.Common.{◌≡◌, ◌<◌, ◌++◌, List, ℕ, length, get_or, rules, subst}
use Rattle.std.specs.Global.{Vec}
use Rattle.dap_follow.proofs.KeptLemmas.{gathered}
use Rattle.dap_follow.proofs.kept.Kept.gather.Goals as goal

pub loop-payload-preserved : goal.loop-payload-preserved
loop-payload-preserved c =
    let xs = c.args.self.now.payloads.items in
    let i = c.loop-payload.payload-index in
    let x = c.payload-item.result in
    let below : i < length xs = search rules in
    let is : x ≡ get_or xs i x = subst (λ (l : List (Vec ℕ)). x ≡ get_or l i x) c.deref-payload-items.ensures.value c.payload-item.is in
    let added : c.extend_from_slice.new.self.items ≡ c.loop-payload.bytes.items ++ x.items = search rules in
    gathered xs i x c.loop-payload.bytes.items c.extend_from_slice.new.self.items _ below is added c.loop-payload.invariant
