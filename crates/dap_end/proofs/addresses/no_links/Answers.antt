use Rattle.std.proofs.Common.{rules, ◌≡◌, ◌∙◌, None, ap, replicate, ℕ}
use Rattle.dap_end.proofs.addresses.no_links.Goals as goal

pub returns : goal.returns
returns c =
    let all : c.loop.counter ≡ 65536 = search rules in
    c.loop.invariant ∙ ap (λ (n : ℕ). replicate n None) all
