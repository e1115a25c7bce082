use Rattle.std.proofs.Common.{◌≡◌, ◌++◌, [], refl, rules, ap, ◌∙◌, subst, List, ℕ}
use Rattle.std.proofs.lemmas.List.{map-append}
use Rattle.dap_msg.specs.Blocked.{bodies}
use Rattle.dap_world.specs.Inner.Splitting.{SplitsAll}
use Rattle.dap_world.proofs.calls.pass_on.Goals as goal

pub returns-in-Ok-clause-sent : goal.returns-in-Ok-clause-sent
returns-in-Ok-clause-sent c =
    let all : c.append.new.self.items ≡ c.args.sent.now.items ++ c.in_ok-more.more.items = search rules in (
      bodies c.in_ok-more.more.items,
      ap bodies all ∙ map-append _ c.args.sent.now.items c.in_ok-more.more.items,
      subst (λ (l : List (List ℕ)). SplitsAll l [] (bodies c.in_ok-more.more.items)) c.waiting.ensures c.in_ok-more.ensures,
    )

pub returns-in-Ok-clause-handed : goal.returns-in-Ok-clause-handed
returns-in-Ok-clause-handed c = (c.in-Ok.ensures.ok.0, c.in-Ok.ensures.ok.1, refl)
