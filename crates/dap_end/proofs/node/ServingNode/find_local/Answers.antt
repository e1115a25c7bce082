use Rattle.std.proofs.Common.{◌≡◌, ◌∙◌, List, Option, Some, ℕ, ap, length, sym}
use Rattle.std.specs.Prelude.{slice_get}
use Rattle.dap_end.proofs.Tables.{found-local, only-one}
use Rattle.dap_end.proofs.node.ServingNode.find_local.Goals as goal

pub find_local-requires : goal.find_local-requires
find_local-requires c = ap (λ (l : List (Option ℕ)). length l) c.deref.ensures.value ∙ c.self.invariant.table.whole

pub returns-clause-found : goal.returns-clause-found
returns-clause-found c =
    let is : slice_get c.self.inside.by_local.items c.args.local ≡ Some c.find_local.result = ap (λ (l : List (Option ℕ)). slice_get l c.args.local) (sym c.deref.ensures.value) ∙ c.find_local.ensures in
    rw (← c.self.view_is) (found-local c.self.inside.by_local.items c.self.inside.ports.items c.self.invariant.table c.args.local c.find_local.result is)

pub returns-clause-only : goal.returns-clause-only
returns-clause-only c =
    let is : slice_get c.self.inside.by_local.items c.args.local ≡ Some c.find_local.result = ap (λ (l : List (Option ℕ)). slice_get l c.args.local) (sym c.deref.ensures.value) ∙ c.find_local.ensures in
    rw (← c.self.view_is) (only-one c.self.inside.by_local.items c.self.inside.ports.items c.self.invariant.table c.args.local c.find_local.result is)
