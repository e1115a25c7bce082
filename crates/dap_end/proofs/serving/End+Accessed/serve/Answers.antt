use Rattle.std.proofs.lemmas.Result.{IfOk-weaker}
use Rattle.std.proofs.Common.{ℕ, List, subst}
use Rattle.std.specs.Prelude.{IsOk}
use Rattle.dap_msg.specs.Items.{ItemAt}
use Rattle.dap_msg.specs.declared.items.Item.{Item}
use Rattle.dap_accessed.specs.Present.{StandsAfter}
use Rattle.dap_accessed.specs.Served.{IsSilent}
use Rattle.dap_accessed.specs.Standing.{Files}
use Rattle.dap_end.specs.Done.{ServingValue}
use Rattle.dap_end.specs.Going.{oldest_message}
use Rattle.dap_end.specs.Inner.ServingView.{serving_of}
use Rattle.dap_end.proofs.ByTurns.{told}
use Rattle.dap_end.proofs.serving.End+Accessed.serve.Goals as goal

pub returns-clause-ok : goal.returns-clause-ok
returns-clause-ok c =
    rw (← c.self.view_is)
    (IfOk-weaker c.serve_next.result _ _ (λ o h. told (serving_of c.self.inside.port c.self.inside.role) (serving_of c.serve_next.new.port c.serve_next.new.server) o h) c.serve_next.ensures.ok)

pub returns-clause-unrefused : goal.returns-clause-unrefused
returns-clause-unrefused c =
    subst
    (λ (v : ServingValue). (first : Files) (items : List Item) (item : Item) (next : ℕ) → StandsAfter first items v.present → ItemAt (oldest_message v.port.link.coming.inbox) v.port.offset item next
    → IsSilent v.present.setup first items item → IsOk c.serve_next.result)
    c.self.view_is
    (λ first items item next stands reads silent. c.serve_next.ensures.unrefused item next reads (first, items, stands, silent))
