use Rattle.std.proofs.Common.{ℕ, List, length, ◌∷◌, [], ◌++◌, ap, sym, subst, ◌∙◌, refl, Some, None, append-nil}
use Rattle.std.specs.Prelude.{IfOk}
use Rattle.dap_accessed.specs.Standing.{Files}
use Rattle.dap_shared.specs.Nodes.{Event, node_after}
use Rattle.dap_shared.specs.Noted.{IsLowest, NotedServed, NotedValue}
use Rattle.dap_shared.specs.Shared.{IsSilentAt, SharedAfter}
use Rattle.dap_shared.proofs.Lowest.{not-locking, noted-result, noted-served}
use Rattle.dap_shared.proofs.noted.NotedFilesServing.serve.Goals as goal

pub returns-in_default-clause-serves : goal.returns-in_default-clause-serves
returns-in_default-clause-serves c = λ bytes at reads.
    let v : NotedValue = record { shared = c.self.inside.shared; addresses = c.self.inside.addresses.items; locked = c.self.inside.locked.items } in
    let w : NotedValue = record { shared = c.serve_item.new.self; addresses = c.self.inside.addresses.items; locked = c.self.inside.locked.items } in
    subst (λ (x : NotedValue). IfOk c.serve_item.result (NotedServed c.args.link bytes at x w)) c.self.view_is
    (noted-result c.args.link c.args.item bytes at c.args.next v w c.serve_item.result c.locking.result None c.deref.result.now reads c.serve_item.ensures.next c.serve_item.ensures.serves c.locking.ensures c.in_default.is c.deref.ensures.value
    (sym (append-nil v.locked)) refl)

pub returns-in-Ok-serve_item-clause-serves : goal.returns-in-Ok-serve_item-clause-serves
returns-in-Ok-serve_item-clause-serves c = λ bytes at reads.
    let v : NotedValue = record { shared = c.self.inside.shared; addresses = c.self.inside.addresses.items; locked = c.self.inside.locked.items } in
    let w : NotedValue = record { shared = c.serve_item-2.new.self; addresses = c.self.inside.addresses.items; locked = c.push_reserved.new.self.items } in
    subst (λ (x : NotedValue). NotedServed c.args.link bytes at x w c.in-Ok-serve_item.served) c.self.view_is
    (noted-served c.args.link c.args.item bytes at c.args.next v w c.in-Ok-serve_item.served c.locking.result (Some c.in-Some.address) c.deref.result.now reads c.in-Ok-serve_item.ensures.next c.in-Ok-serve_item.ensures.serves c.locking.ensures c.in-Some.is c.deref.ensures.value
    (c.push_reserved.ensures.items ∙ ap (λ (l : List ℕ). l ++ c.in-Some.address ∷ []) c.reserve.ensures.items) refl)

pub returns-in_default-reserve-clause-unrefused : goal.returns-in_default-reserve-clause-unrefused
returns-in_default-reserve-clause-unrefused c silent =
    let v : NotedValue = record { shared = c.self.inside.shared; addresses = c.self.inside.addresses.items; locked = c.self.inside.locked.items } in
    let here = subst (λ (x : NotedValue). IsSilentAt c.args.link x.shared c.args.item) (sym c.self.view_is) silent in
    absurd (not-locking v c.args.link c.args.item c.locking.result c.in-Some.address c.self.invariant
    (subst (λ (l : List ℕ). (first : Files) (events : List Event) → SharedAfter first events v.shared → IsLowest v.shared.setup l c.args.link (node_after v.shared.setup first (length v.shared.sessions) events) c.args.item c.locking.result) c.deref.ensures.value c.locking.ensures)
    c.in-Some.is here)
