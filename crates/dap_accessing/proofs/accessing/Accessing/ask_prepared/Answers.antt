use Rattle.std.proofs.Common.{◌∙◌, ap, sym, subst}
use Rattle.std.specs.Prelude.{Some}
use Rattle.dap_msg.specs.Blocked.{bodies, Blocked, all_joined}
use Rattle.dap_msg.specs.Sendable.{AreSendable}
use Rattle.dap_accessing.specs.Outgoing.{AreCounted, first_of, last_of}
use Rattle.dap_accessing.specs.Present.{ClientState}
use Rattle.dap_accessing.specs.Calls.{AsksRequest}
use Rattle.dap_accessing.specs.Prepared.{MayAsk}
use Rattle.dap_accessing.specs.contracts.accessing.Accessing.{the_view}
use Rattle.dap_accessing.proofs.Laws.{asks_of}
use Rattle.dap_accessing.proofs.accessing.Accessing.ask_prepared.Goals as goal

pub blocked-requires-clause-sendable : goal.blocked-requires-clause-sendable
blocked-requires-clause-sendable c =
    let may : MayAsk (the_view c.self.inside) c.args.request.now = subst (λ (v : ClientState). MayAsk v c.args.request.now) (sym c.self.view_is) c.requires.may in
    subst (λ l. AreSendable c.self.inside.limit l) (sym c.of-outgoing.ensures.messages) may.sendable

pub blocked-requires-clause-counted : goal.blocked-requires-clause-counted
blocked-requires-clause-counted c =
    rw (c.of-outgoing.ensures.first, c.of-outgoing.ensures.last)
    (subst (λ (v : ClientState). AreCounted (first_of v.identity c.args.request.now) (last_of c.args.request.now) c.args.prepared.counts) (sym c.self.view_is) c.requires.counted)

pub returns-clause-asks : goal.returns-clause-asks
returns-clause-asks c =
    let may : MayAsk (the_view c.self.inside) c.args.request.now = subst (λ (v : ClientState). MayAsk v c.args.request.now) (sym c.self.view_is) c.requires.may in
    subst (λ (v : ClientState). AsksRequest c.args.request.now v (record (the_view c.self.inside) { pending = Some c.of.result }) (bodies c.in-Ok.messages.items)) c.self.view_is
    (asks_of c.args.request.now (the_view c.self.inside) c.of.result (bodies c.in-Ok.messages.items) may
    (c.in-Ok.ensures ∙ ap (λ l. all_joined (Blocked c.self.inside.limit l)) c.of-outgoing.ensures.messages)
    c.of.ensures)
