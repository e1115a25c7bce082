use Rattle.std.proofs.Common.{◌≡◌, ◌+◌, ◌-◌, ◌∙◌, ℕ, List, arith, ap, subst, sym, length}
use Rattle.dap_msg.specs.Blocked.{NspMessage, messages_in}
use Rattle.std.specs.Prelude.{Err}
use Rattle.dap_events.specs.declared.event.Event.TheVariants as event
use Rattle.dap_events.specs.declared.event.WorldFault.{WorldFault}
use Rattle.dap_world.specs.Runs.{ComesTo}
use Rattle.dap_world.specs.Machine.{State, EndState}
use Rattle.dap_world.specs.Inner.Settling.{Served, ServedEvery}
use Rattle.dap_world.specs.Inner.Worlds.{IsWorld}
use Rattle.dap_world.proofs.Stretch.Settles.{ran_both}
use Rattle.dap_world.proofs.Stretch.ServingAll.{same_sent, serves_sent, nothing_left, served_none, served_more, served_one, served_due, served_every, serve_refused}
use Rattle.dap_world.proofs.world.World.serve_every.Goals as goal

pub messages-init : goal.messages-init
messages-init c =
    let none : c.args.self.now.served - c.args.self.now.served ≡ 0 = omega arith in
    record { done = subst (λ (k : ℕ). Served c.args.self.now c.args.self.now 0 k) (sym none) (served_none c.args.self.now c.requires.empty); world = c.requires.world }

pub returns-then-is_nothing-clause-ok : goal.returns-then-is_nothing-clause-ok
returns-then-is_nothing-clause-ok c =
    let inv = c.messages.invariant in
    let went = subst (λ (f : WorldFault). ComesTo c.messages.self event.Serve (Err f) c.step.new.self) (c.is_nothing.ensures.yes c.if-is_nothing.true) c.in-Err.ensures.went in
    let left = nothing_left c.messages.self inv.world inv.done.empty went.0 in
    subst (λ (s : State). ServedEvery c.args.self.now s c.messages.count × IsWorld s) (sym went.1)
    (served_every c.args.self.now c.messages.self c.messages.count _ inv.world inv.done (omega (arith, left, same_sent c.args.self.now c.messages.self c.messages.count _ inv.done)), inv.world)

pub returns-else-is_nothing-clause-err : goal.returns-else-is_nothing-clause-err
returns-else-is_nothing-clause-err c =
    let inv = c.messages.invariant in
    serve_refused c.args.self.now c.messages.self c.step.new.self c.messages.count _ c.in-Err.fault inv.world inv.done (c.is_nothing.ensures.no c.if-is_nothing.false) c.in-Err.ensures.went

pub send_waiting-requires-clause-due : goal.send_waiting-requires-clause-due
send_waiting-requires-clause-due c =
    served_due c.messages.self c.step.new.self (served_one c.messages.self c.step.new.self c.in-Ok._step c.in-Ok.ensures.went) c.messages.invariant.done.empty

pub returns-in-Err-send_waiting-clause-read : goal.returns-in-Err-send_waiting-clause-read
returns-in-Err-send_waiting-clause-read c =
    c.send_waiting.ensures.read ∙ (served_one c.messages.self c.step.new.self c.in-Ok._step c.in-Ok.ensures.went).read ∙ c.messages.invariant.done.read

pub returns-in-Err-send_waiting-clause-err : goal.returns-in-Err-send_waiting-clause-err
returns-in-Err-send_waiting-clause-err c =
    let inv = c.messages.invariant in
    let one = served_one c.messages.self c.step.new.self c.in-Ok._step c.in-Ok.ensures.went in
    let sent = serves_sent c.messages.self c.step.new.self c.in-Ok._step inv.world c.in-Ok.ensures.went in
    let err = c.in-Err-send_waiting.ensures.err in (
      err.0,
      (
        (c.messages.count + 1) + err.1.0,
        ran_both c.args.self.now c.step.new.self c.send_waiting.new.self (c.messages.count + 1) err.1.0
            (ran_both c.args.self.now c.messages.self c.step.new.self c.messages.count 1 inv.done.ran one.ran) err.1.1,
      ),
      λ all. omega (arith, all, sent, inv.done.served, same_sent c.args.self.now c.messages.self c.messages.count _ inv.done),
    )

pub messages-preserved : goal.messages-preserved
messages-preserved c =
    let inv = c.messages.invariant in
    let one = served_one c.messages.self c.step.new.self c.in-Ok._step c.in-Ok.ensures.went in
    let more = c.in-Ok-send_waiting.ensures.ok in
    record {
      done = served_more c.args.self.now c.messages.self c.step.new.self c.send_waiting.new.self c.messages.count _ c.in-Ok-send_waiting.more (c.send_waiting.new.self.served - c.args.self.now.served)
          inv.done one more.0 (omega (arith, inv.done.served, one.served, more.0.served));
      world = more.1;
    }

pub messages-smaller : goal.messages-smaller
messages-smaller c =
    let one = served_one c.messages.self c.step.new.self c.in-Ok._step c.in-Ok.ensures.went in
    let more = c.in-Ok-send_waiting.ensures.ok in
    let same = ap (λ (l : List NspMessage). length (messages_in l)) (more.0.back_handed ∙ ap (λ (e : EndState). e.handed) one.from_a) in
    omega (arith, same, one.served, more.0.served, serves_sent c.messages.self c.step.new.self c.in-Ok._step c.messages.invariant.world c.in-Ok.ensures.went)

pub overflow_add-count-in-Ok-send_waiting : goal.overflow_add-count-in-Ok-send_waiting
overflow_add-count-in-Ok-send_waiting c =
    let inv = c.messages.invariant in
    let one = served_one c.messages.self c.step.new.self c.in-Ok._step c.in-Ok.ensures.went in
    let more = c.in-Ok-send_waiting.ensures.ok in
    let counts = more.1.from_b.counts in
    omega (arith, inv.done.count, inv.done.sent_b, more.0.count, more.0.sent, more.0.served, one.served, one.sent, counts.sent_there, counts.few, c.few.ensures.served)
