use Rattle.std.proofs.Common.{rules, ◌∙◌}
use Rattle.linewise.specs.declared.fault.Outcome.TheVariants.{Good, Stopped}
use Rattle.dap_orders.specs.Orders.{event_of_order}
use Rattle.dap_capture.specs.Inner.Playing.{PlaysOne}
use Rattle.dap_capture.specs.Inner.Playing.{events_of}
use Rattle.dap_capture.proofs.PlayLemmas.{faults_after, goes_further, is_over, stops_here}
use Rattle.dap_capture.proofs.play.play_events.Goals as goal

pub loop-at-preserved : goal.loop-at-preserved
loop-at-preserved c =
    let before = c.loop-at in
    let event = event_of_order c.in-Some-read_order.order in
    let plays : PlaysOne before.number event before.world c.play_order.new.world before.text.items c.play_order.new.text.items Good = search rules in
    record {
      counted = search rules;
      same = before.invariant.same ∙ faults_after c.in-Some.at c.in-Some.line.now c.next.new.self before.lines event c.in-Some.ensures c.in-Some-read_order.ensures;
      goes_on = goes_further c.args.world.now before.world c.play_order.new.world (events_of c.args.lines) before.number c.in-Some.at c.in-Some.line.now c.next.new.self before.lines event before.text.items c.play_order.new.text.items c.in-Some.ensures c.in-Some-read_order.ensures plays before.invariant.goes_on;
    }

pub returns-in-Stopped-clause-played : goal.returns-in-Stopped-clause-played
returns-in-Stopped-clause-played c =
    let before = c.loop-at in
    let event = event_of_order c.in-Some-read_order.order in
    let plays : PlaysOne before.number event before.world c.play_order.new.world before.text.items c.play_order.new.text.items Stopped = search rules in
    stops_here c.args.world.now before.world c.play_order.new.world (events_of c.args.lines) before.number c.in-Some.at c.in-Some.line.now c.next.new.self before.lines event before.text.items c.play_order.new.text.items c.push_files.new.text.items c.in-Some.ensures c.in-Some-read_order.ensures plays (search rules) before.invariant.goes_on

pub returns-clause-played : goal.returns-clause-played
returns-clause-played c =
    let before = c.loop-at in
    is_over c.args.world.now before.world (events_of c.args.lines) before.number before.lines before.text.items c.push_files-2.new.text.items (search rules) (search rules) before.invariant.goes_on
