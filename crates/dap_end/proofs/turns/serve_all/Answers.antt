use Rattle.std.proofs.Common.{rules}
use Rattle.dap_end.specs.By.{no_turn, end_with}
use Rattle.dap_end.proofs.Did.{turn_falls, turns_end, turns_fail, turns_more}
use Rattle.dap_end.proofs.turns.serve_all.Goals as goal

pub loop-init : goal.loop-init
loop-init g c = record { turns = no_turn; kept = c.requires.kept; link = c.requires.link }

pub loop-preserved : goal.loop-preserved
loop-preserved g c =
    record {
      turns = turns_more (g.S.Serving.serves c.args.link) c.args.most_waiting (end_with c.args.port.now c.args.server.now) (end_with c.loop.port c.loop.server) (end_with c.turn.new.port c.turn.new.server) c.in_ok-turn.field-0 c.if-branch.true
          c.loop.invariant.turns c.in_ok-turn.ensures.turned;
      kept = c.turn.ensures.kept;
      link = c.turn.ensures.link;
    }

pub loop-smaller : goal.loop-smaller
loop-smaller g c =
    turn_falls (g.S.Serving.serves c.args.link) c.args.most_waiting (end_with c.args.port.now c.args.server.now) (end_with c.loop.port c.loop.server) (end_with c.turn.new.port c.turn.new.server) c.in_ok-turn.field-0 c.if-branch.true
    c.in_ok-turn.ensures.turned

pub returns-clause-did : goal.returns-clause-did
returns-clause-did g c =
    turns_end (g.S.Serving.serves c.args.link) c.args.most_waiting (end_with c.args.port.now c.args.server.now) (end_with c.loop.port c.loop.server) (end_with c.turn.new.port c.turn.new.server) c.in_ok-turn.field-0 c.if-branch.false
    c.loop.invariant.turns c.in_ok-turn.ensures.turned

pub returns-in_err-turn-clause-did : goal.returns-in_err-turn-clause-did
returns-in_err-turn-clause-did g c =
    turns_fail (g.S.Serving.serves c.args.link) c.args.most_waiting (end_with c.args.port.now c.args.server.now) (end_with c.loop.port c.loop.server) (end_with c.turn.new.port c.turn.new.server) c.from_residual.result c.in_err-turn.field-0.0 (search rules)
    c.loop.invariant.turns c.in_err-turn.ensures.turned
