use Rattle.std.proofs.Common.{subst, sym}
use Rattle.std.specs.Prelude.{OnErr}
use Rattle.dap_live.specs.Inner.Reaching.{Reaches}
use Rattle.dap_live.proofs.asking.act.Goals as goal

pub returns-in-Packet-clause-err : goal.returns-in-Packet-clause-err
returns-in-Packet-clause-err c =
    subst (λ o. OnErr c.take_packet.result (Reaches c.args.asking.now o c.take_packet.new.asking)) (sym c.in-Packet.is) c.take_packet.ensures.err

pub returns-in-Ask-clause-err : goal.returns-in-Ask-clause-err
returns-in-Ask-clause-err c =
    subst (λ o. OnErr c.ask.result (Reaches c.args.asking.now o c.ask.new.asking)) (sym c.in-Ask.is) c.ask.ensures.err

pub returns-in-FetchEach-clause-err : goal.returns-in-FetchEach-clause-err
returns-in-FetchEach-clause-err c =
    subst (λ o. OnErr c.fetch_each.result (Reaches c.args.asking.now o c.fetch_each.new.asking)) (sym c.in-FetchEach.is) c.fetch_each.ensures.err
