use Rattle.std.proofs.lemmas.Result.{IfErr-weaker, IfOk-weaker}
use Rattle.decnet_frames.proofs.ListingLemmas.{at_start, nothing_came}
use Rattle.decnet_frames.proofs.run.list_frames.Goals as goal

pub returns-clause-whole : goal.returns-clause-whole
returns-clause-whole g c =
    let n = c.new-frames.ensures in
    let start = at_start g.T.Takes.taken c.args.between c.new-frames.result c.args.taker.now (g.R.Read.remaining c.args.reader.now) (g.W.Write.contents c.args.writer.now) n.read n.between n.pairs n.count n.taken n.text in
    IfOk-weaker c.list_all.result _ _ (λ counts whole. whole c.args.between c.args.taker.now _ _ start) c.list_all.ensures.whole

pub returns-clause-fault : goal.returns-clause-fault
returns-clause-fault g c =
    let n = c.new-frames.ensures in
    let start = at_start g.T.Takes.taken c.args.between c.new-frames.result c.args.taker.now (g.R.Read.remaining c.args.reader.now) (g.W.Write.contents c.args.writer.now) n.read n.between n.pairs n.count n.taken n.text in
    IfErr-weaker c.list_all.result _ _ (λ fault to. to c.args.between c.args.taker.now _ _ start) c.list_all.ensures.fault

pub returns-in_default-clause-fault : goal.returns-in_default-clause-fault
returns-in_default-clause-fault g c = nothing_came g.T.Takes.taken c.args.between c.args.taker.now c.args.taker.now (g.R.Read.remaining c.args.reader.now) (g.R.Read.remaining c.args.reader.now) (g.W.Write.contents c.args.writer.now)
