use Rattle.decnet_frames.proofs.TalkLemmas.{fails, gives, same_ended, same_failed, tells_bad}
use Rattle.decnet_frames.proofs.lines.list_all.Goals as goal

pub returns-in-Ok-clause-same : goal.returns-in-Ok-clause-same
returns-in-Ok-clause-same g c =
    same_ended g.T.Takes.taken c.args.listing.now c.talk.new.end (g.R.Read.remaining c.args.reader.now) (g.W.Write.contents c.args.writer.now) (g.W.Write.contents c.talk.new.writer) c.in-Ok.bad c.in-Ok.ensures.whole

pub returns-in-Ok-clause-listed : goal.returns-in-Ok-clause-listed
returns-in-Ok-clause-listed g c =
    gives g.T.Takes.taken c.args.listing.now c.talk.new.end (g.R.Read.remaining c.args.reader.now) (g.W.Write.contents c.args.writer.now) (g.W.Write.contents c.talk.new.writer) c.in-Ok.bad c.counts.result c.requires c.in-Ok.ensures.whole
    c.counts.ensures.taken c.counts.ensures.passed

pub returns-in-Ok-clause-told : goal.returns-in-Ok-clause-told
returns-in-Ok-clause-told g c =
    tells_bad g.T.Takes.taken c.args.listing.now c.talk.new.end (g.R.Read.remaining c.args.reader.now) (g.W.Write.contents c.args.writer.now) (g.W.Write.contents c.talk.new.writer) c.in-Ok.bad c.requires c.in-Ok.ensures.whole

pub returns-in-Err-clause-same : goal.returns-in-Err-clause-same
returns-in-Err-clause-same g c =
    same_failed g.T.Takes.taken c.args.listing.now c.talk.new.end (g.R.Read.remaining c.args.reader.now) (g.R.Read.remaining c.talk.new.reader) (g.W.Write.contents c.args.writer.now) (g.W.Write.contents c.talk.new.writer) c.in-Err.fault c.in-Err.ensures.fault

pub returns-in-Err-clause-fault : goal.returns-in-Err-clause-fault
returns-in-Err-clause-fault g c =
    fails g.T.Takes.taken c.args.listing.now c.talk.new.end (g.R.Read.remaining c.args.reader.now) (g.R.Read.remaining c.talk.new.reader) (g.W.Write.contents c.args.writer.now) (g.W.Write.contents c.talk.new.writer) c.in-Err.fault c.requires c.in-Err.ensures.fault
