-- What came, and what is written of it.
use Rattle.std.proofs.Common.{arith, refl, take, [], ◌≡◌, ap, sym, subst}
use Rattle.std.specs.Prelude.{IfSome}
use Rattle.decnet_frames.specs.Listed.{IsListedTo}
use Rattle.decnet_frames.specs.declared.run.FramesFault.{FramesFault}
use Rattle.decnet_frames.proofs.ListingLemmas.{at_more, listed_cut, listed_whole, listed_front, listed_so_far, listed_to}
use Rattle.decnet_frames.proofs.run.list_some.Goals as goal

pub returns-in-Err-clause-fault : goal.returns-in-Err-clause-fault
returns-in-Err-clause-fault g c = λ between first input start a.
    listed_so_far g.T.Takes.taken between first c.args.frames.now c.args.taker.now input (g.R.Read.remaining c.args.reader.now) (g.R.Read.remaining c.read.new.self) start (g.W.Write.contents c.args.writer.now) a
    c.in-Err.ensures.bytes

pub returns-in-Err-finish-clause-fault : goal.returns-in-Err-finish-clause-fault
returns-in-Err-finish-clause-fault g c = λ between first input start a.
    let count : c.in-Ok.count ≡ 0 = c.if-count-eq0.true in
    let none : take c.in-Ok.count c.read.new.buf ≡ [] = ap (λ n. take n c.read.new.buf) count in
    listed_cut g.T.Takes.taken between first c.args.frames.now c.args.taker.now input (g.R.Read.remaining c.args.reader.now) (g.R.Read.remaining c.read.new.self) start _ _ c.in-Err-finish.fault c.counts-counts.result a
    c.in-Ok.ensures.bytes.0 none (c.in-Ok.ensures.bytes.1 count (omega (arith, c.requires.room, c.read.auto.buf))) c.in-Err-finish.ensures.cut.0 c.in-Err-finish.ensures.cut.1
    c.counts-counts.ensures.taken c.counts-counts.ensures.passed

pub returns-in-Ok-finish-clause-whole : goal.returns-in-Ok-finish-clause-whole
returns-in-Ok-finish-clause-whole g c = λ between first input start a.
    let count : c.in-Ok.count ≡ 0 = c.if-count-eq0.true in
    let none : take c.in-Ok.count c.read.new.buf ≡ [] = ap (λ n. take n c.read.new.buf) count in
    listed_whole g.T.Takes.taken between first c.args.frames.now c.args.taker.now input (g.R.Read.remaining c.args.reader.now) (g.R.Read.remaining c.read.new.self) start _ _ c.counts-counts.result a
    c.in-Ok.ensures.bytes.0 none (c.in-Ok.ensures.bytes.1 count (omega (arith, c.requires.room, c.read.auto.buf))) c.in-Ok-finish.ensures.whole
    c.counts-counts.ensures.taken c.counts-counts.ensures.passed

pub returns-in-Ok-write_waiting-clause-goes : goal.returns-in-Ok-write_waiting-clause-goes
returns-in-Ok-write_waiting-clause-goes g c = λ more between first input start a.
    at_more g.T.Takes.taken between first c.args.frames.now c.take_piece.new.self _ c.args.taker.now c.take_piece.new.taker input (g.R.Read.remaining c.args.reader.now) (g.R.Read.remaining c.read.new.self) start
    (g.W.Write.contents c.args.writer.now) (g.W.Write.contents c.write_waiting.new.writer) _ a c.in-Ok.ensures.bytes.0
    (c.in-Ok-take_piece.ensures.listed between first) c.in-Ok-write_waiting.ensures.written refl refl c.in-Ok-write_waiting.ensures.text

pub returns-in-Err-write_waiting-clause-fault : goal.returns-in-Err-write_waiting-clause-fault
returns-in-Err-write_waiting-clause-fault g c = λ between first input start a.
    subst (λ (e : FramesFault). IfSome input (λ bytes. IsListedTo g.T.Takes.taken between first bytes c.take_piece.new.taker (g.R.Read.remaining c.read.new.self) start (g.W.Write.contents c.write_waiting.new.writer) e))
    (sym c.in-Err-write_waiting.ensures.fault)
    (listed_front g.T.Takes.taken between first c.args.frames.now c.take_piece.new.self c.args.taker.now c.take_piece.new.taker c.take_piece.new.taker input (g.R.Read.remaining c.args.reader.now) (g.R.Read.remaining c.read.new.self) start
    (g.W.Write.contents c.args.writer.now) (g.W.Write.contents c.write_waiting.new.writer) _ a c.in-Ok.ensures.bytes.0
    (c.in-Ok-take_piece.ensures.listed between first) c.in-Err-write_waiting.ensures.front)

pub returns-in-Err-take_piece-clause-fault : goal.returns-in-Err-take_piece-clause-fault
returns-in-Err-take_piece-clause-fault g c = λ between first input start a.
    listed_to g.T.Takes.taken between first c.args.frames.now c.take_piece.new.self c.args.taker.now c.take_piece.new.taker input (g.R.Read.remaining c.args.reader.now) (g.R.Read.remaining c.read.new.self) start
    (g.W.Write.contents c.args.writer.now) (g.W.Write.contents c.end_at.new.writer) _ c.in-Err-take_piece.fault c.counts-counts-in-Err-take_piece.result c.end_at.result a c.in-Ok.ensures.bytes.0
    c.in-Err-take_piece.ensures.fault c.counts-counts-in-Err-take_piece.ensures.taken c.counts-counts-in-Err-take_piece.ensures.passed c.end_at.ensures
