use Rattle.std.specs.Prelude.{Err, Ok}
use Rattle.cap_cli.specs.Running.{LinesCame, LinesFront, LinesHave, WritesLines}
use Rattle.cap_cli.specs.Inner.Taken.{Took}
use Rattle.cap_cli.proofs.RunLemmas.{some_from}
use Rattle.cap_cli.proofs.WriteLemmas.{writes_no_rest}
use Rattle.cap_cli.proofs.listing.run_lines.Goals as goal

pub returns-in-Err-write_end : goal.returns-in-Err-write_end
returns-in-Err-write_end g c =
    let first = c.args.taker.now in
    let last = c.take_lines.new.taker in
    let between = c.args.between in
    let taken = g.T.Takes.taken in
    let old = g.W.Write.contents c.args.writer.now in
    let mid = g.W.Write.contents c.take_lines.new.writer in
    let new = g.W.Write.contents c.write_end.new.writer in
    let end = c.in-Ok.end in
    let fault = c.in-Err-write_end.fault in
    some_from (g.R.Read.remaining c.args.reader.now)
    {P = λ input. Took (LinesHave between input) (LinesCame between input) (LinesFront between input) taken first last old mid (Ok end)}
    {Q = λ input. WritesLines (g.T.Ends.texts first) between input old new (Err fault)}
    c.in-Ok.ensures (λ input took.
    writes_no_rest (LinesHave between input) (LinesCame between input) (LinesFront between input) taken g.T.Ends.rest (g.T.Ends.texts first) first
    (λ end founds text takes. g.met.T.Ends.are_texts first end founds text c.requires takes)
    last old mid new end fault took c.in-Err-write_end.ensures.fault)
