use Rattle.std.proofs.Common.{◌≡◌, inl, inr, take, ◌++◌, ◌+◌, ℕ, List, ap, subst, sym, ◌∙◌, Option, refl}
use Rattle.capture_file.specs.Files.{bounded_count}
use Rattle.capture_file.specs.Meanings.{Record, frame_record}
use Rattle.capture_file.specs.Reading.{HasRead, given_in}
use Rattle.capture_file.specs.declared.meaning.Given.{Given}
use Rattle.decnet_frames.specs.Founds.{record_founds, record_pairs}
use Rattle.decnet_frames.specs.Inner.Progress.{AddsTexts, taken_with}
use Rattle.decnet_frames.specs.Listed.{TakesFile}
use Rattle.decnet_frames.proofs.ListingLemmas.{has_records, listed_more}
use Rattle.decnet_frames.proofs.run.Frames.take_frame.Goals as goal

pub returns-in-Err-clause-fault : goal.returns-in-Err-clause-fault
returns-in-Err-clause-fault g c = λ between first bytes written h.
    record {
      records = h.records;
      last = c.args.taker.now;
      takes = h.takes;
      why = elim c.in-Err.ensures.fault [
        | inl memory ↦ inl (memory, has_records c.args.self.now.reading bytes c.args.piece.now h.records h.read)
        | inr stops ↦ inr (record { stops = stops bytes h.records h.read; counted = h.counted; taken_is = h.taken_is; same = refl })
      ];
    }

pub returns-in_default-clause-ready : goal.returns-in_default-clause-ready
returns-in_default-clause-ready g c =
    let r = c.requires in
    (_, _, c.in-Ok.ensures.read r.0 r.1 r.2)

pub returns-in-Ok-give_frame-clause-ready : goal.returns-in-Ok-give_frame-clause-ready
returns-in-Ok-give_frame-clause-ready g c =
    let r = c.requires in
    (_, _, c.in-Ok.ensures.read r.0 r.1 r.2)

pub returns-in-Ok-give_frame-clause-listed : goal.returns-in-Ok-give_frame-clause-listed
returns-in-Ok-give_frame-clause-listed g c = λ between first bytes written h.
    let kept = c.take.new.self.kept.items in
    let given = c.in-Some.given in
    let r = frame_record kept given in
    let old = c.args.self.now in
    let came : List ℕ → Record = λ xs. record { time = given.time; is_ethernet = given.is_ethernet; bytes = xs } in
    let framed : came c.frame-frame.result.now ≡ r = ap came c.frame-frame.ensures in
    let number = bounded_count (old.tally.count + 1) in
    let founds : Record → List _ = λ x. record_founds old.tally.ways.between old.tally.ways.pairs.known.keys number x in
    let read = subst (λ (x : Option Given). HasRead c.take.new.self (bytes ++ take c.in-Ok.step.taken c.args.piece.now) (h.records ++ given_in kept x)) c.in-Some.is
    (c.in-Ok.ensures.read bytes h.records h.read) in
    listed_more g.T.Takes.taken between first old _ c.args.taker.now c.give_frame.new.taker bytes (take c.in-Ok.step.taken c.args.piece.now) written r h read
    c.in-Ok-give_frame.ensures.between
    (c.in-Ok-give_frame.ensures.pairs ∙ ap (λ x. record_pairs old.tally.ways.between old.tally.ways.pairs.known.keys x) framed)
    c.in-Ok-give_frame.ensures.count
    (c.in-Ok-give_frame.ensures.taken ∙ ap (λ x. taken_with old.tally.taken (founds x)) framed)
    (subst (λ (x : Record). AddsTexts g.T.Takes.taken c.args.taker.now (founds x) c.give_frame.new.taker old.text c.give_frame.new.text) framed c.in-Ok-give_frame.ensures.given)

pub returns-in-Err-give_frame-clause-fault : goal.returns-in-Err-give_frame-clause-fault
returns-in-Err-give_frame-clause-fault g c = λ between first bytes written h.
    record {
      records = h.records;
      last = c.args.taker.now;
      takes = subst (λ (t : List ℕ). TakesFile g.T.Takes.taken between first h.records c.args.taker.now (written ++ t)) (sym c.in-Err-give_frame.ensures.kept) h.takes;
      why = inl (refl, has_records c.args.self.now.reading bytes c.args.piece.now h.records h.read);
    }
