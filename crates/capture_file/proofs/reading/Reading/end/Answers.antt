use Rattle.std.proofs.Common.{◌≡◌, ◌<◌, length, inr, sym, arith, subst, Option, ap, ◌∙◌}
use Rattle.capture_file.specs.Meanings.{meaning_of}
use Rattle.std.proofs.lemmas.Result.{IfOk-weaker}
use Rattle.capture_file.specs.Reading.{wanted_count}
use Rattle.capture_file.specs.declared.units.Extent.{Extent}
use Rattle.capture_file.proofs.StateLemmas.{none_of, read_more, read_on}
use Rattle.capture_file.proofs.reading.Reading.end.Goals as goal

pub returns-then-self-extent-clause-read : goal.returns-then-self-extent-clause-read
returns-then-self-extent-clause-read c = λ bytes rest records s.
    let seen : c.args.self.now.seen ≡ length rest = s.gathers.seen in
    let short : length rest < c.in-Some.extent.long = omega (arith, c.if-self-extent.true) in
    read_on c.args.self.now bytes rest records s (subst (λ (x : Option Extent). length rest < wanted_count c.args.self.now.format x) (sym c.in-Some.is) short)

pub returns-in-Ok-clause-read : goal.returns-in-Ok-clause-read
returns-in-Ok-clause-read c =
    IfOk-weaker c.apply.result _ _ (λ given goes. λ bytes rest records s.
    read_more c.args.self.now c.apply.new.self bytes rest records c.in-Some.extent c.in-Ok.meaning given s c.in-Some.is (omega (arith, c.if-self-extent.false))
    (ap (λ i. meaning_of c.args.self.now.format i c.args.self.now.kept.items) (sym c.deref.ensures.value)
    ∙ (ap (λ k. meaning_of c.args.self.now.format c.deref.result.now k) (sym c.deref-2.ensures.value) ∙ sym c.in-Ok.ensures.value)) goes) c.apply.ensures.goes

pub returns-in-Err-clause-fault : goal.returns-in-Err-clause-fault
returns-in-Err-clause-fault c = inr (λ rest g. none_of c.args.self.now rest c.in-Some.extent c.in-Err.kind g c.in-Some.is (omega (arith, c.if-self-extent.false))
    (ap (λ i. meaning_of c.args.self.now.format i c.args.self.now.kept.items) (sym c.deref.ensures.value)
    ∙ (ap (λ k. meaning_of c.args.self.now.format c.deref.result.now k) (sym c.deref-2.ensures.value) ∙ sym c.in-Err.ensures.value)))
