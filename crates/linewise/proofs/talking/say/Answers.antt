-- What is said to a line is its text and its ending.
use Rattle.std.proofs.Common.{◌++◌, [], refl, sym, append_assoc}
use Rattle.std.proofs.KnownBytes.{Appends-nil}
use Rattle.std.specs.Prelude.{Some}
use Rattle.linewise.specs.declared.talking.Became.TheVariants.{Done}
use Rattle.linewise.proofs.OutputLemmas.{both, front_of_first, front_behind}
use Rattle.linewise.proofs.PieceLemmas.{completed, err_always}
use Rattle.linewise.proofs.talking.say.Goals as goal

pub returns-in-None-clause-said : goal.returns-in-None-clause-said
returns-in-None-clause-said g c = λ raw holds.
    ([], record { text = c.answer_read.new.text.items; answers = c.in-None.ensures raw holds; says = refl }, Appends-nil _)

pub returns-in-Ok-clause-said : goal.returns-in-Ok-clause-said
returns-in-Ok-clause-said g c = λ raw holds.
    let (written, wrote, whole) = c.in_ok-became.ensures.whole in (
      _,
      record {
        text = written ++ c.write_begun.new.text.items;
        answers = completed g.E.Answers.answered g.E.Answers.waiting g.E.Answers.pieces _ _ _ _ _ c.in-Some.answer _ (c.in-Some.ensures raw holds) whole;
        says = sym (append_assoc written c.write_begun.new.text.items _);
      },
      both _ _ _ written _ wrote (rw (c.deref.ensures.value, c.waits.ensures) at c.in-Ok.ensures.whole),
    )

pub returns-in-Err-clause-broken : goal.returns-in-Err-clause-broken
returns-in-Err-clause-broken g c = λ raw holds.
    let (written, wrote, whole) = c.in_ok-became.ensures.whole in (
      Some c.in_ok-became.became,
      _,
      record {
        text = written ++ c.write_begun.new.text.items;
        answers = completed g.E.Answers.answered g.E.Answers.waiting g.E.Answers.pieces _ _ _ _ _ c.in-Some.answer _ (c.in-Some.ensures raw holds) whole;
        says = sym (append_assoc written c.write_begun.new.text.items _);
      },
      front_behind _ _ _ written _ wrote (rw (c.deref.ensures.value, c.waits.ensures) at c.in-Err.ensures.front),
    )

-- a piece of it broke off
pub returns-in_err-became-clause-broken : goal.returns-in_err-became-clause-broken
returns-in_err-became-clause-broken g c = err_always c.from_residual.result (λ raw holds.
    let (whole, completes, front) = c.in_err-became.ensures.front in (
      Some Done,
      _,
      record {
        text = whole;
        answers = completed g.E.Answers.answered g.E.Answers.waiting g.E.Answers.pieces _ _ _ _ _ c.in-Some.answer _ (c.in-Some.ensures raw holds) completes;
        says = refl;
      },
      front_of_first _ _ whole _ front,
    ))
