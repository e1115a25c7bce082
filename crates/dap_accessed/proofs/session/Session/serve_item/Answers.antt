use Rattle.std.proofs.Common.{List, ap, subst, ◌∙◌}
use Rattle.std.specs.Prelude.{Result, Ok, Err, OnErr}
use Rattle.dap_msg.specs.declared.message.Message.{Message}
use Rattle.dap_msg.proofs.ForCallers.{item_fits}
use Rattle.dap_accessed.specs.Present.{Present}
use Rattle.dap_accessed.specs.Served.{AreAnswers}
use Rattle.dap_accessed.specs.Sessions.{with_files, session_of}
use Rattle.dap_accessed.proofs.StepIs.{answers-in, in-more, same-own, same-setup}
use Rattle.dap_accessed.proofs.Silent.{silent-in}
use Rattle.dap_accessed.proofs.session.Session.serve_item.Goals as goal

anyway : {X E A : Type 0} (r : Result X E) → A → OnErr r A
anyway (Ok x) a = tt
anyway (Err e) a = a

pub answer_item-requires-clause-fits : goal.answer_item-requires-clause-fits
answer_item-requires-clause-fits c = item_fits c.args.item c.requires.spelled

pub returns-clause-serves : goal.returns-clause-serves
returns-clause-serves c =
    let old = with_files c.args.files.now c.args.self.now in
    let new = with_files c.answer_item.new.files c.answer_item.new.self in
    let moves = c.in_ok-answers.ensures.ok in
    record {
      stands = λ s h. in-more old new c.args.item s moves.present h;
      answered = λ s h. subst (λ (l : List Message). AreAnswers old.limit l c.in_ok-answers.answers) (answers-in old c.args.item s h) moves.answered;
      within = moves.answered.within;
      most = c.in_ok-answers.ensures.most;
      same_own = ap (λ (p : Present). p.own) moves.present ∙ same-own old c.args.item;
      same_setup = ap (λ (p : Present). p.setup) moves.present ∙ same-setup old c.args.item;
    }

pub returns-in_err-answers-clause-no_memory : goal.returns-in_err-answers-clause-no_memory
returns-in_err-answers-clause-no_memory c =
    anyway c.from_residual.result (ap (λ (p : Present). p.files) c.in_err-answers.ensures.err, ap session_of c.in_err-answers.ensures.err)

pub returns-in_err-answers-clause-unrefused : goal.returns-in_err-answers-clause-unrefused
returns-in_err-answers-clause-unrefused c = λ s h none.
    (let taken = c.in_err-answers.ensures.silent (silent-in (with_files c.args.files.now c.args.self.now) s c.args.item h none) in cc)
