use Rattle.std.proofs.Common.{ap, ◌∙◌, subst, sym, arith}
use Rattle.dap_msg.specs.Blocked.{Blocked, all_joined, AllFit}
use Rattle.dap_msg.proofs.ForCallers.{item_fits}
use Rattle.dap_accessed.proofs.StepIs.{stands-more, answers-are, same-own, same-setup}
use Rattle.dap_accessed.proofs.Silent.{silent-is}
use Rattle.dap_accessed.specs.Present.{Present, StandsAfter}
use Rattle.dap_accessed.specs.Served.{IsSilent}
use Rattle.dap_accessed.specs.Sessions.{with_files}
use Rattle.dap_accessed.specs.Inner.Moves.{Moves, move}
use Rattle.dap_accessed.proofs.accessed.Accessed.serve_item.Goals as goal

pub answer_item-requires-clause-fits : goal.answer_item-requires-clause-fits
answer_item-requires-clause-fits c = item_fits c.args.item c.requires

pub returns-clause-serves : goal.returns-clause-serves
returns-clause-serves c bytes at there =
    let item = c.args.item in
    let old = c.args.self.now in
    let new = with_files c.answer_item.new.files c.answer_item.new.self in
    let moves : Moves old (move old item) new c.in_ok-answers.answers = subst (λ (p : Present). Moves p (move p item) new c.in_ok-answers.answers) c.self.view_is c.in_ok-answers.ensures.ok in
    record {
      item = item;
      reads = there;
      stands = stands-more old new item moves.present;
      answers = λ first items h. moves.answered.bytes ∙ ap (λ l. all_joined (Blocked old.limit l)) (answers-are old item first items h);
      fits = λ first items h. subst AllFit (answers-are old item first items h) moves.answered.fits;
      within = moves.answered.within;
      limit = old.limit;
      is_limit = λ first items h. ap (λ (p : Present). p.limit) h;
      most = (let same = ap (λ (p : Present). p.limit) c.self.view_is in let most = c.in_ok-answers.ensures.most in omega (arith, same, most));
      same_own = ap (λ (p : Present). p.own) moves.present ∙ same-own old item;
      same_setup = ap (λ (p : Present). p.setup) moves.present ∙ same-setup old item;
    }

pub returns-in_err-answers-clause-unrefused : goal.returns-in_err-answers-clause-unrefused
returns-in_err-answers-clause-unrefused c = λ first items h none.
    (let inside = with_files c.self.inside.files c.self.inside.session in
    let stands = subst (StandsAfter first items) (sym c.self.view_is) h in
    let silent = subst (λ (p : Present). IsSilent p.setup first items c.args.item) (sym c.self.view_is) none in
    let taken = c.in_err-answers.ensures.silent (silent-is inside first items c.args.item stands silent) in cc)
