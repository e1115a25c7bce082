use Rattle.std.proofs.Common.{◌≡◌, Bool, None, ap, refl, sym, subst, ◌∙◌, true}
use Rattle.std.specs.Prelude.{◌||◌}
use Rattle.dap_accessed.specs.Sessions.{SessionValue, IsOpenIn, asked_in, open_at}
use Rattle.dap_shared.specs.Inner.Beside.{ServesOrRefuses, is_barred}
use Rattle.dap_shared.proofs.Among.{barred-first, barred-rest}
use Rattle.dap_shared.proofs.Stepping.{unmoved}
use Rattle.dap_shared.proofs.shared.serve_beside.Goals.{then-is_barred-via-then-is_barred, then-is_barred-via-else-is_barred+then-is_barred-2}
use Rattle.dap_shared.proofs.shared.serve_beside.Goals as goal

pub returns-then-is_barred-clause-ok : goal.returns-then-is_barred-clause-ok
returns-then-is_barred-clause-ok c =
    let asked = asked_in c.args.session.now.setup c.args.files.now c.args.session.now.phase c.args.item in
    let barred : (is_barred c.args.before.now asked || is_barred c.args.after.now asked) ≡ true = elim c.then-is_barred.branch [
      | then-is_barred-via-then-is_barred w ↦ barred-first c.args.before.now c.args.after.now c.asked-asked.result asked c.asked-asked.ensures (sym c.is_barred.ensures ∙ w.if-is_barred.true)
      | then-is_barred-via-else-is_barred+then-is_barred-2 w ↦ barred-rest c.args.before.now c.args.after.now c.asked-asked.result asked c.asked-asked.ensures (sym w.is_barred-else-is_barred.ensures ∙ w.if-is_barred-2.true)
    ] in
    let closed : open_at c.refuse_open.new.self.phase ≡ None = ap (λ (s : SessionValue). open_at s.phase) c.in_ok-answers.ensures.session in
    record {
      does = subst (λ (b : Bool). ServesOrRefuses b c.args.item c.args.files.now c.args.session.now c.args.files.now c.refuse_open.new.self c.in_ok-answers.answers) (sym barred)
          (refl, c.in_ok-answers.ensures.session, c.in_ok-answers.ensures.answer, c.in_ok-answers.ensures.most);
      first = unmoved asked c.args.files.now c.args.session.now.phase c.refuse_open.new.self.phase c.args.before.now closed;
      rest = unmoved asked c.args.files.now c.args.session.now.phase c.refuse_open.new.self.phase c.args.after.now closed;
      there = subst (λ (s : SessionValue). IsOpenIn c.args.files.now s.phase) (sym c.in_ok-answers.ensures.session) tt;
    }
