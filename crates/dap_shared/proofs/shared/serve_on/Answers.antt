use Rattle.std.proofs.Common.{◌≡◌, ℕ, List, ◌∷◌, ◌++◌, ap, sym, subst, ◌∙◌}
use Rattle.std.proofs.lemmas.Result.{IfOk-weaker}
use Rattle.dap_accessed.specs.Sessions.{SessionValue, IsOpenIn}
use Rattle.dap_shared.specs.Inner.Held.{MovesOn, session_at}
use Rattle.dap_shared.proofs.Among.{among-at, moves-on, silent-between}
use Rattle.dap_shared.proofs.shared.serve_on.Goals as goal

pub serve_beside-requires-clause-there : goal.serve_beside-requires-clause-there
serve_beside-requires-clause-there c =
    let b = c.split_at_mut-before.result.0.now in
    let whole : c.args.sessions.now ≡ b ++ c.in-Some.session.now ∷ c.in-Some.after.now =
    c.split_at_mut-before.ensures.value ∙ ap (λ (l : List SessionValue). b ++ l) c.in-Some.ensures.cases.0 in
    among-at c.args.files.now c.args.link b c.in-Some.session.now c.in-Some.after.now c.split_at_mut-before.ensures.front_len
    (λ own. subst (λ (l : List SessionValue). IsOpenIn c.args.files.now (session_at own c.args.link l).phase) whole (c.requires.there own))

pub returns-clause-ok : goal.returns-clause-ok
returns-clause-ok c =
    let b = c.split_at_mut-before.result.0.now in
    let whole : c.args.sessions.now ≡ b ++ c.in-Some.session.now ∷ c.in-Some.after.now =
    c.split_at_mut-before.ensures.value ∙ ap (λ (l : List SessionValue). b ++ l) c.in-Some.ensures.cases.0 in
    IfOk-weaker c.serve_beside.result _ _
    (λ served m own.
    subst (λ (l : List SessionValue). MovesOn own c.args.link c.args.item c.args.files.now l c.serve_beside.new.files (c.serve_beside.new.before ++ c.serve_beside.new.session ∷ c.serve_beside.new.after) served.answers) (sym whole)
    (subst (λ (n : ℕ). MovesOn own n c.args.item c.args.files.now (b ++ c.in-Some.session.now ∷ c.in-Some.after.now) c.serve_beside.new.files (c.serve_beside.new.before ++ c.serve_beside.new.session ∷ c.serve_beside.new.after) served.answers) c.split_at_mut-before.ensures.front_len
    (moves-on own c.args.item c.args.files.now c.serve_beside.new.files b c.in-Some.after.now c.serve_beside.new.before c.serve_beside.new.after c.in-Some.session.now c.serve_beside.new.session served.answers m)))
    c.serve_beside.ensures.ok

pub returns-clause-unrefused : goal.returns-clause-unrefused
returns-clause-unrefused c own silent =
    let b = c.split_at_mut-before.result.0.now in
    let whole : c.args.sessions.now ≡ b ++ c.in-Some.session.now ∷ c.in-Some.after.now =
    c.split_at_mut-before.ensures.value ∙ ap (λ (l : List SessionValue). b ++ l) c.in-Some.ensures.cases.0 in
    c.serve_beside.ensures.unrefused
    (silent-between own c.args.item c.args.files.now c.args.link c.args.sessions.now b c.in-Some.after.now c.in-Some.session.now whole c.split_at_mut-before.ensures.front_len silent)
