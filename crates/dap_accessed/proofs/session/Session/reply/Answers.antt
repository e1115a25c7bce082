use Rattle.std.proofs.Common.{[], ◌∷◌, ap, subst}
use Rattle.dap_msg.specs.declared.message.Message.{Message}
use Rattle.dap_accessed.specs.Replies.{coded}
use Rattle.dap_accessed.specs.Served.{AreAnswers}
use Rattle.dap_accessed.specs.Sessions.{SessionValue}
use Rattle.dap_accessed.specs.Inner.Written.{reply_message}
use Rattle.dap_accessed.proofs.session.Session.reply.Goals as goal

pub returns-clause-ok : goal.returns-clause-ok
returns-clause-ok c =
    let written = subst (λ (m : Message). AreAnswers c.self.inside.limit (m ∷ []) c.in_ok-answers.answers) c.coded.ensures.message c.in_ok-answers.ensures in
    record {
      session = ap (λ (s : SessionValue). record s { phase = c.args.phase }) c.self.view_is;
      answered = subst (λ (s : SessionValue). AreAnswers s.limit (coded s.setup.full (reply_message c.args.answer) ∷ []) c.in_ok-answers.answers) c.self.view_is written;
    }
