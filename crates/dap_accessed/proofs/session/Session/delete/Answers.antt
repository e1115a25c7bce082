use Rattle.std.proofs.Common.{[], ◌∷◌, ◌∙◌, ap, subst}
use Rattle.dap_msg.specs.declared.message.Message.{Message}
use Rattle.rec_file.specs.Files.{FileVal}
use Rattle.rec_file.specs.Acts.{Outcome, StreamVal, act, delete_record}
use Rattle.dap_accessed.specs.Standing.{Files, the_file, with_file}
use Rattle.dap_accessed.specs.Replies.{coded, record_status}
use Rattle.dap_accessed.specs.Present.{Present}
use Rattle.dap_accessed.specs.Served.{AreAnswers}
use Rattle.dap_accessed.specs.Sessions.{SessionValue}
use Rattle.dap_accessed.specs.declared.phase.OpenFile.{OpenFile}
use Rattle.dap_accessed.specs.declared.phase.Phase.TheVariants as phases
use Rattle.dap_accessed.proofs.session.Session.delete.Goals as goal

-- a session with these files, connected to a stream
abbrev connected : OpenFile → SessionValue → Files → StreamVal → Present
connected opened s files stream =
    record { own = s.own; setup = s.setup; limit = s.limit; files = files; kept = s.kept; phase = phases.Connected opened stream }

pub returns-clause-ok : goal.returns-clause-ok
returns-clause-ok c =
    let at = c.args.opened.at in
    let outcome : Outcome = act delete_record (the_file c.args.files.now c.args.opened) c.args.stream in
    let acts = c.delete-reply.ensures.acts in
    record {
      present =
          ap (λ (s : SessionValue). connected c.args.opened s c.delete-reply.new.self c.delete-reply.new.stream) c.self.view_is
          ∙ ap (λ (f : Files). connected c.args.opened c.args.self.now f c.delete-reply.new.stream) (c.delete-reply.ensures.others ∙ ap (λ (f : FileVal). with_file at f c.args.files.now) acts.0)
          ∙ ap (λ (t : StreamVal). connected c.args.opened c.args.self.now (with_file at outcome.file c.args.files.now) t) acts.1;
      answered =
          subst (λ (s : SessionValue). AreAnswers s.limit (coded s.setup.full (record_status outcome.reply) ∷ []) c.fill.result) c.self.view_is
          (subst (λ (m : Message). AreAnswers c.self.inside.limit (coded c.self.inside.setup.full m ∷ []) c.fill.result) (c.settled.ensures.message ∙ ap record_status acts.2) c.fill.ensures);
    }
