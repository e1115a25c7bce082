use Rattle.std.proofs.Common.{◌+◌, ◌∙◌, subst, sym}
use Rattle.dap_world.specs.Settling.{IsFinished}
use Rattle.dap_world.proofs.Stretch.Exhausting.{memory, quiet_enough, quiet_read}
use Rattle.dap_world.proofs.Stretch.Finishes.{finished, ran_three, still_settled, still_sent_from, still_four, all_served, are_empty, unread}
use Rattle.dap_world.proofs.Stretch.Onward.{told_same}
use Rattle.dap_world.proofs.Stretch.Settles.{ran_both}
use Rattle.dap_world.proofs.Stretch.Untold.{untold}
use Rattle.dap_world.proofs.world.World.finish_all.Goals as goal

pub returns-in-Err-clause-err : goal.returns-in-Err-clause-err
returns-in-Err-clause-err c = let err = c.in-Err.ensures.err in (err.0, err.1, λ f. err.2 (f.a.acked, f.b.acked))

pub returns-in-Err-clause-untold : goal.returns-in-Err-clause-untold
returns-in-Err-clause-untold c =
    let err = c.in-Err.ensures.err in
    λ due. told_same c.args.self.now c.settle_both.new.self err.1.0 c.requires err.1.1 c.settle_both.ensures.rest.same.read

pub returns-in-Err-send_both-clause-err : goal.returns-in-Err-send_both-clause-err
returns-in-Err-send_both-clause-err c =
    let a = c.in-Ok.ensures.ok.0 in
    let err = c.in-Err-send_both.ensures.err in (
      err.0,
      (c.in-Ok.count + err.1.0, ran_both c.args.self.now c.settle_both.new.self c.send_both.new.self c.in-Ok.count err.1.0 a.ran err.1.1),
      λ f. err.2 (are_empty c.settle_both.new.self (subst IsFinished (sym (still_settled c.args.self.now c.settle_both.new.self c.in-Ok.count f a)) f)),
    )

pub returns-in-Err-send_both-clause-untold : goal.returns-in-Err-send_both-clause-untold
returns-in-Err-send_both-clause-untold c =
    let a = c.in-Ok.ensures.ok.0 in
    let err = c.in-Err-send_both.ensures.err in
    λ due. told_same c.args.self.now c.send_both.new.self (c.in-Ok.count + err.1.0) c.requires
    (ran_both c.args.self.now c.settle_both.new.self c.send_both.new.self c.in-Ok.count err.1.0 a.ran err.1.1) (c.send_both.ensures.read ∙ c.settle_both.ensures.rest.same.read)

pub returns-in-Err-serve_every-clause-err : goal.returns-in-Err-serve_every-clause-err
returns-in-Err-serve_every-clause-err c =
    let a = c.in-Ok.ensures.ok.0 in
    let b = c.in-Ok-send_both.ensures.ok in
    let err = c.in-Err-serve_every.ensures.err in
    let two = ran_both c.args.self.now c.settle_both.new.self c.send_both.new.self c.in-Ok.count c.in-Ok-send_both.count a.ran b.0.ran in (
      err.0,
      ((c.in-Ok.count + c.in-Ok-send_both.count) + err.1.0, ran_both c.args.self.now c.send_both.new.self c.serve_every.new.self (c.in-Ok.count + c.in-Ok-send_both.count) err.1.0 two err.1.1),
      λ f. err.2 (all_served c.send_both.new.self b.1 (subst IsFinished (sym (still_sent_from c.args.self.now c.settle_both.new.self c.send_both.new.self c.in-Ok.count c.in-Ok-send_both.count a b.0 f)) f)),
    )

pub returns-in-Err-serve_every-clause-untold : goal.returns-in-Err-serve_every-clause-untold
returns-in-Err-serve_every-clause-untold c =
    let a = c.in-Ok.ensures.ok.0 in
    let b = c.in-Ok-send_both.ensures.ok in
    let err = c.in-Err-serve_every.ensures.err in
    let two = ran_both c.args.self.now c.settle_both.new.self c.send_both.new.self c.in-Ok.count c.in-Ok-send_both.count a.ran b.0.ran in
    λ due. told_same c.args.self.now c.serve_every.new.self ((c.in-Ok.count + c.in-Ok-send_both.count) + err.1.0) c.requires
    (ran_both c.args.self.now c.send_both.new.self c.serve_every.new.self (c.in-Ok.count + c.in-Ok-send_both.count) err.1.0 two err.1.1)
    (c.serve_every.ensures.read ∙ c.send_both.ensures.read ∙ c.settle_both.ensures.rest.same.read)

pub returns-in-Ok-read_every-clause-ok : goal.returns-in-Ok-read_every-clause-ok
returns-in-Ok-read_every-clause-ok c =
    let r = c.in-Ok-read_every.ensures.ok in
    let s = c.in-Ok-serve_every.ensures.ok in
    finished c.args.self.now c.settle_both.new.self c.send_both.new.self c.serve_every.new.self c.in-Ok.count c.in-Ok-send_both.count c.in-Ok-serve_every.count c.requires
    c.in-Ok.ensures.ok.0 c.in-Ok-send_both.ensures.ok.0 s.0 c.read_every.new.self c.in-Ok-read_every.read c.settle_both.ensures.rest s.1 r.1 r.0

pub returns-in-Err-read_every-clause-err : goal.returns-in-Err-read_every-clause-err
returns-in-Err-read_every-clause-err c =
    let part = c.in-Err-read_every.ensures.part in
    let s = c.in-Ok-serve_every.ensures.ok in
    let a = c.in-Ok.ensures.ok.0 in
    let b = c.in-Ok-send_both.ensures.ok.0 in
    let n = (c.in-Ok.count + c.in-Ok-send_both.count) + c.in-Ok-serve_every.count in
    let three = ran_three c.args.self.now c.settle_both.new.self c.send_both.new.self c.serve_every.new.self c.in-Ok.count c.in-Ok-send_both.count c.in-Ok-serve_every.count c.requires a b s.0 in (
      memory c.read_every.new.self c.in-Err-read_every.fault c.in-Err-read_every.ensures.err (quiet_enough c.read_every.new.self (quiet_read c.serve_every.new.self c.read_every.new.self part.0 s.0.done.empty)),
      (n + part.0.ran.0, ran_both c.args.self.now c.serve_every.new.self c.read_every.new.self n part.0.ran.0 three part.0.ran.1),
      λ f. unread c.serve_every.new.self c.read_every.new.self s.1 part.0
          (subst IsFinished (sym (still_four c.args.self.now c.settle_both.new.self c.send_both.new.self c.serve_every.new.self c.in-Ok.count c.in-Ok-send_both.count c.in-Ok-serve_every.count c.requires a b s.0 f)) f),
    )

pub returns-in-Err-read_every-clause-untold : goal.returns-in-Err-read_every-clause-untold
returns-in-Err-read_every-clause-untold c =
    let part = c.in-Err-read_every.ensures.part in
    let s = c.in-Ok-serve_every.ensures.ok in
    let a = c.in-Ok.ensures.ok.0 in
    let b = c.in-Ok-send_both.ensures.ok.0 in
    let n = (c.in-Ok.count + c.in-Ok-send_both.count) + c.in-Ok-serve_every.count in
    let three = ran_three c.args.self.now c.settle_both.new.self c.send_both.new.self c.serve_every.new.self c.in-Ok.count c.in-Ok-send_both.count c.in-Ok-serve_every.count c.requires a b s.0 in
    λ due. untold c.args.self.now c.serve_every.new.self c.read_every.new.self n c.requires three
    (c.serve_every.ensures.read ∙ c.send_both.ensures.read ∙ c.settle_both.ensures.rest.same.read) part.0 part.1 due
