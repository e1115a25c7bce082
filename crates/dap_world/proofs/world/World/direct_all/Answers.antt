use Rattle.std.proofs.Common.{◌≡◌, sym, ap, ◌∙◌, Some, refl, arith, slice_get}
use Rattle.std.proofs.lemmas.Option.{slice_get-get_or}
use Rattle.dap_accessing.specs.Request.{Request}
use Rattle.dap_world.proofs.Stretch.Exhausting.{quiet_empty}
use Rattle.dap_world.proofs.Stretch.Directing.{fresh_done, ask_stops, finish_stops, done_more, runs_none, runs_asked, runs_refused, runs_to, none_there}
use Rattle.dap_world.proofs.world.World.direct_all.Goals as goal

pub loop-index-init : goal.loop-index-init
loop-index-init c = record { done = fresh_done c.args.self.now c.args.requests.now c.requires.world c.requires.fresh; ran = runs_none c.args.self.now; quiet = c.requires.quiet; world = c.requires.world; still = λ e. refl }

pub returns-in-Err-clause-err : goal.returns-in-Err-clause-err
returns-in-Err-clause-err c =
    let there : slice_get c.args.requests.now c.loop-index.index ≡ Some c.index-requests-index.result =
    slice_get-get_or c.args.requests.now c.loop-index.index c.index-requests-index.result c.loop-index-test.true ∙ ap (λ (e : Request). Some e) (sym c.index-requests-index.is) in
    ask_stops c.loop-index.self c.ask_copy.new.self c.args.requests.now c.loop-index.index c.index-requests-index.result c.in-Err.fault c.loop-index.invariant.world c.loop-index.invariant.quiet c.few.ensures.in_sequence c.loop-index.invariant.done there c.in-Err.ensures

pub returns-in-Err-clause-ran : goal.returns-in-Err-clause-ran
returns-in-Err-clause-ran c = runs_refused c.args.self.now c.loop-index.self c.ask_copy.new.self c.index-requests-index.result c.in-Err.fault c.loop-index.invariant.ran c.in-Err.ensures

pub returns-in-Err-clause-nothing : goal.returns-in-Err-clause-nothing
returns-in-Err-clause-nothing c = λ none. absurd (none_there c.args.requests.now c.loop-index.index c.loop-index-test.true none)

pub returns-in-Err-finish-clause-err : goal.returns-in-Err-finish-clause-err
returns-in-Err-finish-clause-err c =
    let there : slice_get c.args.requests.now c.loop-index.index ≡ Some c.index-requests-index.result =
    slice_get-get_or c.args.requests.now c.loop-index.index c.index-requests-index.result c.loop-index-test.true ∙ ap (λ (e : Request). Some e) (sym c.index-requests-index.is) in
    let err = c.in-Err-finish.ensures.err in
    finish_stops c.loop-index.self c.ask_copy.new.self c.finish.new.self c.args.requests.now c.loop-index.index c.index-requests-index.result c.in-Ok._step c.sound.ensures c.loop-index.invariant.done there c.in-Ok.ensures
    c.in-Err-finish.fault c.few.ensures.in_sequence err.0 err.1 c.in-Err-finish.ensures.untold

pub returns-in-Err-finish-clause-ran : goal.returns-in-Err-finish-clause-ran
returns-in-Err-finish-clause-ran c =
    runs_to c.args.self.now c.ask_copy.new.self c.finish.new.self
    (runs_asked c.args.self.now c.loop-index.self c.ask_copy.new.self c.index-requests-index.result c.in-Ok._step c.loop-index.invariant.ran c.in-Ok.ensures) c.in-Err-finish.ensures.err.1

pub returns-in-Err-finish-clause-nothing : goal.returns-in-Err-finish-clause-nothing
returns-in-Err-finish-clause-nothing c = λ none. absurd (none_there c.args.requests.now c.loop-index.index c.loop-index-test.true none)

pub loop-index-preserved : goal.loop-index-preserved
loop-index-preserved c =
    let there : slice_get c.args.requests.now c.loop-index.index ≡ Some c.index-requests-index.result =
    slice_get-get_or c.args.requests.now c.loop-index.index c.index-requests-index.result c.loop-index-test.true ∙ ap (λ (e : Request). Some e) (sym c.index-requests-index.is) in
    let done = c.in-Ok-finish.ensures.ok in
    record {
      done = done_more c.loop-index.self c.ask_copy.new.self c.finish.new.self c.args.requests.now c.loop-index.index c.index-requests-index.result c.in-Ok._step c.sound.ensures c.loop-index.invariant.done there c.in-Ok.ensures
          c.in-Ok-finish._count done;
      ran = runs_to c.args.self.now c.ask_copy.new.self c.finish.new.self
          (runs_asked c.args.self.now c.loop-index.self c.ask_copy.new.self c.index-requests-index.result c.in-Ok._step c.loop-index.invariant.ran c.in-Ok.ensures) (c.in-Ok-finish._count, done.ran);
      quiet = quiet_empty c.finish.new.self (done.finished.a, done.finished.b);
      world = c.sound-in-Ok-finish.ensures;
      still = λ none. absurd (omega (arith, none));
    }
