use Rattle.std.proofs.Common.{ℕ, Bool, List, ap, sym, subst, ◌≡◌, [], ◌∷◌, ◌++◌, ◌+◌, ◌≤◌, arith, map, length, ◌∙◌, ◌<◌}
use Rattle.std.proofs.lemmas.Bool.{le-leb, lt-leb}
use Rattle.dap_accessed.specs.declared.phase.Phase.TheVariants as phases
use Rattle.dap_accessed.specs.Standing.{Effect}
use Rattle.dap_msg.specs.Codes as codes
use Rattle.dap_accessed.specs.Replies.{bare_status, coded, too_large}
use Rattle.dap_accessed.specs.Present.{phase_at}
use Rattle.dap_accessed.specs.Inner.Moves.{plain_memory, scene_in}
use Rattle.rec_file.specs.AnyFiles.{any_value}
use Rattle.rec_file.specs.Files.{records_from}
use Rattle.dap_msg.specs.Canon.{canon}
use Rattle.dap_msg.specs.declared.message.Message.{Message}
use Rattle.dap_msg.specs.declared.message.Message.TheVariants.{Filedata}
use Rattle.dap_accessed.specs.Sessions.{SessionValue, with_files}
use Rattle.dap_accessed.specs.Served.{AreAnswers}
use Rattle.dap_accessed.specs.Effects.{told}
use Rattle.dap_accessed.specs.Records.{filedata_of}
use Rattle.dap_accessed.proofs.Coding.{coded-records}
use Rattle.dap_accessed.proofs.Fetching.{GoesOn, filedata_size, begins, goes_on, above_next, ends_there, stops_there}
use Rattle.dap_accessed.proofs.session.Session.batch.Goals as goal

pub loop-number-init : goal.loop-number-init
loop-number-init c =
    subst (λ n. GoesOn c.args.self.now.limit (any_value c.file-file.result.now) c.args.stream.next n c.none-answers.result) (sym c.next-next.ensures.same)
    (begins c.args.self.now.limit (any_value c.file-file.result.now) c.args.stream.next c.none-answers.result
    (omega (arith, c.next-next.ensures.same, c.next-next.ensures.above)) (omega (arith, c.next-next.ensures.same, c.next-next.ensures.within)) c.none-answers.ensures)

pub loop-number-preserved : goal.loop-number-preserved
loop-number-preserved c =
    let limit : c.self.inside.limit ≡ c.args.self.now.limit = ap (λ (p : SessionValue). p.limit) c.self.view_is in
    let given = c.loop-number.invariant.given in
    let fits : length (canon (filedata_of (c.in-Some.number, c.in-Some.body.now))) ≤ c.args.self.now.limit = omega (arith, filedata_size (c.in-Some.number, c.in-Some.body.now), c.if-filedata_len-from.false, c.filedata_len.ensures, c.from.ensures, limit) in
    goes_on c.args.self.now.limit (any_value c.file-file.result.now) c.args.stream.next c.loop-number.next c.loop-number.answers c.append-in-Some.new.answers
    (c.in-Some.number, c.in-Some.body.now) c.loop-number.invariant c.in-Some.ensures.some (le-leb _ _ fits) c.in-Some.ensures.within
    (subst (λ (l : ℕ). AreAnswers l (map filedata_of given ++ filedata_of (c.in-Some.number, c.in-Some.body.now) ∷ []) c.append-in-Some.new.answers) limit
    (subst (λ (n : List ℕ). AreAnswers c.self.inside.limit (map filedata_of given ++ Filedata n c.in-Some.body.now ∷ []) c.append-in-Some.new.answers) c.to_le_bytes.ensures
    (c.in_ok-append-2.ensures (map filedata_of given) (subst (λ (l : ℕ). AreAnswers l (map filedata_of given) c.loop-number.answers) (sym limit) c.loop-number.invariant.answered))))

pub at_number-requires-clause-above : goal.at_number-requires-clause-above
at_number-requires-clause-above c =
    omega (arith, c.loop-number.invariant.above, above_next (any_value c.file-file.result.now).records c.loop-number.next (c.in-Some.number, c.in-Some.body.now) (records_from (any_value c.file-file.result.now).records (c.in-Some.number + 1)) c.in-Some.ensures.some)

pub loop-number-smaller : goal.loop-number-smaller
loop-number-smaller c = omega (arith, ap length c.in-Some.ensures.some)

pub returns-then-filedata_len-from-clause-phase : goal.returns-then-filedata_len-from-clause-phase
returns-then-filedata_len-from-clause-phase c =
    let limit : c.self.inside.limit ≡ c.args.self.now.limit = ap (λ (p : SessionValue). p.limit) c.self.view_is in
    let file = c.file-file.ensures in
    let large : c.args.self.now.limit < length (canon (filedata_of (c.in-Some.number, c.in-Some.body.now))) = omega (arith, filedata_size (c.in-Some.number, c.in-Some.body.now), c.if-filedata_len-from.true, c.filedata_len.ensures, c.from.ensures, limit) in
    ap (phases.Stopped c.args.opened) c.at_number.ensures
    ∙ sym (ap (λ (e : Effect). phase_at e.state (plain_memory c.args.self.now.kept)) (stops_there (scene_in (with_files c.args.files.now c.args.self.now)) c.args.opened c.args.stream (any_value c.file-file.result.now) c.loop-number.next c.loop-number.answers
    (c.in-Some.number, c.in-Some.body.now) (records_from (any_value c.file-file.result.now).records (c.in-Some.number + 1)) file c.loop-number.invariant c.in-Some.ensures.some (lt-leb _ _ large)))

pub returns-then-filedata_len-from-clause-answers : goal.returns-then-filedata_len-from-clause-answers
returns-then-filedata_len-from-clause-answers c =
    let limit : c.self.inside.limit ≡ c.args.self.now.limit = ap (λ (p : SessionValue). p.limit) c.self.view_is in
    let file = c.file-file.ensures in
    let large : c.args.self.now.limit < length (canon (filedata_of (c.in-Some.number, c.in-Some.body.now))) = omega (arith, filedata_size (c.in-Some.number, c.in-Some.body.now), c.if-filedata_len-from.true, c.filedata_len.ensures, c.from.ensures, limit) in
    let given = c.loop-number.invariant.given in
    let full : c.self.inside.setup.full ≡ c.args.self.now.setup.full = ap (λ (p : SessionValue). p.setup.full) c.self.view_is in
    let message = c.coded-answer.ensures.message ∙ ap (coded c.self.inside.setup.full) c.too_large.ensures.message ∙ ap (λ (b : Bool). coded b too_large) full in
    subst (λ (e : Effect). AreAnswers c.args.self.now.limit (told c.args.self.now.setup e).answers c.append.new.answers)
    (sym (stops_there (scene_in (with_files c.args.files.now c.args.self.now)) c.args.opened c.args.stream (any_value c.file-file.result.now) c.loop-number.next c.loop-number.answers
    (c.in-Some.number, c.in-Some.body.now) (records_from (any_value c.file-file.result.now).records (c.in-Some.number + 1)) file c.loop-number.invariant c.in-Some.ensures.some (lt-leb _ _ large)))
    (subst (λ (l : List Message). AreAnswers c.args.self.now.limit l c.append.new.answers) (sym (coded-records c.args.self.now.setup.full given too_large))
    (subst (λ (l : ℕ). AreAnswers l (map filedata_of given ++ coded c.args.self.now.setup.full too_large ∷ []) c.append.new.answers) limit
    (subst (λ (m : Message). AreAnswers c.self.inside.limit (map filedata_of given ++ m ∷ []) c.append.new.answers) message (c.in_ok-append.ensures (map filedata_of given) (subst (λ (l : ℕ). AreAnswers l (map filedata_of given) c.loop-number.answers) (sym limit) c.loop-number.invariant.answered)))))

pub returns-clause-phase : goal.returns-clause-phase
returns-clause-phase c =
    let file = c.file-file.ensures in
    ap (phases.Connected c.args.opened) c.at_number-2.ensures
    ∙ sym (ap (λ (e : Effect). phase_at e.state (plain_memory c.args.self.now.kept)) (ends_there (scene_in (with_files c.args.files.now c.args.self.now)) c.args.opened c.args.stream (any_value c.file-file.result.now) c.loop-number.next c.loop-number.answers
    file c.loop-number.invariant c.in_default.ensures.none))

pub returns-clause-answers : goal.returns-clause-answers
returns-clause-answers c =
    let limit : c.self.inside.limit ≡ c.args.self.now.limit = ap (λ (p : SessionValue). p.limit) c.self.view_is in
    let file = c.file-file.ensures in
    let given = c.loop-number.invariant.given in
    subst (λ (e : Effect). AreAnswers c.args.self.now.limit (told c.args.self.now.setup e).answers c.append-2.new.answers)
    (sym (ends_there (scene_in (with_files c.args.files.now c.args.self.now)) c.args.opened c.args.stream (any_value c.file-file.result.now) c.loop-number.next c.loop-number.answers
    file c.loop-number.invariant c.in_default.ensures.none))
    (subst (λ (l : List Message). AreAnswers c.args.self.now.limit l c.append-2.new.answers) (sym (coded-records c.args.self.now.setup.full given (bare_status codes.stscode.end_of_file)))
    (subst (λ (l : ℕ). AreAnswers l (map filedata_of given ++ bare_status codes.stscode.end_of_file ∷ []) c.append-2.new.answers) limit
    (c.in_ok-append-3.ensures (map filedata_of given) (subst (λ (l : ℕ). AreAnswers l (map filedata_of given) c.loop-number.answers) (sym limit) c.loop-number.invariant.answered))))
