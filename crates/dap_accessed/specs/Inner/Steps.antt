-- What an item asks for in a phase.
use Rattle.std.specs.Prelude.{ℕ, ◌≡◌, ◌<◌, ◌≤◌, ◌==◌, ◌&&◌, nat_lt, if◌then◌else◌, Bool, true, false, [], ◌∷◌, length, Result, Ok, Err}
use Rattle.dap_msg.specs.BothEnds.{min_buffer}
use Rattle.dap_msg.specs.Codes as codes
use Rattle.dap_msg.specs.declared.items.Item.{Item}
use Rattle.dap_msg.specs.declared.message.Message.{Message}
use Rattle.dap_msg.specs.declared.message.Message.TheVariants.{Config, Attrib, Control, Contran, Filedata}
use Rattle.dap_msg.specs.Fitting.{FieldsFit}
use Rattle.rec_file.specs.Acts.{act, delete_record}
use Rattle.dap_accessed.specs.declared.phase.OpenFile.{OpenFile}
use Rattle.dap_accessed.specs.declared.phase.Phase.{Phase}
use Rattle.dap_accessed.specs.declared.phase.Phase.TheVariants as phases
use Rattle.dap_accessed.specs.declared.step.Step.{Step}
use Rattle.dap_accessed.specs.declared.step.Step.TheVariants as steps
use Rattle.dap_accessed.specs.Standing.{Files, the_file}
use Rattle.dap_accessed.specs.Accesses.{files_after_purge}
use Rattle.dap_accessed.specs.Effects.{told}
use Rattle.dap_accessed.specs.Replies.{bare_status, coded, complete_response}
use Rattle.dap_accessed.specs.Past.{asked_file, next_ordinal}
use Rattle.dap_accessed.specs.Records.{Putting, Updating, effect_of_change, get_pick, put_key, record_got, effect_of_outcome}
use Rattle.dap_accessed.specs.Transfers.{fetch, store_one}
use Rattle.dap_accessed.specs.Present.{Present}
use Rattle.dap_accessed.specs.Inner.Written.{IsShortReply, reply_message}
use Rattle.dap_accessed.specs.Inner.Moves.{Move, begins_group, creates, does, erases, is_silent, move_in, opens, opens_nothing, scene_in, settles, store_memory}
use Rattle.dap_accessed.specs.Sessions.{IsOpenIn}

-- one answer, and nothing moves but the phase
abbrev pub replies : Present → Message → Phase → Move
replies p message phase = record { present = record p { phase = phase }; answers = coded p.setup.full message ∷ [] }

-- what a step leaves, and its answers
abbrev pub step_move : Step → Present → Move
step_move (steps.Enter phase) p = begins_group p phase
step_move (steps.Reply answer phase) p = replies p (reply_message answer) phase
step_move (steps.Configure limit) p =
    record { present = record p { limit = limit; phase = phases.Ready }; answers = Config p.setup.identity ∷ [] }
step_move (steps.Keep a) p = record { present = record p { kept = asked_file p.setup.full a; phase = phases.Ready }; answers = [] }
step_move (steps.Access func name fac) p =
    if func == codes.accfunc.opening then opens p name.now fac
    else if func == codes.accfunc.creating then creates p name.now fac
    else if p.setup.full && func == codes.accfunc.erasing then erases p name.now
    else opens_nothing p (bare_status (codes.unsupported_code codes.types.access))
step_move (steps.Purge opened) p =
    record { present = record p { files = files_after_purge opened p.files; phase = phases.Ready }; answers = complete_response ∷ [] }
step_move (steps.Get opened stream control) p =
    does p (record_got (get_pick (the_file p.files opened) stream control) (scene_in p) opened stream)
step_move (steps.Fetch opened stream) p = does p (fetch (scene_in p) opened stream)
step_move (steps.Expect opened stream control) p =
    begins_group p (phases.PutDue opened stream (put_key (the_file p.files opened) stream control))
step_move (steps.Put opened stream key body) p =
    does p (effect_of_change (Putting key) (scene_in p) opened stream body.now)
step_move (steps.Update opened stream body) p = does p (effect_of_change Updating (scene_in p) opened stream body.now)
step_move (steps.Delete opened stream) p =
    does p (effect_of_outcome (scene_in p) opened (act delete_record (the_file p.files opened) stream))
step_move (steps.Store opened stream ordinal body) p =
    let e = told p.setup (store_one ordinal (scene_in p) opened stream body.now) in
    settles p (store_memory p.kept (nat_lt 0 (length e.answers)) (next_ordinal ordinal)) e

-- what it needs: the file is in the table, and so is that of the phase that is entered
abbrev pub CanDo : Files → Step → Type 0
CanDo files (steps.Enter next) = IsOpenIn files next
CanDo files (steps.Reply answer next) = IsShortReply answer × IsOpenIn files next
CanDo files (steps.Configure limit) = min_buffer ≤ limit
CanDo files (steps.Keep a) = FieldsFit (Attrib a)
CanDo files (steps.Access func name fac) = Unit {0}
CanDo files (steps.Purge opened) = opened.at < length files
CanDo files (steps.Get opened stream control) = opened.at < length files
CanDo files (steps.Fetch opened stream) = opened.at < length files
CanDo files (steps.Expect opened stream control) = opened.at < length files
CanDo files (steps.Put opened stream key body) = opened.at < length files
CanDo files (steps.Update opened stream body) = opened.at < length files
CanDo files (steps.Delete opened stream) = opened.at < length files
CanDo files (steps.Store opened stream ordinal body) = opened.at < length files

-- what takes no memory
abbrev pub is_quiet : Step → Bool
is_quiet (steps.Enter phase) = true
is_quiet (steps.Keep a) = true
is_quiet (steps.Expect opened stream control) = true
is_quiet step = false

-- an item that is refused ends a group of two
abbrev pub phase_after_refusal : Phase → Phase
phase_after_refusal (phases.PutDue opened stream key) = phases.Connected opened stream
phase_after_refusal (phases.UpdateDue opened stream) = phases.Connected opened stream
phase_after_refusal phase = phase

-- the item does what the step says, and the step can be done
pub record IsFor (phase : Phase) (item : Item) (step : Step) : Type 0 where
  pub moves : (p : Present) → move_in phase p item ≡ step_move step p
  pub can : (files : Files) → IsOpenIn files phase → CanDo files step
  pub quiet : is_silent phase item ≡ is_quiet step

-- it does nothing, but that it ends a group of two, and has a Status with this code
pub record RefusesItem (phase : Phase) (item : Item) (code : ℕ) : Type 0 where
  pub moves : (p : Present) → move_in phase p item ≡ replies p (bare_status code) (phase_after_refusal phase)
  pub answered : is_silent phase item ≡ false

-- what the item asks for, or how it is refused
abbrev pub AsksFor : Phase → Item → Result Step ℕ → Type 0
AsksFor phase item (Ok step) = IsFor phase item step
AsksFor phase item (Err code) = RefusesItem phase item code

-- the file is open in the phase, and no record is due
abbrev pub HasOpen : Phase → OpenFile → Type 0
HasOpen (phases.Opened o) opened = o ≡ opened
HasOpen (phases.Connected o stream) opened = o ≡ opened
HasOpen (phases.Storing o stream ordinal) opened = o ≡ opened
HasOpen (phases.Dropping o stream ordinal) opened = o ≡ opened
HasOpen (phases.Stopped o stream) opened = o ≡ opened
HasOpen phase opened = ⊥

-- the phase has no rule for the message
abbrev pub IsCommon : Phase → Message → Type 0
IsCommon (phases.Opened opened) (Control control) = ⊥
IsCommon (phases.Connected opened stream) (Control control) = ⊥
IsCommon (phases.Storing opened stream ordinal) (Filedata recnum payload) = ⊥
IsCommon (phases.Dropping opened stream ordinal) (Filedata recnum payload) = ⊥
IsCommon (phases.Dropping opened stream ordinal) (Contran func) = ⊥
IsCommon (phases.Stopped opened stream) (Contran func) = ⊥
IsCommon phase message = Unit {0}
