-- What an item does to what an end keeps, and its answers.
use Rattle.std.specs.Prelude.{ℕ, ◌≡◌, Bool, true, false, not, ◌==◌, nat_lt, List, [], ◌∷◌, length, Option, Some, Result, IfOk}
use Rattle.std.specs.Global.{Vec}
use Rattle.dap_msg.specs.Codes as codes
use Rattle.dap_msg.specs.declared.message.Message.{Message}
use Rattle.dap_msg.specs.declared.message.Message.TheVariants.{Attrib, Access, Control, Contran, Filedata, Other}
use Rattle.dap_msg.specs.declared.items.Item.{Item}
use Rattle.dap_msg.specs.declared.items.Item.TheVariants.{Whole, Malformed}
use Rattle.rec_file.specs.Acts.{StreamVal}
use Rattle.rec_file.specs.declared.refusals.Refusal.{Refusal}
use Rattle.dap_accessed.specs.declared.asked.Asked.{Asked}
use Rattle.dap_accessed.specs.declared.fault.NoMemory.{NoMemory}
use Rattle.dap_accessed.specs.declared.setup.ServerSetup.{ServerSetup}
use Rattle.dap_accessed.specs.declared.phase.OpenFile.{OpenFile}
use Rattle.dap_accessed.specs.declared.phase.Phase.{Phase}
use Rattle.dap_accessed.specs.declared.phase.Phase.TheVariants as phases
use Rattle.dap_accessed.specs.declared.verbs.Verb.{Verb}
use Rattle.dap_accessed.specs.declared.verbs.Verb.TheVariants as verbs
use Rattle.dap_accessed.specs.Naming.{index_by, index_to_erase, number_made}
use Rattle.dap_accessed.specs.Standing.{plain_shape, ServerState, Scene, Effect, enters, Fresh, Ready, Opened, Connected, Store, Stopped}
use Rattle.dap_accessed.specs.Asked.{plainly}
use Rattle.dap_accessed.specs.Past.{asked_file, next_ordinal}
use Rattle.dap_accessed.specs.Accesses.{refuse_access, open_file, create_file, erase_file}
use Rattle.dap_accessed.specs.Replies.{bare_status, too_large}
use Rattle.dap_accessed.specs.Records.{verb_of, Putting, Updating, refused_effect, stream_without_current}
use Rattle.dap_accessed.specs.Transfers.{fetch}
use Rattle.dap_accessed.specs.Effects.{Turn, Does, BeginsGroup, told, effect_fresh, effect_ready, effect_opened, turn_connected, effect_store, effect_stopped, effect_with}
use Rattle.dap_accessed.specs.Present.{Present, Memory, phase_at, phase_within}
use Rattle.dap_accessed.specs.Served.{AreAnswers}

-- what an item leaves, and its answers
pub record Move : Type 0 where
  pub present : Present
  pub answers : List Message

abbrev pub scene_in : Present → Scene
scene_in p = record { limit = p.limit; files = p.files }

-- outside a Store nothing is dropped or counted
abbrev pub plain_memory : Option Asked → Memory
plain_memory asked = record { asked = asked; dropping = false; ordinal = 0 }

abbrev pub store_memory : Option Asked → Bool → ℕ → Memory
store_memory asked dropping ordinal = record { asked = asked; dropping = dropping; ordinal = ordinal }

-- ---- What counts of the past after one more group.

-- without Attributes
abbrev pub plainly_asked : Option Asked
plainly_asked = Some (plainly plain_shape)

-- in Ready an Attributes message is kept, and an Access uses it up
abbrev pub asked_next : (full : Bool) → Option Asked → Item → Option Asked
asked_next full asked (Whole (Attrib a)) = asked_file full a
asked_next full asked (Whole (Access _)) = plainly_asked
asked_next full asked _ = asked

-- in a Store a Filedata that is answered was refused, and a Continue Transfer with skip takes the Store up again
abbrev pub drops_next : Bool → Item → List Message → Bool
drops_next false (Whole (Filedata _ _)) answers = nat_lt 0 (length answers)
drops_next false _ answers = false
drops_next true (Whole (Contran func)) answers = not (func == codes.confunc.skip)
drops_next true _ answers = true

abbrev pub ordinal_next : ℕ → Item → ℕ
ordinal_next ordinal (Whole (Filedata _ _)) = next_ordinal ordinal
ordinal_next ordinal _ = ordinal

abbrev pub remembers : (full : Bool) → Memory → ServerState → Item → List Message → Memory
remembers full memory Ready item answers = plain_memory (asked_next full memory.asked item)
remembers full memory (Store _ _) item answers =
    store_memory memory.asked (drops_next memory.dropping item answers) (ordinal_next memory.ordinal item)
remembers full memory _ item answers = plain_memory memory.asked

-- ---- Moves.

-- after a group with this effect, if this counts of the past then
abbrev pub settles : Present → Memory → Effect → Move
settles p memory effect =
    record {
      present = record {
        own = p.own;
        setup = p.setup;
        limit = effect.scene.limit;
        files = effect.scene.files;
        kept = memory.asked;
        phase = phase_at effect.state memory;
      };
      answers = effect.answers;
    }

-- nothing moves but the phase, without an answer
abbrev pub begins_group : Present → Phase → Move
begins_group p phase = record { present = record p { phase = phase }; answers = [] }

-- an item that begins a group, or is one with this effect
abbrev pub turns : Turn → Present → Memory → ServerState → Item → Move
turns (Does effect) p memory state item =
    settles p (remembers p.setup.full memory state item (told p.setup effect).answers) (told p.setup effect)
turns (BeginsGroup begun) p memory state item = begins_group p (phase_within begun.change begun.opened begun.stream)

-- what an item does outside a group of two, where this counts of the past
abbrev pub turn_by : (own : ServerSetup) → Scene → Memory → ServerState → Item → Turn
turn_by own scene memory state (Malformed fault) = Does (enters scene state (bare_status (codes.status_code_for fault.message_type) ∷ []))
turn_by own scene memory Fresh (Whole message) = Does (effect_fresh own scene message)
turn_by own scene memory Ready (Whole message) = Does (effect_ready own scene memory.asked message)
turn_by own scene memory (Opened opened) (Whole message) = Does (effect_opened scene opened message)
turn_by own scene memory (Connected opened stream) (Whole message) = turn_connected scene opened stream message
turn_by own scene memory (Store opened stream) (Whole message) =
    Does (effect_store memory.dropping memory.ordinal scene opened stream message)
turn_by own scene memory (Stopped opened stream) (Whole message) = Does (effect_stopped scene opened stream message)

abbrev pub between : Present → Memory → ServerState → Item → Move
between p memory state item = turns (turn_by p.setup (scene_in p) memory state item) p memory state item

-- a group that is over, outside a Store
abbrev pub does : Present → Effect → Move
does p effect = settles p (plain_memory p.kept) (told p.setup effect)

abbrev pub move_in : Phase → Present → Item → Move
move_in phases.Fresh p item = between p (plain_memory p.kept) Fresh item
move_in phases.Ready p item = between p (plain_memory p.kept) Ready item
move_in (phases.Opened opened) p item = between p (plain_memory p.kept) (Opened opened) item
move_in (phases.Connected opened stream) p item = between p (plain_memory p.kept) (Connected opened stream) item
move_in (phases.PutDue opened stream key) p item = does p (effect_with (Putting key) (scene_in p) opened stream item)
move_in (phases.UpdateDue opened stream) p item = does p (effect_with Updating (scene_in p) opened stream item)
move_in (phases.Storing opened stream ordinal) p item =
    between p (store_memory p.kept false ordinal) (Store opened stream) item
move_in (phases.Dropping opened stream ordinal) p item =
    between p (store_memory p.kept true ordinal) (Store opened stream) item
move_in (phases.Stopped opened stream) p item = between p (plain_memory p.kept) (Stopped opened stream) item

abbrev pub move : Present → Item → Move
move p item = move_in p.phase p item

-- The end moved so, and these are the answers, blocked by the peer's limit.
pub record Moves (old : Present) (step : Move) (new : Present) (answers : Vec (Vec ℕ)) : Type 0 where
  pub present : new ≡ step.present
  pub answered : AreAnswers old.limit step.answers answers

-- ---- What takes no memory.

-- a Control that has no answer
abbrev pub begins_only : Verb → Bool
begins_only verbs.Put = true
begins_only verbs.Update = true
begins_only verbs.Store = true
begins_only verb = false

-- an item that has no answer and stores no record
abbrev pub is_silent : Phase → Item → Bool
is_silent phases.Fresh (Whole (Other _ _)) = true
is_silent phases.Ready (Whole (Other _ _)) = true
is_silent phases.Ready (Whole (Attrib _)) = true
is_silent (phases.Connected opened stream) (Whole (Control control)) = begins_only (verb_of control)
is_silent (phases.Dropping opened stream ordinal) (Whole (Filedata _ _)) = true
is_silent (phases.Dropping opened stream ordinal) (Whole (Contran func)) = func == codes.confunc.skip
is_silent _ _ = false

-- ---- The words of the contracts.

-- where the call answers, the end moved so
abbrev pub Makes : Move → (old new : Present) → Result (Vec (Vec ℕ)) NoMemory → Type 0
Makes step old new result = IfOk result (Moves old step new)

-- an Access, which uses up the attributes that were kept
abbrev pub accesses : Present → Effect → Move
accesses p effect = settles p (plain_memory plainly_asked) (told p.setup effect)

abbrev pub opens_nothing : Present → Message → Move
opens_nothing p status = accesses p (refuse_access (scene_in p) status)

abbrev pub opens : Present → (name : List ℕ) → (fac : ℕ) → Move
opens p name fac = accesses p (open_file p.setup (scene_in p) fac (index_by p.setup.names name p.files))

abbrev pub creates : Present → (name : List ℕ) → (fac : ℕ) → Move
creates p name fac = accesses p (create_file p.setup (scene_in p) name fac (number_made p.setup.names name p.files) p.kept)

abbrev pub erases : Present → (name : List ℕ) → Move
erases p name = accesses p (erase_file p.setup (scene_in p) (index_to_erase p.setup.names name p.files))

abbrev pub refusal_move : Present → OpenFile → StreamVal → Refusal → Move
refusal_move p opened stream refusal = does p (refused_effect (scene_in p) opened stream refusal)

-- a record that is longer than the peer takes
abbrev pub refuses_large : Present → OpenFile → StreamVal → Move
refuses_large p opened stream = does p (enters (scene_in p) (Connected opened (stream_without_current stream)) (too_large ∷ []))

-- the phase after a fetch
abbrev pub fetched_phase : Present → OpenFile → StreamVal → Phase
fetched_phase p opened stream = phase_at (fetch (scene_in p) opened stream).state (plain_memory p.kept)

abbrev pub HasFetched : Present → OpenFile → StreamVal → Vec (Vec ℕ) → Type 0
HasFetched p opened stream answers =
    AreAnswers p.limit (told p.setup (fetch (scene_in p) opened stream)).answers answers
