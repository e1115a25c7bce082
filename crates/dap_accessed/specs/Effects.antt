-- What each message does in each phase, and its answers (DAP 5.6.0, message sequences). The answers to a message that
-- is out of sequence are a choice of this implementation.
use Rattle.std.specs.Prelude.{ℕ, Bool, if◌then◌else◌, List, [], ◌∷◌, map, Option}
use Rattle.dap_msg.specs.Codes as codes
use Rattle.dap_msg.specs.declared.message.Message.{Message}
use Rattle.dap_msg.specs.declared.message.ControlFields.{ControlFields}
use Rattle.dap_msg.specs.declared.message.Message.TheVariants.{Config, Attrib, Access, Control, Contran, Ack, Accomp, Filedata, Other}
use Rattle.dap_msg.specs.BothEnds.{message_limit, is_too_small}
use Rattle.dap_msg.specs.declared.items.Item.{Item}
use Rattle.dap_msg.specs.declared.items.Item.TheVariants.{Whole, Malformed}
use Rattle.rec_file.specs.declared.refusals.Refusal.TheVariants.{NotPermitted}
use Rattle.rec_file.specs.Acts.{StreamVal, delete_record, act}
use Rattle.dap_accessed.specs.declared.asked.Asked.{Asked}
use Rattle.dap_accessed.specs.declared.setup.ServerSetup.{ServerSetup}
use Rattle.dap_accessed.specs.declared.phase.OpenFile.{OpenFile}
use Rattle.dap_accessed.specs.declared.verbs.Verb.{Verb}
use Rattle.dap_accessed.specs.declared.verbs.Verb.TheVariants as verbs
use Rattle.dap_accessed.specs.Standing.{the_file, ServerState, Fresh, Ready, Opened, Connected, Store, Stopped, Group, Standing, Scene, Effect, enters}
use Rattle.dap_accessed.specs.Replies.{bare_status, coded, sync_status}
use Rattle.dap_accessed.specs.Past.{asked_file, kept_attributes, is_dropping, ordinal_so_far}
use Rattle.dap_accessed.specs.Accesses.{access_file, complete}
use Rattle.dap_accessed.specs.Records.{at_number, new_stream, verb_of, get_pick, record_got, put_key, refused_effect, effect_of_outcome, Change, Putting, Updating, effect_of_change}
use Rattle.dap_accessed.specs.Transfers.{fetch, continue_fetch, store_one, continue_store}

-- the first message of a group of two, and where it is served
pub record Begun : Type 0 where
  pub first : Item
  pub opened : OpenFile
  pub stream : StreamVal
  pub change : Change

-- What an item does that isn't the second of a group: it is a group by itself, with this effect; or it begins a group
-- of two, and has no effect yet.
pub data Turn : Type 0 where
  Does : Effect → Turn
  BeginsGroup : Begun → Turn

-- an effect with its answers as a server of this setup has them
abbrev pub told : (own : ServerSetup) → Effect → Effect
told own effect = record effect { answers = map (coded own.full) effect.answers }

-- A message that is out of sequence changes nothing.
abbrev pub sync : Scene → ServerState → Message → Effect
sync scene state message = enters scene state (sync_status message ∷ [])

-- the answer to a Control that is out of sequence while a file is open; an unknown CTLFUNC isn't supported
abbrev pub control_status : Verb → Message
control_status verbs.Unknown = bare_status (codes.unsupported_code codes.types.control)
control_status verb = bare_status (codes.out_of_sequence codes.types.control)

-- that answer, which changes nothing
abbrev pub refuse_control : Verb → Scene → ServerState → Effect
refuse_control verb scene state = enters scene state (control_status verb ∷ [])

-- what a message does while a file is open, unless the phase says otherwise
abbrev pub common_effect : Scene → OpenFile → ServerState → Message → Effect
common_effect scene opened state (Control control) = refuse_control (verb_of control) scene state
common_effect scene opened state (Accomp c) = complete c.func scene opened state
common_effect scene opened state message = sync scene state message

-- ---- Fresh.

-- A Configuration sets the peer's limit and is answered by that of this end. A BUFSIZ of 1 to 63 isn't allowed.
-- Messages of types 10 to 16 are ignored.
abbrev pub effect_fresh : (own : ServerSetup) → Scene → Message → Effect
effect_fresh own scene (Config c) =
    if is_too_small c.bufsiz then enters scene Fresh (bare_status (codes.invalid codes.types.config) ∷ [])
    else enters (record scene { limit = message_limit c.bufsiz }) Ready (Config own.identity ∷ [])
effect_fresh own scene (Other _ _) = enters scene Fresh []
effect_fresh own scene message = sync scene Fresh message

-- ---- Ready.

-- Attributes have no answer, an Access opens a file or makes what is asked for, and messages of types 10 to 16 are
-- ignored.
abbrev pub effect_ready : (own : ServerSetup) → Scene → Option Asked → Message → Effect
effect_ready own scene asked (Other _ _) = enters scene Ready []
effect_ready own scene asked (Attrib _) = enters scene Ready []
effect_ready own scene asked (Access access) = access_file own scene access asked
effect_ready own scene asked message = sync scene Ready message

-- ---- Opened.

-- CONNECT is acknowledged, and makes a stream
abbrev pub control_opened : Verb → Scene → OpenFile → Effect
control_opened verbs.Connect scene opened = enters scene (Connected opened (new_stream opened.rights)) (Ack ∷ [])
control_opened verb scene opened = refuse_control verb scene (Opened opened)

-- a Control, or what is common to all phases with an open file
abbrev pub effect_opened : Scene → OpenFile → Message → Effect
effect_opened scene opened (Control control) = control_opened (verb_of control) scene opened
effect_opened scene opened message = common_effect scene opened (Opened opened) message

-- ---- Connected.

-- a Control that begins a group of two
abbrev pub begins_with : ControlFields → OpenFile → StreamVal → Change → Turn
begins_with control opened stream change =
    BeginsGroup (record { first = Whole (Control control); opened = opened; stream = stream; change = change })

-- What a Control does with a stream. PUT and UPDATE begin a group of two. A fetch needs the right to GET. REWIND goes
-- to number 1.
abbrev pub control_connected : Verb → Scene → OpenFile → StreamVal → ControlFields → Turn
control_connected verbs.Get scene opened stream control =
    Does (record_got (get_pick (the_file scene.files opened) stream control) scene opened stream)
control_connected verbs.Fetch scene opened stream control =
    Does (if stream.rights.get then fetch scene opened stream else refused_effect scene opened stream NotPermitted)
control_connected verbs.Put scene opened stream control =
    begins_with control opened stream (Putting (put_key (the_file scene.files opened) stream control))
control_connected verbs.Update scene opened stream control = begins_with control opened stream Updating
control_connected verbs.Store scene opened stream control = Does (enters scene (Store opened stream) [])
control_connected verbs.Delete scene opened stream control =
    Does (effect_of_outcome scene opened (act delete_record (the_file scene.files opened) stream))
control_connected verbs.Rewind scene opened stream control =
    Does (enters scene (Connected opened (at_number 1 stream)) (bare_status codes.stscode.success ∷ []))
control_connected verb scene opened stream control = Does (refuse_control verb scene (Connected opened stream))

-- a Control, or what is common to all phases with an open file
abbrev pub turn_connected : Scene → OpenFile → StreamVal → Message → Turn
turn_connected scene opened stream (Control control) =
    control_connected (verb_of control) scene opened stream control
turn_connected scene opened stream message = Does (common_effect scene opened (Connected opened stream) message)

-- ---- Store. After a refused Data message those after it are dropped. Only then may a Continue Transfer come.

-- A Data message is stored, or ignored while the Store drops. A Continue Transfer is in sequence only then.
abbrev pub effect_store : (dropping : Bool) → (ordinal : ℕ) → Scene → OpenFile → StreamVal → Message → Effect
effect_store dropping ordinal scene opened stream (Filedata _ body) =
    if dropping then enters scene (Store opened stream) [] else store_one ordinal scene opened stream body
effect_store dropping ordinal scene opened stream (Contran func) =
    if dropping then continue_store func scene opened stream else sync scene (Store opened stream) (Contran func)
effect_store dropping ordinal scene opened stream message = common_effect scene opened (Store opened stream) message

-- ---- Stopped.

-- a Continue Transfer goes on with the fetch, or ends it
abbrev pub effect_stopped : Scene → OpenFile → StreamVal → Message → Effect
effect_stopped scene opened stream (Contran func) = continue_fetch func scene opened stream
effect_stopped scene opened stream message = common_effect scene opened (Stopped opened stream) message

-- ---- All phases. Only in Connected does a message begin a group of two.

-- what a message does in a phase
abbrev pub turn_in : (own : ServerSetup) → Scene → (past : List Group) → ServerState → Message → Turn
turn_in own scene past Fresh message = Does (effect_fresh own scene message)
turn_in own scene past Ready message = Does (effect_ready own scene (asked_file own.full (kept_attributes past)) message)
turn_in own scene past (Opened opened) message = Does (effect_opened scene opened message)
turn_in own scene past (Connected opened stream) message = turn_connected scene opened stream message
turn_in own scene past (Store opened stream) message =
    Does (effect_store (is_dropping past) (ordinal_so_far past) scene opened stream message)
turn_in own scene past (Stopped opened stream) message = Does (effect_stopped scene opened stream message)

-- What an item does outside a group of two. A malformed one is answered by the format Status of its type.
abbrev pub turn_of : (own : ServerSetup) → Standing → Item → Turn
turn_of own s (Malformed fault) = Does (enters s.scene s.state (bare_status (codes.status_code_for fault.message_type) ∷ []))
turn_of own s (Whole message) = turn_in own s.scene s.past s.state message

-- ---- The second item of a group of two.

-- the second item of a group of two; one that is no Data message ends the group without its operation
abbrev pub effect_with : Change → Scene → OpenFile → StreamVal → Item → Effect
effect_with change scene opened stream (Whole (Filedata _ body)) = effect_of_change change scene opened stream body
effect_with change scene opened stream (Whole message) = sync scene (Connected opened stream) message
effect_with change scene opened stream (Malformed fault) =
    enters scene (Connected opened stream) (bare_status (codes.status_code_for fault.message_type) ∷ [])
