-- Operations on records (DAP 5.6.0, Control message).
use Rattle.std.specs.Prelude.{ℕ, Bool, not, ◌&&◌, ◌||◌, nat_lt, nat_le, ◌==◌, if◌then◌else◌, List, [], ◌∷◌, length, Option, Some, None, is_err, unwrap_or, Result, Ok, Err}
use Rattle.std.specs.Result.{result_unwrap_or}
use Rattle.std.specs.FinMap as map
use Rattle.dap_msg.specs.Codes as codes
use Rattle.dap_msg.specs.declared.message.Message.{Message}
use Rattle.dap_msg.specs.declared.message.ControlFields.{ControlFields}
use Rattle.dap_msg.specs.Canon.{canon}
use Rattle.dap_msg.specs.BothEnds.{data_message}
use Rattle.rec_file.specs.declared.picks.Rights.{Rights}
use Rattle.rec_file.specs.declared.picks.Pick.{Pick}
use Rattle.rec_file.specs.declared.picks.Pick.TheVariants.{Next, Key, Rfa}
use Rattle.rec_file.specs.declared.refusals.Refusal.{Refusal}
use Rattle.rec_file.specs.declared.refusals.Refusal.TheVariants.{NotPermitted, BadAccessMode, BadKey}
use Rattle.rec_file.specs.Shapes.{is_seq}
use Rattle.rec_file.specs.Keys.{number_of_key}
use Rattle.rec_file.specs.Files.{FileVal}
use Rattle.rec_file.specs.Acts.{StreamVal, get_record, put_record, update_record, first_refusal, Outcome, act}
use Rattle.dap_accessed.specs.declared.phase.OpenFile.{OpenFile}
use Rattle.dap_accessed.specs.declared.verbs.Verb.{Verb}
use Rattle.dap_accessed.specs.declared.verbs.Verb.TheVariants as verbs
use Rattle.dap_accessed.specs.Standing.{with_file, the_file, Connected, Scene, Effect, enters}
use Rattle.dap_accessed.specs.Replies.{refusal_status, record_status, too_large}

-- the stream with no current record
abbrev pub stream_without_current : StreamVal → StreamVal
stream_without_current stream = record stream { current = None }

-- the stream at another number, with no current record
abbrev pub at_number : ℕ → StreamVal → StreamVal
at_number n stream = record stream { next = n; current = None }

-- a stream of an Access, at number 1
abbrev pub new_stream : Rights → StreamVal
new_stream rights = record { rights = rights; next = 1; current = None }

-- RAC missing is sequential
abbrev pub rac_of : ControlFields → ℕ
rac_of control = unwrap_or control.rac codes.rac.sequential

-- the next record
abbrev pub is_next : ControlFields → Bool
is_next control = rac_of control == codes.rac.sequential

-- the record with a key
abbrev pub is_keyed : ControlFields → Bool
is_keyed control = rac_of control == codes.rac.keyed

-- What a Control asks for, by CTLFUNC. With RAC 3 a GET is a fetch and a PUT is a Store.
abbrev pub verb_of : ControlFields → Verb
verb_of control =
    if control.func == codes.ctlfunc.get then (if rac_of control == codes.rac.whole_file then verbs.Fetch else verbs.Get)
    else if control.func == codes.ctlfunc.connect then verbs.Connect
    else if control.func == codes.ctlfunc.update then verbs.Update
    else if control.func == codes.ctlfunc.put then (if rac_of control == codes.rac.whole_file then verbs.Store else verbs.Put)
    else if control.func == codes.ctlfunc.delete then verbs.Delete
    else if control.func == codes.ctlfunc.rewind then verbs.Rewind else verbs.Unknown

-- the number of KEY; KEY missing is empty, which is a bad key
abbrev pub key_of : ControlFields → Result ℕ Refusal
key_of control = number_of_key (unwrap_or control.key [])

-- the refusal, if there is one, or else the value
abbrev pub or_refusal : {X : Type 0} → Option Refusal → X → Result X Refusal
or_refusal None x = Ok x
or_refusal (Some refusal) x = Err refusal

-- Why a GET or a PUT is refused before its number is looked up, in order: the right is missing; RAC is too large, or
-- is 1 in a sequential file; or KEY isn't 1 to 4 bytes and RAC isn't 0.
abbrev pub refusals_before : (right : Bool) → (max_rac : ℕ) → FileVal → ControlFields → List (Bool × Refusal)
refusals_before right max_rac file control =
    (not right, NotPermitted)
    ∷ (nat_lt max_rac (rac_of control) || (is_keyed control && is_seq file.shape.org), BadAccessMode)
    ∷ (not (is_next control) && is_err (key_of control), BadKey) ∷ []

-- ---- GET.

-- which record: RAC 0 the next one, RAC 1 that of the key, RAC 2 that of the key as a record file address
abbrev pub pick_of : ControlFields → Pick
pick_of control =
    if is_next control then Next
    else if is_keyed control then Key (result_unwrap_or (key_of control) 0) else Rfa (result_unwrap_or (key_of control) 0)

-- which record a GET is for, or why it is refused
abbrev pub get_pick : FileVal → StreamVal → ControlFields → Result Pick Refusal
get_pick file stream control =
    or_refusal (first_refusal (refusals_before stream.rights.get codes.rac.address file control)) (pick_of control)

-- A refusal leaves the files and the stream's next number, and no current record.
abbrev pub refused_effect : Scene → OpenFile → StreamVal → Refusal → Effect
refused_effect scene opened stream refusal =
    enters scene (Connected opened (stream_without_current stream)) (refusal_status refusal [] ∷ [])

-- the Data message of a record, with its number in 4 bytes
abbrev pub filedata_of : ℕ × List ℕ → Message
filedata_of r = data_message r.0 r.1

-- a record's Data message is within the limit
abbrev pub fits_limit : ℕ → ℕ × List ℕ → Bool
fits_limit limit r = nat_le (length (canon (filedata_of r))) limit

-- What a GET answers. A record whose Data message is too long for the peer is refused, and the stream stays before
-- it.
abbrev pub got : Result ℕ Refusal → Scene → OpenFile → (before after : StreamVal) → Effect
got (Err refusal) scene opened before after = refused_effect scene opened before refusal
got (Ok n) scene opened before after =
    let r : ℕ × List ℕ = (n, unwrap_or (map.get (the_file scene.files opened).records n) []) in
    if fits_limit scene.limit r then enters scene (Connected opened after) (filedata_of r ∷ [])
    else enters scene (Connected opened (stream_without_current before)) (too_large ∷ [])

-- what a GET does, unless it was refused before
abbrev pub record_got : Result Pick Refusal → Scene → OpenFile → StreamVal → Effect
record_got (Err refusal) scene opened stream = refused_effect scene opened stream refusal
record_got (Ok pick) scene opened stream =
    let outcome = act (get_record pick) (the_file scene.files opened) stream in
    got outcome.reply scene opened stream outcome.stream

-- ---- PUT, UPDATE and DELETE.

-- the key of a PUT, if it has one, or why it is refused
abbrev pub put_key : FileVal → StreamVal → ControlFields → Result (Option ℕ) Refusal
put_key file stream control =
    or_refusal (first_refusal (refusals_before stream.rights.put codes.rac.keyed file control))
    (if is_keyed control then Some (result_unwrap_or (key_of control) 0) else None)

-- a PUT, an UPDATE or a DELETE: the file and the stream are those that the operation leaves, and the answer is one
-- Status
abbrev pub effect_of_outcome : Scene → OpenFile → Outcome → Effect
effect_of_outcome scene opened outcome =
    enters (record scene { files = with_file opened.at outcome.file scene.files }) (Connected opened outcome.stream)
    (record_status outcome.reply ∷ [])

-- what a Control begins: a PUT, which may be refused already, or an UPDATE
pub data Change : Type 0 where
  Putting : (key : Result (Option ℕ) Refusal) → Change
  Updating : Change

-- the PUT or the UPDATE, once the Data message has come
abbrev pub effect_of_change : Change → Scene → OpenFile → StreamVal → List ℕ → Effect
effect_of_change (Putting (Err refusal)) scene opened stream body =
    refused_effect scene opened stream refusal
effect_of_change (Putting (Ok key)) scene opened stream body =
    effect_of_outcome scene opened (act (put_record key body) (the_file scene.files opened) stream)
effect_of_change Updating scene opened stream body =
    effect_of_outcome scene opened (act (update_record body) (the_file scene.files opened) stream)
