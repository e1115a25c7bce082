-- Sequential file transfer (DAP 5.6.0, Control and Continue Transfer messages). Where a fetch stops is a choice of
-- this implementation.
use Rattle.std.specs.Prelude.{ℕ, ◌+◌, ◌==◌, if◌then◌else◌, List, [], ◌∷◌, ◌++◌, map, fold, take_while, drop, None, Result, Ok, Err}
use Rattle.std.specs.List.{prefix_len}
use Rattle.dap_msg.specs.Codes as codes
use Rattle.dap_msg.specs.declared.message.Message.{Message}
use Rattle.dap_msg.specs.BothEnds.{four_bytes}
use Rattle.rec_file.specs.declared.refusals.Refusal.{Refusal}
use Rattle.rec_file.specs.Files.{records_from}
use Rattle.rec_file.specs.Acts.{StreamVal, put_record, act}
use Rattle.dap_accessed.specs.declared.phase.OpenFile.{OpenFile}
use Rattle.dap_accessed.specs.Standing.{with_file, the_file, Connected, Store, Stopped, Scene, Effect, enters}
use Rattle.dap_accessed.specs.Replies.{bare_status, refusal_status, too_large}
use Rattle.dap_accessed.specs.Past.{next_ordinal}
use Rattle.dap_accessed.specs.Records.{at_number, filedata_of, fits_limit}

-- ---- To the peer.

-- The records that are sent, and the end of the fetch. At the end of the file the stream is after the last record that
-- was sent. At a record too large the stream is at that one, and the phase is Stopped.
abbrev pub fetch_ends : Scene → OpenFile → StreamVal → (given rest : List (ℕ × List ℕ)) → Effect
fetch_ends scene opened stream given [] =
    enters scene (Connected opened (at_number (fold (λ n r. r.0 + 1) stream.next given) stream))
    (map filedata_of given ++ bare_status codes.stscode.end_of_file ∷ [])
fetch_ends scene opened stream given (large ∷ more) =
    enters scene (Stopped opened (at_number large.0 stream)) (map filedata_of given ++ too_large ∷ [])

-- the records from the stream's next number on, before the first whose Data message is longer than the limit
abbrev pub fetch : Scene → OpenFile → StreamVal → Effect
fetch scene opened stream =
    let due = records_from (the_file scene.files opened).records stream.next in
    fetch_ends scene opened stream (take_while (fits_limit scene.limit) due) (drop (prefix_len (fits_limit scene.limit) due) due)

-- another Continue Transfer: a resumption isn't supported, any other value isn't allowed
abbrev pub continue_refused : (func : ℕ) → Message
continue_refused func =
    bare_status (if func == codes.confunc.resume then codes.unsupported_code codes.types.contran else codes.invalid codes.types.contran)

-- A Continue Transfer after a fetch that stopped: again from that record, from the number after it, or not at all.
abbrev pub continue_fetch : (func : ℕ) → Scene → OpenFile → StreamVal → Effect
continue_fetch func scene opened stream =
    if func == codes.confunc.again then fetch scene opened stream
    else if func == codes.confunc.skip then fetch scene opened (at_number (stream.next + 1) stream)
    else if func == codes.confunc.abort then enters scene (Connected opened stream) (bare_status codes.stscode.end_of_file ∷ [])
    else enters scene (Stopped opened stream) (continue_refused func ∷ [])

-- ---- To this end.

-- A record that was stored has no answer. A refusal has its ordinal as RECNUM.
abbrev pub stored_answers : (ordinal : ℕ) → Result ℕ Refusal → List Message
stored_answers ordinal (Ok n) = []
stored_answers ordinal (Err refusal) = refusal_status refusal (four_bytes ordinal) ∷ []

-- a Data message of a Store: a PUT without a key
abbrev pub store_one : (ordinal : ℕ) → Scene → OpenFile → StreamVal → List ℕ → Effect
store_one ordinal scene opened stream body =
    let outcome = act (put_record None body) (the_file scene.files opened) stream in
    enters (record scene { files = with_file opened.at outcome.file scene.files }) (Store opened outcome.stream)
    (stored_answers (next_ordinal ordinal) outcome.reply)

-- a Continue Transfer after a refused Data message of a Store
abbrev pub continue_store : (func : ℕ) → Scene → OpenFile → StreamVal → Effect
continue_store func scene opened stream =
    enters scene (Store opened stream) (if func == codes.confunc.skip then [] else continue_refused func ∷ [])
