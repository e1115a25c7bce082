-- What an operation on a stream does to a file and to the stream, in the manner of RMS.
use Rattle.std.specs.Prelude.{◌≡◌, ℕ, ◌+◌, Bool, true, false, not, ◌&&◌, ◌||◌, nat_le, nat_eq, List, [], ◌∷◌, length, Option, None, Some, is_none, unwrap_or, Result, Ok, Err, IsOk, option_and_then, MatchBool, if◌then◌else◌}
use Rattle.std.specs.Option.{option_map_or}
use Rattle.std.specs.FinMap.{get}
use Rattle.rec_file.specs.declared.shapes.Shape.{Shape}
use Rattle.rec_file.specs.declared.refusals.Refusal.{Refusal}
use Rattle.rec_file.specs.declared.refusals.Refusal.TheVariants.{NotPermitted, NoCurrent, RecordNotFound, RecordExists, NumberOutOfRange, BadLength, BadAccessMode, DeleteNotAllowed, EndOfFile, NoMemory}
use Rattle.rec_file.specs.declared.picks.Rights.{Rights}
use Rattle.rec_file.specs.declared.picks.Pick.{Pick}
use Rattle.rec_file.specs.declared.picks.Pick.TheVariants.{Next, Key, Rfa}
use Rattle.rec_file.specs.Shapes.{is_seq, max_number, allows_length}
use Rattle.rec_file.specs.Files.{FileVal, lowest_from, highest_of, file_with_record, file_without_record}

-- a stream: its user's rights, the number from which it reads next, and the number of its current record, or none
pub record StreamVal : Type 0 where
  pub rights : Rights
  pub next : ℕ
  pub current : Option ℕ

-- an operation, with its arguments
pub data Operation : Type 0 where
  get_record : Pick → Operation
  put_record : Option ℕ → List ℕ → Operation
  update_record : List ℕ → Operation
  delete_record : Operation

-- no record can have the number
abbrev pub out_of_range : Shape → ℕ → Bool
out_of_range shape n = nat_eq n 0 || not (nat_le n (max_number shape))

-- no record has the number
abbrev pub is_free_number : FileVal → ℕ → Bool
is_free_number file n = is_none (get file.records n)

-- the number of the current record, where it is occupied
abbrev pub current_of : FileVal → StreamVal → Option ℕ
current_of file stream = option_and_then (λ n. if is_free_number file n then None else Some n) stream.current

-- in a sequential file the length stays that of the current record
abbrev pub keeps_length : FileVal → Option ℕ → List ℕ → Bool
keeps_length file current body =
    not (is_seq file.shape.org) || nat_eq (length body) (length (unwrap_or (option_and_then (get file.records) current) []))

-- the number that a put without a key takes
abbrev pub free_number : FileVal → StreamVal → ℕ
free_number file stream = if is_seq file.shape.org then highest_of file.records + 1 else stream.next

-- The number that an operation is about, 0 where there is none. A get of the next record: the lowest occupied number
-- from the stream's next on. A put without a key: the number after the highest in a sequential file, and the stream's
-- next in a relative one. An update or a delete: the current record's.
abbrev pub target_number : Operation → FileVal → StreamVal → ℕ
target_number (get_record Next) file stream = unwrap_or (lowest_from file.records stream.next) 0
target_number (get_record (Key n)) file stream = n
target_number (get_record (Rfa n)) file stream = n
target_number (put_record None body) file stream = free_number file stream
target_number (put_record (Some n) body) file stream = n
target_number (update_record body) file stream = unwrap_or (current_of file stream) 0
target_number delete_record file stream = unwrap_or (current_of file stream) 0

-- Why an operation is refused: each reason with its condition, in order. The first whose condition holds is the
-- answer.
abbrev pub refusals_of : Operation → FileVal → StreamVal → List (Bool × Refusal)
refusals_of (get_record Next) file stream =
    (not stream.rights.get, NotPermitted)
    ∷ (is_none (lowest_from file.records stream.next), EndOfFile)
    ∷ []
refusals_of (get_record (Key n)) file stream =
    (not stream.rights.get, NotPermitted)
    ∷ (is_seq file.shape.org, BadAccessMode)
    ∷ (out_of_range file.shape n, NumberOutOfRange)
    ∷ (is_free_number file n, RecordNotFound)
    ∷ []
refusals_of (get_record (Rfa n)) file stream =
    (not stream.rights.get, NotPermitted)
    ∷ (out_of_range file.shape n, NumberOutOfRange)
    ∷ (is_free_number file n, RecordNotFound)
    ∷ []
refusals_of (put_record None body) file stream =
    (not stream.rights.put, NotPermitted)
    ∷ (not (allows_length file.shape (length body)), BadLength)
    ∷ (out_of_range file.shape (free_number file stream), NumberOutOfRange)
    ∷ (
      not (is_seq file.shape.org)
          && not (is_free_number file (free_number file stream)),
      RecordExists,
    )
    ∷ []
refusals_of (put_record (Some n) body) file stream =
    (not stream.rights.put, NotPermitted)
    ∷ (is_seq file.shape.org, BadAccessMode)
    ∷ (not (allows_length file.shape (length body)), BadLength)
    ∷ (out_of_range file.shape n, NumberOutOfRange)
    ∷ (not (is_free_number file n), RecordExists)
    ∷ []
refusals_of (update_record body) file stream =
    (not stream.rights.upd, NotPermitted)
    ∷ (is_none (current_of file stream), NoCurrent)
    ∷ (not (allows_length file.shape (length body) && keeps_length file (current_of file stream) body), BadLength)
    ∷ []
refusals_of delete_record file stream =
    (not stream.rights.del, NotPermitted)
    ∷ (is_seq file.shape.org, DeleteNotAllowed)
    ∷ (is_none (current_of file stream), NoCurrent)
    ∷ []

-- the first reason whose condition holds
abbrev pub first_refusal : List (Bool × Refusal) → Option Refusal
first_refusal [] = None
first_refusal (row ∷ rows) = if row.0 then Some row.1 else first_refusal rows

-- what an operation leaves, and its answer
pub record Outcome : Type 0 where
  pub file : FileVal
  pub stream : StreamVal
  pub reply : Result ℕ Refusal

-- the operation was about the record under n, and leaves this file, this next number and this current record
abbrev pub leaves : ℕ → FileVal → StreamVal → (next : ℕ) → (current : Option ℕ) → Outcome
leaves n file stream next current = record { file = file; stream = record stream { next = next; current = current }; reply = Ok n }

-- What an operation leaves that isn't refused. A get moves the stream after the record and makes it the current one.
-- A put without a key moves it by one in a relative file. All others leave no current record.
abbrev pub effect_of : Operation → ℕ → FileVal → StreamVal → Outcome
effect_of (get_record pick) n file stream = leaves n file stream (n + 1) (Some n)
effect_of (put_record key body) n file stream =
    leaves n (file_with_record file n body) stream (option_map_or (λ k. stream.next) key (if is_seq file.shape.org then stream.next else stream.next + 1)) None
effect_of (update_record body) n file stream = leaves n (file_with_record file n body) stream stream.next None
effect_of delete_record n file stream = leaves n (file_without_record file n) stream stream.next None

-- a refused operation leaves the file, and no current record
abbrev pub outcome_of : Option Refusal → Operation → FileVal → StreamVal → Outcome
outcome_of None operation file stream = effect_of operation (target_number operation file stream) file stream
outcome_of (Some refusal) operation file stream = record { file = file; stream = record stream { current = None }; reply = Err refusal }

-- what an operation leaves, and its answer
abbrev pub act : Operation → FileVal → StreamVal → Outcome
act operation file stream = outcome_of (first_refusal (refusals_of operation file stream)) operation file stream

-- the file, the stream and the answer are those of the outcome
abbrev pub IsOutcome : Outcome → FileVal → StreamVal → Result ℕ Refusal → Type 0
IsOutcome outcome file stream reply = (file ≡ outcome.file) × (stream ≡ outcome.stream) × (reply ≡ outcome.reply)

-- whether the answer is out of memory
abbrev pub is_no_memory : Result ℕ Refusal → Bool
is_no_memory (Err NoMemory) = true
is_no_memory _ = false

-- An operation has its outcome. Or it is out of memory, and nothing has changed; then it wasn't to be refused
-- otherwise.
abbrev pub Acts : Operation → FileVal → StreamVal → FileVal → StreamVal → Result ℕ Refusal → Type 0
Acts operation old_file old_stream file stream reply =
    MatchBool (is_no_memory reply)
    ((file ≡ old_file) × (stream ≡ old_stream) × IsOk (act operation old_file old_stream).reply)
    (IsOutcome (act operation old_file old_stream) file stream reply)
