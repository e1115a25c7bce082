-- Files and records that a server is given before the peer's Configuration.
use Rattle.std.specs.Prelude.{ℕ, ◌≡◌, ◌≢◌, ◌+◌, ◌-◌, ◌<◌, Bool, not, ◌&&◌, ◌||◌, nat_lt, List, [], ◌∷◌, ◌++◌, length, IsSome, Some, None}
use Rattle.std.specs.Option.{option_map_or}
use Rattle.rec_file.specs.declared.refusals.Refusal.{Refusal}
use Rattle.rec_file.specs.declared.refusals.Refusal.TheVariants.{BadLength, NumberOutOfRange, RecordExists}
use Rattle.rec_file.specs.Shapes.{is_seq, allows_length}
use Rattle.rec_file.specs.Files.{FileVal, highest_of, file_with_record}
use Rattle.rec_file.specs.Acts.{out_of_range, is_free_number, first_refusal}
use Rattle.dap_accessed.specs.declared.asked.Asked.{Asked}
use Rattle.dap_accessed.specs.Asked.{made_file}
use Rattle.dap_accessed.specs.declared.fault.AddFault.{AddFault}
use Rattle.dap_accessed.specs.declared.fault.AddFault.TheVariants as fault
use Rattle.dap_msg.specs.declared.items.Item.{Item}
use Rattle.dap_accessed.specs.declared.setup.Names.{Names}
use Rattle.dap_accessed.specs.Standing.{Files, file_at, with_file, Fresh}
use Rattle.dap_accessed.specs.Naming.{name_with, number_given}
use Rattle.dap_accessed.specs.Groups.{stands_after}
use Rattle.dap_accessed.specs.Present.{Present, StandsAfter}

-- No Configuration was served, whatever items left this server.
pub record IsFresh (p : Present) : Type 0 where
  pub is : (first : Files) (items : List Item) → StandsAfter first items p → (stands_after p.setup first items).standing.state ≡ Fresh

-- One was.
pub record IsLate (p : Present) : Type 0 where
  pub isnt : (first : Files) (items : List Item) → StandsAfter first items p → (stands_after p.setup first items).standing.state ≢ Fresh

-- ---- A file.

-- the name of a file that a server is given: with versions its fold and number
abbrev pub name_given : Names → List ℕ → Files → List ℕ
name_given names name files = option_map_or (name_with names name) (number_given names name files) name

-- a file without records, after the others
abbrev pub with_new_file : Names → List ℕ → Asked → Files → Files
with_new_file names name asked files = files ++ (name_given names name files, made_file asked) ∷ []

-- a server may be given a file of this name
abbrev pub MayGive : Names → List ℕ → Files → Type 0
MayGive names name files = IsSome (number_given names name files)

-- no Configuration was served, and no file has this name, as the server compares names
abbrev pub MayAdd : Present → List ℕ → Type 0
MayAdd p name = IsFresh p × MayGive p.setup.names name p.files

-- why a file isn't added, the first reason in this order
abbrev pub AddRefused : Present → List ℕ → AddFault → Type 0
AddRefused p name fault.Busy = IsLate p
AddRefused p name fault.FileExists = IsFresh p × (number_given p.setup.names name p.files ≡ None)
AddRefused p name fault.NoMemory = MayAdd p name
AddRefused p name _ = ⊥

-- ---- A record of the newest file.

-- the index of the newest file
abbrev pub newest : Files → ℕ
newest files = length files - 1

-- in a sequential file, the number is above the next one
abbrev pub leaves_gap : FileVal → ℕ → Bool
leaves_gap file n = is_seq file.shape.org && nat_lt (highest_of file.records + 1) n

-- why a record isn't stored under a number: each reason with its condition, in order
abbrev pub record_refusals : FileVal → ℕ → List ℕ → List (Bool × Refusal)
record_refusals file n body =
    (not (allows_length file.shape (length body)), BadLength)
    ∷ (out_of_range file.shape n || leaves_gap file n, NumberOutOfRange)
    ∷ (not (is_free_number file n), RecordExists)
    ∷ []

-- the file takes the record under this number
abbrev pub MayStore : FileVal → ℕ → List ℕ → Type 0
MayStore file n body = first_refusal (record_refusals file n body) ≡ None

-- the newest file has the record under this number
abbrev pub with_record : ℕ → List ℕ → Files → Files
with_record n body files = with_file (newest files) (file_with_record (file_at (newest files) files) n body) files

-- no Configuration was served, there is a file, and the newest one takes the record
abbrev pub MayAddRecord : Present → ℕ → List ℕ → Type 0
MayAddRecord p n body =
    IsFresh p × (0 < length p.files) × MayStore (file_at (newest p.files) p.files) n body

-- why a record isn't added, the first reason in this order
abbrev pub RecordRefused : Present → ℕ → List ℕ → AddFault → Type 0
RecordRefused p n body fault.Busy = IsLate p
RecordRefused p n body fault.NoFile = IsFresh p × (p.files ≡ [])
RecordRefused p n body (fault.Record why) =
    IsFresh p × (0 < length p.files)
    × (first_refusal (record_refusals (file_at (newest p.files) p.files) n body) ≡ Some why)
RecordRefused p n body fault.NoMemory = MayAddRecord p n body
RecordRefused p n body _ = ⊥
