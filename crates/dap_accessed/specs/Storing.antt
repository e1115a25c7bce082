-- A record that is stored in a file under its number.
use Rattle.std.specs.Prelude.{ℕ, ◌≡◌, List, Some, Result, Ok, Err}
use Rattle.rec_file.specs.Files.{FileVal, file_with_record}
use Rattle.rec_file.specs.Acts.{first_refusal}
use Rattle.dap_accessed.specs.declared.fault.AddFault.{AddFault}
use Rattle.dap_accessed.specs.declared.fault.AddFault.TheVariants as fault
use Rattle.dap_accessed.specs.Adding.{record_refusals, MayStore}

-- why a record isn't stored, the first reason in this order
abbrev pub StoreRefused : FileVal → ℕ → List ℕ → AddFault → Type 0
StoreRefused file n body (fault.Record why) = first_refusal (record_refusals file n body) ≡ Some why
StoreRefused file n body fault.NoMemory = MayStore file n body
StoreRefused file n body _ = ⊥

-- the file has the record, or is as it was
abbrev pub Stores : ℕ → List ℕ → (old new : FileVal) → Result (Unit {0}) AddFault → Type 0
Stores n body old new (Ok _) = MayStore old n body × (new ≡ file_with_record old n body)
Stores n body old new (Err f) = StoreRefused old n body f × (new ≡ old)
