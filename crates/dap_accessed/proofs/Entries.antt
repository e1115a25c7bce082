-- The files of a table by their names, and what an operation on one makes of the table.
use Rattle.std.proofs.Common.{◌≡◌, ℕ, ◌<◌, List, length, map, sym, subst}
use Rattle.std.specs.Prelude.{Bool, Result, Ok, Err, IfOk, OnErr, MatchBool, Some, slice_get, true, false}
use Rattle.std.specs.Map.{values_of}
use Rattle.std.specs.Global.{Vec}
use Rattle.indexmap.specs.IndexMap.{set_value_at}
use Rattle.rec_file.specs.declared.refusals.Refusal.{Refusal}
use Rattle.rec_file.specs.declared.any.AnyFile.{AnyFile}
use Rattle.rec_file.specs.AnyFiles.{any_value}
use Rattle.rec_file.specs.Files.{FileVal}
use Rattle.rec_file.specs.Acts.{Operation, StreamVal, Acts, IsOutcome, act, is_no_memory}
use Rattle.dap_accessed.specs.declared.fault.NoMemory.{NoMemory}
use Rattle.dap_accessed.specs.Standing.{Files, file_at, with_file}
use Rattle.dap_accessed.proofs.Tables.{LacksMemory, others, there, was, unchanged, view as view_by}

abbrev pub Entry : Type 0
Entry = Vec ℕ × AnyFile

abbrev pub name_of : Vec ℕ → List ℕ
name_of name = name.items

abbrev pub view : Entry → List ℕ × FileVal
view = view_by name_of any_value

-- the entry at the index has another file
module _ (es : List Entry) (at : ℕ) (old_file file : AnyFile) (files : Files) (seen : map view es ≡ files) (within : at < length files) (found : slice_get (values_of es) at ≡ Some old_file) where
  abbrev table : Files
  table = map view (set_value_at es at file)

  pub others_stay : table ≡ with_file at (file_at at table) files
  others_stay = others name_of any_value es at old_file file files seen within found

  -- what was done to the file of the entry, was done to that of the table
  pub done : (Did : (old new : FileVal) → Type 0) → Did (any_value old_file) (any_value file) → Did (file_at at files) (file_at at table)
  done Did did =
      let old_is : any_value old_file ≡ file_at at files = was name_of any_value es at old_file file files seen within found in
      let new_is : file_at at table ≡ any_value file = there name_of any_value es at old_file file files seen within found in
      subst (λ (old : FileVal). Did old (file_at at table)) old_is (subst (λ (new : FileVal). Did (any_value old_file) new) (sym new_is) did)

  -- with the reply of the operation, and what is made of it where out of memory is apart
  module _ (op : Operation) (before after : StreamVal) (reply : Result ℕ Refusal) where
    pub acts : (r : Result (Result ℕ Refusal) NoMemory) → Acts op (any_value old_file) before (any_value file) after reply
        → IfOk r (λ same. (same ≡ reply) × (is_no_memory reply ≡ false)) → IfOk r (λ same. IsOutcome (act op (file_at at files) before) (file_at at table) after same)
    acts (Err e) did h = tt
    acts (Ok same) did h =
        done (λ old new. IsOutcome (act op old before) new after same)
        (subst (λ (r : Result ℕ Refusal). IsOutcome (act op (any_value old_file) before) (any_value file) after r) (sym h.0)
        (subst (λ (b : Bool). MatchBool b (LacksMemory (act op (any_value old_file) before) (any_value old_file) before (any_value file) after) (IsOutcome (act op (any_value old_file) before) (any_value file) after reply)) h.1 did))

    pub stays : (r : Result (Result ℕ Refusal) NoMemory) → Acts op (any_value old_file) before (any_value file) after reply → OnErr r (is_no_memory reply ≡ true) → OnErr r (table ≡ files)
    stays (Ok same) did h = tt
    stays (Err e) did h = unchanged op at files table before after reply others_stay (done (λ old new. Acts op old before new after reply) did) h
