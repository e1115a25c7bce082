-- Files and records that an end is given.
use Rattle.std.proofs.Common.{◌≡◌, ℕ, ◌+◌, ◌<◌, ◌≤◌, Bool, true, false, not, List, length, Some, None, IsTrue, refl, ◌∙◌, ap, arith, inl, inr}
use Rattle.std.specs.Prelude.{◌&&◌, ◌||◌, nat_lt, is_none, is_some, IsSome, Option, Result, Ok, Err, OnErr}
use Rattle.std.specs.FinMap.{get}
use Rattle.std.proofs.lemmas.Bool.{cases_lt, lt-ltb}
use Rattle.rec_file.specs.Shapes.{is_seq, max_number, allows_length}
use Rattle.rec_file.specs.Files.{FileVal, IsFile, highest_of, file_with_record}
use Rattle.rec_file.specs.Acts.{out_of_range, is_free_number}
use Rattle.rec_file.proofs.ForCallers.{IsFile-placed}
use Rattle.dap_accessed.specs.declared.fault.AddFault.{AddFault}
use Rattle.dap_accessed.specs.Standing.{Files, file_at, with_file}
use Rattle.dap_accessed.specs.Sound.{AreFiles}
use Rattle.dap_accessed.specs.Adding.{leaves_gap, MayStore, newest, with_record}
use Rattle.dap_accessed.specs.Storing.{Stores}
use Rattle.dap_accessed.proofs.Tables.{with-same}
use Rattle.dap_accessed.proofs.Kept.{passed, neither, un_not, in_range}
use Rattle.dap_accessed.proofs.SoundTables.{file-there, files-with}

-- what is true of a record that isn't refused
pub record Storable (file : FileVal) (n : ℕ) (body : List ℕ) : Type 0 where
  pub above : 1 ≤ n
  pub within : n ≤ max_number file.shape
  pub free : get file.records n ≡ None
  pub next : IsTrue (is_seq file.shape.org) → n ≡ highest_of file.records + 1
  pub length : IsTrue (allows_length file.shape (length body))

is-none : (o : Option (List ℕ)) → is_none o ≡ true → o ≡ None
is-none None e = refl
is-none (Some x) e = let no : ⊥ = cc in absurd no

-- of a number that leaves no gap
no-gap : (seq : Bool) (high n : ℕ) → (seq && nat_lt (high + 1) n) ≡ false → seq ≡ true → n ≤ high + 1
no-gap seq high n e is =
    elim (cases_lt (high + 1) n) [
      | inl lt ↦ (let gap : (seq && nat_lt (high + 1) n) ≡ true = ap (λ (b : Bool). b && nat_lt (high + 1) n) is ∙ lt-ltb (high + 1) n lt in let no : ⊥ = cc in absurd no)
      | inr le ↦ le
    ]

free-is-next : (file : FileVal) (n : ℕ) → IsFile file → 1 ≤ n → get file.records n ≡ None → leaves_gap file n ≡ false → IsTrue (is_seq file.shape.org) → n ≡ highest_of file.records + 1
free-is-next file n h least free gap seq =
    let most = no-gap (is_seq file.shape.org) (highest_of file.records) n gap seq in
    elim (cases_lt (highest_of file.records) n) [
      | inl lt ↦ omega arith
      | inr le ↦ (let some : IsSome (get file.records n) = h.dense seq n least le in let no : ⊥ = cc (ap is_some free) in absurd no)
    ]

pub storable : (file : FileVal) (n : ℕ) (body : List ℕ) → IsFile file → MayStore file n body → Storable file n body
storable file n body h may =
    let one = passed (not (allows_length file.shape (length body))) _ _ may in
    let two = passed (out_of_range file.shape n || leaves_gap file n) _ _ one.1 in
    let three = passed (not (is_free_number file n)) _ _ two.1 in
    let parts = neither (out_of_range file.shape n) (leaves_gap file n) two.0 in
    let range = in_range file n parts.0 in
    let free : get file.records n ≡ None = is-none (get file.records n) (un_not (is_free_number file n) three.0) in
    record {
      above = range.0;
      within = range.1;
      free = free;
      next = free-is-next file n h range.0 free parts.1;
      length = un_not (allows_length file.shape (length body)) one.0;
    }

pub stored-file : (file : FileVal) (n : ℕ) (body : List ℕ) → IsFile file → MayStore file n body → IsFile (file_with_record file n body)
stored-file file n body h may = let s = storable file n body h may in IsFile-placed file n body h s.above s.within s.next s.length

-- ---- Tables.

pub record-given : (files : Files) (n : ℕ) (body : List ℕ) → AreFiles files → 0 < length files → MayStore (file_at (newest files) files) n body → AreFiles (with_record n body files)
record-given files n body h some may =
    files-with files (newest files) _ h (stored-file _ n body (file-there files (newest files) h.files (omega arith)) may)

-- where the record isn't stored, the table is as it was
pub table-same : (n : ℕ) (body : List ℕ) (at : ℕ) (old new : Files) (r : Result (Unit {0}) AddFault) → new ≡ with_file at (file_at at new) old → Stores n body (file_at at old) (file_at at new) r → OnErr r (new ≡ old)
table-same n body at old new (Ok u) o s = tt
table-same n body at old new (Err f) o s = o ∙ ap (λ (file : FileVal). with_file at file old) s.1 ∙ with-same old at
