-- What a change of the table keeps.
use Rattle.std.proofs.Common.{◌≡◌, ℕ, zero, suc, ◌+◌, ◌<◌, ◌≤◌, Bool, not, cond, List, [], ◌∷◌, ◌++◌, length, Some, None, refl, ap, inl, inr, arith}
use Rattle.std.specs.Prelude.{bytes_eq, false}
use Rattle.std.specs.List.{position, prefix_len, AllByRecursion, IsDistinct, remove}
use Rattle.std.proofs.lemmas.Bool.{cases_Bool, cases_lt, lt-ltb, le-ltb}
use Rattle.dap_accessed.specs.declared.asked.Asked.{Asked}
use Rattle.dap_accessed.specs.Asked.{made_file, IsAsked}
use Rattle.rec_file.specs.Files.{FileVal, IsFile}
use Rattle.rec_file.proofs.ForCallers.{IsFile-new}
use Rattle.dap_accessed.specs.Standing.{Files, index_of, file_at, with_file}
use Rattle.dap_accessed.specs.Sound.{AreFiles}

abbrev pub AllFiles : Files → Type 0
AllFiles files = AllByRecursion (λ f. IsFile f.1) files

-- no file has this name
abbrev HasNone : List ℕ → Files → Type 0
HasNone name files = AllByRecursion (λ f. bytes_eq f.0 name ≡ false) files

-- there are no files
pub no-files : AreFiles []
unfolding IsDistinct
no-files = record { files = tt; distinct = tt }

pub file-there : (files : Files) (at : ℕ) → AllFiles files → at < length files → IsFile (file_at at files)
file-there [] at h lt = absurd (omega arith)
file-there (f ∷ files) zero h lt = h.0
file-there (f ∷ files) (suc at) h lt = file-there files at h.1 (omega arith)

-- ---- Another file in the place of one.

all-with : (files : Files) (at : ℕ) (file : FileVal) → AllFiles files → IsFile file → AllFiles (with_file at file files)
all-with [] at file h k = tt
all-with (f ∷ files) zero file h k = (k, h.1)
all-with (f ∷ files) (suc at) file h k = (h.0, all-with files at file h.1 k)

-- ---- A file less.

pub all-without : (files : Files) (at : ℕ) → AllFiles files → AllFiles (remove files at)
all-without [] zero h = tt
all-without [] (suc at) h = tt
all-without (f ∷ files) zero h = h.1
all-without (f ∷ files) (suc at) h = (h.0, all-without files at h.1)

-- ---- A file more, of a new name.

all-more : (files : Files) (f : List ℕ × FileVal) → AllFiles files → IsFile f.1 → AllFiles (files ++ f ∷ [])
all-more [] f h k = (k, tt)
all-more (e ∷ files) f h k = (h.0, all-more files f h.1 k)

-- ---- Files of which no two have one name.

module _ (eq : (one other : List ℕ) → Bool) where
  abbrev AreDistinct : Files → Type 0
  AreDistinct files = IsDistinct (λ (f g : List ℕ × FileVal). eq f.0 g.0) files

  -- this name is that of no file
  abbrev IsNone : List ℕ → Files → Type 0
  IsNone name files = AllByRecursion (λ f. eq name f.0 ≡ false) files

  -- no file has this name
  abbrev pub HasNo : List ℕ → Files → Type 0
  HasNo name files = AllByRecursion (λ f. eq f.0 name ≡ false) files

  none-with : (name : List ℕ) (files : Files) (at : ℕ) (file : FileVal) → IsNone name files → IsNone name (with_file at file files)
  none-with name [] at file h = tt
  none-with name (f ∷ files) zero file h = h
  none-with name (f ∷ files) (suc at) file h = (h.0, none-with name files at file h.1)

  pub distinct-with : (files : Files) (at : ℕ) (file : FileVal) → AreDistinct files → AreDistinct (with_file at file files)
  unfolding IsDistinct
  distinct-with [] at file h = tt
  distinct-with (f ∷ files) zero file h = h
  distinct-with (f ∷ files) (suc at) file h = (none-with f.0 files at file h.0, distinct-with files at file h.1)

  none-without : (name : List ℕ) (files : Files) (at : ℕ) → IsNone name files → IsNone name (remove files at)
  none-without name [] zero h = tt
  none-without name [] (suc at) h = tt
  none-without name (f ∷ files) zero h = h.1
  none-without name (f ∷ files) (suc at) h = (h.0, none-without name files at h.1)

  pub distinct-without : (files : Files) (at : ℕ) → AreDistinct files → AreDistinct (remove files at)
  unfolding IsDistinct
  distinct-without [] zero h = tt
  distinct-without [] (suc at) h = tt
  distinct-without (f ∷ files) zero h = h.1
  distinct-without (f ∷ files) (suc at) h = (none-without f.0 files at h.0, distinct-without files at h.1)

  none-more : (name : List ℕ) (files : Files) (f : List ℕ × FileVal) → IsNone name files → eq name f.0 ≡ false → IsNone name (files ++ f ∷ [])
  none-more name [] f h new = (new, tt)
  none-more name (e ∷ files) f h new = (h.0, none-more name files f h.1 new)

  pub has-without : (name : List ℕ) (files : Files) (at : ℕ) → HasNo name files → HasNo name (remove files at)
  has-without name [] zero h = tt
  has-without name [] (suc at) h = tt
  has-without name (f ∷ files) zero h = h.1
  has-without name (f ∷ files) (suc at) h = (h.0, has-without name files at h.1)

  pub distinct-more : (files : Files) (f : List ℕ × FileVal) → AreDistinct files → HasNo f.0 files → AreDistinct (files ++ f ∷ [])
  unfolding IsDistinct
  distinct-more [] f h new = (tt, tt)
  distinct-more (e ∷ files) f h new = (none-more e.0 files f h.0 new.0, distinct-more files f h.1 new.1)

-- ---- A name that is not found is new.

all-other : (name : List ℕ) (files : Files) → length files ≤ prefix_len (λ (f : List ℕ × FileVal). not (bytes_eq f.0 name)) files → HasNone name files
all-other name [] h = tt
all-other name (f ∷ files) h =
    elim (cases_Bool (bytes_eq f.0 name)) [
      | inl same ↦ absurd (let e = ap (λ b. cond (not b) (1 + prefix_len (λ (f : List ℕ × FileVal). not (bytes_eq f.0 name)) files) 0) same in omega (arith, e, h))
      | inr other ↦ (
        other,
        all-other name files (let e = ap (λ b. cond (not b) (1 + prefix_len (λ (f : List ℕ × FileVal). not (bytes_eq f.0 name)) files) 0) other in omega (arith, e, h)),
      )
    ]

new-name : (name : List ℕ) (files : Files) → index_of name files ≡ None → HasNone name files
new-name name files none =
    let n = prefix_len (λ (f : List ℕ × FileVal). not (bytes_eq f.0 name)) files in
    elim (cases_lt n (length files)) [
      | inl lt ↦ absurd (let e = ap (λ b. cond b (Some n) None) (lt-ltb n (length files) lt) in cc)
      | inr le ↦ all-other name files le
    ]

-- ---- Files with different names, each of which obeys its shape.

pub files-with : (files : Files) (at : ℕ) (file : FileVal) → AreFiles files → IsFile file → AreFiles (with_file at file files)
files-with files at file h k = record { files = all-with files at file h.files k; distinct = distinct-with bytes_eq files at file h.distinct }

pub files-more : (files : Files) (name : List ℕ) (asked : Asked) → AreFiles files → IsAsked asked → index_of name files ≡ None → AreFiles (files ++ (name, made_file asked) ∷ [])
files-more files name asked h good none =
    record { files = all-more files _ h.files (IsFile-new asked.shape asked.look good.shape good.look); distinct = distinct-more bytes_eq files _ h.distinct (new-name name files none) }

-- ---- Where none passes a test, none is found, and the other way.

module _ {X : Type 0} (q : X → Bool) where
  none-from : (xs : List X) → length xs ≤ prefix_len (λ x. not (q x)) xs → AllByRecursion (λ x. q x ≡ false) xs
  none-from [] h = tt
  none-from (x ∷ xs) h =
      elim (cases_Bool (q x)) [
        | inl same ↦ absurd (let e = ap (λ b. cond (not b) (1 + prefix_len (λ y. not (q y)) xs) 0) same in omega (arith, e, h))
        | inr other ↦ (other, none-from xs (let e = ap (λ b. cond (not b) (1 + prefix_len (λ y. not (q y)) xs) 0) other in omega (arith, e, h)))
      ]

  pub none-passes : (xs : List X) → position q xs ≡ None → AllByRecursion (λ x. q x ≡ false) xs
  none-passes xs none =
      let n = prefix_len (λ x. not (q x)) xs in
      elim (cases_lt n (length xs)) [
        | inl lt ↦ absurd (let e = ap (λ b. cond b (Some n) None) (lt-ltb n (length xs) lt) in cc)
        | inr le ↦ none-from xs le
      ]

  all-passed : (xs : List X) → AllByRecursion (λ x. q x ≡ false) xs → prefix_len (λ x. not (q x)) xs ≡ length xs
  all-passed [] h = refl
  all-passed (x ∷ xs) h = let one = ap (λ b. cond (not b) (1 + prefix_len (λ y. not (q y)) xs) 0) h.0 in let more = all-passed xs h.1 in omega (arith, one, more)

  pub none-there : (xs : List X) → AllByRecursion (λ x. q x ≡ false) xs → position q xs ≡ None
  none-there xs h =
      let n = prefix_len (λ x. not (q x)) xs in
      let e = all-passed xs h in
      ap (λ b. cond b (Some n) None) (le-ltb n (length xs) (omega (arith, e)))
