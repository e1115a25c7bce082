-- The first file whose name passes a test.
use Rattle.std.proofs.Common.{◌≡◌, ℕ, zero, suc, ◌+◌, ◌<◌, ◌≤◌, Bool, not, cond, List, [], ◌∷◌, length, Some, None, ap, sym, ◌∙◌, inl, inr, arith}
use Rattle.std.specs.Prelude.{true, false, nat_lt}
use Rattle.std.specs.List.{position, prefix_len}
use Rattle.std.proofs.lemmas.Bool.{cases_Bool, lt-ltb}
use Rattle.rec_file.specs.Files.{FileVal}
use Rattle.dap_accessed.specs.Standing.{Files, name_at}

-- how many files stand before the first that passes
abbrev pub before : (p : List ℕ → Bool) → Files → ℕ
before p files = prefix_len (λ (f : List ℕ × FileVal). not (p f.0)) files

-- one more is passed over
pub one-over : (p : List ℕ → Bool) (files : Files) (i : ℕ) → i < length files → p (name_at i files) ≡ false → i ≤ before p files → i + 1 ≤ before p files
one-over p [] i lt e le = absurd (omega (arith, lt))
one-over p (f ∷ files) zero lt e le = let one = ap (λ b. cond (not b) (1 + before p files) 0) e in omega (arith, one)
one-over p (f ∷ files) (suc i) lt e le =
    elim (cases_Bool (p f.0)) [
      | inl passes ↦ absurd (let none = ap (λ b. cond (not b) (1 + before p files) 0) passes in omega (arith, none, le))
      | inr fails ↦ let more = ap (λ b. cond (not b) (1 + before p files) 0) fails in
          let later = one-over p files i (omega (arith, lt)) e (omega (arith, more, le)) in omega (arith, more, later)
    ]

stops : (p : List ℕ → Bool) (files : Files) (i : ℕ) → i < length files → p (name_at i files) ≡ true → i ≤ before p files → before p files ≡ i
stops p [] i lt e le = absurd (omega (arith, lt))
stops p (f ∷ files) zero lt e le = ap (λ b. cond (not b) (1 + before p files) 0) e
stops p (f ∷ files) (suc i) lt e le =
    elim (cases_Bool (p f.0)) [
      | inl passes ↦ absurd (let none = ap (λ b. cond (not b) (1 + before p files) 0) passes in omega (arith, none, le))
      | inr fails ↦ let more = ap (λ b. cond (not b) (1 + before p files) 0) fails in
          let later = stops p files i (omega (arith, lt)) e (omega (arith, more, le)) in omega (arith, more, later)
    ]

-- it is the first
pub found-at : (p : List ℕ → Bool) (files : Files) (i : ℕ) → i < length files → p (name_at i files) ≡ true → i ≤ before p files
    → Some i ≡ position (λ (f : List ℕ × FileVal). p f.0) files
found-at p files i lt e le =
    let n = stops p files i lt e le in
    sym (ap (λ (k : ℕ). cond (nat_lt k (length files)) (Some k) None) n ∙ ap (λ b. cond b (Some i) None) (lt-ltb i (length files) lt))
