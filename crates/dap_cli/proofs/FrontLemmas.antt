-- What is kept of the bytes that come.
use Rattle.std.proofs.Common.{◌≡◌, ◌∙◌, ap, sym, arith, ℕ, ◌+◌, List, ◌++◌, length, take}
use Rattle.std.specs.Prelude.{min}
use Rattle.std.proofs.Math.Seq.{take-append-add}
use Rattle.std.proofs.lemmas.List.{take_min}

-- as many as there is room for, of four
pub kept : (room : ℕ) (old came : List ℕ) → room + length old ≡ 4 → old ++ take (min room (length came)) came ≡ take 4 (old ++ came)
kept room old came full =
    let four : length old + room ≡ 4 = omega (arith, full) in
    ap (λ (l : List ℕ). old ++ l) (take_min room came) ∙ sym (take-append-add old came room) ∙ ap (λ (n : ℕ). take n (old ++ came)) four
