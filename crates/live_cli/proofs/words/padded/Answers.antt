use borrow.Rule.Slice.PartMut.{put_mid}
use Rattle.std.proofs.Common.{◌≡◌, ◌≤◌, ◌∙◌, ◌++◌, ◌-◌, [], ℕ, List, ap, arith, drop, length, refl, replicate, sym, take}
use Rattle.std.proofs.lemmas.List.{append-nil, drop_all, length-replicate, take-append-drop, take-replicate}
use Rattle.std.proofs.lemmas.Slice.{drop-put_mid, take-put_mid}
use Rattle.live_cli.proofs.words.padded.Goals as goal

-- what is written at the end of this many equal bytes stands after those that are left
behind : (n : ℕ) (zeros written digits : List ℕ) → zeros ≡ replicate 32 48 → written ≡ digits → length digits ≡ n → n ≤ 21
    → put_mid (32 - n) (32 - (32 - n)) zeros written ≡ replicate (32 - n) 48 ++ digits
behind n zeros written digits zero is size small =
    let a : ℕ = 32 - n in
    let k : ℕ = 32 - (32 - n) in
    let room : length zeros ≡ 32 = ap length zero ∙ length-replicate {A = ℕ} 32 48 in
    let wide : length written ≡ n = ap length is ∙ size in
    let front : take 32 (put_mid a k zeros written) ≡ take a zeros ++ written = take-put_mid a k zeros written 32 (omega arith) (omega arith) in
    let back : drop 32 (put_mid a k zeros written) ≡ drop 32 zeros = drop-put_mid a k zeros written 32 (omega arith) (omega arith) (omega arith) in
    let none : drop 32 zeros ≡ [] = drop_all 32 zeros (omega arith) in
    let before : take a zeros ≡ replicate a 48 = ap (λ (l : List ℕ). take a l) zero ∙ take-replicate a 32 48 (omega arith) in
    sym (take-append-drop 32 (put_mid a k zeros written)) ∙ ap (λ (l : List ℕ). l ++ drop 32 (put_mid a k zeros written)) front
    ∙ ap (λ (l : List ℕ). (take a zeros ++ written) ++ l) (back ∙ none) ∙ append-nil (take a zeros ++ written)
    ∙ ap (λ (l : List ℕ). l ++ written) before ∙ ap (λ (l : List ℕ). replicate a 48 ++ l) is

pub returns : goal.returns
returns c = behind (length c.args.digits.now) _ c.copy_from_slice.new.self c.args.digits.now refl c.copy_from_slice.ensures.after refl c.requires
