-- The parts of a comment.
use Rattle.std.proofs.Common.{◌≡◌, ◌≤◌, ◌+◌, ◌==◌, ℕ, List, [], ◌∷◌, ◌++◌, take, drop, length, length-append, refl, sym, ap, ◌∙◌, subst, arith, append_assoc, append-nil}
use Rattle.std.specs.Prelude.{codes}
use Rattle.std.specs.List.{join_with_byte}
use Rattle.std.proofs.lemmas.List.{take_at}
use Rattle.std.proofs.lemmas.List.Splits.{join_with_byte-slice_split}
use Rattle.texts.specs.Words.{words_of}
use Rattle.decnet_frames.specs.Origins.{frame_by}

-- what is after a word
abbrev pub after_word : List (List ℕ) → List ℕ
after_word [] = []
after_word (w ∷ ws) = 32 ∷ join_with_byte 32 (w ∷ ws)

joined : (time : List ℕ) (ws : List (List ℕ)) → join_with_byte 32 (time ∷ ws) ≡ time ++ after_word ws
joined time [] = sym (append-nil time)
joined time (w ∷ ws) = refl

split_frame : (number time more : List ℕ) → codes "frame" ++ 32 ∷ (number ++ 32 ∷ (time ++ more)) ≡ frame_by number time ++ more
split_frame number time more =
    let inner : number ++ 32 ∷ (time ++ more) ≡ (number ++ 32 ∷ (time ++ [])) ++ more =
    ap (λ t. number ++ 32 ∷ (t ++ more)) (sym (append-nil time)) ∙ sym (append_assoc number (32 ∷ (time ++ [])) more) in
    ap (λ l. codes "frame " ++ l) inner

-- a line that begins with a frame
pub framed : (line number time : List ℕ) (ws : List (List ℕ)) → words_of line ≡ codes "#" ∷ codes "frame" ∷ number ∷ time ∷ ws
    → line ≡ codes "# " ++ (frame_by number time ++ after_word ws)
framed line number time ws are =
    sym (join_with_byte-slice_split 32 line) ∙ ap (join_with_byte 32) are
    ∙ ap (λ t. codes "#" ++ 32 ∷ (codes "frame" ++ 32 ∷ (number ++ 32 ∷ t))) (joined time ws)
    ∙ ap (λ t. codes "# " ++ t) (split_frame number time (after_word ws))

frame_long : (number time : List ℕ) → length (frame_by number time) ≡ 7 + length number + length time
frame_long number time =
    let l = length-append number (32 ∷ (time ++ [])) in
    let t = length-append time [] in
    omega (arith, l, t)

pub frame_within : (line number time : List ℕ) (ws : List (List ℕ)) → words_of line ≡ codes "#" ∷ codes "frame" ∷ number ∷ time ∷ ws
    → 2 + (7 + length number + length time) ≤ length line
frame_within line number time ws are =
    let all = ap length (framed line number time ws are) in
    omega (arith, all, length-append (frame_by number time) (after_word ws), frame_long number time)

pub frame_is : (line number time : List ℕ) (ws : List (List ℕ)) → words_of line ≡ codes "#" ∷ codes "frame" ∷ number ∷ time ∷ ws
    → take (7 + length number + length time) (drop 2 line) ≡ frame_by number time
frame_is line number time ws are =
    ap (λ l. take (7 + length number + length time) (drop 2 l)) (framed line number time ws are)
    ∙ take_at (frame_by number time) (after_word ws) (7 + length number + length time) (frame_long number time)
