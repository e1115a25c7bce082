-- Several messages that are queued in turn.
use Rattle.std.proofs.Common.{◌≡◌, ℕ, ◌+◌, ◌<◌, ◌≤◌, List, [], ◌++◌, length, take, get_or, refl, sym, ap, ◌∙◌, arith}
use Rattle.std.specs.declared.vec.Vec.{Vec}
use Rattle.std.specs.declared.alloc.Global.{Global}
use Rattle.std.proofs.lemmas.List.{take-map, get_or-map, length-map, take-take, length-take}
use Rattle.std.proofs.lemmas.List.Folds.{length-flat_map-take}
use Rattle.nsp_link.specs.Inner.Pieces.{Segment}
use Rattle.nsp_link.specs.Cutting.{count_of, cut, cut_message}
use Rattle.nsp_link.specs.Inner.Pieces.{vec_bodies}
use Rattle.nsp_link.proofs.Counts.{length-cut_message}
use Rattle.nsp_link.proofs.Taking.{cut-more}

abbrev items_of : Vec ℕ Global → List ℕ
items_of v = v.items

pub body_at : (ms : List (Vec ℕ Global)) (i : ℕ) (m : Vec ℕ Global) → i < length ms → m ≡ get_or ms i m → get_or (vec_bodies ms) i [] ≡ m.items
body_at ms i m lt read = get_or-map items_of ms i m [] lt ∙ ap items_of (sym read)

-- one message more
pub cut_step : (size : ℕ) (ms : List (Vec ℕ Global)) (i : ℕ) (m : Vec ℕ Global) → i < length ms → m ≡ get_or ms i m → cut size (vec_bodies (take (i + 1) ms)) ≡ cut size (vec_bodies (take i ms)) ++ cut_message size m.items
cut_step size ms i m lt read =
    let long : i < length (vec_bodies ms) = omega (arith, length-map ms items_of) in
    let more = cut-more size (vec_bodies ms) i long in
    let a = take-map items_of (i + 1) ms in
    let b = take-map items_of i ms in
    rw (← a, ← b, ← body_at ms i m lt read) more

-- with one message more it is still no more than all
pub cut_within : (size : ℕ) (ms : List (Vec ℕ Global)) (i : ℕ) (m : Vec ℕ Global) → i < length ms → m ≡ get_or ms i m → length (cut size (vec_bodies (take i ms))) + count_of size (length m.items) ≤ length (cut size (vec_bodies ms))
unfolding cut
cut_within size ms i m lt read =
    let long : i < length (vec_bodies ms) = omega (arith, length-map ms items_of) in
    let all = length-flat_map-take (cut_message size) (vec_bodies ms) i [] long in
    rw (← take-map items_of i ms, ← length-cut_message size m.items, ← body_at ms i m lt read) all

pub cut-none : (size : ℕ) → cut size [] ≡ []
unfolding cut
cut-none size = refl

-- what was in front stays in front
pub take_kept : (a b c : List Segment) → take (length a) b ≡ a → take (length b) c ≡ b → take (length a) c ≡ a
take_kept a b c first second =
    let le : length a ≤ length b = omega (arith, ap length first, length-take (length a) b) in
    let inner : take (length a) (take (length b) c) ≡ take (length a) c = take-take (length a) (length b) c le in
    sym inner ∙ ap (λ (xs : List Segment). take (length a) xs) second ∙ first

pub length-bodies : (ms : List (Vec ℕ Global)) → length (vec_bodies ms) ≡ length ms
length-bodies ms = length-map ms items_of
