-- What the ring makes of an end: an early segment kept, and a gap closed.
use Rattle.std.proofs.Common.{◌≡◌, ℕ, ◌+◌, ◌<◌, List, ◌∷◌, ◌++◌, length, drop, replicate, Option, Some, None, refl, sym, ap, ◌∙◌, arith, true, false, ◌==◌, inl, inr, subst}
use Rattle.std.specs.Prelude.{slice_get, slice_set, nat_lt}
use Rattle.std.proofs.lemmas.Bool.{cases_lt, lt-ltb, le-ltb, eq-eqb, ne_eqb}
use Rattle.std.proofs.lemmas.Option.{slice_get_within, slice_get-get_or}
use Rattle.nsp_link.specs.Inner.Pieces.{Held}
use Rattle.nsp_link.specs.Cutting.{Piece}
use Rattle.nsp_link.specs.Coming.{Coming, with_all_taken, AllFitInOrder, RefusesAll}
use Rattle.nsp_link.specs.Holding.{following}
use Rattle.nsp_link.specs.Link.{LinkValue, KeepsEarly}
use Rattle.nsp_link.specs.Inner.Pieces.{held_from, held_piece, leading}
use Rattle.nsp_link.specs.Receiving.{run, taking_in}
use Rattle.nsp_link.proofs.Held.{inserted, held_put, held_there, held_lacks, ring_follows, ring_closed}

-- an end with this taken in and these held
abbrev pub coming_link : LinkValue → Coming → List (ℕ × Piece) → LinkValue
coming_link v c held = record v { coming = c; held = held }

module _ (v : LinkValue) (slots : List (Option Held)) (held-is : v.held ≡ held_from (v.coming.received + 1) slots) where
  module _ (index : ℕ) (some : 0 < index) (full : length slots ≡ v.setup.window) where
    other : (v.coming.received + 1 + index == v.coming.received + 1) ≡ false
    other = ne_eqb (v.coming.received + 1 + index) (v.coming.received + 1) (λ e. omega (arith, some))

    above : nat_lt v.coming.received (v.coming.received + 1 + index) ≡ true
    above = lt-ltb v.coming.received (v.coming.received + 1 + index) (omega arith)

    below : (o : Option Held) → slice_get slots index ≡ Some o → nat_lt (v.coming.received + 1 + index) (v.coming.received + 1 + v.setup.window) ≡ true
    below o at = let lt = slice_get_within slots index o at in lt-ltb (v.coming.received + 1 + index) (v.coming.received + 1 + v.setup.window) (omega (arith, lt, full))

    pub kept_filled : (h : Held) (p : Piece) → slice_get slots index ≡ Some None → held_piece h ≡ p → (record v { held = held_from (v.coming.received + 1) (slice_set slots index (Some h)) }) ≡ taking_in v (v.coming.received + 1 + index) p
    kept_filled h p at same =
        let put : held_from (v.coming.received + 1) (slice_set slots index (Some h)) ≡ inserted (v.coming.received + 1 + index) p v.held = held_put (v.coming.received + 1) index slots h at ∙ ap (λ (q : Piece). inserted (v.coming.received + 1 + index) q (held_from (v.coming.received + 1) slots)) same ∙ ap (λ (hs : List (ℕ × Piece)). inserted (v.coming.received + 1 + index) p hs) (sym held-is) in
        rw (other, above, below None at, put) refl

    pub kept_there : (h : Held) (p : Piece) → slice_get slots index ≡ Some (Some h) → v ≡ taking_in v (v.coming.received + 1 + index) p
    kept_there h p at =
        let stays : inserted (v.coming.received + 1 + index) p v.held ≡ v.held = ap (λ (hs : List (ℕ × Piece)). inserted (v.coming.received + 1 + index) p hs) held-is ∙ held_there (v.coming.received + 1) index slots h p at ∙ sym held-is in
        rw (other, above, below (Some h) at) (ap (λ (hs : List (ℕ × Piece)). record v { held = hs }) (sym stays))

    pub kept_beyond : (p : Piece) → slice_get slots index ≡ None → v ≡ taking_in v (v.coming.received + 1 + index) p
    kept_beyond p at = elim (cases_lt index (length slots)) [
      | inl lt ↦ let read = slice_get-get_or slots index None lt in absurd (cc)
      | inr le ↦ rw (other, above, le-ltb (v.coming.received + 1 + index) (v.coming.received + 1 + v.setup.window) (omega (arith, le, full))) refl
    ]

    pub keeps_free : slice_get slots index ≡ Some None → KeepsEarly v (v.coming.received + 1 + index)
    keeps_free at =
        let lt = slice_get_within slots index None at in
        (omega (arith, some), omega (arith, lt, full), rw held-is (held_lacks (v.coming.received + 1) index slots at))

  module _ (free : slice_get slots 0 ≡ Some None) (p : Piece) where
    run_is : run v p ≡ p ∷ leading (drop 1 slots)
    run_is = ap (λ (ps : List Piece). p ∷ ps) (ap (λ (hs : List (ℕ × Piece)). following (v.coming.received + 1) hs) held-is ∙ ring_follows (v.coming.received + 1) slots free)

    pub run_fit : (limit : ℕ) → AllFitInOrder limit v.coming (p ∷ leading (drop 1 slots)) → AllFitInOrder limit v.coming (run v p)
    run_fit limit fit = subst (λ (ps : List Piece). AllFitInOrder limit v.coming ps) (sym run_is) fit

    pub run_refuses : (limit : ℕ) (e : _) → RefusesAll limit v.coming (p ∷ leading (drop 1 slots)) e → RefusesAll limit v.coming (run v p) e
    run_refuses limit e out = subst (λ (ps : List Piece). RefusesAll limit v.coming ps e) (sym run_is) out

    pub closed_is : (new : Coming) (m : ℕ) (ring : List (Option Held)) → new ≡ with_all_taken v.coming (p ∷ leading (drop 1 slots)) → m ≡ 1 + length (leading (drop 1 slots)) → new.received ≡ v.coming.received + m → ring ≡ drop m slots ++ replicate m None
        → coming_link v new (held_from (new.received + 1) ring) ≡ taking_in v (v.coming.received + 1) p
    closed_is new m ring is count on moved =
        let all : new ≡ with_all_taken v.coming (run v p) = is ∙ ap (λ (ps : List Piece). with_all_taken v.coming ps) (sym run_is) in
        let number : new.received + 1 ≡ v.coming.received + 1 + m = omega arith in
        let left : held_from (new.received + 1) ring ≡ drop (length (following (v.coming.received + 1) v.held)) v.held =
        ap (λ (n : ℕ). held_from n ring) number ∙ ap (λ (xs : List (Option Held)). held_from (v.coming.received + 1 + m) xs) moved
        ∙ sym (ring_closed (v.coming.received + 1) m slots free count)
        ∙ ap (λ (hs : List (ℕ × Piece)). drop (length (following (v.coming.received + 1) hs)) hs) (sym held-is) in
        rw (eq-eqb (v.coming.received + 1) (v.coming.received + 1) refl) (ap (λ (hs : List (ℕ × Piece)). coming_link v new hs) left
        ∙ ap (λ (c : Coming). coming_link v c (drop (length (following (v.coming.received + 1) v.held)) v.held)) all)
