-- A segment more among those of a stream.
use Rattle.std.proofs.Common.{◌≡◌, ℕ, ◌+◌, ◌<◌, ◌≤◌, ◌==◌, ◌&&◌, not, Bool, true, false, List, [], ◌∷◌, ◌++◌, if◌then◌else◌, arith, refl, ap, sym, subst, ◌∙◌, eqb-true}
use Rattle.std.specs.List.{AllByRecursion, filter}
use Rattle.dap_follow.specs.Streams.{Sequenced}
use Rattle.dap_follow.specs.Joined.{Fragment, is_message, joins, fragments_of, tail, with_segment}
use Rattle.dap_follow.specs.Listed.{is_whole_with, whole_at, whole_with}

pub by_bool : {X : Type 0} (b : Bool) → (b ≡ true → X) → (b ≡ false → X) → X
by_bool true f g = f refl
by_bool false f g = g refl

pub and_one : (a b : Bool) → (a && b) ≡ true → a ≡ true
and_one true b h = refl
and_one false b h = h

pub and_two : (a b : Bool) → (a && b) ≡ true → b ≡ true
and_two true b h = h
and_two false b h = absurd (cc)

pub not_true : (a : Bool) → not a ≡ true → a ≡ false
not_true true h = absurd (cc)
not_true false h = refl

pub and_false_one : (a b : Bool) → a ≡ false → (a && b) ≡ false
and_false_one a b h = ap (λ x. x && b) h

pub and_false_two : (a b : Bool) → b ≡ false → (a && b) ≡ false
and_false_two true b h = h
and_false_two false b h = refl

abbrev only : ℕ → List Fragment → List Fragment
only k ps = filter (is_whole_with k) ps

-- ---- joining

abbrev pub alone : Sequenced → Fragment
alone a = record { head = a; others = [] }

abbrev pub longer : Sequenced → Fragment → Fragment
longer a p = record { head = a; others = p.head ∷ p.others }

pub joined : (a : Sequenced) (p : Fragment) (ps : List Fragment) → joins a p.head ≡ true → with_segment a (p ∷ ps) ≡ longer a p ∷ ps
joined a p ps h = ap (λ b. if b then longer a p ∷ ps else alone a ∷ p ∷ ps) h

pub apart : (a : Sequenced) (p : Fragment) (ps : List Fragment) → joins a p.head ≡ false → with_segment a (p ∷ ps) ≡ alone a ∷ p ∷ ps
apart a p ps h = ap (λ b. if b then longer a p ∷ ps else alone a ∷ p ∷ ps) h

pub not_last : (a b : Sequenced) → joins a b ≡ true → a.last ≡ false
not_last a b h = not_true a.last (and_two (b.sequence == a.sequence + 1) (not a.last) (and_one ((b.sequence == a.sequence + 1) && not a.last) (not b.first) h))

pub not_first : (a b : Sequenced) → joins a b ≡ true → b.first ≡ false
not_first a b h = not_true b.first (and_two ((b.sequence == a.sequence + 1) && not a.last) (not b.first) h)

far : (a b : Sequenced) → a.sequence + 1 < b.sequence → joins a b ≡ false
far a b h =
    by_bool (b.sequence == a.sequence + 1)
    (λ t. let e : b.sequence ≡ a.sequence + 1 = eqb-true _ _ t in absurd (omega arith))
    (λ f. and_false_one ((b.sequence == a.sequence + 1) && not a.last) (not b.first) (and_false_one (b.sequence == a.sequence + 1) (not a.last) f))

-- ---- what isn't listed

passed : (k : ℕ) (p : Fragment) (ps : List Fragment) → is_whole_with k p ≡ false → only k (p ∷ ps) ≡ only k ps
passed k p ps h = ap (λ b. if b then p ∷ only k ps else only k ps) h

later : (k : ℕ) (s : Sequenced) (p : Fragment) → k < s.packet → s.packet ≤ whole_with p → is_whole_with k p ≡ false
later k s p h le =
    by_bool (whole_with p == k) (λ t. let e : whole_with p ≡ k = eqb-true _ _ t in absurd (omega arith)) (λ f. and_false_two (is_message p) (whole_with p == k) f)

unfinished : (k : ℕ) (p : Fragment) → (tail p).last ≡ false → is_whole_with k p ≡ false
unfinished k p h = and_false_one (is_message p) (whole_with p == k) (and_false_two p.head.first (tail p).last h)

unbegun : (k : ℕ) (p : Fragment) → p.head.first ≡ false → is_whole_with k p ≡ false
unbegun k p h = and_false_one (is_message p) (whole_with p == k) (and_false_one p.head.first (tail p).last h)

-- ---- with the segment and without

abbrev StartsAbove : Sequenced → List Fragment → Type 0
StartsAbove s [] = Unit {0}
StartsAbove s (q ∷ qs) = s.sequence < q.head.sequence

data Beside (k : ℕ) (s : Sequenced) : List Fragment → List Fragment → Type 0 where
  -- the segment begins the first piece
  here : {p : Fragment} {ps qs : List Fragment} → p.head ≡ s → StartsAbove s qs → only k ps ≡ only k qs → Beside k s (p ∷ ps) qs
  -- it stands in the first piece, which ends before it without it
  inside : {p q : Fragment} {ps qs : List Fragment} → p.head ≡ q.head → (tail q).last ≡ false → s.packet ≤ whole_with p → only k ps ≡ only k qs → Beside k s (p ∷ ps) (q ∷ qs)
  -- it stands after
  behind : {p : Fragment} {ps qs : List Fragment} → only k ps ≡ only k qs → Beside k s (p ∷ ps) (p ∷ qs)

has : (s : Sequenced) (p : Fragment) → p.head ≡ s → s.packet ≤ whole_with p
has s p h = let e : p.head.packet ≡ s.packet = ap (λ x. x.packet) h in omega arith

alone_above : (a s : Sequenced) (qs : List Fragment) → a.sequence < s.sequence → StartsAbove s qs → with_segment a qs ≡ alone a ∷ qs
alone_above a s [] h above = refl
alone_above a s (q ∷ qs) h above = let far_off : s.sequence < q.head.sequence = above in apart a q qs (far a q.head (omega arith))

beside_on : {k : ℕ} {s : Sequenced} {ps qs : List Fragment} (a : Sequenced) → k < s.packet → a.sequence < s.sequence → Beside k s ps qs → Beside k s (with_segment a ps) (with_segment a qs)
beside_on {k} {s} a late below (here {p} {ps} {qs} head above same) =
    subst (λ (ys : List Fragment). Beside k s (with_segment a (p ∷ ps)) ys) (sym (alone_above a s qs below above))
    (by_bool (joins a p.head)
    (λ t. subst (λ (xs : List Fragment). Beside k s xs (alone a ∷ qs)) (sym (joined a p ps t))
    (inside refl (not_last a p.head t) (let le : s.packet ≤ whole_with p = has s p head in omega arith) same))
    (λ f. subst (λ (xs : List Fragment). Beside k s xs (alone a ∷ qs)) (sym (apart a p ps f))
    (behind (passed k p ps (later k s p late (has s p head)) ∙ same))))
beside_on {k} {s} a late below (inside {p} {q} {ps} {qs} heads unended le same) =
    by_bool (joins a p.head)
    (λ t. subst (λ (xs : List Fragment). Beside k s xs (with_segment a (q ∷ qs))) (sym (joined a p ps t))
    (subst (λ (ys : List Fragment). Beside k s (longer a p ∷ ps) ys) (sym (joined a q qs (ap (λ x. joins a x) (sym heads) ∙ t)))
    (inside refl unended (let more : s.packet ≤ whole_with p = le in omega arith) same)))
    (λ f. subst (λ (xs : List Fragment). Beside k s xs (with_segment a (q ∷ qs))) (sym (apart a p ps f))
    (subst (λ (ys : List Fragment). Beside k s (alone a ∷ p ∷ ps) ys) (sym (apart a q qs (ap (λ x. joins a x) (sym heads) ∙ f)))
    (behind (passed k p ps (later k s p late le) ∙ (same ∙ sym (passed k q qs (unfinished k q unended)))))))
beside_on {k} {s} a late below (behind {p} {ps} {qs} same) =
    by_bool (joins a p.head)
    (λ t. subst (λ (xs : List Fragment). Beside k s xs (with_segment a (p ∷ qs))) (sym (joined a p ps t))
    (subst (λ (ys : List Fragment). Beside k s (longer a p ∷ ps) ys) (sym (joined a p qs t)) (behind same)))
    (λ f. subst (λ (xs : List Fragment). Beside k s xs (with_segment a (p ∷ qs))) (sym (apart a p ps f))
    (subst (λ (ys : List Fragment). Beside k s (alone a ∷ p ∷ ps) ys) (sym (apart a p qs f))
    (behind (ap (λ r. if is_whole_with k p then p ∷ r else r) same))))

beside_first : (k : ℕ) (s : Sequenced) (qs : List Fragment) → StartsAbove s qs → Beside k s (with_segment s qs) qs
beside_first k s [] above = here refl tt refl
beside_first k s (q ∷ qs) above =
    by_bool (joins s q.head)
    (λ t. subst (λ (xs : List Fragment). Beside k s xs (q ∷ qs)) (sym (joined s q qs t)) (here refl above (sym (passed k q qs (unbegun k q (not_first s q.head t))))))
    (λ f. subst (λ (xs : List Fragment). Beside k s xs (q ∷ qs)) (sym (apart s q qs f)) (here refl above refl))

same_listed : {k : ℕ} {s : Sequenced} {ps qs : List Fragment} → k < s.packet → Beside k s ps qs → only k ps ≡ only k qs
same_listed {k} {s} late (here {p} {ps} head above same) = passed k p ps (later k s p late (has s p head)) ∙ same
same_listed {k} {s} late (inside {p} {q} {ps} {qs} heads unended le same) =
    passed k p ps (later k s p late le) ∙ (same ∙ sym (passed k q qs (unfinished k q unended)))
same_listed {k} {s} late (behind {p} same) = ap (λ r. if is_whole_with k p then p ∷ r else r) same

-- the first piece begins with the first segment
first_above : (s b : Sequenced) (ps : List Fragment) → s.sequence < b.sequence → StartsAbove s (with_segment b ps)
first_above s b [] h = h
first_above s b (p ∷ ps) h =
    by_bool (joins b p.head)
    (λ t. subst (λ (xs : List Fragment). StartsAbove s xs) (sym (joined b p ps t)) h)
    (λ f. subst (λ (xs : List Fragment). StartsAbove s xs) (sym (apart b p ps f)) h)

above_all : (s : Sequenced) (back : List Sequenced) → AllByRecursion (λ b. s.sequence < b.sequence) back → StartsAbove s (fragments_of back)
above_all s [] h = tt
above_all s (b ∷ back) h = first_above s b (fragments_of back) h.0

beside_all : (k : ℕ) (s : Sequenced) (front back : List Sequenced) → k < s.packet → AllByRecursion (λ a. a.sequence < s.sequence) front
    → AllByRecursion (λ b. s.sequence < b.sequence) back → Beside k s (fragments_of (front ++ s ∷ back)) (fragments_of (front ++ back))
beside_all k s [] back late below above = beside_first k s (fragments_of back) (above_all s back above)
beside_all k s (a ∷ front) back late below above = beside_on a late below.0 (beside_all k s front back late below.1 above)

pub stays : (k : ℕ) (s : Sequenced) (front back : List Sequenced) → k < s.packet → AllByRecursion (λ a. a.sequence < s.sequence) front
    → AllByRecursion (λ b. s.sequence < b.sequence) back → whole_at k (front ++ s ∷ back) ≡ whole_at k (front ++ back)
stays k s front back late below above = same_listed late (beside_all k s front back late below above)

-- ---- seams

-- the last of these doesn't join the first of those
abbrev pub IsSeam : List Sequenced → List Sequenced → Type 0
IsSeam [] back = Unit {0}
IsSeam (x ∷ []) [] = Unit {0}
IsSeam (x ∷ []) (b ∷ back) = joins x b ≡ false
IsSeam (x ∷ y ∷ xs) back = IsSeam (y ∷ xs) back

begins : (b : Sequenced) (bs : List Fragment) → (p : Fragment) × (rest : List Fragment) × (with_segment b bs ≡ p ∷ rest) × (p.head ≡ b)
begins b [] = (alone b, [], refl, refl)
begins b (p ∷ ps) = by_bool (joins b p.head) (λ t. (longer b p, ps, joined b p ps t, refl)) (λ f. (alone b, p ∷ ps, apart b p ps f, refl))

in_front : (x : Sequenced) (p : Fragment) (ps qs : List Fragment) → with_segment x ((p ∷ ps) ++ qs) ≡ with_segment x (p ∷ ps) ++ qs
in_front x p ps qs =
    by_bool (joins x p.head)
    (λ t. joined x p (ps ++ qs) t ∙ ap (λ xs. xs ++ qs) (sym (joined x p ps t)))
    (λ f. apart x p (ps ++ qs) f ∙ ap (λ xs. xs ++ qs) (sym (apart x p ps f)))

pub seam : (xs back : List Sequenced) → IsSeam xs back → fragments_of (xs ++ back) ≡ fragments_of xs ++ fragments_of back
seam [] back h = refl
seam (x ∷ []) [] h = refl
seam (x ∷ []) (b ∷ back) h =
    let first = begins b (fragments_of back) in
    ap (λ ps. with_segment x ps) first.2 ∙ (apart x first.0 first.1 (ap (λ y. joins x y) first.3 ∙ h) ∙ ap (λ ps. alone x ∷ ps) (sym first.2))
seam (x ∷ y ∷ xs) back h =
    let first = begins y (fragments_of xs) in
    ap (λ ps. with_segment x ps) (seam (y ∷ xs) back h) ∙ (ap (λ ps. with_segment x (ps ++ fragments_of back)) first.2
    ∙ (in_front x first.0 first.1 (fragments_of back) ∙ ap (λ ps. with_segment x ps ++ fragments_of back) (sym first.2)))

seam_first : (front : List Sequenced) (b : Sequenced) (back : List Sequenced) → b.first ≡ true → IsSeam front (b ∷ back)
seam_first [] b back h = tt
seam_first (x ∷ []) b back h = and_false_two ((b.sequence == x.sequence + 1) && not x.last) (not b.first) (ap (λ t. not t) h)
seam_first (x ∷ y ∷ xs) b back h = seam_first (y ∷ xs) b back h

seam_last : (x : Sequenced) (xs back : List Sequenced) → (tail (record { head = x; others = xs })).last ≡ true → IsSeam (x ∷ xs) back
seam_last x [] [] h = tt
seam_last x [] (b ∷ back) h = and_false_one ((b.sequence == x.sequence + 1) && not x.last) (not b.first) (and_false_two (b.sequence == x.sequence + 1) (not x.last) (ap (λ t. not t) h))
seam_last x (y ∷ xs) back h = seam_last y xs back h

pub seam_hole : (sequence : ℕ) (front back : List Sequenced) → AllByRecursion (λ a. a.sequence < sequence) front → AllByRecursion (λ b. sequence < b.sequence) back → IsSeam front back
seam_hole sequence [] back below above = tt
seam_hole sequence (x ∷ []) [] below above = tt
seam_hole sequence (x ∷ []) (b ∷ back) below above = let one : x.sequence < sequence = below.0 in let other : sequence < b.sequence = above.0 in far x b (omega arith)
seam_hole sequence (x ∷ y ∷ xs) back below above = seam_hole sequence (y ∷ xs) back below.1 above

pub goes_between : (m : Fragment) (front back : List Sequenced) → is_message m ≡ true → fragments_of (m.head ∷ m.others) ≡ m ∷ [] → AllByRecursion (λ a. a.sequence < m.head.sequence) front
    → AllByRecursion (λ b. m.head.sequence < b.sequence) back
    → (fragments_of (front ++ ((m.head ∷ m.others) ++ back)) ≡ fragments_of front ++ m ∷ fragments_of back) × (fragments_of (front ++ back) ≡ fragments_of front ++ fragments_of back)
goes_between m front back is one below above = (
  seam front ((m.head ∷ m.others) ++ back) (seam_first front m.head (m.others ++ back) (and_one m.head.first (tail m).last is))
      ∙ ap (λ ps. fragments_of front ++ ps) (seam (m.head ∷ m.others) back (seam_last m.head m.others back (and_two m.head.first (tail m).last is)) ∙ ap (λ ps. ps ++ fragments_of back) one),
  seam front back (seam_hole m.head.sequence front back below above),
)
