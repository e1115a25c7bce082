-- Pieces end to end.
use Rattle.std.proofs.Common.{◌≡◌, ◌==◌, ◌&&◌, ℕ, ◌+◌, ◌≤◌, not, true, false, List, [], ◌∷◌, ◌++◌, if◌then◌else◌, arith, refl, ap, sym, subst, ◌∙◌, eqb-true, append-nil, append_assoc}
use Rattle.std.specs.List.{AllByRecursion}
use Rattle.std.proofs.lemmas.Bool.Decides.{nat_tests}
use Rattle.std.proofs.lemmas.Grind.{flat_map-append}
use Rattle.dap_follow.specs.Streams.{Sequenced}
use Rattle.dap_follow.specs.Joined.{Fragment, joins, latest, payload, fragments_of, tail, with_segment}
use Rattle.dap_follow.specs.Keeping.Pieces.{all_segments, glue, merged}
use Rattle.dap_follow.proofs.StayLemmas.{alone, and_one, apart, by_bool, joined, longer}

-- ---- glue

glued : (p y : Fragment) (ys : List Fragment) → joins (tail p) y.head ≡ true → glue (p ∷ []) (y ∷ ys) ≡ merged p y ∷ ys
glued p y ys t = ap (λ b. if b then merged p y ∷ ys else p ∷ y ∷ ys) t

pub unglued : (p y : Fragment) (ys : List Fragment) → joins (tail p) y.head ≡ false → glue (p ∷ []) (y ∷ ys) ≡ p ∷ y ∷ ys
unglued p y ys f = ap (λ b. if b then merged p y ∷ ys else p ∷ y ∷ ys) f

pub glued_two : (p q : Fragment) → joins (tail p) q.head ≡ true → glue (p ∷ []) (q ∷ []) ≡ merged p q ∷ []
glued_two p q t = glued p q [] t

pub glue_nil : (xs : List Fragment) → glue xs [] ≡ xs
glue_nil [] = refl
glue_nil (x ∷ []) = refl
glue_nil (x ∷ y ∷ xs) = ap (λ l. x ∷ l) (glue_nil (y ∷ xs))

pub glue_front : (ys : List Fragment) (h : Fragment) (hs rest : List Fragment) → glue ys ((h ∷ hs) ++ rest) ≡ glue ys (h ∷ hs) ++ rest
glue_front [] h hs rest = refl
glue_front (p ∷ []) h hs rest =
    by_bool (joins (tail p) h.head)
    (λ t. glued p h (hs ++ rest) t ∙ ap (λ l. l ++ rest) (sym (glued p h hs t)))
    (λ f. unglued p h (hs ++ rest) f ∙ ap (λ l. l ++ rest) (sym (unglued p h hs f)))
glue_front (p ∷ q ∷ ps) h hs rest = ap (λ l. p ∷ l) (glue_front (q ∷ ps) h hs rest)

pub glue_back : (front : List Fragment) (h : Fragment) (hs ys : List Fragment) → glue (front ++ h ∷ hs) ys ≡ front ++ glue (h ∷ hs) ys
glue_back [] h hs ys = refl
glue_back (f ∷ []) h hs ys = refl
glue_back (f ∷ g ∷ front) h hs ys = ap (λ l. f ∷ l) (glue_back (g ∷ front) h hs ys)

with_glue : (a : Sequenced) (ps ys : List Fragment) → with_segment a (glue ps ys) ≡ glue (with_segment a ps) ys
with_glue a [] [] = refl
with_glue a [] (y ∷ ys) = refl
with_glue a (p ∷ []) [] =
    by_bool (joins a p.head)
    (λ t. joined a p [] t ∙ ap (λ l. glue l []) (sym (joined a p [] t)))
    (λ f. apart a p [] f ∙ ap (λ l. glue l []) (sym (apart a p [] f)))
with_glue a (p ∷ []) (y ∷ ys) =
    by_bool (joins (tail p) y.head)
    (λ t. ap (λ l. with_segment a l) (glued p y ys t)
    ∙ by_bool (joins a p.head)
    (λ u. joined a (merged p y) ys u ∙ sym (ap (λ l. glue l (y ∷ ys)) (joined a p [] u) ∙ glued (longer a p) y ys t))
    (λ v. apart a (merged p y) ys v ∙ sym (ap (λ l. glue l (y ∷ ys)) (apart a p [] v) ∙ ap (λ l. alone a ∷ l) (glued p y ys t))))
    (λ f. ap (λ l. with_segment a l) (unglued p y ys f)
    ∙ by_bool (joins a p.head)
    (λ u. joined a p (y ∷ ys) u ∙ sym (ap (λ l. glue l (y ∷ ys)) (joined a p [] u) ∙ unglued (longer a p) y ys f))
    (λ v. apart a p (y ∷ ys) v ∙ sym (ap (λ l. glue l (y ∷ ys)) (apart a p [] v) ∙ ap (λ l. alone a ∷ l) (unglued p y ys f))))
with_glue a (p ∷ q ∷ ps) ys =
    by_bool (joins a p.head)
    (λ t. joined a p (glue (q ∷ ps) ys) t ∙ ap (λ l. glue l ys) (sym (joined a p (q ∷ ps) t)))
    (λ f. apart a p (glue (q ∷ ps) ys) f ∙ ap (λ l. glue l ys) (sym (apart a p (q ∷ ps) f)))

pub pieces_glue : (xs ys : List Sequenced) → fragments_of (xs ++ ys) ≡ glue (fragments_of xs) (fragments_of ys)
pieces_glue [] ys = refl
pieces_glue (x ∷ xs) ys = ap (λ l. with_segment x l) (pieces_glue xs ys) ∙ with_glue x (fragments_of xs) (fragments_of ys)

-- ---- the segments of pieces

pub segments_append : (xs ys : List Fragment) → all_segments (xs ++ ys) ≡ all_segments xs ++ all_segments ys
segments_append xs ys = flat_map-append (λ p. p.head ∷ p.others) xs ys

segments_with : (s : Sequenced) (ps : List Fragment) → all_segments (with_segment s ps) ≡ s ∷ all_segments ps
segments_with s [] = refl
segments_with s (p ∷ ps) =
    by_bool (joins s p.head)
    (λ t. ap (λ l. all_segments l) (joined s p ps t))
    (λ f. ap (λ l. all_segments l) (apart s p ps f))

pub segments_pieces : (xs : List Sequenced) → all_segments (fragments_of xs) ≡ xs
segments_pieces [] = refl
segments_pieces (x ∷ xs) = segments_with x (fragments_of xs) ∙ ap (λ l. x ∷ l) (segments_pieces xs)

pub segments_glue : (xs ys : List Fragment) → all_segments (glue xs ys) ≡ all_segments xs ++ all_segments ys
segments_glue [] ys = refl
segments_glue (p ∷ []) [] = sym (append-nil (all_segments (p ∷ [])))
segments_glue (p ∷ []) (y ∷ ys) =
    let same : all_segments (p ∷ y ∷ ys) ≡ all_segments (p ∷ []) ++ all_segments (y ∷ ys) = segments_append (p ∷ []) (y ∷ ys) in
    by_bool (joins (tail p) y.head)
    (λ t. ap (λ l. all_segments l) (glued p y ys t) ∙ (append_assoc (p.head ∷ p.others) (y.head ∷ y.others) (all_segments ys) ∙ same))
    (λ f. ap (λ l. all_segments l) (unglued p y ys f) ∙ same)
segments_glue (p ∷ q ∷ ps) ys =
    ap (λ l. (p.head ∷ p.others) ++ l) (segments_glue (q ∷ ps) ys) ∙ sym (append_assoc (p.head ∷ p.others) (all_segments (q ∷ ps)) (all_segments ys))

-- ---- pieces of segments

abbrev pub Chain : Sequenced → List Sequenced → Type 0
Chain s [] = Unit {0}
Chain s (t ∷ others) = (joins s t ≡ true) × Chain t others

abbrev pub IsEnd : Fragment → List Fragment → Type 0
IsEnd p [] = Unit {0}
IsEnd p (q ∷ ps) = joins (tail p) q.head ≡ false

abbrev pub Proper : List Fragment → Type 0
Proper [] = Unit {0}
Proper (p ∷ ps) = Chain p.head p.others × IsEnd p ps × Proper ps

end_longer : (a : Sequenced) (p : Fragment) (ps : List Fragment) → IsEnd p ps → IsEnd (longer a p) ps
end_longer a p [] end = tt
end_longer a p (q ∷ ps) end = end

proper_with : (s : Sequenced) (ps : List Fragment) → Proper ps → Proper (with_segment s ps)
proper_with s [] h = (tt, tt, tt)
proper_with s (p ∷ ps) h =
    by_bool (joins s p.head)
    (λ t. subst (λ (l : List Fragment). Proper l) (sym (joined s p ps t)) ((t, h.0), end_longer s p ps h.1, h.2))
    (λ f. subst (λ (l : List Fragment). Proper l) (sym (apart s p ps f)) (tt, f, h))

pub proper_pieces : (xs : List Sequenced) → Proper (fragments_of xs)
proper_pieces [] = tt
proper_pieces (x ∷ xs) = proper_with x (fragments_of xs) (proper_pieces xs)

chain_one : (s : Sequenced) (others : List Sequenced) → Chain s others → fragments_of (s ∷ others) ≡ record { head = s; others = others } ∷ []
chain_one s [] chain = refl
chain_one s (t ∷ others) chain = ap (λ l. with_segment s l) (chain_one t others chain.1) ∙ joined s (record { head = t; others = others }) [] chain.0

glue_end : (p : Fragment) (ps : List Fragment) → IsEnd p ps → glue (p ∷ []) ps ≡ p ∷ ps
glue_end p [] end = refl
glue_end p (q ∷ ps) end = unglued p q ps end

pub pieces_flat : (ps : List Fragment) → Proper ps → fragments_of (all_segments ps) ≡ ps
pieces_flat [] h = refl
pieces_flat (p ∷ ps) h =
    pieces_glue (p.head ∷ p.others) (all_segments ps)
    ∙ ap (λ l. glue l (fragments_of (all_segments ps))) (chain_one p.head p.others h.0)
    ∙ ap (λ l. glue (p ∷ []) l) (pieces_flat ps h.2)
    ∙ glue_end p ps h.1

pub proper_front : (xs ys : List Fragment) → Proper (xs ++ ys) → Proper xs
proper_front [] ys h = tt
proper_front (x ∷ []) ys h = (h.0, tt, tt)
proper_front (x ∷ y ∷ xs) ys h = (h.0, h.1, proper_front (y ∷ xs) ys h.2)

pub proper_back : (xs ys : List Fragment) → Proper (xs ++ ys) → Proper ys
proper_back [] ys h = h
proper_back (x ∷ xs) ys h = proper_back xs ys h.2

-- ---- sequence numbers in a row

joined_sequence : (a b : Sequenced) → joins a b ≡ true → b.sequence ≡ a.sequence + 1
joined_sequence a b h = eqb-true _ _ (and_one (b.sequence == a.sequence + 1) (not a.last) (and_one ((b.sequence == a.sequence + 1) && not a.last) (not b.first) h))

-- between two sequence numbers
abbrev pub IsWithin : ℕ → ℕ → Sequenced → Type 0
IsWithin from to s = (from ≤ s.sequence) × (s.sequence ≤ to)

-- some segment has the sequence number
abbrev pub Has : ℕ → List Sequenced → Type 0
Has sequence xs = (front back : List Sequenced) × (s : Sequenced) × (xs ≡ front ++ s ∷ back) × (s.sequence ≡ sequence)

pub has_front : (sequence : ℕ) (xs ys : List Sequenced) → Has sequence xs → Has sequence (xs ++ ys)
has_front sequence xs ys (front, back, s, is, at) = (front, back ++ ys, s, ap (λ l. l ++ ys) is ∙ append_assoc front (s ∷ back) ys, at)

pub has_back : (sequence : ℕ) (xs ys : List Sequenced) → Has sequence ys → Has sequence (xs ++ ys)
has_back sequence xs ys (front, back, s, is, at) = (xs ++ front, back, s, ap (λ l. xs ++ l) is ∙ sym (append_assoc xs front (s ∷ back)), at)

pub all_append : (P : Sequenced → Type 0) (xs ys : List Sequenced) → AllByRecursion P xs → AllByRecursion P ys → AllByRecursion P (xs ++ ys)
all_append P [] ys one two = two
all_append P (x ∷ xs) ys one two = (one.0, all_append P xs ys one.1 two)

pub all_weaker : (P Q : Sequenced → Type 0) (xs : List Sequenced) → ((s : Sequenced) → P s → Q s) → AllByRecursion P xs → AllByRecursion Q xs
all_weaker P Q [] weaker all = tt
all_weaker P Q (x ∷ xs) weaker all = (weaker x all.0, all_weaker P Q xs weaker all.1)

pub all_front : (P : Sequenced → Type 0) (xs ys : List Sequenced) → AllByRecursion P (xs ++ ys) → AllByRecursion P xs
all_front P [] ys all = tt
all_front P (x ∷ xs) ys all = (all.0, all_front P xs ys all.1)

pub all_back : (P : Sequenced → Type 0) (xs ys : List Sequenced) → AllByRecursion P (xs ++ ys) → AllByRecursion P ys
all_back P [] ys all = all
all_back P (x ∷ xs) ys all = all_back P xs ys all.1

-- what holds of all holds of one of them
pub all_has : (P : ℕ → Type 0) (sequence : ℕ) (xs : List Sequenced) → AllByRecursion (λ s. P s.sequence) xs → Has sequence xs → P sequence
all_has P sequence xs all (front, back, s, is, at) =
    subst P at (all_back (λ s. P s.sequence) front (s ∷ back) (subst (λ l. AllByRecursion (λ s. P s.sequence) l) is all)).0

row_within : (s : Sequenced) (others : List Sequenced) → Chain s others
    → (s.sequence ≤ (tail (record { head = s; others = others })).sequence) × AllByRecursion (IsWithin s.sequence (tail (record { head = s; others = others })).sequence) (s ∷ others)
row_within s [] chain = (omega arith, ((omega arith, omega arith), tt))
row_within s (t ∷ others) chain =
    let next : t.sequence ≡ s.sequence + 1 = joined_sequence s t chain.0 in
    let rest = row_within t others chain.1 in
    let end : ℕ = (tail (record { head = t; others = others })).sequence in
    let far : t.sequence ≤ end = rest.0 in
    let more = all_weaker (IsWithin t.sequence end) (IsWithin s.sequence end) (t ∷ others) (λ u both. (let low : t.sequence ≤ u.sequence = both.0 in omega (arith, next, low), both.1)) rest.1 in
    (omega (arith, next, far), ((omega arith, omega (arith, next, far)), more))

pub within : (p : Fragment) → Chain p.head p.others → (p.head.sequence ≤ (tail p).sequence) × AllByRecursion (IsWithin p.head.sequence (tail p).sequence) (p.head ∷ p.others)
within p chain = row_within p.head p.others chain

above : (a b sequence : ℕ) → b ≡ a + 1 → a ≤ sequence → (a == sequence) ≡ false → b ≤ sequence
above a b sequence next low other = grind (arith, nat_tests)

row_full : (sequence : ℕ) (s : Sequenced) (others : List Sequenced) → Chain s others → s.sequence ≤ sequence → sequence ≤ (tail (record { head = s; others = others })).sequence → Has sequence (s ∷ others)
row_full sequence s [] chain low high = ([], [], s, refl, omega (arith, low, high))
row_full sequence s (t ∷ others) chain low high =
    by_bool (s.sequence == sequence)
    (λ here. ([], t ∷ others, s, refl, eqb-true _ _ here))
    (λ other. has_back sequence (s ∷ []) (t ∷ others) (row_full sequence t others chain.1 (above s.sequence t.sequence sequence (joined_sequence s t chain.0) low other) high))

pub full : (sequence : ℕ) (p : Fragment) → Chain p.head p.others → p.head.sequence ≤ sequence → sequence ≤ (tail p).sequence → Has sequence (p.head ∷ p.others)
full sequence p chain low high = row_full sequence p.head p.others chain low high

-- ---- merged pieces

fold_end : (s : Sequenced) (xs : List Sequenced) (t : Sequenced) (ys : List Sequenced)
    → tail (record { head = s; others = xs ++ t ∷ ys }) ≡ tail (record { head = t; others = ys })
fold_end s [] t ys = refl
fold_end s (x ∷ xs) t ys = fold_end x xs t ys

pub tail_merged : (p q : Fragment) → tail (merged p q) ≡ tail q
tail_merged p q = fold_end p.head p.others q.head q.others

pub payload_merged : (p q : Fragment) → payload (merged p q) ≡ payload p ++ payload q
payload_merged p q = flat_map-append (λ s. s.payload) (p.head ∷ p.others) (q.head ∷ q.others)

-- ---- the latest packet

pub latest_front : (xs ys : List Sequenced) → latest xs ≤ latest (xs ++ ys)
latest_front [] ys = omega arith
latest_front (x ∷ xs) ys = let rest = latest_front xs ys in omega (arith, rest)

pub latest_back : (xs ys : List Sequenced) → latest ys ≤ latest (xs ++ ys)
latest_back [] ys = omega arith
latest_back (x ∷ xs) ys = let rest = latest_back xs ys in omega (arith, rest)

pub latest_below : (n : ℕ) (xs : List Sequenced) → AllByRecursion (λ s. s.packet ≤ n) xs → latest xs ≤ n
latest_below n [] all = omega arith
latest_below n (x ∷ xs) all = let rest = latest_below n xs all.1 in let one : x.packet ≤ n = all.0 in omega (arith, rest, one)
