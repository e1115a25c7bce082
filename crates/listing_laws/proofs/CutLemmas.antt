-- Segments of a cut message under the sequence numbers of a stream.
use Rattle.std.proofs.Common.{◌≡◌, ◌==◌, ◌<◌, ◌≤◌, ◌+◌, ◌*◌, ◌/◌, ◌%◌, ◌++◌, ℕ, Bool, true, false, List, [], ◌∷◌, map, max, Some, None, zero, suc, length, refl, sym, ap, ◌∙◌, subst, arith, ⊎_elim, ◌-◌, add-zero, take, drop}
use Rattle.std.specs.Prelude.{slice_get}
use Rattle.std.specs.List.{AllByRecursion, Contains}
use Rattle.std.specs.List.Sorted.{IsStrictlyIncreasing, IsStrictlySortedBy}
use Rattle.std.specs.Ordering.{nat_cmp}
use Rattle.std.specs.declared.cmp.Ordering.TheVariants.{Less}
use Rattle.std.proofs.lemmas.Bool.{cases_eq, cases_lt, cases_Bool}
use Rattle.std.proofs.lemmas.Bool.Decides.{nat_tests}
use Rattle.std.proofs.lemmas.Map.Keys.{sorted_from_strictly_increasing}
use Rattle.nsp_link.specs.Cutting as cutting
use Rattle.dap_follow.specs.Segments.{sequenced_at}
use Rattle.dap_follow.specs.Streams.{AreSequenced, NumberedSegment, Sequenced, at, no_more, one_more}
use Rattle.dap_follow.specs.Joined.{Message, Fragment, is_message, joins, fragment_message, messages, payload, fragments_of, with_segment}
use Rattle.std.specs.List.{filter, flat_map, range_with_len}
use Rattle.std.specs.Int.{div_ceil}
use Rattle.std.proofs.Math.Nat.{mul-le-mul_right}
use Rattle.std.proofs.lemmas.Grind.{div_ceil_times}
use Rattle.std.proofs.Math.ListN.{drop_of_length-le}
use Rattle.std.proofs.lemmas.List.{drop-drop, map-append, take-append-drop}
use Rattle.std.proofs.lemmas.List.Elements.{Contains-append_right, filter-append}
use Rattle.dap_follow.proofs.ForCallers.{at-here, at-other}
use Rattle.listing_laws.proofs.JoiningLemmas.{Chain, Ends, chain_cut, end_of, marks, segments}

-- ---- what stands from a sequence number on

-- the first of this sequence number that came has these marks and bytes
abbrev IsAt : ℕ → cutting.Piece → List Sequenced → Type 0
IsAt sequence cut came = (s : Sequenced) × (at sequence came ≡ Some s) × (s.first ≡ cut.first) × (s.last ≡ cut.last) × (s.payload ≡ cut.payload)

-- from a sequence number on these stand, in order
abbrev pub StandFrom : ℕ → List cutting.Piece → List Sequenced → Type 0
StandFrom sequence [] came = Unit {0}
StandFrom sequence (cut ∷ others) came = IsAt sequence cut came × StandFrom (sequence + 1) others came

pub stand_each : (sequence : ℕ) (cut : List cutting.Piece) (came : List Sequenced)
    → ((i : ℕ) (one : cutting.Piece) → slice_get cut i ≡ Some one → IsAt (sequence + i) one came) → StandFrom sequence cut came
stand_each sequence [] came each = tt
stand_each sequence (c ∷ cut) came each =
    let there : sequence + 0 ≡ sequence = omega arith in
    let later : (i : ℕ) → sequence + suc i ≡ sequence + 1 + i = λ i. omega arith in (
      subst (λ (p : ℕ). IsAt p c came) there (each 0 c refl),
      stand_each (sequence + 1) cut came (λ i one is. subst (λ (p : ℕ). IsAt p one came) (later i) (each (suc i) one is)),
    )

-- ---- sequence numbers that differ by whole rounds

none_is : (s : Sequenced) → None ≡ Some s → ⊥
none_is s e = cc

some_is : (s t : Sequenced) → Some s ≡ Some t → s ≡ t
some_is s t e = cc

split : (n : ℕ) → n ≡ 4096 * (n / 4096) + n % 4096
split n = omega arith

same_sequence : (i j h k u v : ℕ) → h + 4096 * i ≡ k + 4096 * j → h ≤ u + 2047 → u ≤ h + 2048 → k ≤ v + 2047 → v ≤ k + 2048 → u % 4096 ≡ v % 4096
    → u + 4096 * i ≡ v + 4096 * j
same_sequence i j h k u v start hu uh kv vk number = omega (arith, split u, split v)

-- the same marks and bytes
pub record IsLike (s t : Sequenced) : Type 0 where
  pub first : t.first ≡ s.first
  pub last : t.last ≡ s.last
  pub payload : t.payload ≡ s.payload

pub record IsFound (i j p : ℕ) (s : Sequenced) (ys : List Sequenced) : Type 0 where
  pub sequence : ℕ
  pub same : p + 4096 * i ≡ sequence + 4096 * j
  pub found : Sequenced
  pub stands : at sequence ys ≡ Some found
  pub like : IsLike s found

pub found_in : (i j h k : ℕ) (came : List NumberedSegment) (xs ys : List Sequenced) → h + 4096 * i ≡ k + 4096 * j → AreSequenced h came xs → AreSequenced k came ys
    → (p : ℕ) (s : Sequenced) → at p xs ≡ Some s → IsFound i j p s ys
found_in i j h k [] xs ys start no_more no_more p s is = absurd (none_is s is)
found_in i j h k (c ∷ came) xs ys start (one_more x lx hx nx xs_more) (one_more y ly hy ny ys_more) p s is =
    let same = same_sequence i j h k x y start lx hx ly hy (nx ∙ sym ny) in
    ⊎_elim
    (λ (here : x ≡ p).
    let one : sequenced_at x c ≡ s = some_is (sequenced_at x c) s (sym (at-here p (sequenced_at x c) _ here) ∙ is) in
    record {
      sequence = y;
      same = omega (arith, same, here);
      found = sequenced_at y c;
      stands = at-here y (sequenced_at y c) _ refl;
      like = record { first = ap (λ (t : Sequenced). t.first) one; last = ap (λ (t : Sequenced). t.last) one; payload = ap (λ (t : Sequenced). t.payload) one };
    })
    (λ (apart : x ≡ p → ⊥).
    let rest = found_in i j (max h x) (max k y) came _ _ (omega (arith, start, same)) xs_more ys_more p s (sym (at-other p (sequenced_at x c) _ apart) ∙ is) in
    record {
      sequence = rest.sequence;
      same = rest.same;
      found = rest.found;
      stands = at-other rest.sequence (sequenced_at y c) _ (λ e. apart (omega (arith, e, same, rest.same))) ∙ rest.stands;
      like = rest.like;
    })
    (cases_eq x p)

abbrev pub IsSegment : cutting.Piece → Sequenced → Type 0
IsSegment c s = (s.first ≡ c.first) × (s.last ≡ c.last) × (s.payload ≡ c.payload)

-- they stand at the sequence numbers that differ by whole rounds, too
pub stand_too : (i j : ℕ) (xs ys : List Sequenced) → ((p : ℕ) (s : Sequenced) → at p xs ≡ Some s → IsFound i j p s ys) → (cut : List cutting.Piece) (p q : ℕ) → p + 4096 * i ≡ q + 4096 * j
    → StandFrom p cut xs → StandFrom q cut ys
stand_too i j xs ys all [] p q same stand = tt
stand_too i j xs ys all (c ∷ cut) p q same stand =
    let found = all p stand.0.0 stand.0.1 in
    let like = found.like in
    let here : found.sequence ≡ q = omega (arith, found.same, same) in (
      (found.found, ap (λ (n : ℕ). at n ys) (sym here) ∙ found.stands, like.first ∙ stand.0.2, like.last ∙ stand.0.3, like.payload ∙ stand.0.4),
      stand_too i j xs ys all cut (p + 1) (q + 1) (omega (arith, same)) stand.1,
    )

pub stand_same : (xs ys : List Sequenced) → ((p : ℕ) → at p ys ≡ at p xs) → (cut : List cutting.Piece) (p : ℕ) → StandFrom p cut xs → StandFrom p cut ys
stand_same xs ys same [] p stand = tt
stand_same xs ys same (c ∷ cut) p stand = ((stand.0.0, same p ∙ stand.0.1, stand.0.2, stand.0.3, stand.0.4), stand_same xs ys same cut (p + 1) stand.1)

-- ---- where they stand in segments in order

pub Up : List Sequenced → Type 0
Up [] = Unit {0}
Up (s ∷ others) = AllByRecursion (λ t. s.sequence < t.sequence) others × Up others

less_is : (a b : ℕ) → nat_cmp a b ≡ Less → a < b
less_is a b is = grind (arith, nat_tests)

all_up : (s : Sequenced) (others : List Sequenced) → AllByRecursion (λ y. nat_cmp s.sequence y ≡ Less) (map (λ t. t.sequence) others) → AllByRecursion (λ t. s.sequence < t.sequence) others
all_up s [] all = tt
all_up s (t ∷ others) all = (less_is s.sequence t.sequence all.0, all_up s others all.1)

up_from : (ss : List Sequenced) → IsStrictlySortedBy nat_cmp (map (λ t. t.sequence) ss) → Up ss
unfolding Up IsStrictlySortedBy
up_from [] sorted = tt
up_from (s ∷ others) sorted = (all_up s others sorted.0, up_from others sorted.1)

pub up : (ss : List Sequenced) → IsStrictlyIncreasing (map (λ t. t.sequence) ss) → Up ss
up ss increasing = up_from ss (sorted_from_strictly_increasing (map (λ t. t.sequence) ss) increasing)

-- these segments have neighbouring sequence numbers
pub Run : ℕ → List cutting.Piece → List Sequenced → Type 0
Run q [] [] = Unit {0}
Run q [] (s ∷ ss) = ⊥
Run q (c ∷ cut) [] = ⊥
Run q (c ∷ cut) (s ∷ ss) = (s.sequence ≡ q) × IsSegment c s × Run (q + 1) cut ss

above_none : (q : ℕ) (ss : List Sequenced) → AllByRecursion (λ t. q < t.sequence) ss → at q ss ≡ None
above_none q [] all = refl
above_none q (s ∷ ss) all = at-other q s ss (λ e. omega (arith, all.0, e)) ∙ above_none q ss all.1

all_more : (a b : ℕ) (ss : List Sequenced) → a ≤ b → AllByRecursion (λ t. b < t.sequence) ss → AllByRecursion (λ t. a < t.sequence) ss
all_more a b [] le all = tt
all_more a b (s ∷ ss) le all = (omega (arith, all.0), all_more a b ss le all.1)

pub skip : (q : ℕ) (cut : List cutting.Piece) (s : Sequenced) (ss : List Sequenced) → s.sequence < q → StandFrom q cut (s ∷ ss) → StandFrom q cut ss
skip q [] s ss below stand = tt
skip q (c ∷ cut) s ss below stand =
    ((stand.0.0, sym (at-other q s ss (λ e. omega (arith, e, below))) ∙ stand.0.1, stand.0.2, stand.0.3, stand.0.4), skip (q + 1) cut s ss (omega arith) stand.1)

pub record HasRun (q : ℕ) (cut : List cutting.Piece) (ss : List Sequenced) : Type 0 where
  pub front : List Sequenced
  pub run : List Sequenced
  pub back : List Sequenced
  pub parts : ss ≡ front ++ run ++ back
  pub runs : Run q cut run

-- of segments none of which stands below the sequence number
run_front : (q : ℕ) (cut : List cutting.Piece) (ss : List Sequenced) → Up ss → AllByRecursion (λ t. q ≤ t.sequence) ss → StandFrom q cut ss
    → (run back : List Sequenced) × (ss ≡ run ++ back) × Run q cut run
unfolding Up Run
run_front q [] ss rises above stand = ([], ss, refl, tt)
run_front q (c ∷ cut) [] rises above stand = absurd (none_is stand.0.0 stand.0.1)
run_front q (c ∷ cut) (s ∷ ss) rises above stand =
    ⊎_elim
    (λ (here : s.sequence ≡ q).
    let one : s ≡ stand.0.0 = some_is s stand.0.0 (sym (at-here q s ss here) ∙ stand.0.1) in
    let next = run_front (q + 1) cut ss rises.1 (from q s ss here rises.0) (skip (q + 1) cut s ss (omega (arith, here)) stand.1) in (
      s ∷ next.0,
      next.1,
      ap (λ (l : List Sequenced). s ∷ l) next.2,
      (here, subst (IsSegment c) (sym one) (stand.0.2, stand.0.3, stand.0.4), next.3),
    ))
    (λ (apart : s.sequence ≡ q → ⊥).
    let over : q < s.sequence = omega (arith, above.0, apart_lt q s.sequence apart above.0) in
    absurd (none_is stand.0.0 (sym (above_none q (s ∷ ss) (over, all_more q s.sequence ss (omega arith) rises.0)) ∙ stand.0.1)))
    (cases_eq s.sequence q)
  where
    from : (q : ℕ) (s : Sequenced) (ss : List Sequenced) → s.sequence ≡ q → AllByRecursion (λ t. s.sequence < t.sequence) ss → AllByRecursion (λ t. q + 1 ≤ t.sequence) ss
    from q s [] here all = tt
    from q s (t ∷ ss) here all = (omega (arith, here, all.0), from q s ss here all.1)

    apart_lt : (a b : ℕ) → (b ≡ a → ⊥) → a ≤ b → a < b
    apart_lt a b apart le = ⊎_elim (λ (l : a < b). l) (λ (l : b ≤ a). absurd (apart (omega arith))) (cases_lt a b)

pub has_run : (q : ℕ) (c : cutting.Piece) (cut : List cutting.Piece) (ss : List Sequenced) → Up ss → StandFrom q (c ∷ cut) ss → HasRun q (c ∷ cut) ss
unfolding Up
has_run q c cut [] rises stand = absurd (none_is stand.0.0 stand.0.1)
has_run q c cut (s ∷ ss) rises stand =
    ⊎_elim
    (λ (below : s.sequence < q).
    let rest = has_run q c cut ss rises.1 (skip q (c ∷ cut) s ss below stand) in
    record { front = s ∷ rest.front; run = rest.run; back = rest.back; parts = ap (λ (l : List Sequenced). s ∷ l) rest.parts; runs = rest.runs })
    (λ (from : q ≤ s.sequence).
    let one = run_front q (c ∷ cut) (s ∷ ss) rises (from, all_at q s.sequence ss from rises.0) stand in
    record { front = []; run = one.0; back = one.1; parts = one.2; runs = one.3 })
    (cases_lt s.sequence q)
  where
    all_at : (a b : ℕ) (ss : List Sequenced) → a ≤ b → AllByRecursion (λ t. b < t.sequence) ss → AllByRecursion (λ t. a ≤ t.sequence) ss
    all_at a b [] le all = tt
    all_at a b (t ∷ ss) le all = (omega (arith, all.0), all_at a b ss le all.1)

-- ---- the marks of a cut message, and its bytes

-- the first has the mark, no other has a first one, and the last one alone a last one
pub Marked : Bool → List cutting.Piece → Type 0
Marked first [] = ⊥
Marked first (c ∷ []) = (c.first ≡ first) × (c.last ≡ true)
Marked first (c ∷ d ∷ cut) = (c.first ≡ first) × (c.last ≡ false) × Marked false (d ∷ cut)

apart_test : (a b : ℕ) → (a ≡ b → ⊥) → (a == b) ≡ false
apart_test a b apart = grind (arith, nat_tests)

same_test : (a b : ℕ) → a ≡ b → (a == b) ≡ true
same_test a b same = grind (arith, nat_tests)

marked_from : (size : ℕ) (message : List ℕ) (i m : ℕ) → i + suc m ≡ cutting.count_of size (length message)
    → Marked (i == 0) (map (cutting.piece_at size message) (range_with_len i (suc m)))
unfolding Marked cutting.piece_at
marked_from size message i zero count = (refl, same_test (i + 1) (cutting.count_of size (length message)) (omega (arith, count)))
marked_from size message i (suc m) count =
    let rest = marked_from size message (i + 1) m (omega (arith, count)) in
    let other : (i + 1 == 0) ≡ false = apart_test (i + 1) 0 (λ e. omega (arith, e)) in
    (refl, apart_test (i + 1) (cutting.count_of size (length message)) (λ e. omega (arith, e, count)), subst (λ (b : Bool). Marked b (map (cutting.piece_at size message) (range_with_len (i + 1) (suc m)))) other rest)

pub has_marks : (size : ℕ) (message : List ℕ) → Marked true (cutting.cut_message size message)
unfolding cutting.cut_message cutting.count_of
has_marks size message =
    let n = cutting.count_of size (length message) in
    let more : n ≡ suc (n - 1) = omega arith in
    subst (λ (k : ℕ). Marked true (map (cutting.piece_at size message) (range_with_len 0 k))) (sym more) (marked_from size message 0 (n - 1) (omega (arith, more)))

bytes_from : (size : ℕ) (message : List ℕ) (i m : ℕ) → length message ≤ size * (i + m)
    → flat_map (λ (c : cutting.Piece). c.payload) (map (cutting.piece_at size message) (range_with_len i m)) ≡ drop (size * i) message
unfolding cutting.piece_at
bytes_from size message i zero all =
    let none : length message ≤ size * i = subst (λ (n : ℕ). length message ≤ size * n) (add-zero i) all in
    sym (drop_of_length-le message none)
bytes_from size message i (suc m) all =
    let same : i + suc m ≡ i + 1 + m = omega arith in
    let rest = bytes_from size message (i + 1) m (subst (λ (n : ℕ). length message ≤ size * n) same all) in
    let next : size * (i + 1) ≡ size * i + size = omega arith in
    let here = drop (size * i) message in
    ap (λ (l : List ℕ). take size here ++ l) (rest ∙ ap (λ (n : ℕ). drop n message) next ∙ sym (drop-drop size (size * i) message)) ∙ take-append-drop size here

pub carries_all : (size : ℕ) (message : List ℕ) → 0 < size → flat_map (λ (c : cutting.Piece). c.payload) (cutting.cut_message size message) ≡ message
unfolding cutting.cut_message cutting.count_of
carries_all size message some =
    let n = cutting.count_of size (length message) in
    let bounds = div_ceil_times (length message) size some in
    let up : div_ceil (length message) size * size ≤ n * size = mul-le-mul_right size (omega arith) in
    let enough : length message ≤ size * (0 + n) = omega (arith, bounds.0, up) in
    let none : size * 0 ≡ 0 = omega arith in
    bytes_from size message 0 n enough ∙ ap (λ (k : ℕ). drop k message) none

-- ---- a run of such segments is a piece

run_bytes : (q : ℕ) (cut : List cutting.Piece) (run : List Sequenced) → Run q cut run → flat_map (λ (s : Sequenced). s.payload) run ≡ flat_map (λ (c : cutting.Piece). c.payload) cut
unfolding Run
run_bytes q [] [] runs = refl
run_bytes q [] (s ∷ run) runs = absurd runs
run_bytes q (c ∷ cut) [] runs = absurd runs
run_bytes q (c ∷ cut) (s ∷ run) runs =
    ap (λ (l : List ℕ). l ++ flat_map (λ (t : Sequenced). t.payload) run) runs.1.2 ∙ ap (λ (l : List ℕ). c.payload ++ l) (run_bytes (q + 1) cut run runs.2)

chain_over : (a b : Sequenced) (xs ys : List Sequenced) → a ≡ b → xs ≡ ys → Chain b ys → Chain a xs
chain_over a b xs ys same more chain = subst (λ (u : Sequenced). Chain u xs) (sym same) (subst (Chain b) (sym more) chain)

record IsWhole (first : Bool) (run : List Sequenced) : Type 0 where
  pub s : Sequenced
  pub others : List Sequenced
  pub is : run ≡ s ∷ others
  pub begins : s.first ≡ first
  pub chain : Chain s others
  pub ends : (end_of s others).last ≡ true

join_test : (a b : Sequenced) → b.sequence ≡ a.sequence + 1 → a.last ≡ false → b.first ≡ false → joins a b ≡ true
join_test a b next last first = rw (last, first, same_test b.sequence (a.sequence + 1) next) refl

whole : (q : ℕ) (first : Bool) (cut : List cutting.Piece) (run : List Sequenced) → Marked first cut → Run q cut run → IsWhole first run
unfolding Marked Run Chain
whole q first [] run marked runs = absurd marked
whole q first (c ∷ cut) [] marked runs = absurd runs
whole q first (c ∷ []) (s ∷ []) marked runs =
    record { s = s; others = []; is = refl; begins = runs.1.0 ∙ marked.0; chain = tt; ends = runs.1.1 ∙ marked.1 }
whole q first (c ∷ []) (s ∷ t ∷ run) marked runs = absurd runs.2
whole q first (c ∷ d ∷ cut) (s ∷ []) marked runs = absurd runs.2
whole q first (c ∷ d ∷ cut) (s ∷ t ∷ run) marked runs =
    let rest = whole (q + 1) false (d ∷ cut) (t ∷ run) marked.2 runs.2 in
    let same : t ≡ rest.s = cc in
    let more : run ≡ rest.others = cc in
    let begins : t.first ≡ false = ap (λ (u : Sequenced). u.first) same ∙ rest.begins in
    record {
      s = s;
      others = t ∷ run;
      is = refl;
      begins = runs.1.0 ∙ marked.0;
      chain = (join_test s t (omega (arith, runs.0, runs.2.0)) (runs.1.1 ∙ marked.1) begins, chain_over t rest.s run rest.others same more rest.chain);
      ends = ap (λ (u : Sequenced). (end_of u run).last) same ∙ ap (λ (l : List Sequenced). (end_of rest.s l).last) more ∙ rest.ends;
    }

-- ---- and stays one after others

after_last : (a b : Sequenced) → a.last ≡ true → joins a b ≡ false
after_last a b last = ⊎_elim
    (λ (yes : (b.sequence == a.sequence + 1) ≡ true). rw (yes, last) refl)
    (λ (other : (b.sequence == a.sequence + 1) ≡ false). rw other refl)
    (cases_Bool (b.sequence == a.sequence + 1))

before_first : (a b : Sequenced) → b.first ≡ true → joins a b ≡ false
before_first a b first = ⊎_elim
    (λ (yes : (b.sequence == a.sequence + 1) ≡ true). ⊎_elim
    (λ (last : a.last ≡ true). rw (yes, last) refl)
    (λ (middle : a.last ≡ false). rw (yes, middle, first) refl)
    (cases_Bool a.last))
    (λ (other : (b.sequence == a.sequence + 1) ≡ false). rw other refl)
    (cases_Bool (b.sequence == a.sequence + 1))

ends_there : (a : Sequenced) (back : List Sequenced) → a.last ≡ true → Ends a back
unfolding Ends
ends_there a [] last = tt
ends_there a (b ∷ back) last = after_last a b last

record IsAmong (p : Fragment) (all : List Fragment) : Type 0 where
  pub front : List Fragment
  pub back : List Fragment
  pub parts : all ≡ front ++ p ∷ back

one_before : (b : Sequenced) (p : Fragment) (front back : List Fragment) → p.head.first ≡ true → IsAmong p (with_segment b (front ++ p ∷ back))
one_before b p [] back first =
    let apart : joins b p.head ≡ false = before_first b p.head first in
    record { front = record { head = b; others = [] } ∷ []; back = back; parts = rw apart refl }
one_before b p (f ∷ front) back first = ⊎_elim
    (λ (yes : joins b f.head ≡ true). record { front = record { head = b; others = segments f } ∷ front; back = back; parts = rw yes refl })
    (λ (other : joins b f.head ≡ false). record { front = record { head = b; others = [] } ∷ f ∷ front; back = back; parts = rw other refl })
    (cases_Bool (joins b f.head))

among : (front back : List Sequenced) (s : Sequenced) (others : List Sequenced) → s.first ≡ true → Chain s others → (end_of s others).last ≡ true
    → IsAmong (record { head = s; others = others }) (fragments_of (front ++ (s ∷ others) ++ back))
among [] back s others first chain last =
    record { front = []; back = fragments_of back; parts = chain_cut s others back chain (ends_there (end_of s others) back last) }
among (b ∷ front) back s others first chain last =
    let rest = among front back s others first chain last in
    subst (λ (ps : List Fragment). IsAmong (record { head = s; others = others }) (with_segment b ps)) (sym rest.parts) (one_before b (record { head = s; others = others }) rest.front rest.back first)

-- one of the messages carries these bytes
abbrev pub IsListed : List ℕ → List Message → Type 0
IsListed message all = Contains (map (λ m. payload m.piece) all) message

pub listed : (ordered : List Sequenced) (p : Fragment) (front back : List Fragment) → is_message p ≡ true → fragments_of ordered ≡ front ++ p ∷ back → IsListed (payload p) (messages ordered)
listed ordered p front back message parts =
    let kept : filter is_message (p ∷ back) ≡ p ∷ filter is_message back = rw message refl in
    let bytes = λ (m : Message). payload m.piece in
    let before = map fragment_message (filter is_message front) in
    let among : messages ordered ≡ before ++ fragment_message p ∷ map fragment_message (filter is_message back) =
    ap (λ (ps : List Fragment). map fragment_message (filter is_message ps)) parts
    ∙ ap (map fragment_message) (filter-append is_message front (p ∷ back) ∙ ap (λ (ps : List Fragment). filter is_message front ++ ps) kept)
    ∙ map-append fragment_message (filter is_message front) (p ∷ filter is_message back) in
    let carried = ap (map bytes) among ∙ map-append bytes before (fragment_message p ∷ map fragment_message (filter is_message back)) in
    subst (λ (all : List (List ℕ)). Contains all (payload p)) (sym carried) (Contains-append_right (map bytes before) _ (payload p) (0, omega arith, refl))

pub run_listed : (q : ℕ) (cut : List cutting.Piece) (ordered : List Sequenced) → Marked true cut → HasRun q cut ordered → IsListed (flat_map (λ (c : cutting.Piece). c.payload) cut) (messages ordered)
run_listed q cut ordered marked has =
    let w = whole q true cut has.run marked has.runs in
    let p : Fragment = record { head = w.s; others = w.others } in
    let parts : ordered ≡ has.front ++ (w.s ∷ w.others) ++ has.back = has.parts ∙ ap (λ (l : List Sequenced). has.front ++ l ++ has.back) w.is in
    let some = among has.front has.back w.s w.others w.begins w.chain w.ends in
    let one = listed ordered p some.front some.back (marks p true true w.begins w.ends) (ap fragments_of parts ∙ some.parts) in
    let bytes : payload p ≡ flat_map (λ (c : cutting.Piece). c.payload) cut = ap (flat_map (λ (s : Sequenced). s.payload)) (sym w.is) ∙ run_bytes q cut has.run has.runs in
    subst (λ (bs : List ℕ). IsListed bs (messages ordered)) bytes one

cut_at_start : (i j : ℕ) (sent sequenced ordered : List Sequenced) → ((p : ℕ) (s : Sequenced) → at p sent ≡ Some s → IsFound i j p s sequenced) → Up ordered → ((sequence : ℕ) → at sequence ordered ≡ at sequence sequenced)
    → (cut : List cutting.Piece) (start : ℕ) → Marked true cut → StandFrom start cut sent → IsListed (flat_map (λ (c : cutting.Piece). c.payload) cut) (messages ordered)
unfolding Marked
cut_at_start i j sent sequenced ordered found rises same [] start marked stand = absurd marked
cut_at_start i j sent sequenced ordered found rises same (c ∷ cut) start marked stand =
    let q = (found start stand.0.0 stand.0.1).sequence in
    let there = stand_too i j sent sequenced found (c ∷ cut) start q (found start stand.0.0 stand.0.1).same stand in
    run_listed q (c ∷ cut) ordered marked (has_run q c cut ordered rises (stand_same sequenced ordered same (c ∷ cut) q there))

-- ---- all of it

pub cut_listed : (size start highest first : ℕ) (message : List ℕ) (came : List NumberedSegment) (sent sequenced ordered : List Sequenced) → 0 < size
    → highest % 4096 ≡ first % 4096 → AreSequenced first came sequenced → IsStrictlyIncreasing (map (λ s. s.sequence) ordered) → ((sequence : ℕ) → at sequence ordered ≡ at sequence sequenced)
    → AreSequenced highest came sent → StandFrom start (cutting.cut_message size message) sent → IsListed message (messages ordered)
cut_listed size start highest first message came sent sequenced ordered some rounds are_sequenced increasing same sent_so stand =
    let i = first / 4096 in
    let j = highest / 4096 in
    let apart : highest + 4096 * i ≡ first + 4096 * j = omega (arith, rounds, split highest, split first) in
    let cut = cutting.cut_message size message in
    let marked = has_marks size message in
    let found = λ (p : ℕ) (s : Sequenced) (is : at p sent ≡ Some s). found_in i j highest first came sent sequenced apart sent_so are_sequenced p s is in
    subst (λ (bs : List ℕ). IsListed bs (messages ordered)) (carries_all size message some)
    (cut_at_start i j sent sequenced ordered found (up ordered increasing) same cut start marked stand)
