-- What a stream has under a packet stays, whatever segments of later packets come to it.
use Rattle.std.proofs.Common.{◌≡◌, inl, inr, ⊎_elim, ℕ, ◌+◌, ◌*◌, ◌/◌, ◌%◌, ◌<◌, ◌≤◌, List, [], ◌∷◌, ◌++◌, map, max, Option, Some, None, arith, refl, ap, sym, subst, ◌∙◌}
use Rattle.std.specs.List.{AllByRecursion}
use Rattle.std.specs.List.Sorted.{IsStrictlyIncreasing, IsStrictlySortedBy}
use Rattle.std.specs.Ordering.{nat_cmp}
use Rattle.std.specs.declared.cmp.Ordering.TheVariants.{Less}
use Rattle.std.proofs.lemmas.Bool.{cases_eq, cases_lt}
use Rattle.std.proofs.lemmas.Bool.Decides.{nat_tests}
use Rattle.std.proofs.lemmas.Map.Keys.{sorted_from_strictly_increasing}
use Rattle.dap_follow.specs.Streams.{AreSequenced, IsOrdered, NumberedSegment, Sequenced, at, first_sequence, no_more, one_more}
use Rattle.dap_follow.specs.Listed.{whole_at}
use Rattle.dap_follow.specs.Segments.{sequenced_at}
use Rattle.dap_follow.specs.Keeping.Pieces.{IsPut, Rises}
use Rattle.dap_follow.proofs.OrderLemmas.{at-append, at-here, at-other, at_put, or_else, rises_put}
use Rattle.dap_follow.proofs.StayLemmas.{stays}

-- ---- sequence numbers are those of the segments

parts : (n : ℕ) → n ≡ 4096 * (n / 4096) + n % 4096
parts n = omega arith

pub near_is : (h u v : ℕ) → h ≤ u + 2047 → u ≤ h + 2048 → h ≤ v + 2047 → v ≤ h + 2048 → u % 4096 ≡ v % 4096 → u ≡ v
near_is h u v hu uh hv vh number = omega (arith, parts u, parts v)

-- segments have one sequence number each
pub same_sequenced : (highest : ℕ) (came : List NumberedSegment) (a b : List Sequenced) → AreSequenced highest came a → AreSequenced highest came b → a ≡ b
same_sequenced highest [] a b no_more no_more = refl
same_sequenced highest (c ∷ others) a b (one_more {rest = r} s ls hs ns more) (one_more {rest = q} t lt ht nt rest) =
    let same : t ≡ s = near_is highest t s lt ht ls hs (nt ∙ sym ns) in
    let both : r ≡ q = same_sequenced (max highest s) others r q more (subst (λ k. AreSequenced (max highest k) others q) same rest) in
    ap (λ (l : List Sequenced). sequenced_at s c ∷ l) both ∙ ap (λ k. sequenced_at k c ∷ q) (sym same)

later_packets : (n highest : ℕ) (came : List NumberedSegment) (ss : List Sequenced) → AreSequenced highest came ss → AllByRecursion (λ c. n < c.0) came → AllByRecursion (λ s. n < s.packet) ss
later_packets n highest [] ss no_more all = tt
later_packets n highest (c ∷ came) ss (one_more {rest = r} s l h k more) all = (all.0, later_packets n (max highest s) came r more all.1)

-- those of the first segments, and those of the others
record Parts (n highest : ℕ) (came : List NumberedSegment) (ss : List Sequenced) : Type 0 where
  pub first : List Sequenced
  pub others : List Sequenced
  pub are : ss ≡ first ++ others
  pub are_first : AreSequenced highest came first
  pub are_later : AllByRecursion (λ s. n < s.packet) others

parted : (n : ℕ) (highest : ℕ) (came later : List NumberedSegment) (ss : List Sequenced) → AllByRecursion (λ c. n < c.0) later → AreSequenced highest (came ++ later) ss → Parts n highest came ss
parted n highest [] later ss all are = record { first = []; others = ss; are = refl; are_first = no_more; are_later = later_packets n highest later ss are all }
parted n highest (c ∷ came) later ss all (one_more {rest = r} s l h k more) =
    let p = parted n (max highest s) came later r all more in
    record {
      first = sequenced_at s c ∷ p.first;
      others = p.others;
      are = ap (λ (t : List Sequenced). sequenced_at s c ∷ t) p.are;
      are_first = one_more s l h k p.are_first;
      are_later = p.are_later;
    }

-- ---- segments in order

less_is : (a b : ℕ) → nat_cmp a b ≡ Less → a < b
less_is a b is = grind (arith, nat_tests)

all_rise : (s : Sequenced) (others : List Sequenced) → AllByRecursion (λ y. nat_cmp s.sequence y ≡ Less) (map (λ t. t.sequence) others) → AllByRecursion (λ t. s.sequence < t.sequence) others
all_rise s [] all = tt
all_rise s (t ∷ others) all = (less_is s.sequence t.sequence all.0, all_rise s others all.1)

rises_from : (ss : List Sequenced) → IsStrictlySortedBy nat_cmp (map (λ t. t.sequence) ss) → Rises ss
unfolding IsStrictlySortedBy
rises_from [] sorted = tt
rises_from (s ∷ others) sorted = (all_rise s others sorted.0, rises_from others sorted.1)

pub rises : (ss : List Sequenced) → IsStrictlyIncreasing (map (λ t. t.sequence) ss) → Rises ss
rises ss increasing = rises_from ss (sorted_from_strictly_increasing (map (λ t. t.sequence) ss) increasing)

all_higher : (a b : ℕ) (ss : List Sequenced) → a < b → AllByRecursion (λ t. b < t.sequence) ss → AllByRecursion (λ t. a < t.sequence) ss
all_higher a b [] below all = tt
all_higher a b (s ∷ ss) below all = let one : b < s.sequence = all.0 in (omega (arith, below, one), all_higher a b ss below all.1)

pub none_above : (p : ℕ) (ss : List Sequenced) → AllByRecursion (λ t. p < t.sequence) ss → at p ss ≡ None
none_above p [] all = refl
none_above p (s ∷ ss) all = let one : p < s.sequence = all.0 in at-other p s ss (λ e. omega (arith, e, one)) ∙ none_above p ss all.1

some_is : (s t : Sequenced) → Some s ≡ Some t → s ≡ t
some_is s t e = cc

some_none : (s : Sequenced) → Some s ≡ None → ⊥
some_none s e = cc

tails : (x y : Sequenced) (xs ys : List Sequenced) → x ≡ y → AllByRecursion (λ t. x.sequence < t.sequence) xs → AllByRecursion (λ t. y.sequence < t.sequence) ys
    → ((p : ℕ) → at p (x ∷ xs) ≡ at p (y ∷ ys)) → (p : ℕ) → at p xs ≡ at p ys
tails x y xs ys same xs_above ys_above each p =
    let number : x.sequence ≡ y.sequence = ap (λ (s : Sequenced). s.sequence) same in
    ⊎_elim
    (λ (here : p ≡ x.sequence). ap (λ q. at q xs) here ∙ none_above x.sequence xs xs_above ∙ sym (ap (λ q. at q ys) (here ∙ number) ∙ none_above y.sequence ys ys_above))
    (λ (apart : p ≡ x.sequence → ⊥).
    sym (at-other p x xs (λ e. apart (sym e))) ∙ each p ∙ at-other p y ys (λ e. apart (sym e ∙ sym number)))
    (cases_eq p x.sequence)

-- the same segments under each number, in order: the same list
pub one_order : (xs ys : List Sequenced) → Rises xs → Rises ys → ((p : ℕ) → at p xs ≡ at p ys) → xs ≡ ys
one_order [] [] up vp each = refl
one_order [] (y ∷ ys) up vp each = absurd (some_none y (sym (at-here y.sequence y ys refl) ∙ sym (each y.sequence)))
one_order (x ∷ xs) [] up vp each = absurd (some_none x (sym (at-here x.sequence x xs refl) ∙ each x.sequence))
one_order (x ∷ xs) (y ∷ ys) up vp each =
    ⊎_elim
    (λ (below : x.sequence < y.sequence).
    absurd (some_none x (sym (at-here x.sequence x xs refl) ∙ each x.sequence ∙ none_above x.sequence (y ∷ ys) (below, all_higher x.sequence y.sequence ys below vp.0))))
    (λ (least : y.sequence ≤ x.sequence).
    ⊎_elim
    (λ (below : y.sequence < x.sequence).
    absurd (some_none y (sym (at-here y.sequence y ys refl) ∙ sym (each y.sequence) ∙ none_above y.sequence (x ∷ xs) (below, all_higher y.sequence x.sequence xs below up.0))))
    (λ (most : x.sequence ≤ y.sequence).
    let number : y.sequence ≡ x.sequence = omega (arith, least, most) in
    let same : x ≡ y = some_is x y (sym (at-here x.sequence x xs refl) ∙ each x.sequence ∙ at-here x.sequence y ys number) in
    ap (λ (s : Sequenced). s ∷ xs) same ∙ ap (λ (l : List Sequenced). y ∷ l) (one_order xs ys up.1 vp.1 (tails x y xs ys same up.0 vp.0 each)))
    (cases_lt y.sequence x.sequence))
    (cases_lt x.sequence y.sequence)

-- ---- one segment more

record Put (s : Sequenced) (old : List Sequenced) : Type 0 where
  pub new : List Sequenced
  pub is : IsPut old s new

put : (s : Sequenced) (old : List Sequenced) → Rises old → Put s old
put s [] up = record { new = s ∷ []; is = inr ([], [], refl, refl, tt, tt) }
put s (x ∷ xs) up =
    ⊎_elim
    (λ (below : s.sequence < x.sequence). record { new = s ∷ x ∷ xs; is = inr ([], x ∷ xs, refl, refl, tt, (below, all_higher s.sequence x.sequence xs below up.0)) })
    (λ (least : x.sequence ≤ s.sequence).
    ⊎_elim
    (λ (above : x.sequence < s.sequence). behind s x xs above (put s xs up.1))
    (λ (most : s.sequence ≤ x.sequence). record { new = x ∷ xs; is = inl (refl, [], xs, x, refl, omega (arith, least, most)) })
    (cases_lt x.sequence s.sequence))
    (cases_lt s.sequence x.sequence)
  where
    behind : (s x : Sequenced) (xs : List Sequenced) → x.sequence < s.sequence → Put s xs → Put s (x ∷ xs)
    behind s x xs above p = record {
      new = x ∷ p.new;
      is = ⊎_elim
          (λ known. inl (ap (λ (l : List Sequenced). x ∷ l) known.0, x ∷ known.1, known.2, known.3, ap (λ (l : List Sequenced). x ∷ l) known.4, known.5))
          (λ fresh. inr (x ∷ fresh.0, fresh.1, ap (λ (l : List Sequenced). x ∷ l) fresh.2, ap (λ (l : List Sequenced). x ∷ l) fresh.3, (above, fresh.4), fresh.5))
          p.is;
    }

put_stays : (n : ℕ) (s : Sequenced) (old new : List Sequenced) → n < s.packet → IsPut old s new → whole_at n new ≡ whole_at n old
put_stays n s old new late (inl (same, front, back, other, is, there)) = ap (λ (l : List Sequenced). whole_at n l) same
put_stays n s old new late (inr (front, back, before, after, below, above)) =
    ap (λ (l : List Sequenced). whole_at n l) after ∙ stays n s front back late below above ∙ ap (λ (l : List Sequenced). whole_at n l) (sym before)

-- ---- all later ones

record Later (n : ℕ) (now others : List Sequenced) : Type 0 where
  pub all : List Sequenced
  pub up : Rises all
  pub each : (p : ℕ) → at p all ≡ or_else (at p now) (at p others)
  pub whole : whole_at n all ≡ whole_at n now

none_else : (o : Option Sequenced) → or_else o None ≡ o
none_else None = refl
none_else (Some s) = refl

else_else : (a b c : Option Sequenced) → or_else (or_else a b) c ≡ or_else a (or_else b c)
else_else None b c = refl
else_else (Some s) b c = refl

later : (n : ℕ) (others now : List Sequenced) → Rises now → AllByRecursion (λ s. n < s.packet) others → Later n now others
later n [] now up late = record { all = now; up = up; each = λ p. sym (none_else (at p now)); whole = refl }
later n (s ∷ others) now up late =
    let one = put s now up in
    let rest = later n others one.new (rises_put now s one.new one.is up) late.1 in
    record {
      all = rest.all;
      up = rest.up;
      each = λ p. rest.each p ∙ ap (λ (o : Option Sequenced). or_else o (at p others)) (at_put p now s one.new one.is)
          ∙ else_else (at p now) (at p (s ∷ [])) (at p others) ∙ ap (λ (o : Option Sequenced). or_else (at p now) o) (sym (at-append p (s ∷ []) others));
      whole = rest.whole ∙ put_stays n s now one.new late.0 one.is;
    }

pub stay_whole : (n : ℕ) (first : NumberedSegment) (before more : List NumberedSegment) (now all : List Sequenced) → IsOrdered (first ∷ before) now → IsOrdered (first ∷ before ++ more) all
    → AllByRecursion (λ c. n < c.0) more → whole_at n all ≡ whole_at n now
stay_whole n first before more now all was is late =
    let p = parted n (first_sequence (first ∷ before)) (first ∷ before) more is.sequenced late is.are_sequenced in
    let same : p.first ≡ was.sequenced = same_sequenced (first_sequence (first ∷ before)) (first ∷ before) p.first was.sequenced p.are_first was.are_sequenced in
    let l = later n p.others now (rises now was.ascending) p.are_later in
    let each : (q : ℕ) → at q l.all ≡ at q all = λ q. l.each q ∙ ap (λ (o : Option Sequenced). or_else o (at q p.others)) (was.same q ∙ ap (λ (t : List Sequenced). at q t) (sym same))
    ∙ sym (is.same q ∙ ap (λ (t : List Sequenced). at q t) p.are ∙ at-append q p.first p.others) in
    ap (λ (t : List Sequenced). whole_at n t) (sym (one_order l.all all l.up (rises all is.ascending) each)) ∙ l.whole
