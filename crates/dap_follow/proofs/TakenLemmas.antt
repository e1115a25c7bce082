-- What streams take, and the streams that leave no room.
use Rattle.std.proofs.Common.{◌≡◌, ◌⊎◌, inl, inr, ⊎_elim, ℕ, ◌+◌, ◌<◌, ◌≤◌, ◌&&◌, nat_le, nat_lt, not, min, Bool, true, false, [], ◌∷◌, ◌++◌, length, take, if◌then◌else◌, Option, Some, None, arith, refl, ap, sym, subst, ◌∙◌, append-nil, zero, suc, add-one}
use Rattle.std.specs.Prelude.{slice_get}
use Rattle.std.specs.List.{AllByRecursion, sum_by}
use Rattle.std.specs.Option.{option_map_or}
use Rattle.std.proofs.lemmas.Bool.{false≢true}
use Rattle.std.proofs.lemmas.Bool.Decides.{nat_tests}
use Rattle.std.proofs.lemmas.List.Elements.{filter-append}
use Rattle.std.proofs.lemmas.List.Sums.{sum_by-cons, sum_by_push}
use Rattle.dap_follow.specs.Streams.{is_same_stream}
use Rattle.dap_follow.specs.Room.{max_room, max_streams}
use Rattle.dap_follow.specs.Keeping.Room.{AreTaken, IsCrowd, IsEarliest, count_others, entries_leave_room, entries_since, entry_came, held_by, is_crowded_entry, leaves_room, taken_and, taken_and_since}
use Rattle.dap_follow.specs.Keeping.Streams.{Entries}
use Rattle.dap_follow.specs.declared.kept.KeptSegments.{KeptSegments}
use Rattle.dap_follow.specs.declared.room.Coming.{Coming}
use Rattle.dap_follow.specs.declared.room.Taken.{Taken}
use Rattle.dap_follow.specs.declared.streams.Stream.{Stream}
use Rattle.dap_follow.proofs.StayLemmas.{and_one, and_two, by_bool}

abbrev Entry : Type 0
Entry = Stream × KeptSegments

-- ---- one stream more

no_some : (e : Stream × KeptSegments) → None ≡ Some e → ⊥
no_some e is = cc

take_more : (es : Entries) (i : ℕ) (e : Stream × KeptSegments) → slice_get es i ≡ Some e → take (i + 1) es ≡ take i es ++ e ∷ []
take_more [] i e is = absurd (no_some e is)
take_more (f ∷ es) zero e is = let same : f ≡ e = cc in ap (λ (g : Stream × KeptSegments). g ∷ []) same
take_more (f ∷ es) (suc i) e is = rw add-one (rw add-one at (ap (λ (l : Entries). f ∷ l) (take_more es i e is)))

all_push : (P : Stream × KeptSegments → Type 0) (es : Entries) (e : Stream × KeptSegments) → AllByRecursion P es → P e → AllByRecursion P (es ++ e ∷ [])
all_push P [] e all one = (one, tt)
all_push P (f ∷ es) e all one = (all.0, all_push P es e all.1 one)

all_by : (P Q : Stream × KeptSegments → Type 0) (es : Entries) → ((e : Stream × KeptSegments) → P e → Q e) → AllByRecursion P es → AllByRecursion Q es
all_by P Q [] each all = tt
all_by P Q (e ∷ es) each all = (each e all.0, all_by P Q es each all.1)

all_both : (P Q : Stream × KeptSegments → Type 0) (es : Entries) → AllByRecursion P es → AllByRecursion Q es → AllByRecursion (λ e. P e × Q e) es
all_both P Q [] one two = tt
all_both P Q (e ∷ es) one two = ((one.0, two.0), all_both P Q es one.1 two.1)

since_push : (c : Coming) (packet : ℕ) (es : Entries) (e : Stream × KeptSegments) (b : Bool) → nat_le packet (entry_came c e) ≡ b
    → entries_since c packet (es ++ e ∷ []) ≡ entries_since c packet es ++ (if b then e ∷ [] else [])
since_push c packet es e b is =
    filter-append (λ f. nat_le packet (entry_came c f)) es (e ∷ []) ∙ ap (λ d. entries_since c packet es ++ (if d then e ∷ [] else [])) is

pub le_is : (a b : ℕ) → a ≤ b → nat_le a b ≡ true
le_is a b low = grind (arith, nat_tests)

le_not : (a b : ℕ) → b < a → nat_le a b ≡ false
le_not a b high = grind (arith, nat_tests)

pub is_le : (a b : ℕ) → nat_le a b ≡ true → a ≤ b
is_le a b h = grind (arith, nat_tests)

pub not_le : (a b : ℕ) → nat_le a b ≡ false → b < a
not_le a b h = grind (arith, nat_tests)

min_left : (a b : ℕ) → min a b ≤ a
min_left a b = omega arith

min_right : (a b : ℕ) → min a b ≤ b
min_right a b = omega arith

first_push : (c : Coming) (first : Option ℕ) (es : Entries) (e : Stream × KeptSegments) → IsEarliest c first es
    → IsEarliest c (Some (option_map_or (λ one. min one (entry_came c e)) first (entry_came c e))) (es ++ e ∷ [])
first_push c None es e none = subst (λ (l : Entries). IsEarliest c (Some (entry_came c e)) (l ++ e ∷ [])) (sym none) (omega arith, tt)
first_push c (Some f) es e all =
    all_push (λ g. min f (entry_came c e) ≤ entry_came c g) es e
    (all_by (λ g. f ≤ entry_came c g) (λ g. min f (entry_came c e) ≤ entry_came c g) es (λ g low. let m = min_left f (entry_came c e) in omega (arith, low, m)) all) (min_right f (entry_came c e))

later_push : (packet came : ℕ) (first : Option ℕ) → packet ≤ came → option_map_or (λ one. nat_le packet one) first true ≡ true
    → nat_le packet (option_map_or (λ one. min one came) first came) ≡ true
later_push packet came None low is = le_is packet came low
later_push packet came (Some f) low is = let h : packet ≤ f = is_le packet f is in le_is packet (min f came) (omega (arith, h, low))

pub taken_first : (c : Coming) (packet : ℕ) (es : Entries) → AreTaken c packet (take 0 es) (record { others = 0; held = 0; first = None })
taken_first c packet es = record { others = refl; held = refl; first = refl; later = refl }

taken_more : (c : Coming) (packet : ℕ) (es : Entries) (i : ℕ) (e : Stream × KeptSegments) (t : Taken) → slice_get es i ≡ Some e → packet ≤ entry_came c e → AreTaken c packet (take i es) t
    → AreTaken c packet (take (i + 1) es) (taken_and c e t)
taken_more c packet es i e t is low are =
    subst (λ (l : Entries). AreTaken c packet l (taken_and c e t)) (sym (take_more es i e is)) (record {
      others = ap (λ m. m + (if is_same_stream c.stream e.0 then 0 else 1)) are.others ∙ sym (sum_by_push (λ (f : Entry). if is_same_stream c.stream f.0 then 0 else 1) since e) ∙ ap (λ (l : Entries). count_others c l) (sym all);
      held = ap (λ m. m + e.1.held) are.held ∙ sym (sum_by_push (λ (f : Entry). f.1.held) since e) ∙ ap (λ (l : Entries). held_by l) (sym all);
      first = subst (λ (l : Entries). IsEarliest c (taken_and c e t).first l) (sym all) (first_push c t.first since e are.first);
      later = later_push packet (entry_came c e) t.first low are.later;
    })
  where
    since : Entries
    since = entries_since c packet (take i es)

    all : entries_since c packet (take i es ++ e ∷ []) ≡ since ++ e ∷ []
    all = since_push c packet (take i es) e true (le_is packet (entry_came c e) low)

taken_same : (c : Coming) (packet : ℕ) (es : Entries) (i : ℕ) (e : Stream × KeptSegments) (t : Taken) → slice_get es i ≡ Some e → entry_came c e < packet → AreTaken c packet (take i es) t
    → AreTaken c packet (take (i + 1) es) t
taken_same c packet es i e t is high are =
    subst (λ (l : Entries). AreTaken c packet l t) (sym (take_more es i e is)) (record {
      others = are.others ∙ ap (λ (l : Entries). count_others c l) (sym all);
      held = are.held ∙ ap (λ (l : Entries). held_by l) (sym all);
      first = subst (λ (l : Entries). IsEarliest c t.first l) (sym all) are.first;
      later = are.later;
    })
  where
    all : entries_since c packet (take i es ++ e ∷ []) ≡ entries_since c packet (take i es)
    all = since_push c packet (take i es) e false (le_not packet (entry_came c e) high) ∙ append-nil (entries_since c packet (take i es))

pub taken_next : (c : Coming) (packet : ℕ) (es : Entries) (i : ℕ) (e : Stream × KeptSegments) (t : Taken) → slice_get es i ≡ Some e → AreTaken c packet (take i es) t
    → AreTaken c packet (take (i + 1) es) (taken_and_since c packet e t)
taken_next c packet es i e t is are =
    by_bool (nat_le packet (entry_came c e))
    (λ h. subst (λ (u : Taken). AreTaken c packet (take (i + 1) es) u) (sym (ap (λ b. if b then taken_and c e t else t) h)) (taken_more c packet es i e t is (is_le packet (entry_came c e) h) are))
    (λ h. subst (λ (u : Taken). AreTaken c packet (take (i + 1) es) u) (sym (ap (λ b. if b then taken_and c e t else t) h)) (taken_same c packet es i e t is (not_le packet (entry_came c e) h) are))

take_all : (es : Entries) (i : ℕ) → length es ≤ i → take i es ≡ es
take_all [] zero end = refl
take_all [] (suc i) end = refl
take_all (e ∷ es) zero end = absurd (omega (arith, end))
take_all (e ∷ es) (suc i) end = ap (λ (l : Entries). e ∷ l) (take_all es i (omega (arith, end)))

no_entry : (e : Stream × KeptSegments) → Some e ≡ None → ⊥
no_entry e is = cc

take_none : (es : Entries) (i : ℕ) → slice_get es i ≡ None → take i es ≡ es
take_none [] zero none = refl
take_none [] (suc i) none = refl
take_none (e ∷ es) zero none = absurd (no_entry e none)
take_none (e ∷ es) (suc i) none = ap (λ (l : Entries). e ∷ l) (take_none es i none)

pub taken_all : (c : Coming) (packet : ℕ) (es : Entries) (i : ℕ) (t : Taken) → (slice_get es i ≡ None) ⊎ (length es ≤ i) → AreTaken c packet (take i es) t → AreTaken c packet es t
taken_all c packet es i t (inl none) are = subst (λ (l : Entries). AreTaken c packet l t) (take_none es i none) are
taken_all c packet es i t (inr end) are = subst (λ (l : Entries). AreTaken c packet l t) (take_all es i end) are

-- ---- those that leave no room

-- each that came last before a packet ends
abbrev pub AreCrowded : Coming → Entries → ℕ → Type 0
AreCrowded c es since = AllByRecursion (λ e. entry_came c e < since → is_crowded_entry c es e ≡ true) es

pub all_each : (P : Stream × KeptSegments → Type 0) (es : Entries) → ((e : Stream × KeptSegments) → P e) → AllByRecursion P es
all_each P [] each = tt
all_each P (e ∷ es) each = (each e, all_each P es each)

pub crowd_starts : (c : Coming) (es : Entries) → AreCrowded c es 0
crowd_starts c es = all_each (λ e. entry_came c e < 0 → is_crowded_entry c es e ≡ true) es (λ e low. absurd (omega (arith, low)))

kept_if : (P : Stream × KeptSegments → Type 0) (e : Stream × KeptSegments) (es : Entries) (b : Bool) → AllByRecursion P (if b then e ∷ es else es) → (b ≡ true → P e) × AllByRecursion P es
kept_if P e es true all = ((λ h. all.0), all.1)
kept_if P e es false all = ((λ h. absurd (false≢true h)), all)

all_since : (P : Stream × KeptSegments → Type 0) (c : Coming) (since : ℕ) (es : Entries) → AllByRecursion P (entries_since c since es) → AllByRecursion (λ e. since ≤ entry_came c e → P e) es
all_since P c since [] all = tt
all_since P c since (e ∷ es) all =
    let both = kept_if P e (entries_since c since es) (nat_le since (entry_came c e)) all in
    ((λ low. both.0 (le_is since (entry_came c e) low)), all_since P c since es both.1)

leaves_same : (c : Coming) (since : ℕ) (es : Entries) (t : Taken) → AreTaken c since es t → leaves_room c.need t ≡ entries_leave_room c (entries_since c since es)
leaves_same c since es t are =
    ap (λ m. nat_le (m + 1) max_streams && nat_le (t.held + c.need) max_room) are.others
    ∙ ap (λ m. nat_le (count_others c (entries_since c since es) + 1) max_streams && nat_le (m + c.need) max_room) are.held

test_same : (since first came : ℕ) → since ≤ first → (since ≤ came → first ≤ came) → nat_le first came ≡ nat_le since came
test_same since first came up low =
    by_bool (nat_le since came)
    (λ t. le_is first came (low (is_le since came t)) ∙ sym t)
    (λ f. le_not first came (let h = not_le since came f in omega (arith, h, up)) ∙ sym f)

since_same : (c : Coming) (since first : ℕ) (es : Entries) → since ≤ first → AllByRecursion (λ e. since ≤ entry_came c e → first ≤ entry_came c e) es → entries_since c first es ≡ entries_since c since es
since_same c since first [] up all = refl
since_same c since first (e ∷ es) up all =
    ap (λ b. if b then e ∷ entries_since c first es else entries_since c first es) (test_same since first (entry_came c e) up all.0)
    ∙ ap (λ (l : Entries). if nat_le since (entry_came c e) then e ∷ l else l) (since_same c since first es up all.1)

either_way : (a b : ℕ) → (a < b) ⊎ (b ≤ a)
either_way a b = by_bool (nat_le b a) (λ t. inr (is_le b a t)) (λ f. inl (not_le b a f))

pub crowd_more : (c : Coming) (es : Entries) (since first : ℕ) (t : Taken) → AreTaken c since es t → t.first ≡ Some first → leaves_room c.need t ≡ false → AreCrowded c es since
    → AreCrowded c es (first + 1) × (since ≤ first)
crowd_more c es since first t are is none before =
    let later : nat_le since first ≡ true = subst (λ o. option_map_or (λ one. nat_le since one) o true ≡ true) is are.later in
    let up : since ≤ first = is_le since first later in
    let at_first : AllByRecursion (λ e. first ≤ entry_came c e) (entries_since c since es) = subst (λ o. IsEarliest c o (entries_since c since es)) is are.first in
    let all : AllByRecursion (λ e. since ≤ entry_came c e → first ≤ entry_came c e) es = all_since (λ e. first ≤ entry_came c e) c since es at_first in
    let full : entries_leave_room c (entries_since c first es) ≡ false =
    ap (λ (l : Entries). entries_leave_room c l) (since_same c since first es up all) ∙ sym (leaves_same c since es t are) ∙ none in (
      all_by (λ e. (entry_came c e < since → is_crowded_entry c es e ≡ true) × (since ≤ entry_came c e → first ≤ entry_came c e)) (λ e. entry_came c e < first + 1 → is_crowded_entry c es e ≡ true) es
          (λ e both low. ⊎_elim
          (λ (early : entry_came c e < since). both.0 early)
          (λ (late : since ≤ entry_came c e).
          let high : first ≤ entry_came c e = both.1 late in
          let same : entry_came c e ≡ first = omega (arith, high, low) in
          ap (λ m. not (entries_leave_room c (entries_since c m es))) same ∙ ap (λ b. not b) full)
          (either_way (entry_came c e) since))
          (all_both (λ e. entry_came c e < since → is_crowded_entry c es e ≡ true) (λ e. since ≤ entry_came c e → first ≤ entry_came c e) es before all),
      up,
    )

-- ---- there is room

pub added_if : (f : Stream × KeptSegments → ℕ) (e : Stream × KeptSegments) (xs ys : Entries) (a b : Bool) → (a ≡ true → b ≡ true) → sum_by f xs ≤ sum_by f ys
    → sum_by f (if a then e ∷ xs else xs) ≤ sum_by f (if b then e ∷ ys else ys)
added_if f e xs ys true true both low = omega (arith, low, sum_by-cons f e xs, sum_by-cons f e ys)
added_if f e xs ys false true both low = omega (arith, low, sum_by-cons f e ys)
added_if f e xs ys false false both low = low
added_if f e xs ys true false both low = absurd (false≢true (both refl))

fewer : (f : Stream × KeptSegments → ℕ) (c : Coming) (since later : ℕ) (es : Entries) → since ≤ later → sum_by f (entries_since c later es) ≤ sum_by f (entries_since c since es)
fewer f c since later [] up = omega arith
fewer f c since later (e ∷ es) up =
    added_if f e (entries_since c later es) (entries_since c since es) (nat_le later (entry_came c e)) (nat_le since (entry_came c e))
    (λ h. let low = is_le later (entry_came c e) h in le_is since (entry_came c e) (omega (arith, low, up))) (fewer f c since later es up)

room_stays : (a b m n need : ℕ) → m ≤ a → n ≤ b → (nat_le (a + 1) max_streams && nat_le (b + need) max_room) ≡ true → (nat_le (m + 1) max_streams && nat_le (n + need) max_room) ≡ true
room_stays a b m n need one two is =
    let few = is_le (a + 1) max_streams (and_one (nat_le (a + 1) max_streams) (nat_le (b + need) max_room) is) in
    let low = is_le (b + need) max_room (and_two (nat_le (a + 1) max_streams) (nat_le (b + need) max_room) is) in
    ap (λ d. d && nat_le (n + need) max_room) (le_is (m + 1) max_streams (omega (arith, one, few))) ∙ le_is (n + need) max_room (omega (arith, two, low))

pub lt_is : (a b : ℕ) → a < b → nat_lt a b ≡ true
lt_is a b low = grind (arith, nat_tests)

pub lt_not : (a b : ℕ) → b ≤ a → nat_lt a b ≡ false
lt_not a b high = grind (arith, nat_tests)

pub crowd_with_room : (c : Coming) (es : Entries) (since : ℕ) (t : Taken) → AreTaken c since es t → leaves_room c.need t ≡ true → AreCrowded c es since
    → IsCrowd c es (record { coming = c; since = since })
crowd_with_room c es since t are room before = record {
  coming_is = refl;
  each = all_by (λ e. entry_came c e < since → is_crowded_entry c es e ≡ true) (λ e. nat_lt (entry_came c e) since ≡ is_crowded_entry c es e) es
      (λ e one. ⊎_elim
      (λ (early : entry_came c e < since). lt_is (entry_came c e) since early ∙ sym (one early))
      (λ (late : since ≤ entry_came c e).
      let all : entries_leave_room c (entries_since c since es) ≡ true = sym (leaves_same c since es t are) ∙ room in
      let stays : entries_leave_room c (entries_since c (entry_came c e) es) ≡ true =
      room_stays (count_others c (entries_since c since es)) (held_by (entries_since c since es)) (count_others c (entries_since c (entry_came c e) es)) (held_by (entries_since c (entry_came c e) es)) c.need
      (fewer (λ (f : Entry). if is_same_stream c.stream f.0 then 0 else 1) c since (entry_came c e) es late) (fewer (λ (f : Entry). f.1.held) c since (entry_came c e) es late) all in
      lt_not (entry_came c e) since late ∙ sym (ap (λ b. not b) stays))
      (either_way (entry_came c e) since))
      before;
  others = inr (sym (leaves_same c since es t are) ∙ room);
}

none_late : (c : Coming) (since : ℕ) (es : Entries) → entries_since c since es ≡ [] → AllByRecursion (λ e. since ≤ entry_came c e → ⊥) es
none_late c since es none = all_since (λ e. ⊥) c since es (subst (λ (l : Entries). AllByRecursion (λ e. ⊥) l) (sym none) tt)

pub crowd_of_all : (c : Coming) (es : Entries) (since : ℕ) (t : Taken) → AreTaken c since es t → t.first ≡ None → AreCrowded c es since
    → IsCrowd c es (record { coming = c; since = since })
crowd_of_all c es since t are none before =
    let empty : entries_since c since es ≡ [] = subst (λ o. IsEarliest c o (entries_since c since es)) none are.first in record {
      coming_is = refl;
      each = all_by (λ e. (entry_came c e < since → is_crowded_entry c es e ≡ true) × (since ≤ entry_came c e → ⊥)) (λ e. nat_lt (entry_came c e) since ≡ is_crowded_entry c es e) es
          (λ e both. ⊎_elim
          (λ (early : entry_came c e < since). lt_is (entry_came c e) since early ∙ sym (both.0 early))
          (λ (late : since ≤ entry_came c e). absurd (both.1 late))
          (either_way (entry_came c e) since))
          (all_both (λ e. entry_came c e < since → is_crowded_entry c es e ≡ true) (λ e. since ≤ entry_came c e → ⊥) es before (none_late c since es empty));
      others = inl empty;
    }
