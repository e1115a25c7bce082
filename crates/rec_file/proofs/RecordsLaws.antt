-- What is known of a map's lowest and highest numbers, from what it has at each number.
use Rattle.std.proofs.Common.{◌≡◌, ℕ, zero, suc, ◌+◌, ◌<◌, map, [], ◌∷◌, is_some, arith, ◌≤◌, List, Some, None, IsSome, refl, sym, ap, subst, ◌∙◌}
use Rattle.std.specs.FinMap.{get, entries, entries_sorted, get-entries}
use Rattle.rec_file.specs.Files.{Records, lowest_from, highest_of, records_from}
use Rattle.rec_file.proofs.Rising.{at, IsRising, last_of, find_is_at, rising_from_sorted, first_of_some, first_of_none, last_of_some, last_of_none, at_tail, at_first, below_last, from_some, from_none, first_there}

pub get_is_at : (m : Records) (q : ℕ) → get m q ≡ at (entries m) q
get_is_at m q = get-entries m q ∙ find_is_at (entries m) q

pub rising : (m : Records) → IsRising (entries m)
rising m = rising_from_sorted (entries m) (entries_sorted m)

pub lowest_from_some : (m : Records) (n k : ℕ) → n ≤ k → IsSome (get m k) → ((j : ℕ) → n ≤ j → j < k → get m j ≡ None) → lowest_from m n ≡ Some k
lowest_from_some m n k le some none =
    first_of_some (entries m) n k (rising m) le (subst IsSome (get_is_at m k) some) (λ j a b. sym (get_is_at m j) ∙ none j a b)

pub lowest_from_none : (m : Records) (n : ℕ) → ((j : ℕ) → n ≤ j → get m j ≡ None) → lowest_from m n ≡ None
lowest_from_none m n none = first_of_none (entries m) n (λ j a. sym (get_is_at m j) ∙ none j a)

pub highest_of_some : (m : Records) (h : ℕ) → IsSome (get m h) → ((j : ℕ) → h < j → get m j ≡ None) → highest_of m ≡ h
highest_of_some m h some none = last_of_some (entries m) h (rising m) (subst IsSome (get_is_at m h) some) (λ j a. sym (get_is_at m j) ∙ none j a)

pub highest_of_none : (m : Records) → ((j : ℕ) → get m j ≡ None) → highest_of m ≡ 0
highest_of_none m none = last_of_none (entries m) (λ j. sym (get_is_at m j) ∙ none j)

-- the highest number is occupied, and none above it; or nothing is
pub record IsHighest (m : Records) (h : ℕ) : Type 0 where
  pub occupied : 1 ≤ h → IsSome (get m h)
  pub none_above : (j : ℕ) → h < j → get m j ≡ None

is_highest_rising : (es : List (ℕ × List ℕ)) → IsRising es → ((j : ℕ) → last_of (map (λ e. e.0) es) < j → at es j ≡ None) × (1 ≤ last_of (map (λ e. e.0) es) → IsSome (at es (last_of (map (λ e. e.0) es))))
is_highest_rising [] r = (λ j lt. refl, λ h. absurd (omega arith))
is_highest_rising (e ∷ []) r = (λ j lt. at_tail e [] j (omega arith), λ h. ap is_some (at_first e [] e.0 refl))
is_highest_rising (e ∷ f ∷ es) r =
    let rest = is_highest_rising (f ∷ es) r.1 in
    let up : e.0 < last_of (map (λ e. e.0) (f ∷ es)) = below_last e.0 f es r.0 in
    (λ j lt. at_tail e (f ∷ es) j (omega arith) ∙ rest.0 j lt, λ h. subst IsSome (sym (at_tail e (f ∷ es) _ (omega arith))) (rest.1 (omega arith)))

pub is_highest : (m : Records) → IsHighest m (highest_of m)
is_highest m =
    let both = is_highest_rising (entries m) (rising m) in
    record { occupied = λ h. subst IsSome (sym (get_is_at m _)) (both.1 h); none_above = λ j lt. get_is_at m j ∙ both.0 j lt }

-- what is so is the highest
pub highest_is : (m : Records) (h : ℕ) → IsHighest m h → get m 0 ≡ None → highest_of m ≡ h
highest_is m zero is none0 = highest_of_none m (λ j. elim j as (λ k. get m k ≡ None) [ zero ↦ none0 | suc k ↦ is.none_above (suc k) (omega arith) ])
highest_is m (suc k) is none0 = highest_of_some m (suc k) (is.occupied (omega arith)) is.none_above

-- the records from a number on begin with the lowest, and go on from the number after it
pub records_step : (m : Records) (n k : ℕ) (body : List ℕ) → lowest_from m n ≡ Some k → get m k ≡ Some body → records_from m n ≡ (k, body) ∷ records_from m (k + 1)
records_step m n k body lowest here = from_some (entries m) n k body (rising m) lowest (sym (get_is_at m k) ∙ here)

pub no_records : (m : Records) (n : ℕ) → lowest_from m n ≡ None → records_from m n ≡ []
no_records m n none = from_none (entries m) n none

pub lowest_occupied : (m : Records) (n k : ℕ) → lowest_from m n ≡ Some k → get m k ≡ None → ⊥
lowest_occupied m n k lowest none = first_there (entries m) n k (rising m) lowest (sym (get_is_at m k) ∙ none)

-- after the highest number nothing is occupied
pub next_is_none : (m : Records) (n : ℕ) → n ≡ highest_of m + 1 → get m n ≡ None
next_is_none m n is = (is_highest m).none_above n (omega arith)
