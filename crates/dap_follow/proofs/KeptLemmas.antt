-- What is kept of a stream stands for its pieces.
use Rattle.std.proofs.Common.{◌≡◌, ◌⊎◌, inl, inr, ⊎_elim, ◌==◌, ◌&&◌, ℕ, ◌+◌, ◌<◌, ◌≤◌, not, Bool, true, false, List, [], ◌∷◌, ◌++◌, length, drop, if◌then◌else◌, arith, refl, ap, sym, subst, ◌∙◌, eqb-true, append-nil, append_assoc, leb, leb-true, get_or, zero, suc, add-one}
use Rattle.std.specs.Global.{Vec}
use Rattle.std.specs.List.{AllByRecursion, filter, flat_map}
use Rattle.std.proofs.lemmas.Bool.{false≢true}
use Rattle.std.proofs.lemmas.Bool.Decides.{nat_tests}
use Rattle.dap_follow.specs.Joined.{Fragment, is_message, joins, payload, tail}
use Rattle.dap_follow.specs.Room.{piece_room}
use Rattle.dap_follow.specs.Keeping.Pieces.{all_segments, glue, merged}
use Rattle.dap_follow.specs.Keeping.Kept.{AreListed, HoldsPieces, IsAbsorbed, IsOpen, KeepsPieces, Stays, do_join, kept_bytes}
use Rattle.dap_follow.specs.declared.kept.Kept.{Kept}
use Rattle.dap_follow.proofs.StayLemmas.{and_false_one, and_false_two, and_one, and_two, by_bool, not_true}
use Rattle.dap_follow.proofs.KeptRoomLemmas.{room_both, room_merged}
use Rattle.dap_follow.proofs.GlueLemmas.{Has, IsWithin, Proper, all_append, all_weaker, full, glued_two, has_back, has_front, payload_merged, tail_merged, unglued, within}

-- ---- lists of them

pub keeps_append : (xs ys : List Fragment) (ks bs : List Kept) → KeepsPieces xs ks → KeepsPieces ys bs → KeepsPieces (xs ++ ys) (ks ++ bs)
keeps_append xs ys [] bs one two = subst (λ (l : List Fragment). KeepsPieces (l ++ ys) bs) (sym one) two
keeps_append xs ys (k ∷ ks) bs (held, rest, is, stays, keeps) two =
    (held, rest ++ ys, ap (λ l. l ++ ys) is ∙ append_assoc held rest ys, stays, keeps_append rest ys ks bs keeps two)

pub keeps_split : (ps : List Fragment) (ks bs : List Kept) → KeepsPieces ps (ks ++ bs) → (xs ys : List Fragment) × (ps ≡ xs ++ ys) × KeepsPieces xs ks × KeepsPieces ys bs
keeps_split ps [] bs keeps = ([], ps, refl, refl, keeps)
keeps_split ps (k ∷ ks) bs (held, rest, is, stays, keeps) =
    let parts = keeps_split rest ks bs keeps in
    (held ++ parts.0, parts.1, is ∙ ap (λ l. held ++ l) parts.2 ∙ sym (append_assoc held parts.0 parts.1), (held, parts.0, refl, stays, parts.3), parts.4)

-- one before others
pub keeps_cons : (held rest : List Fragment) (k : Kept) (ks : List Kept) → Stays k held → KeepsPieces rest ks → KeepsPieces (held ++ rest) (k ∷ ks)
keeps_cons held rest k ks stays keeps = (held, rest, refl, stays, keeps)

-- one alone
pub keeps_only : (ps : List Fragment) (k : Kept) → KeepsPieces ps (k ∷ []) → Stays k ps
keeps_only ps k (held, rest, is, stays, none) =
    subst (λ (l : List Fragment). Stays k l) (sym (is ∙ ap (λ l. held ++ l) none ∙ append-nil held)) stays

-- ---- one of them

pub holds_some : (k : Kept) (ps : List Fragment) → HoldsPieces k ps → (p : Fragment) × (rest : List Fragment) × (ps ≡ p ∷ rest)
holds_some k [] (inl (listed, none)) = absurd none
holds_some k (p ∷ ps) (inl run) = (p, ps, refl)
holds_some k ps (inr (p, is, is_open)) = (p, [], is)

listed_within : (from to : ℕ) (ps : List Fragment) → Proper ps → AreListed from to ps → (from ≤ to) × AllByRecursion (IsWithin from to) (all_segments ps)
listed_within from to [] proper run = absurd run
listed_within from to (m ∷ []) proper (is, begins, ends) =
    let row = within m proper.0 in
    let low : m.head.sequence ≤ (tail m).sequence = row.0 in (
      omega (arith, low, begins, ends),
      subst (λ l. AllByRecursion (IsWithin from to) l) (sym (append-nil (m.head ∷ m.others)))
          (all_weaker (IsWithin m.head.sequence (tail m).sequence) (IsWithin from to) (m.head ∷ m.others) (λ s both. (let a : m.head.sequence ≤ s.sequence = both.0 in omega (arith, a, begins), let b : s.sequence ≤ (tail m).sequence = both.1 in omega (arith, b, ends))) row.1),
    )
listed_within from to (m ∷ n ∷ ms) proper (is, begins, run) =
    let row = within m proper.0 in
    let low : m.head.sequence ≤ (tail m).sequence = row.0 in
    let rest = listed_within ((tail m).sequence + 1) to (n ∷ ms) proper.2 run in
    let up : (tail m).sequence + 1 ≤ to = rest.0 in (
      omega (arith, low, begins, up),
      all_append (IsWithin from to) (m.head ∷ m.others) (all_segments (n ∷ ms))
          (all_weaker (IsWithin m.head.sequence (tail m).sequence) (IsWithin from to) (m.head ∷ m.others) (λ s both. (let a : m.head.sequence ≤ s.sequence = both.0 in omega (arith, a, begins), let b : s.sequence ≤ (tail m).sequence = both.1 in omega (arith, b, up))) row.1)
          (all_weaker (IsWithin ((tail m).sequence + 1) to) (IsWithin from to) (all_segments (n ∷ ms)) (λ s both. (let a : (tail m).sequence + 1 ≤ s.sequence = both.0 in omega (arith, a, begins, low), both.1)) rest.1),
    )

beyond_of : (a b : ℕ) → leb a b ≡ false → b + 1 ≤ a
beyond_of a b f = grind (arith, nat_tests)

either_side : (a b : ℕ) → (a ≤ b) ⊎ (b + 1 ≤ a)
either_side a b = by_bool (leb a b) (λ t. inl (leb-true _ _ t)) (λ f. inr (beyond_of a b f))

listed_full : (sequence from to : ℕ) (ps : List Fragment) → Proper ps → AreListed from to ps → from ≤ sequence → sequence ≤ to → Has sequence (all_segments ps)
listed_full sequence from to [] proper run low high = absurd run
listed_full sequence from to (m ∷ []) proper (is, begins, ends) low high =
    has_front sequence (m.head ∷ m.others) [] (full sequence m proper.0 (omega (arith, low, begins)) (omega (arith, high, ends)))
listed_full sequence from to (m ∷ n ∷ ms) proper (is, begins, run) low high =
    ⊎_elim
    (λ (here : sequence ≤ (tail m).sequence). has_front sequence (m.head ∷ m.others) (all_segments (n ∷ ms)) (full sequence m proper.0 (omega (arith, low, begins)) here))
    (λ (beyond : (tail m).sequence + 1 ≤ sequence). has_back sequence (m.head ∷ m.others) (all_segments (n ∷ ms)) (listed_full sequence ((tail m).sequence + 1) to (n ∷ ms) proper.2 run beyond high))
    (either_side sequence (tail m).sequence)

pub holds_within : (k : Kept) (ps : List Fragment) → Proper ps → HoldsPieces k ps → (k.from ≤ k.to) × AllByRecursion (IsWithin k.from k.to) (all_segments ps)
holds_within k ps proper (inl (listed, run)) = listed_within k.from k.to ps proper run
holds_within k ps proper (inr (p, is, is_open)) =
    let one : Proper (p ∷ []) = subst (λ (l : List Fragment). Proper l) is proper in
    let row = within p one.0 in
    let low : p.head.sequence ≤ (tail p).sequence = row.0 in
    let begins : k.from ≡ p.head.sequence = is_open.from in
    let ends : k.to ≡ (tail p).sequence = is_open.to in (
      omega (arith, low, begins, ends),
      subst (λ (l : List Fragment). AllByRecursion (IsWithin k.from k.to) (all_segments l)) (sym is)
          (subst (λ l. AllByRecursion (IsWithin k.from k.to) l) (sym (append-nil (p.head ∷ p.others)))
          (all_weaker (IsWithin p.head.sequence (tail p).sequence) (IsWithin k.from k.to) (p.head ∷ p.others) (λ s both. (let a : p.head.sequence ≤ s.sequence = both.0 in omega (arith, a, begins), let b : s.sequence ≤ (tail p).sequence = both.1 in omega (arith, b, ends))) row.1)),
    )

pub holds_full : (sequence : ℕ) (k : Kept) (ps : List Fragment) → Proper ps → HoldsPieces k ps → k.from ≤ sequence → sequence ≤ k.to → Has sequence (all_segments ps)
holds_full sequence k ps proper (inl (listed, run)) low high = listed_full sequence k.from k.to ps proper run low high
holds_full sequence k ps proper (inr (p, is, is_open)) low high =
    let one : Proper (p ∷ []) = subst (λ (l : List Fragment). Proper l) is proper in
    subst (λ (l : List Fragment). Has sequence (all_segments l)) (sym is)
    (has_front sequence (p.head ∷ p.others) [] (full sequence p one.0 (let begins : k.from ≡ p.head.sequence = is_open.from in omega (arith, low, begins)) (let ends : k.to ≡ (tail p).sequence = is_open.to in omega (arith, high, ends))))

-- ---- two of them

and_three : (x y z : Bool) → ((x && y) && z) ≡ (x && ((true && y) && z))
and_three true y z = refl
and_three false y z = refl

joins_as : (a b : Kept) (p q : Fragment) → IsOpen a p → IsOpen b q → joins (tail p) q.head ≡ do_join a b
joins_as a b p q one two =
    ap (λ n. ((q.head.sequence == n + 1) && not (tail p).last) && not q.head.first) (sym one.to)
    ∙ (ap (λ n. ((n == a.to + 1) && not (tail p).last) && not q.head.first) (sym two.from)
    ∙ (ap (λ l. ((b.from == a.to + 1) && not l) && not q.head.first) (sym one.last)
    ∙ (ap (λ f. ((b.from == a.to + 1) && not a.last) && not f) (sym two.first)
    ∙ (and_three (b.from == a.to + 1) (not a.last) (not b.first)
    ∙ (ap (λ x. (b.from == a.to + 1) && (not x && not a.last && not b.first)) (sym two.listed)
    ∙ ap (λ y. (b.from == a.to + 1) && (if y then b.listed else (not b.listed && not a.last && not b.first))) (sym one.listed))))))

not_behind_last : (p q : Fragment) → is_message p ≡ true → joins (tail p) q.head ≡ false
not_behind_last p q is =
    and_false_one ((q.head.sequence == (tail p).sequence + 1) && not (tail p).last) (not q.head.first)
    (and_false_two (q.head.sequence == (tail p).sequence + 1) (not (tail p).last) (ap (λ t. not t) (and_two p.head.first (tail p).last is)))

not_before_first : (p q : Fragment) → is_message q ≡ true → joins (tail p) q.head ≡ false
not_before_first p q is =
    and_false_two ((q.head.sequence == (tail p).sequence + 1) && not (tail p).last) (not q.head.first) (ap (λ t. not t) (and_one q.head.first (tail q).last is))

-- listed messages join nothing after them
glue_listed : (from to : ℕ) (ps ys : List Fragment) → AreListed from to ps → glue ps ys ≡ ps ++ ys
glue_listed from to [] ys run = absurd run
glue_listed from to (m ∷ []) [] run = refl
glue_listed from to (m ∷ []) (y ∷ ys) (is, begins, ends) = unglued m y ys (not_behind_last m y is)
glue_listed from to (m ∷ n ∷ ms) ys (is, begins, run) = ap (λ l. m ∷ l) (glue_listed ((tail m).sequence + 1) to (n ∷ ms) ys run)

first_listed : (from to : ℕ) (y : Fragment) (ys : List Fragment) → AreListed from to (y ∷ ys) → is_message y ≡ true
first_listed from to y [] run = run.0
first_listed from to y (z ∷ ys) run = run.0

listed_append : (from middle to : ℕ) (ps ys : List Fragment) → AreListed from middle ps → AreListed (middle + 1) to ys → AreListed from to (ps ++ ys)
listed_append from middle to [] ys one two = absurd one
listed_append from middle to (m ∷ []) [] one two = absurd two
listed_append from middle to (m ∷ []) (y ∷ ys) (is, begins, ends) two = (is, begins, subst (λ n. AreListed (n + 1) to (y ∷ ys)) (sym ends) two)
listed_append from middle to (m ∷ n ∷ ms) ys (is, begins, run) two = (is, begins, listed_append ((tail m).sequence + 1) middle to (n ∷ ms) ys run two)

-- in a row, so the second begins after the first
next_from : (a b : Kept) → do_join a b ≡ true → b.from ≡ a.to + 1
next_from a b h = eqb-true _ _ (and_one (b.from == a.to + 1) (if a.listed then b.listed else (not b.listed && not a.last && not b.first)) h)

kinds : (a b : Kept) → do_join a b ≡ true → (if a.listed then b.listed else (not b.listed && not a.last && not b.first)) ≡ true
kinds a b h = and_two (b.from == a.to + 1) (if a.listed then b.listed else (not b.listed && not a.last && not b.first)) h

pub listed_too : (a b : Kept) → do_join a b ≡ true → a.listed ≡ true → b.listed ≡ true
listed_too a b h is = subst (λ x. (if x then b.listed else (not b.listed && not a.last && not b.first)) ≡ true) is (kinds a b h)

pub open_too : (a b : Kept) → do_join a b ≡ true → a.listed ≡ false → b.listed ≡ false
open_too a b h is =
    let both : (not b.listed && not a.last && not b.first) ≡ true = subst (λ x. (if x then b.listed else (not b.listed && not a.last && not b.first)) ≡ true) is (kinds a b h) in
    not_true b.listed (and_one (not b.listed) (not a.last) (and_one (not b.listed && not a.last) (not b.first) both))

-- neighbours that are joined are of one kind
pub both_kinds : (a b : Kept) → do_join a b ≡ true → a.listed ≡ b.listed
both_kinds a b h = by_bool a.listed (λ t. t ∙ sym (listed_too a b h t)) (λ f. f ∙ sym (open_too a b h f))

merged_open : (a b joined : Kept) (p q : Fragment) → IsOpen a p → IsOpen b q → IsAbsorbed a b joined → IsOpen joined (merged p q)
merged_open a b joined p q one two is = record {
  from = is.from ∙ one.from;
  to = is.to ∙ two.to ∙ sym (ap (λ s. s.sequence) (tail_merged p q));
  first = is.first ∙ one.first;
  last = is.last ∙ two.last ∙ sym (ap (λ s. s.last) (tail_merged p q));
  listed = is.listed ∙ one.listed;
  room = room_both a b joined is one.listed ∙ ap (λ n. n + b.room) one.room ∙ ap (λ n. piece_room p + n) two.room ∙ sym (room_merged p q);
  bytes = is.bytes ∙ ap (λ l. l ++ kept_bytes b) one.bytes ∙ ap (λ l. payload p ++ l) two.bytes ∙ sym (payload_merged p q);
}

-- two that are joined stand for what both stood for
pub joined_held : (a b joined : Kept) (xs ys : List Fragment) → HoldsPieces a xs → HoldsPieces b ys → do_join a b ≡ true → IsAbsorbed a b joined → HoldsPieces joined (glue xs ys)
joined_held a b joined xs ys (inl (one, run)) (inl (two, more)) h is =
    let next : b.from ≡ a.to + 1 = next_from a b h in
    let all : AreListed a.from b.to (xs ++ ys) = listed_append a.from a.to b.to xs ys run (subst (λ n. AreListed n b.to ys) next more) in
    let here : AreListed joined.from joined.to (xs ++ ys) = subst (λ n. AreListed n joined.to (xs ++ ys)) (sym is.from) (subst (λ n. AreListed a.from n (xs ++ ys)) (sym is.to) all) in
    inl (is.listed ∙ one, subst (λ (l : List Fragment). AreListed joined.from joined.to l) (sym (glue_listed a.from a.to xs ys run)) here)
joined_held a b joined xs ys (inl (one, run)) (inr (q, other, two)) h is = absurd (false≢true (sym two.listed ∙ listed_too a b h one))
joined_held a b joined xs ys (inr (p, this, one)) (inl (two, more)) h is = absurd (false≢true (sym (open_too a b h one.listed) ∙ two))
joined_held a b joined xs ys (inr (p, this, one)) (inr (q, other, two)) h is =
    let same : glue xs ys ≡ merged p q ∷ [] = ap (λ (l : List Fragment). glue l ys) this ∙ ap (λ (l : List Fragment). glue (p ∷ []) l) other ∙ glued_two p q (joins_as a b p q one two ∙ h) in
    inr (merged p q, same, merged_open a b joined p q one two is)

-- two that aren't joined stay apart
pub apart_held : (a b : Kept) (xs ys : List Fragment) → HoldsPieces a xs → HoldsPieces b ys → do_join a b ≡ false → glue xs ys ≡ xs ++ ys
apart_held a b xs ys (inl (one, run)) two h = glue_listed a.from a.to xs ys run
apart_held a b xs [] (inr (p, this, one)) (inl (two, more)) h = absurd more
apart_held a b xs (y ∷ ys) (inr (p, this, one)) (inl (two, more)) h =
    ap (λ (l : List Fragment). glue l (y ∷ ys)) this ∙ unglued p y ys (not_before_first p y (first_listed b.from b.to y ys more)) ∙ ap (λ (l : List Fragment). l ++ y ∷ ys) (sym this)
apart_held a b xs ys (inr (p, this, one)) (inr (q, other, two)) h =
    ap (λ (l : List Fragment). glue l ys) this ∙ ap (λ (l : List Fragment). glue (p ∷ []) l) other ∙ unglued p q [] (joins_as a b p q one two ∙ h)
    ∙ ap (λ (l : List Fragment). p ∷ l) (sym other) ∙ ap (λ (l : List Fragment). l ++ ys) (sym this)

before_message : (xs zs : List Fragment) (m : Fragment) → is_message m ≡ true → glue xs (m ∷ zs) ≡ xs ++ m ∷ zs
before_message [] zs m is = refl
before_message (x ∷ []) zs m is = unglued x m zs (not_before_first x m is)
before_message (x ∷ y ∷ xs) zs m is = ap (λ l. x ∷ l) (before_message (y ∷ xs) zs m is)

-- a message stays ks it is
pub message_apart : (xs zs : List Fragment) (m : Fragment) → is_message m ≡ true → glue xs (glue (m ∷ []) zs) ≡ xs ++ m ∷ zs
message_apart xs zs m is = ap (λ (l : List Fragment). glue xs l) (glue_listed m.head.sequence (tail m).sequence (m ∷ []) zs (is, refl, refl)) ∙ before_message xs zs m is

-- no messages
pub no_messages : (ps : List Fragment) → AllByRecursion (λ p. is_message p ≡ false) ps → filter is_message ps ≡ []
no_messages [] none = refl
no_messages (p ∷ ps) none = ap (λ b. if b then p ∷ filter is_message ps else filter is_message ps) none.0 ∙ no_messages ps none.1

payload_at : (xs : List (Vec ℕ)) (i : ℕ) (d : Vec ℕ) → i < length xs → drop i xs ≡ get_or xs i d ∷ drop (i + 1) xs
payload_at [] i d below = absurd (omega arith)
payload_at (x ∷ xs) zero d below = refl
payload_at (x ∷ xs) (suc i) d below = rw add-one (rw add-one at (payload_at xs i d (omega arith)))

-- one payload more
pub gathered : (xs : List (Vec ℕ)) (i : ℕ) (x : Vec ℕ) (bytes new whole : List ℕ) → i < length xs → x ≡ get_or xs i x → new ≡ bytes ++ x.items
    → bytes ++ flat_map (λ p. p.items) (drop i xs) ≡ whole → new ++ flat_map (λ p. p.items) (drop (i + 1) xs) ≡ whole
gathered xs i x bytes new whole below is added before =
    let others : List ℕ = flat_map (λ p. p.items) (drop (i + 1) xs) in
    ap (λ l. l ++ others) added ∙ append_assoc bytes x.items others
    ∙ ap (λ l. bytes ++ l) (sym (ap (λ (l : List (Vec ℕ)). flat_map (λ p. p.items) l) (payload_at xs i x below) ∙ ap (λ (y : Vec ℕ). y.items ++ others) (sym is))) ∙ before
