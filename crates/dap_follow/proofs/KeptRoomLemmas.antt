-- The room of what is kept of a stream.
use Rattle.std.proofs.Common.{◌≡◌, inl, inr, ◌==◌, ◌&&◌, ℕ, ◌+◌, ◌≤◌, not, Bool, true, false, List, [], ◌∷◌, ◌++◌, take, drop, insert, if◌then◌else◌, arith, refl, ap, sym, subst, ◌∙◌, take-append-drop, zero-add}
use Rattle.std.specs.List.{AllByRecursion}
use Rattle.std.proofs.lemmas.Bool.Decides.{nat_tests}
use Rattle.std.proofs.lemmas.List.Sums.{sum_by-append, sum_by-cons}
use Rattle.dap_follow.specs.Streams.{Sequenced}
use Rattle.dap_follow.specs.Joined.{Fragment, is_message, tail}
use Rattle.dap_follow.specs.Room.{entry_room, has_message_after, piece_room, pieces_room, segment_room}
use Rattle.dap_follow.specs.Keeping.Pieces.{merged}
use Rattle.dap_follow.specs.Keeping.Kept.{AreEntries, AreListed, IsApart, IsEntry, IsLastApart, KeepsPieces, IsAbsorbed, StandsBetween, do_join, rooms}
use Rattle.dap_follow.specs.declared.kept.Kept.{Kept}
use Rattle.dap_follow.proofs.StayLemmas.{by_bool}

and_true : (b : Bool) → (b && true) ≡ false → b ≡ false
and_true true h = h
and_true false h = refl

-- ---- sums

pub rooms_cons : (k : Kept) (ks : List Kept) → rooms (k ∷ ks) ≡ k.room + rooms ks
rooms_cons k ks = sum_by-cons (λ (x : Kept). x.room) k ks

pub rooms_append : (xs ys : List Kept) → rooms (xs ++ ys) ≡ rooms xs + rooms ys
rooms_append xs ys = sum_by-append (λ (x : Kept). x.room) xs ys

pub rooms_cut : (index : ℕ) (ks : List Kept) → rooms ks ≡ rooms (take index ks) + rooms (drop index ks)
rooms_cut index ks = ap (λ (l : List Kept). rooms l) (sym (take-append-drop index ks)) ∙ rooms_append (take index ks) (drop index ks)

pub rooms_insert : (index : ℕ) (k : Kept) (ks : List Kept) → rooms (insert ks index k) ≡ rooms ks + k.room
rooms_insert index k ks =
    omega (arith, rooms_append (take index ks) (k ∷ drop index ks), rooms_cons k (drop index ks), rooms_cut index ks)

-- ---- the room of a piece

pub room_merged : (p q : Fragment) → piece_room (merged p q) ≡ piece_room p + piece_room q
room_merged p q = sum_by-append (λ (s : Sequenced). segment_room s.payload) (p.head ∷ p.others) (q.head ∷ q.others)

-- ---- the room of pieces

first_is : (from to : ℕ) (m : Fragment) (ms : List Fragment) → AreListed from to (m ∷ ms) → (is_message m ≡ true) × (m.head.sequence ≡ from)
first_is from to m [] run = (run.0, run.1)
first_is from to m (n ∷ ms) run = (run.0, run.1)

same_test : (a b : ℕ) → a ≡ b → (a == b) ≡ true
same_test a b same = grind (arith, nat_tests)

-- a message that begins directly after a sequence number
next_is : (sequence : ℕ) (m : Fragment) (others : List Fragment) → is_message m ≡ true → m.head.sequence ≡ sequence + 1 → has_message_after sequence (m ∷ others) ≡ true
next_is sequence m others is next = ap (λ b. b && (m.head.sequence == sequence + 1)) is ∙ same_test m.head.sequence (sequence + 1) next

-- a message before pieces
message_room : (m : Fragment) (others : List Fragment) (b : Bool) → is_message m ≡ true → has_message_after (tail m).sequence others ≡ b
    → pieces_room (m ∷ others) ≡ (if b then 0 else entry_room) + pieces_room others
message_room m others b is next =
    ap (λ t. (if t then (if has_message_after (tail m).sequence others then 0 else entry_room) else piece_room m) + pieces_room others) is
    ∙ ap (λ t. (if t then 0 else entry_room) + pieces_room others) next

run_room : (from to : ℕ) (ms rest : List Fragment) → AreListed from to ms → has_message_after to rest ≡ false → pieces_room (ms ++ rest) ≡ entry_room + pieces_room rest
run_room from to [] rest run none = absurd run
run_room from to (m ∷ []) rest (is, begins, ends) none = message_room m rest false is (ap (λ n. has_message_after n rest) ends ∙ none)
run_room from to (m ∷ n ∷ ms) rest (is, begins, run) none =
    let first = first_is ((tail m).sequence + 1) to n ms run in
    let more : pieces_room (n ∷ (ms ++ rest)) ≡ entry_room + pieces_room rest = run_room ((tail m).sequence + 1) to (n ∷ ms) rest run none in
    message_room m (n ∷ (ms ++ rest)) true is (next_is (tail m).sequence n (ms ++ rest) first.0 first.1) ∙ zero-add (pieces_room (n ∷ (ms ++ rest))) ∙ more

-- a piece that is no message
piece_no_message : (p : Fragment) (others : List Fragment) → is_message p ≡ false → pieces_room (p ∷ others) ≡ piece_room p + pieces_room others
piece_no_message p others is = ap (λ t. (if t then (if has_message_after (tail p).sequence others then 0 else entry_room) else piece_room p) + pieces_room others) is

no_message_after : (sequence : ℕ) (p : Fragment) (others : List Fragment) → is_message p ≡ false → has_message_after sequence (p ∷ others) ≡ false
no_message_after sequence p others is = ap (λ b. b && (p.head.sequence == sequence + 1)) is

-- listed entries that aren't joined have a hole between them
hole_after : (a b : Kept) → do_join a b ≡ false → a.listed ≡ true → b.listed ≡ true → (b.from == a.to + 1) ≡ false
hole_after a b apart one other =
    and_true (b.from == a.to + 1)
    (ap (λ t. (b.from == a.to + 1) && t) (sym (ap (λ x. if x then b.listed else (not b.listed && not a.last && not b.first)) one ∙ other)) ∙ apart)

first_apart : (sequence : ℕ) (m : Fragment) (others : List Fragment) (from : ℕ) → is_message m ≡ true → m.head.sequence ≡ from → (from == sequence + 1) ≡ false
    → has_message_after sequence (m ∷ others) ≡ false
first_apart sequence m others from is begins hole =
    ap (λ b. b && (m.head.sequence == sequence + 1)) is ∙ ap (λ n. n == sequence + 1) begins ∙ hole

-- no message is directly after a listed entry
after_entry : (k : Kept) (rest : List Fragment) (ks : List Kept) → k.listed ≡ true → IsApart k ks → KeepsPieces rest ks → has_message_after k.to rest ≡ false
after_entry k rest [] listed apart none = ap (λ (l : List Fragment). has_message_after k.to l) none
after_entry k rest (n ∷ ks) listed apart ([], more, is, (inl (other, run), left), keeps) = absurd run
after_entry k rest (n ∷ ks) listed apart (m ∷ ms, more, is, (inl (other, run), left), keeps) =
    let first = first_is n.from n.to m ms run in
    ap (λ (l : List Fragment). has_message_after k.to l) is ∙ first_apart k.to m (ms ++ more) n.from first.0 first.1 (hole_after k n apart listed other)
after_entry k rest (n ∷ ks) listed apart (held, more, is, (inr (p, one, is_open), left), keeps) =
    let none : is_message p ≡ false = (subst (λ (l : List Fragment). AllByRecursion (λ q. is_message q ≡ false) l) one (left is_open.listed)).0 in
    ap (λ (l : List Fragment). has_message_after k.to l) (is ∙ ap (λ (l : List Fragment). l ++ more) one) ∙ no_message_after k.to p more none

-- what is kept takes the room of the pieces that it stands for
pub entries_room : (ps : List Fragment) (ks : List Kept) → KeepsPieces ps ks → AreEntries ks → rooms ks ≡ pieces_room ps
entries_room ps [] none entries = ap (λ (l : List Fragment). pieces_room l) (sym none)
entries_room ps (k ∷ ks) (held, rest, is, (inl (listed, run), left), keeps) entries =
    let one : k.room ≡ entry_room = entries.0 listed in
    let others : rooms ks ≡ pieces_room rest = entries_room rest ks keeps entries.2 in
    let here : pieces_room (held ++ rest) ≡ entry_room + pieces_room rest = run_room k.from k.to held rest run (after_entry k rest ks listed entries.1 keeps) in
    rooms_cons k ks ∙ ap (λ n. n + rooms ks) one ∙ ap (λ n. entry_room + n) others ∙ sym here ∙ ap (λ (l : List Fragment). pieces_room l) (sym is)
entries_room ps (k ∷ ks) (held, rest, is, (inr (p, only, is_open), left), keeps) entries =
    let none : is_message p ≡ false = (subst (λ (l : List Fragment). AllByRecursion (λ q. is_message q ≡ false) l) only (left is_open.listed)).0 in
    let others : rooms ks ≡ pieces_room rest = entries_room rest ks keeps entries.2 in
    rooms_cons k ks ∙ ap (λ n. n + rooms ks) is_open.room ∙ ap (λ n. piece_room p + n) others ∙ sym (piece_no_message p rest none)
    ∙ ap (λ (l : List Fragment). pieces_room l) (sym (is ∙ ap (λ (l : List Fragment). l ++ rest) only))

-- ---- entries

apart_front : (k : Kept) (xs ys : List Kept) → IsApart k (xs ++ ys) → IsApart k xs
apart_front k [] ys apart = tt
apart_front k (x ∷ xs) ys apart = apart

pub entries_front : (xs ys : List Kept) → AreEntries (xs ++ ys) → AreEntries xs
entries_front [] ys entries = tt
entries_front (x ∷ xs) ys entries = (entries.0, apart_front x xs ys entries.1, entries_front xs ys entries.2)

pub entries_back : (xs ys : List Kept) → AreEntries (xs ++ ys) → AreEntries ys
entries_back [] ys entries = entries
entries_back (x ∷ xs) ys entries = entries_back xs ys entries.2

-- those before an index, and the others
pub entries_cut : (index : ℕ) (ks : List Kept) → AreEntries ks → AreEntries (take index ks) × AreEntries (drop index ks)
entries_cut index ks entries =
    let both : AreEntries (take index ks ++ drop index ks) = subst (λ (l : List Kept). AreEntries l) (sym (take-append-drop index ks)) entries in
    (entries_front (take index ks) (drop index ks) both, entries_back (take index ks) (drop index ks) both)

seam_apart : (xs : List Kept) (j k : Kept) → AreEntries ((xs ++ j ∷ []) ++ k ∷ []) → do_join j k ≡ false
seam_apart [] j k entries = entries.1
seam_apart (x ∷ xs) j k entries = seam_apart xs j k entries.2

pub last_is_apart : (xs : List Kept) (k : Kept) → AreEntries (xs ++ k ∷ []) → IsLastApart xs k
last_is_apart xs k entries = λ others j is. seam_apart others j k (subst (λ (l : List Kept). AreEntries (l ++ k ∷ [])) is entries)

-- the one that stands between others is among them
pub entries_between : (front : List Kept) (k : Kept) (back : List Kept) → StandsBetween front k back → AreEntries (front ++ k ∷ back)
entries_between [] k back s = (s.entry, s.after, s.back_entries)
entries_between (x ∷ []) k back s = (s.front_entries.0, s.before [] x refl, (s.entry, s.after, s.back_entries))
entries_between (x ∷ y ∷ front) k back s = (
  s.front_entries.0,
  s.front_entries.1,
  entries_between (y ∷ front) k back (record {
    entry = s.entry;
    front_entries = s.front_entries.2;
    before = λ others j is. s.before (x ∷ others) j (ap (λ (l : List Kept). x ∷ l) is);
    after = s.after;
    back_entries = s.back_entries;
  }),
)

-- ---- joining

-- joined with the one after it, it is in a row with the same ones
same_after : (a b n : Kept) → b.to ≡ a.to → b.last ≡ a.last → b.listed ≡ a.listed → do_join b n ≡ do_join a n
same_after a b n to last listed =
    ap (λ t. (n.from == t + 1) && (if b.listed then n.listed else (not n.listed && not b.last && not n.first))) to
    ∙ ap (λ l. (n.from == a.to + 1) && (if b.listed then n.listed else (not n.listed && not l && not n.first))) last
    ∙ ap (λ k. (n.from == a.to + 1) && (if k then n.listed else (not n.listed && not a.last && not n.first))) listed

same_before : (a b n : Kept) → b.from ≡ a.from → b.first ≡ a.first → b.listed ≡ a.listed → do_join n b ≡ do_join n a
same_before a b n from first listed =
    ap (λ f. (f == n.to + 1) && (if n.listed then b.listed else (not b.listed && not n.last && not b.first))) from
    ∙ ap (λ f. (a.from == n.to + 1) && (if n.listed then b.listed else (not b.listed && not n.last && not f))) first
    ∙ ap (λ k. (a.from == n.to + 1) && (if n.listed then k else (not k && not n.last && not a.first))) listed

pub apart_same : (a b : Kept) (ks : List Kept) → b.to ≡ a.to → b.last ≡ a.last → b.listed ≡ a.listed → IsApart a ks → IsApart b ks
apart_same a b [] to last listed apart = tt
apart_same a b (n ∷ ks) to last listed apart = same_after a b n to last listed ∙ apart

pub last_apart_same : (a b : Kept) (ks : List Kept) → b.from ≡ a.from → b.first ≡ a.first → b.listed ≡ a.listed → IsLastApart ks a → IsLastApart ks b
last_apart_same a b ks from first listed apart = λ others n is. same_before a b n from first listed ∙ apart others n is

-- two as one take no more than both
pub room_most : (one other joined : Kept) → IsAbsorbed one other joined → joined.room ≤ one.room + other.room
room_most one other joined is =
    by_bool one.listed
    (λ t. let same : joined.room ≡ one.room = is.room ∙ ap (λ b. if b then one.room else one.room + other.room) t in omega (arith, same))
    (λ f. let same : joined.room ≡ one.room + other.room = is.room ∙ ap (λ b. if b then one.room else one.room + other.room) f in omega (arith, same))

pub room_both : (one other joined : Kept) → IsAbsorbed one other joined → one.listed ≡ false → joined.room ≡ one.room + other.room
room_both one other joined is f = is.room ∙ ap (λ b. if b then one.room else one.room + other.room) f

pub entry_absorbed : (one other joined : Kept) → IsAbsorbed one other joined → IsEntry one → IsEntry joined
entry_absorbed one other joined is entry = λ listed.
    let was : one.listed ≡ true = sym is.listed ∙ listed in
    is.room ∙ ap (λ b. if b then one.room else one.room + other.room) was ∙ entry was
