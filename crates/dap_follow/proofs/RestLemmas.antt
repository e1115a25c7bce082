-- What is left of the streams.
use Rattle.std.proofs.Common.{filter, Bool, ◌≡◌, ◌⊎◌, inl, inr, ℕ, ◌+◌, ◌-◌, ◌<◌, ◌≤◌, nat_lt, true, false, List, [], ◌∷◌, ◌++◌, length, drop, codes, if◌then◌else◌, Some, None, arith, refl, ap, sym, subst, ◌∙◌, append-nil, append_assoc, zero, suc, add-one}
use Rattle.std.specs.Prelude.{slice_get}
use Rattle.std.specs.List.{AllByRecursion, AllZip, flat_map}
use Rattle.std.proofs.lemmas.Bool.Decides.{nat_tests}
use Rattle.texts.specs.Text.{line_feed}
use Rattle.dap_follow.specs.Streams.{OpenStream}
use Rattle.dap_follow.specs.Joined.{Fragment, is_message, payload, fragments_of, tail}
use Rattle.dap_follow.specs.Lines.{gap_line, length_text, part_line, range_text, rest_lines, stream_text}
use Rattle.dap_follow.specs.declared.streams.Stream.{Stream}
use Rattle.dap_follow.specs.Keeping.Kept.{AreListed, HoldsPieces, IsOpen, KeepsPieces, kept_bytes}
use Rattle.dap_follow.specs.Listed.{AreRestTexts}
use Rattle.dap_follow.specs.Keeping.Streams.{Entries, KeepsOpen}
use Rattle.dap_follow.specs.Keeping.Rest.{kept_gap, kept_part, kept_rest, rest_if, rest_of_each}
use Rattle.dap_follow.specs.declared.kept.Kept.{Kept}
use Rattle.dap_follow.specs.declared.kept.KeptSegments.{KeptSegments}
use Rattle.dap_follow.proofs.GrowLemmas.{is_ordered}

-- ---- text that is appended piece by piece

pub appended_twice : (start middle end p q : List ℕ) → middle ≡ start ++ p → end ≡ middle ++ q → end ≡ start ++ (p ++ q)
appended_twice start middle end p q one two = two ∙ ap (λ (l : List ℕ). l ++ q) one ∙ append_assoc start p q

-- ---- a part

part_same : (stream : Stream) (p : Fragment) (k : Kept) → IsOpen k p → is_message p ≡ false → part_line stream p ≡ kept_part stream k
part_same stream p k one none =
    let text : ℕ → ℕ → List ℕ → List ℕ = λ from to bytes. codes "part" ++ (stream_text stream ++ (range_text from to ++ length_text bytes)) in
    ap (λ b. if b then [] else text p.head.sequence (tail p).sequence (payload p)) none
    ∙ ap (λ a. text a (tail p).sequence (payload p)) (sym one.from)
    ∙ ap (λ b. text k.from b (payload p)) (sym one.to)
    ∙ ap (λ l. text k.from k.to l) (sym one.bytes)
    ∙ ap (λ b. if b then [] else text k.from k.to (kept_bytes k)) (sym one.listed)

-- ---- a gap

gap_text : Stream → ℕ → ℕ → List ℕ
gap_text stream last next =
    if nat_lt (last + 1) next then codes "gap" ++ (stream_text stream ++ (range_text (last + 1) (next - 1) ++ line_feed)) else []

first_from : (k : Kept) (ps : List Fragment) → HoldsPieces k ps → (q : Fragment) × (qs : List Fragment) × (ps ≡ q ∷ qs) × (q.head.sequence ≡ k.from)
first_from k [] (inl (listed, run)) = absurd run
first_from k (m ∷ []) (inl (listed, (is, begins, ends))) = (m, [], refl, begins)
first_from k (m ∷ n ∷ ms) (inl (listed, (is, begins, run))) = (m, n ∷ ms, refl, begins)
first_from k ps (inr (p, is, one)) = (p, [], is, sym one.from)

gap_same : (stream : Stream) (p : Fragment) (k : Kept) (rest : List Fragment) (ks : List Kept) → KeepsPieces rest ks → (tail p).sequence ≡ k.to → gap_line stream p rest ≡ kept_gap stream k ks
unfolding gap_text
gap_same stream p k rest [] none to = ap (λ (l : List Fragment). gap_line stream p l) none
gap_same stream p k rest (n ∷ ks) (held, more, is, stays, keeps) to =
    let first = first_from n held stays.0 in
    let whole : rest ≡ first.0 ∷ (first.1 ++ more) = is ∙ ap (λ (l : List Fragment). l ++ more) first.2 in
    ap (λ (l : List Fragment). gap_line stream p l) whole ∙ ap (λ a. gap_text stream a first.0.head.sequence) to ∙ ap (λ b. gap_text stream k.to b) first.3

not_less : (n : ℕ) → nat_lt n n ≡ false
not_less n = grind (arith, nat_tests)

begins_at : (from to : ℕ) (m : Fragment) (ms : List Fragment) → AreListed from to (m ∷ ms) → m.head.sequence ≡ from
begins_at from to m [] run = run.1
begins_at from to m (n ∷ ms) run = run.1

no_gap : (stream : Stream) (m n : Fragment) (others : List Fragment) → n.head.sequence ≡ (tail m).sequence + 1 → gap_line stream m (n ∷ others) ≡ []
unfolding gap_text
no_gap stream m n others next = ap (λ b. gap_text stream (tail m).sequence b) next ∙ ap (λ b. if b then codes "gap" ++ (stream_text stream ++ (range_text ((tail m).sequence + 1) ((tail m).sequence + 1 - 1) ++ line_feed)) else []) (not_less ((tail m).sequence + 1))

-- ---- a stream

no_part : (stream : Stream) (m : Fragment) → is_message m ≡ true → part_line stream m ≡ []
no_part stream m is = rw is refl

rest_listed : (stream : Stream) (k : Kept) (from : ℕ) (ms rest : List Fragment) (ks : List Kept) → AreListed from k.to ms → KeepsPieces rest ks → rest_lines stream rest ≡ kept_rest stream ks
    → rest_lines stream (ms ++ rest) ≡ kept_gap stream k ks ++ kept_rest stream ks
rest_listed stream k from [] rest ks run keeps same = absurd run
rest_listed stream k from (m ∷ []) rest ks (is, begins, ends) keeps same =
    ap (λ l. l ++ gap_line stream m rest ++ rest_lines stream rest) (no_part stream m is)
    ∙ ap (λ l. l ++ rest_lines stream rest) (gap_same stream m k rest ks keeps ends) ∙ ap (λ l. kept_gap stream k ks ++ l) same
rest_listed stream k from (m ∷ n ∷ ms) rest ks (is, begins, run) keeps same =
    ap (λ l. l ++ gap_line stream m (n ∷ (ms ++ rest)) ++ rest_lines stream (n ∷ (ms ++ rest))) (no_part stream m is)
    ∙ ap (λ l. l ++ rest_lines stream (n ∷ (ms ++ rest))) (no_gap stream m n (ms ++ rest) (begins_at ((tail m).sequence + 1) k.to n ms run))
    ∙ rest_listed stream k ((tail m).sequence + 1) (n ∷ ms) rest ks run keeps same

pub rest_same : (stream : Stream) (ps : List Fragment) (ks : List Kept) → KeepsPieces ps ks → rest_lines stream ps ≡ kept_rest stream ks
rest_same stream ps [] none = ap (λ (l : List Fragment). rest_lines stream l) none
rest_same stream ps (k ∷ ks) (held, rest, is, (inl (listed, run), left), keeps) =
    ap (λ (l : List Fragment). rest_lines stream l) is ∙ rest_listed stream k k.from held rest ks run keeps (rest_same stream rest ks keeps)
    ∙ ap (λ b. (if b then [] else codes "part" ++ (stream_text stream ++ (range_text k.from k.to ++ length_text (kept_bytes k)))) ++ kept_gap stream k ks ++ kept_rest stream ks) (sym listed)
rest_same stream ps (k ∷ ks) (held, rest, is, (inr (p, one, is_open), left), keeps) =
    let none : is_message p ≡ false = (subst (λ (l : List Fragment). AllByRecursion (λ q. is_message q ≡ false) l) one (left is_open.listed)).0 in
    ap (λ (l : List Fragment). rest_lines stream l) (is ∙ ap (λ (l : List Fragment). l ++ rest) one)
    ∙ ap (λ l. l ++ gap_line stream p rest ++ rest_lines stream rest) (part_same stream p k is_open none)
    ∙ ap (λ l. kept_part stream k ++ l ++ rest_lines stream rest) (gap_same stream p k rest ks keeps (sym is_open.to))
    ∙ ap (λ l. kept_part stream k ++ kept_gap stream k ks ++ l) (rest_same stream rest ks keeps)

-- ---- all streams

pub rest_is : (n : ℕ) (opens : List OpenStream) (entries : Entries) → AllZip (KeepsOpen n) opens entries → AreRestTexts opens (flat_map (λ e. kept_rest e.0 e.1.kept.items) entries)
rest_is n [] [] all = record { ordered = []; are_ordered = tt; joined = refl }
rest_is n [] (e ∷ entries) all = absurd all
rest_is n (o ∷ opens) [] all = absurd all
rest_is n (o ∷ opens) (e ∷ entries) all =
    let rest = rest_is n opens entries all.1 in
    let ordered = all.0.1 in
    let k = all.0.2 in
    record {
      ordered = ordered ∷ rest.ordered;
      are_ordered = (is_ordered n o.came ordered e.1 k, rest.are_ordered);
      joined = ap (λ (l : List ℕ). l ++ flat_map (λ e. kept_rest e.0 e.1.kept.items) entries) (sym (rest_same e.0 (fragments_of ordered) e.1.kept.items k.keeps.keeps) ∙ ap (λ (s : Stream). rest_lines s (fragments_of ordered)) (sym all.0.0))
          ∙ ap (λ (l : List ℕ). rest_lines o.name (fragments_of ordered) ++ l) rest.joined;
    }

-- ---- some of them

keeps_if : (n : ℕ) (o : OpenStream) (opens : List OpenStream) (e : Stream × KeptSegments) (entries : Entries) (a b : Bool) → a ≡ b → KeepsOpen n o e → AllZip (KeepsOpen n) opens entries
    → AllZip (KeepsOpen n) (if a then o ∷ opens else opens) (if b then e ∷ entries else entries)
keeps_if n o opens e entries true true same one rest = (one, rest)
keeps_if n o opens e entries false false same one rest = rest
keeps_if n o opens e entries true false same one rest = absurd cc
keeps_if n o opens e entries false true same one rest = absurd cc

pub keeps_some : (n : ℕ) (test : Stream → Bool) (opens : List OpenStream) (entries : Entries) → AllZip (KeepsOpen n) opens entries
    → AllZip (KeepsOpen n) (filter (λ o. test o.name) opens) (filter (λ e. test e.0) entries)
keeps_some n test [] [] all = tt
keeps_some n test [] (e ∷ entries) all = absurd all
keeps_some n test (o ∷ opens) [] all = absurd all
keeps_some n test (o ∷ opens) (e ∷ entries) all =
    keeps_if n o (filter (λ o. test o.name) opens) e (filter (λ e. test e.0) entries) (test o.name) (test e.0) (ap test all.0.0) all.0 (keeps_some n test opens entries all.1)

pub some_rest : (n : ℕ) (test : Stream → Bool) (opens : List OpenStream) (entries : Entries) → AllZip (KeepsOpen n) opens entries
    → AreRestTexts (filter (λ o. test o.name) opens) (rest_of_each (λ e. test e.0) entries)
some_rest n test opens entries all = rest_is n (filter (λ o. test o.name) opens) (filter (λ e. test e.0) entries) (keeps_some n test opens entries all)

-- ---- the program's loop

none_some : (e : Stream × KeptSegments) → None ≡ Some e → ⊥
none_some e is = cc

drop_entry : (entries : Entries) (i : ℕ) (e : Stream × KeptSegments) → slice_get entries i ≡ Some e → drop i entries ≡ e ∷ drop (i + 1) entries
drop_entry [] i e is = absurd (none_some e is)
drop_entry (k ∷ entries) zero e is = let same : k ≡ e = cc in ap (λ (t : Stream × KeptSegments). t ∷ entries) same
drop_entry (k ∷ entries) (suc i) e is = rw add-one (rw add-one at (drop_entry entries i e is))

pub entry_within : (entries : Entries) (i : ℕ) (e : Stream × KeptSegments) → slice_get entries i ≡ Some e → i < length entries
entry_within [] i e is = absurd (none_some e is)
entry_within (k ∷ entries) zero e is = omega arith
entry_within (k ∷ entries) (suc i) e is = let rest = entry_within entries i e is in omega (arith, rest)

past_all : (entries : Entries) (i : ℕ) → length entries ≤ i → drop i entries ≡ []
past_all [] zero end = refl
past_all [] (suc i) end = refl
past_all (k ∷ entries) zero end = absurd (omega (arith, end))
past_all (k ∷ entries) (suc i) end = past_all entries i (omega (arith, end))

-- one more stream was passed by, or what is left of it was appended
pub each_more : (test : Stream × KeptSegments → Bool) (entries : Entries) (i : ℕ) (e : Stream × KeptSegments) (old new whole : List ℕ) → slice_get entries i ≡ Some e
    → new ≡ old ++ rest_if (test e) e.0 e.1.kept.items → old ++ rest_of_each test (drop i entries) ≡ whole → new ++ rest_of_each test (drop (i + 1) entries) ≡ whole
each_more test entries i e old new whole is added before =
    ap (λ (l : List ℕ). l ++ others) added ∙ append_assoc old (line (test e)) others ∙ ap (λ (l : List ℕ). old ++ l) (sym both) ∙ before
  where
    others : List ℕ
    others = rest_of_each test (drop (i + 1) entries)

    line : Bool → List ℕ
    line b = if b then kept_rest e.0 e.1.kept.items else []

    one : (b : Bool) → flat_map (λ e. kept_rest e.0 e.1.kept.items) (if b then e ∷ filter test (drop (i + 1) entries) else filter test (drop (i + 1) entries)) ≡ line b ++ others
    one true = refl
    one false = refl

    both : rest_of_each test (drop i entries) ≡ line (test e) ++ others
    both = ap (λ (l : Entries). rest_of_each test l) (drop_entry entries i e is) ∙ one (test e)

no_some : (e : Stream × KeptSegments) → Some e ≡ None → ⊥
no_some e is = cc

none_left : (entries : Entries) (i : ℕ) → slice_get entries i ≡ None → drop i entries ≡ []
none_left [] zero none = refl
none_left [] (suc i) none = refl
none_left (k ∷ entries) zero none = absurd (no_some k none)
none_left (k ∷ entries) (suc i) none = none_left entries i none

pub each_ends : (test : Stream × KeptSegments → Bool) (entries : Entries) (i : ℕ) (text whole : List ℕ) → (slice_get entries i ≡ None) ⊎ (length entries ≤ i)
    → text ++ rest_of_each test (drop i entries) ≡ whole → text ≡ whole
each_ends test entries i text whole (inl none) is = sym (append-nil text) ∙ ap (λ (l : Entries). text ++ rest_of_each test l) (sym (none_left entries i none)) ∙ is
each_ends test entries i text whole (inr end) is = sym (append-nil text) ∙ ap (λ (l : Entries). text ++ rest_of_each test l) (sym (past_all entries i end)) ∙ is
