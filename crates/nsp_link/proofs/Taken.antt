-- The first segments of a peer's messages, taken one after another: what they come to.
use Rattle.std.proofs.Common.{◌≡◌, ℕ, zero, suc, ◌+◌, ◌<◌, ◌≤◌, List, [], ◌∷◌, ◌++◌, length, take, drop, get_or, Option, Some, refl, sym, ap, ◌∙◌, arith, subst, Bool, true, false, inl, inr, append_assoc}
use Rattle.std.specs.Prelude.{unwrap_or, slice_get, All}
use Rattle.std.proofs.lemmas.Bool.{cases_lt}
use Rattle.std.proofs.lemmas.List.{take_more, take-take, take-append-drop, length-append, length-take, append-nil}
use Rattle.std.proofs.lemmas.Option.{slice_get_within, get_or_from_slice_get, slice_get-get_or}
use Rattle.nsp_link.specs.Cutting.{Piece, cut}
use Rattle.nsp_link.specs.Coming.{Coming, nothing_came, with_taken, with_all_taken}
use Rattle.nsp_link.specs.Inner.Joining.{coming_after}
use Rattle.nsp_link.specs.Inner.Whole.{HasTaken, AreWholeIn, begun_bytes, HasWhole}
use Rattle.nsp_link.proofs.Joining.{coming_same}
use Rattle.nsp_link.proofs.Taking.{AreNext, received-all, stands_next, takes_next, cut-append, length-cut-more, count-positive}

-- ---- More are taken.

taken_on : (c : Coming) (ps qs : List Piece) → with_all_taken c (ps ++ qs) ≡ with_all_taken (with_all_taken c ps) qs
unfolding with_all_taken
taken_on c [] qs = refl
taken_on c (p ∷ ps) qs = taken_on (with_taken c p) ps qs

-- what was handed out stands before what comes
one_behind : (given : List (List ℕ)) (received : ℕ) (partial : Option (List ℕ)) (inbox : List (List ℕ)) (first last : Bool) (payload : List ℕ) → let c : Coming = record { received = received; partial = partial; inbox = inbox } in
    let p : Piece = record { first = first; last = last; payload = payload } in with_taken (coming_after given c) p ≡ coming_after given (with_taken c p)
one_behind given received partial inbox first true payload = coming_same _ _ refl refl (append_assoc given inbox ((unwrap_or partial [] ++ payload) ∷ []))
one_behind given received partial inbox first false payload = refl

all_behind : (given : List (List ℕ)) (c : Coming) (ps : List Piece) → with_all_taken (coming_after given c) ps ≡ coming_after given (with_all_taken c ps)
unfolding with_all_taken
all_behind given c [] = refl
all_behind given c (p ∷ ps) = ap (λ (x : Coming). with_all_taken x ps) (one_behind given c.received c.partial c.inbox p.first p.last p.payload) ∙ all_behind given (with_taken c p) ps

next_front : (xs ps : List Piece) (r : ℕ) → AreNext xs r ps → take (r + length ps) xs ≡ take r xs ++ ps
unfolding AreNext
next_front xs [] r are =
    let none : r + length {A = Piece} [] ≡ r = omega arith in
    ap (λ (n : ℕ). take n xs) none ∙ sym (append-nil (take r xs))
next_front xs (p ∷ ps) r are =
    let one : take (r + 1) xs ≡ take r xs ++ p ∷ [] = take_more xs r p (slice_get_within xs r p are.0) ∙ ap (λ (q : Piece). take r xs ++ q ∷ []) (get_or_from_slice_get xs r p p are.0) in
    let goes : r + length (p ∷ ps) ≡ r + 1 + length ps = omega arith in
    ap (λ (n : ℕ). take n xs) goes ∙ next_front xs ps (r + 1) are.1 ∙ ap (λ (l : List Piece). l ++ ps) one ∙ append_assoc (take r xs) (p ∷ []) ps

pub taken_more : (c : Coming) (size : ℕ) (messages given : List (List ℕ)) (ps : List Piece) → HasTaken c size messages given → AreNext (cut size messages) c.received ps → HasTaken (with_all_taken c ps) size messages given
taken_more c size messages given ps h are =
    let xs = cut size messages in
    ap (λ (n : ℕ). with_all_taken nothing_came (take n xs)) (received-all c ps)
    ∙ ap (with_all_taken nothing_came) (next_front xs ps c.received are)
    ∙ taken_on nothing_came (take c.received xs) ps
    ∙ ap (λ (x : Coming). with_all_taken x ps) h
    ∙ all_behind given c ps

-- no more are taken than there are
pub taken_few : (c : Coming) (size : ℕ) (messages given : List (List ℕ)) → HasTaken c size messages given → c.received ≤ length (cut size messages)
taken_few c size messages given h =
    let all = received-all nothing_came (take c.received (cut size messages)) in
    let came = ap (λ (x : Coming). x.received) h in
    omega (arith, all, came, length-take c.received (cut size messages))

-- messages that wait are handed out
pub taken_given : (c : Coming) (size : ℕ) (messages given now inbox : List (List ℕ)) → given ++ c.inbox ≡ now ++ inbox → HasTaken c size messages given → HasTaken (record c { inbox = inbox }) size messages now
taken_given c size messages given now inbox same h = h ∙ ap (λ (ms : List (List ℕ)). let x : Coming = record c { inbox = ms } in x) same

-- ---- By the messages.

none_whole : (size : ℕ) (messages : List (List ℕ)) → HasWhole nothing_came size messages []
unfolding cut
none_whole size messages = record {
  count = 0;
  whole = record { some = omega arith; whole = omega arith; next = λ lt. omega (arith, length-cut-more size messages 0 lt, count-positive size (length (get_or messages 0 []))); all = omega arith };
  inbox = refl;
  partial = refl;
}

no_piece : Piece
no_piece = record { first = false; last = false; payload = [] }

front_received : (xs : List Piece) (r : ℕ) → r ≤ length xs → (with_all_taken nothing_came (take r xs)).received ≡ r
front_received xs r le = omega (arith, received-all nothing_came (take r xs), length-take r xs)

front_more : (xs : List Piece) (r : ℕ) (p : Piece) → slice_get xs r ≡ Some p → with_all_taken nothing_came (take (r + 1) xs) ≡ with_taken (with_all_taken nothing_came (take r xs)) p
unfolding with_all_taken
front_more xs r p at =
    ap (with_all_taken nothing_came) (take_more xs r p (slice_get_within xs r p at) ∙ ap (λ (q : Piece). take r xs ++ q ∷ []) (get_or_from_slice_get xs r p p at)) ∙ taken_on nothing_came (take r xs) (p ∷ [])

front_whole : (size : ℕ) (messages : List (List ℕ)) (r : ℕ) → 0 < size → r ≤ length (cut size messages) → HasWhole (with_all_taken nothing_came (take r (cut size messages))) size messages []
unfolding with_all_taken
front_whole size messages zero pos le = none_whole size messages
front_whole size messages (suc r) pos le =
    let xs = cut size messages in
    let p = get_or xs r no_piece in
    let at : slice_get xs r ≡ Some p = slice_get-get_or xs r no_piece (omega arith) in
    let before = with_all_taken nothing_came (take r xs) in
    let here : slice_get xs before.received ≡ Some p = ap (slice_get xs) (front_received xs r (omega arith)) ∙ at in
    let next : r + 1 ≡ suc r = omega arith in
    subst (λ (c : Coming). HasWhole c size messages []) (sym (front_more xs r p at) ∙ ap (λ (n : ℕ). with_all_taken nothing_came (take n xs)) next)
    (stands_next before size messages [] p pos (front_whole size messages r pos (omega arith)) here)

-- no segment of short messages is longer than the longest of them
pub piece_short : (size limit : ℕ) (messages : List (List ℕ)) (r : ℕ) (p : Piece) → 0 < size → All (λ m. length m ≤ limit) messages → slice_get (cut size messages) r ≡ Some p → length p.payload ≤ limit
piece_short size limit messages r p pos short at =
    let xs = cut size messages in
    let le : r ≤ length xs = omega (arith, slice_get_within xs r p at) in
    let before = with_all_taken nothing_came (take r xs) in
    let here : slice_get xs before.received ≡ Some p = ap (slice_get xs) (front_received xs r le) ∙ at in
    let next = takes_next before size messages [] p limit pos short (front_whole size messages r pos le) here in
    omega (arith, next.short, length-append (unwrap_or before.partial []) p.payload)

pub whole_of : (c : Coming) (size : ℕ) (messages given : List (List ℕ)) → 0 < size → HasTaken c size messages given → HasWhole c size messages given
whole_of c size messages given pos h =
    let w = subst (λ (x : Coming). HasWhole x size messages []) h (front_whole size messages c.received pos (taken_few c size messages given h)) in
    record { count = w.count; whole = w.whole; inbox = w.inbox; partial = w.partial }

-- and back: this many messages are whole, and no other number of them
cuts_grow : (size : ℕ) (messages : List (List ℕ)) (n m : ℕ) → n ≤ m → length (cut size (take n messages)) ≤ length (cut size (take m messages))
cuts_grow size messages n m le =
    let front : take n (take m messages) ≡ take n messages = take-take n m messages le in
    let parts : length (cut size (take n messages ++ drop n (take m messages))) ≡ length (cut size (take m messages)) =
    ap (λ (ms : List (List ℕ)). length (cut size ms)) (ap (λ (ms : List (List ℕ)). ms ++ drop n (take m messages)) (sym front) ∙ take-append-drop n (take m messages)) in
    omega (arith, parts, ap length (cut-append size (take n messages) (drop n (take m messages))), length-append (cut size (take n messages)) (cut size (drop n (take m messages))))

no_more_whole : (size : ℕ) (messages : List (List ℕ)) (r n m : ℕ) → AreWholeIn size messages r n → AreWholeIn size messages r m → n < m → ⊥
no_more_whole size messages r n m one two lt =
    absurd (omega (arith, one.next (omega (arith, two.some)), cuts_grow size messages (n + 1) m (omega arith), two.whole))

whole_one : (size : ℕ) (messages : List (List ℕ)) (r n m : ℕ) → AreWholeIn size messages r n → AreWholeIn size messages r m → n ≡ m
whole_one size messages r n m one two =
    elim (cases_lt n m) [
      | inl lt ↦ absurd (no_more_whole size messages r n m one two lt)
      | inr le ↦ elim (cases_lt m n) [
        | inl lt ↦ absurd (no_more_whole size messages r m n two one lt)
        | inr ge ↦ omega arith
      ]
    ]

pub taken_of : (c : Coming) (size : ℕ) (messages given : List (List ℕ)) → 0 < size → HasWhole c size messages given → HasTaken c size messages given
taken_of c size messages given pos h =
    let all = h.whole.all in
    let f = front_whole size messages c.received pos all in
    let came = front_received (cut size messages) c.received all in
    let same : f.count ≡ h.count = whole_one size messages c.received f.count h.count (subst (λ (r : ℕ). AreWholeIn size messages r f.count) came f.whole) h.whole in
    coming_same _ _ came
    (f.partial ∙ ap (λ (r : ℕ). begun_bytes size messages r f.count) came ∙ ap (λ (n : ℕ). begun_bytes size messages c.received n) same ∙ sym h.partial)
    (f.inbox ∙ ap (λ (n : ℕ). take n messages) same ∙ sym h.inbox)
