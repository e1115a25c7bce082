-- What is taken in aside and put after what stands is what would have been taken in there.
use Rattle.std.proofs.Common.{◌≡◌, ℕ, List, [], ◌∷◌, ◌++◌, Option, Some, None, refl, sym, ap, ◌∙◌, Bool, true, false, append_assoc}
use Rattle.std.specs.Prelude.{unwrap_or}
use Rattle.std.proofs.lemmas.List.{append-nil}
use Rattle.nsp_link.specs.Cutting.{Piece}
use Rattle.nsp_link.specs.Coming.{Coming, with_taken, with_all_taken}
use Rattle.nsp_link.specs.Inner.Joining.{with_begun, emptied_of}

pub coming_same : (c d : Coming) → c.received ≡ d.received → c.partial ≡ d.partial → c.inbox ≡ d.inbox → c ≡ d
coming_same c d r p i =
    ap (λ (n : ℕ). let x : Coming = record { received = n; partial = c.partial; inbox = c.inbox } in x) r
    ∙ ap (λ (o : Option (List ℕ)). let x : Coming = record { received = d.received; partial = o; inbox = c.inbox } in x) p
    ∙ ap (λ (ms : List (List ℕ)). let x : Coming = record { received = d.received; partial = d.partial; inbox = ms } in x) i

-- where a message was begun, one is begun or whole in what is taken in aside
abbrev HasOldest : Option (List ℕ) → List (List ℕ) → Option (List ℕ) → Type 0
HasOldest None came partial = Unit {0}
HasOldest (Some body) [] None = ⊥
HasOldest (Some body) [] (Some more) = Unit {0}
HasOldest (Some body) (m ∷ ms) partial = Unit {0}

stays : (begun : Option (List ℕ)) (received : ℕ) (partial : Option (List ℕ)) (came : List (List ℕ)) (first last : Bool) (payload : List ℕ) → HasOldest begun came partial
    → let aside : Coming = record { received = received; partial = partial; inbox = came } in let p : Piece = record { first = first; last = last; payload = payload } in
    HasOldest begun (with_taken aside p).inbox (with_taken aside p).partial
stays None received partial came first last payload has = tt
stays (Some body) received partial [] first true payload has = tt
stays (Some body) received partial [] first false payload has = tt
stays (Some body) received partial (m ∷ ms) first true payload has = tt
stays (Some body) received partial (m ∷ ms) first false payload has = tt

one_more : (n : ℕ) (begun : Option (List ℕ)) (inbox : List (List ℕ)) (received : ℕ) (partial : Option (List ℕ)) (came : List (List ℕ)) (first last : Bool) (payload : List ℕ) → HasOldest begun came partial
    → let before : Coming = record { received = n; partial = begun; inbox = inbox } in let aside : Coming = record { received = received; partial = partial; inbox = came } in
    let p : Piece = record { first = first; last = last; payload = payload } in
    with_begun before (with_taken aside p) ≡ with_taken (with_begun before aside) p
one_more n None inbox received partial came first true payload has = coming_same _ _ refl refl (sym (append_assoc inbox came ((unwrap_or partial [] ++ payload) ∷ [])))
one_more n None inbox received partial came first false payload has = refl
one_more n (Some body) inbox received None [] first last payload has = absurd has
one_more n (Some body) inbox received (Some more) [] first true payload has =
    coming_same _ _ refl refl (rw (append-nil inbox, append_assoc body more payload) refl)
one_more n (Some body) inbox received (Some more) [] first false payload has =
    coming_same _ _ refl (ap (λ (x : List ℕ). Some x) (sym (append_assoc body more payload))) refl
one_more n (Some body) inbox received partial (m ∷ ms) first true payload has =
    coming_same _ _ refl refl (sym (append_assoc inbox ((body ++ m) ∷ ms) ((unwrap_or partial [] ++ payload) ∷ [])))
one_more n (Some body) inbox received partial (m ∷ ms) first false payload has = refl

joined_all : (before aside : Coming) (ps : List Piece) → HasOldest before.partial aside.inbox aside.partial → with_begun before (with_all_taken aside ps) ≡ with_all_taken (with_begun before aside) ps
unfolding with_all_taken
joined_all before aside [] has = refl
joined_all before aside (p ∷ ps) has =
    joined_all before (with_taken aside p) ps (stays before.partial aside.received aside.partial aside.inbox p.first p.last p.payload has)
    ∙ ap (λ (c : Coming). with_all_taken c ps) (one_more before.received before.partial before.inbox aside.received aside.partial aside.inbox p.first p.last p.payload has)

starts : (n : ℕ) (begun : Option (List ℕ)) (inbox : List (List ℕ)) → let before : Coming = record { received = n; partial = begun; inbox = inbox } in with_begun before (emptied_of before) ≡ before
starts n None inbox = coming_same _ _ refl refl (append-nil inbox)
starts n (Some body) inbox = coming_same _ _ refl (ap (λ (x : List ℕ). Some x) (append-nil body)) (append-nil inbox)

has_oldest : (begun : Option (List ℕ)) (n : ℕ) (inbox : List (List ℕ)) → let before : Coming = record { received = n; partial = begun; inbox = inbox } in HasOldest begun (emptied_of before).inbox (emptied_of before).partial
has_oldest None n inbox = tt
has_oldest (Some body) n inbox = tt

pub joined_run : (before : Coming) (ps : List Piece) → with_begun before (with_all_taken (emptied_of before) ps) ≡ with_all_taken before ps
joined_run before ps =
    joined_all before (emptied_of before) ps (has_oldest before.partial before.received before.inbox)
    ∙ ap (λ (c : Coming). with_all_taken c ps) (starts before.received before.partial before.inbox)
