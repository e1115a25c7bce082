-- The pieces of segments in order.
use Rattle.std.proofs.Common.{◌≡◌, ◌++◌, ◌&&◌, Bool, true, false, List, [], ◌∷◌, refl, ap, ◌∙◌, ⊎_elim}
use Rattle.std.specs.Prelude.{fold}
use Rattle.std.proofs.lemmas.Bool.{cases_Bool}
use Rattle.dap_follow.specs.Streams.{Sequenced}
use Rattle.dap_follow.specs.Joined.{Fragment, is_message, joins, fragments_of, tail, with_segment}

abbrev pub segments : Fragment → List Sequenced
segments p = p.head ∷ p.others

abbrev pub end_of : Sequenced → List Sequenced → Sequenced
end_of s others = fold (λ one next. next) s others

-- ---- the first piece

-- each of these joins the next
unfoldable pub Chain : Sequenced → List Sequenced → Type 0
Chain s [] = Unit {0}
Chain s (t ∷ others) = (joins s t ≡ true) × Chain t others

-- the last doesn't join what follows
unfoldable pub Ends : Sequenced → List Sequenced → Type 0
Ends s [] = Unit {0}
Ends s (t ∷ others) = joins s t ≡ false

pieces_begin : (b : Sequenced) (bs : List Fragment) → (p : Fragment) × (rest : List Fragment) × (with_segment b bs ≡ p ∷ rest) × (p.head ≡ b)
pieces_begin b [] = (record { head = b; others = [] }, [], refl, refl)
pieces_begin b (p ∷ ps) = ⊎_elim
    (λ (yes : joins b p.head ≡ true). (record { head = b; others = segments p }, ps, rw yes refl, refl))
    (λ (other : joins b p.head ≡ false). (record { head = b; others = [] }, p ∷ ps, rw other refl, refl))
    (cases_Bool (joins b p.head))

alone : (s b : Sequenced) (ps : List Fragment) (p : Fragment) (rest : List Fragment) → ps ≡ p ∷ rest → p.head ≡ b → joins s b ≡ false → with_segment s ps ≡ record { head = s; others = [] } ∷ ps
alone s b ps p rest is head other =
    let test : joins s p.head ≡ false = rw head other in
    rw is (rw test refl)

pub chain_cut : (s : Sequenced) (front back : List Sequenced) → Chain s front → Ends (end_of s front) back → fragments_of (s ∷ front ++ back) ≡ record { head = s; others = front } ∷ fragments_of back
unfolding Chain Ends
chain_cut s [] [] chain end = refl
chain_cut s [] (b ∷ back) chain end =
    let begin = pieces_begin b (fragments_of back) in
    alone s b (fragments_of (b ∷ back)) begin.0 begin.1 begin.2 begin.3 end
chain_cut s (f ∷ front) back chain end = rw (chain_cut f front back chain.1 end, chain.0) refl

-- ---- a message

pub marks : (p : Fragment) (first last : Bool) → p.head.first ≡ first → (tail p).last ≡ last → is_message p ≡ (first && last)
marks p first last one two = ap (λ (b : Bool). b && (tail p).last) one ∙ ap (λ (b : Bool). first && b) two
