-- How an answer that is said piece by piece begins, goes on and ends.
use Rattle.std.proofs.Common.{◌≡◌, ◌≢◌, ◌<◌, ◌++◌, ℕ, List, [], ◌∷◌, length, ap, ◌∙◌, sym, subst, refl, append_assoc, Option, Some}
use Rattle.std.specs.Prelude.{Result, Ok, Err, OnErr}
use Rattle.std.specs.List.{concat}
use Rattle.std.specs.Io.KnownBytes.{Appends}
use Rattle.std.proofs.KnownBytes.{Appends-nil, Appends-trans}
use Rattle.std.proofs.lemmas.List.{append-nil}
use Rattle.std.proofs.lemmas.List.Folds.{concat-append}
use Rattle.linewise.specs.declared.talking.Answer.{Answer}
use Rattle.linewise.specs.declared.talking.Answer.TheVariants.{Whole, Begun}
use Rattle.linewise.specs.declared.talking.Became.{Became}
use Rattle.linewise.specs.declared.talking.Became.TheVariants.{Done, BadLine, NoMemory}
use Rattle.linewise.specs.Output.{WritesFront}
use Rattle.linewise.specs.Talks.{Answering, AnswersLine, ComesIn}
use Rattle.linewise.specs.Inner.Steps.{BeginsLine, Completes, HasWritten}
use Rattle.linewise.proofs.OutputLemmas.{front_of_first, front_behind}

pub begins : (pieces : List (List ℕ)) (first : List ℕ) (written : Option (List ℕ)) → HasWritten pieces pieces first first written written
begins pieces first written = ([], [], refl, sym (append-nil first), Appends-nil written)

one_more : (front : List (List ℕ)) (piece : List ℕ) → concat front ++ piece ≡ concat (front ++ piece ∷ [])
one_more front piece = sym (concat-append front (piece ∷ []) ∙ ap (λ l. concat front ++ l) (append-nil piece))

-- the text is written, and a piece is next
pub goes_on : (pieces left rest : List (List ℕ)) (first text piece : List ℕ) (written mid holds : Option (List ℕ))
    → HasWritten pieces left first text written mid → Appends mid holds text → left ≡ piece ∷ rest → HasWritten pieces rest first piece written holds
goes_on pieces left rest first text piece written mid holds (front, said, split, is, wrote) more next = (
  front ++ piece ∷ [],
  said ++ text,
  split ∙ ap (λ l. front ++ l) next ∙ sym (append_assoc front (piece ∷ []) rest),
  ap (λ l. l ++ piece) is ∙ append_assoc first (concat front) piece ∙ ap (λ l. first ++ l) (one_more front piece),
  Appends-trans written mid holds said text wrote more,
)

-- the text is written, and no piece is left
pub ends : (pieces left : List (List ℕ)) (first text : List ℕ) (written mid holds : Option (List ℕ))
    → HasWritten pieces left first text written mid → Appends mid holds text → left ≡ []
    → (more : List ℕ) × ComesIn pieces more Done × Appends written holds (first ++ more)
ends pieces left first text written mid holds (front, said, split, is, wrote) more none = (
  concat front,
  ap concat (sym (append-nil front) ∙ ap (λ l. front ++ l) (sym none) ∙ sym split),
  subst (Appends written holds) is (Appends-trans written mid holds said text wrote more),
)

-- the text is written, and memory is refused to the piece that is next
pub stops : (pieces left : List (List ℕ)) (first text : List ℕ) (written mid holds : Option (List ℕ))
    → HasWritten pieces left first text written mid → Appends mid holds text → 0 < length left
    → (more : List ℕ) × ComesIn pieces more NoMemory × Appends written holds (first ++ more)
stops pieces left first text written mid holds (front, said, split, is, wrote) more some =
    (concat front, (front, left, split, some, refl), subst (Appends written holds) is (Appends-trans written mid holds said text wrote more))

-- only a front of the text is
pub breaks : (pieces left : List (List ℕ)) (first text : List ℕ) (written mid holds : Option (List ℕ))
    → HasWritten pieces left first text written mid → WritesFront mid holds text → WritesFront written holds (first ++ concat pieces)
breaks pieces left first text written mid holds (front, said, split, is, wrote) part =
    let whole : (said ++ text) ++ concat left ≡ first ++ concat pieces =
    ap (λ l. l ++ concat left) is ∙ append_assoc first (concat front) (concat left)
    ∙ ap (λ l. first ++ l) (sym (concat-append front left) ∙ ap concat (sym split)) in
    subst (WritesFront written holds) whole
    (front_of_first written holds (said ++ text) (concat left) (front_behind written mid holds said text wrote part))

pub err_always : {A E P : Type 0} (r : Result A E) → P → OnErr r P
err_always (Ok a) holds = tt
err_always (Err e) holds = holds

-- where no memory is refused, pieces come to one text
pub comes_one : (pieces : List (List ℕ)) (text more : List ℕ) (b c : Became) → b ≢ NoMemory → c ≢ NoMemory
    → ComesIn pieces text b → ComesIn pieces more c → (text ≡ more) × (b ≡ c)
comes_one pieces text more Done Done nb nc x y = (x ∙ sym y, refl)
comes_one pieces text more Done NoMemory nb nc x y = absurd (nc refl)
comes_one pieces text more Done BadLine nb nc x y = absurd y
comes_one pieces text more NoMemory c nb nc x y = absurd (nb refl)
comes_one pieces text more BadLine c nb nc x y = absurd x

-- what an answer comes to that began so
pub completed : {E P : Type 0} (answered : Answering E) (waiting : E → Option ℕ) (pieces : E → P → List (List ℕ)) (old new : E) (line text whole : List ℕ) (answer : Answer P) (came : Became)
    → BeginsLine answered waiting pieces old line new text (Some answer) → Completes (pieces new) text answer whole came
    → AnswersLine answered waiting old line new whole (Some came)
completed answered waiting pieces old new line text whole (Whole became) came begun (same, is) =
    subst (λ l. AnswersLine answered waiting old line new l (Some came)) (sym same)
    (subst (λ b. AnswersLine answered waiting old line new text (Some b)) (sym is) begun)
completed answered waiting pieces old new line text whole (Begun cursor) came begun (more, comes, is) =
    subst (λ l. AnswersLine answered waiting old line new l (Some came)) (sym is) (begun more came comes)
