-- Two talks have one text, where each line has one answer.
use Rattle.std.proofs.Common.{◌≡◌, ◌≢◌, ◌<◌, ◌++◌, ℕ, List, [], ◌∷◌, length, arith, sym, refl, ap, ◌∙◌, append_assoc, Option, Some}
use Rattle.std.proofs.lemmas.List.{append-nil}
use Rattle.std.specs.List.{AllByRecursion}
use Rattle.std.specs.Io.BufRead.{first_line, drop_through}
use Rattle.linewise.specs.declared.talking.Became.{Became}
use Rattle.linewise.specs.declared.talking.Became.TheVariants.{NoMemory}
use Rattle.linewise.specs.Talks.{Answering, SaysTo, AnswersInput, HaveOneText}

-- the lines, from the first on
data Answers {E : Type 0} (answered : Answering E) (waiting : E → Option ℕ) : E → List ℕ → E → List ℕ → List ℕ → List (Option Became) → Type 0 where
  over : {e : E} {input : List ℕ} → Answers answered waiting e input e input [] []
  next : {old new : E} {input rest text : List ℕ} {lines : List (Option Became)} (mid : E) (said more : List ℕ) (became : Option Became) (later : List (Option Became))
      → 0 < length input → became ≢ Some NoMemory → SaysTo answered waiting old (first_line input) mid said became
      → Answers answered waiting mid (drop_through 10 input) new rest more later → text ≡ said ++ more → lines ≡ became ∷ later
      → Answers answered waiting old input new rest text lines

abbrev Sates : List (Option Became) → Type 0
Sates = AllByRecursion (λ became. became ≢ Some NoMemory)

parts : (front back : List (Option Became)) → Sates (front ++ back) → Sates front × Sates back
parts [] back h = (tt, h)
parts (became ∷ front) back h = let rest = parts front back h.1 in ((h.0, rest.0), rest.1)

module _ {E : Type 0} (answered : Answering E) (waiting : E → Option ℕ) where
  behind : (old now new : E) (input rest said more : List ℕ) (lines : List (Option Became)) (became : Option Became)
      → Answers answered waiting old input now rest said lines → 0 < length rest → became ≢ Some NoMemory
      → SaysTo answered waiting now (first_line rest) new more became
      → Answers answered waiting old input new (drop_through 10 rest) (said ++ more) (lines ++ became ∷ [])
  behind old now new input rest said more lines became over some want says =
      next new more [] became [] some want says over (sym (append-nil more)) refl
  behind old now new input rest said more lines became (next mid first others b later one wanted answer on e f) some want says =
      next mid first (others ++ more) b (later ++ became ∷ []) one wanted answer
      (behind mid now new (drop_through 10 input) rest others more later became on some want says)
      (ap (λ (l : List ℕ). l ++ more) e ∙ append_assoc first others more)
      (ap (λ (l : List (Option Became)). l ++ became ∷ []) f)

  from_front : (old new : E) (input rest text : List ℕ) (lines : List (Option Became)) → AnswersInput answered waiting old input new rest text lines → Sates lines
      → Answers answered waiting old input new rest text lines
  from_front old new input rest text lines AnswersInput.no_line_more never = over
  from_front old new input rest text lines (AnswersInput.one_line_more now left said more before became talked some says) never =
      let each = parts before (became ∷ []) never in
      behind old now new input left said more before became (from_front old now input left said before talked each.0) some each.1.0 says

  -- the same ends give one answer to a line, and are the same after it
  abbrev pub OneAnswer : (E → E → Type 0) → Type 0
  OneAnswer AreSame =
      (one other new end : E) (line said more : List ℕ) (b c : Option Became) → AreSame one other → b ≢ Some NoMemory → c ≢ Some NoMemory
      → SaysTo answered waiting one line new said b → SaysTo answered waiting other line end more c
      → AreSame new end × (said ≡ more) × (b ≡ c)

module _ {E : Type 0} (answered : Answering E) (waiting : E → Option ℕ) (AreSame : E → E → Type 0) (answer_one : OneAnswer answered waiting AreSame) where
  both : (one other new end : E) (input left rest text more : List ℕ) (lines others : List (Option Became)) → AreSame one other → left ≡ [] → rest ≡ []
      → Answers answered waiting one input new left text lines → Answers answered waiting other input end rest more others
      → (text ≡ more) × (lines ≡ others)
  both one other new end input left rest text more lines others same e f over over = (refl, refl)
  both one other new end input left rest text more lines others same e f over (next mid said back b later some want says on g h) =
      absurd (omega (arith, ap length e, some))
  both one other new end input left rest text more lines others same e f (next mid said back b later some want says on g h) over =
      absurd (omega (arith, ap length f, some))
  both one other new end input left rest text more lines others same e f (next mid said back b later some want says on g h) (next at told left_too c after less wanted answer on_too i j) =
      let first = answer_one one other mid at (first_line input) said told b c same want wanted says answer in
      let then = both mid at new end (drop_through 10 input) left rest back left_too later after first.0 e f on on_too in (
        g ∙ ap (λ (l : List ℕ). l ++ back) first.1 ∙ ap (λ (l : List ℕ). told ++ l) then.0 ∙ sym i,
        h ∙ ap (λ (o : Option Became). o ∷ later) first.2 ∙ ap (λ (l : List (Option Became)). c ∷ l) then.1 ∙ sym j,
      )

  pub one_text : HaveOneText answered waiting AreSame
  one_text one other new end input text more lines others same t u never =
      let each = parts lines others never in
      both one other new end input [] [] text more lines others same refl refl (from_front answered waiting one new input [] text lines t each.0)
      (from_front answered waiting other end input [] more others u each.1)
