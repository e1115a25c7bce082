-- A conversation: each line of an input has an answer.
use Rattle.std.specs.Prelude.{◌≡◌, ◌≢◌, ◌⊎◌, ℕ, ◌<◌, ◌≤◌, ◌==◌, not, All, Bool, true, false, List, [], ◌∷◌, ◌++◌, length, codes, Some, None, Option}
use Rattle.std.specs.Fmt.{decimal}
use Rattle.std.specs.List.{AllByRecursion, concat}
use Rattle.std.specs.Io.KnownBytes.{Appends, Consumes}
use Rattle.std.specs.Io.BufRead.{first_line, drop_through}
use Rattle.linewise.specs.Output.{WritesFront}
use Rattle.linewise.specs.declared.talking.Became.{Became}
use Rattle.linewise.specs.declared.talking.Became.TheVariants.{Done, BadLine, NoMemory}
use Rattle.linewise.specs.declared.talking.Answer.{Answer}
use Rattle.linewise.specs.declared.talking.Answer.TheVariants.{Whole, Begun}
use Rattle.linewise.specs.declared.fault.CaptureFault.{CaptureFault}
use Rattle.linewise.specs.declared.fault.CaptureFault.TheVariants.{ReadFailed, WriteFailed, NoMemory as OutOfMemory}

-- ---- A line.

-- how many bytes a line has at most, without its end (LF, CR LF or the end of the input)
abbrev pub max_line : ℕ
max_line = 16777216

-- empty lines, and those that begin with `#`, say nothing
abbrev pub is_skipped : List ℕ → Bool
is_skipped [] = true
is_skipped (first ∷ others) = first == 35

-- An end isn't given a line that says nothing, unless its answers have no ending: by these it learns what is between
-- other lines. (What an end waits for is a count, or it names none.)
abbrev pub is_given : Option ℕ → List ℕ → Bool
is_given (Some count) line = not (is_skipped line)
is_given None line = true

-- ---- An answer.

-- the line of a refusal that every end may answer
abbrev pub refusal_of : Became → List ℕ
refusal_of Done = []
refusal_of BadLine = codes "refused bad-line\n"
refusal_of NoMemory = codes "refused no-memory\n"

-- How an answer ends: with the line of a refusal, and `waits N`, where N packets aren't acknowledged, and one more is
-- counted where something is left to do. Where an answerer names no count, its answers have no ending.
abbrev pub ending_of : Became → Option ℕ → List ℕ
ending_of became None = []
ending_of became (Some count) = refusal_of became ++ (codes "waits " ++ (decimal count ++ codes "\n"))

-- An answer is a text and its ending. A line that the end isn't given has none.
abbrev pub said_of : List ℕ → Option Became → Option ℕ → List ℕ
said_of text None count = []
said_of text (Some became) count = text ++ ending_of became count

-- What an end does by a line: the end then, its text, and what became of the line. `None` is a line that it missed,
-- since it wasn't read whole.
abbrev pub Answering : Type 0 → Type 1
Answering E = E → Option (List ℕ) → E → List ℕ → Became → Type 0

-- An answer that is given in pieces: all of them, or those before the first one to which memory was refused.
abbrev pub ComesIn : List (List ℕ) → List ℕ → Became → Type 0
ComesIn pieces text Done = text ≡ concat pieces
ComesIn pieces text BadLine = ⊥
ComesIn pieces text NoMemory = (front rest : List (List ℕ)) × (pieces ≡ front ++ rest) × (0 < length rest) × (text ≡ concat front)

-- What was done by a line, and its whole text; or a prefix of the text, which is an answer together with whatever is
-- written of the pieces from a position on.
abbrev pub BeginsAnswer : {E L P : Type 0} → (answered : E → L → E → List ℕ → Became → Type 0) → (pieces : E → P → List (List ℕ))
    → E → L → E → List ℕ → Answer P → Type 0
BeginsAnswer answered pieces old line new text (Whole became) = answered old line new text became
BeginsAnswer answered pieces old line new text (Begun cursor) =
    (more : List ℕ) (became : Became) → ComesIn (pieces new cursor) more became → answered old line new (text ++ more) became

-- The text is the piece at this position, and the other pieces are those from the next position on; or there is none.
abbrev pub GivesPiece : {P : Type 0} → (pieces : P → List (List ℕ)) → P → List ℕ → Option P → Type 0
GivesPiece pieces cursor text None = (pieces cursor ≡ []) × (text ≡ [])
GivesPiece pieces cursor text (Some next) = pieces cursor ≡ text ∷ pieces next

-- What comes of a line. A line that is too long is a bad line. The end misses it, and a line to which memory was
-- refused: it learns that there was one, and has no text.
abbrev pub AnswersLine : {E : Type 0} → Answering E → (E → Option ℕ) → E → List ℕ → E → List ℕ → Option Became → Type 0
AnswersLine answered waiting old line new text None =
    (is_given (waiting old) line ≡ false) × (length line ≤ max_line) × (new ≡ old) × (text ≡ [])
AnswersLine answered waiting old line new text (Some became) =
    ((((became ≡ BadLine) × (max_line < length line)) ⊎ (became ≡ NoMemory)) × answered old None new text became × (text ≡ []))
    ⊎ ((is_given (waiting old) line ≡ true) × (length line ≤ max_line) × answered old (Some line) new text became)

-- what is answered to a line
pub record SaysTo {E : Type 0} (answered : Answering E) (waiting : E → Option ℕ) (old : E) (line : List ℕ) (new : E) (said : List ℕ) (became : Option Became) : Type 0 where
  pub text : List ℕ
  pub answers : AnswersLine answered waiting old line new text became
  pub says : said ≡ said_of text became (waiting new)

-- ---- A conversation.

-- the line was a bad one
abbrev pub is_bad : Option Became → Bool
is_bad (Some BadLine) = true
is_bad _ = false

-- The end answered the lines of an input, one after another, up to this suffix. The text is its answers, joined, and
-- the list is what became of the lines.
pub data AnswersInput {E : Type 0} (answered : Answering E) (waiting : E → Option ℕ) : E → List ℕ → E → List ℕ → List ℕ → List (Option Became) → Type 0 where
  no_line_more : {e : E} {input : List ℕ} → AnswersInput answered waiting e input e input [] []
  one_line_more : {old new : E} {input : List ℕ} (now : E) (rest said more : List ℕ) (lines : List (Option Became)) (became : Option Became)
      → AnswersInput answered waiting old input now rest said lines → 0 < length rest
      → SaysTo answered waiting now (first_line rest) new more became
      → AnswersInput answered waiting old input new (drop_through 10 rest) (said ++ more) (lines ++ became ∷ [])

-- An answerer whose answers never have an ending was out of memory at none of these lines: a conversation ends with
-- such a line.
abbrev pub IsUnbroken : {E : Type 0} → (E → Option ℕ) → List (Option Became) → Type 0
IsUnbroken {E} waiting lines = ((e : E) → waiting e ≡ None) → AllByRecursion (λ became. became ≢ Some NoMemory) lines

-- Two such conversations of ends of one value over one input have the same text, and the same became of each line,
-- unless memory was refused.
abbrev pub HaveOneText : {E : Type 0} → Answering E → (E → Option ℕ) → (AreSame : E → E → Type 0) → Type 0
HaveOneText answered waiting AreSame =
    (one other new end : _) (input text more : List ℕ) (lines others : List (Option Became)) → AreSame one other
    → AnswersInput answered waiting one input new [] text lines → AnswersInput answered waiting other input end [] more others
    → AllByRecursion (λ became. became ≢ Some NoMemory) (lines ++ others) → (text ≡ more) × (lines ≡ others)

-- of these bytes at most a part of the first line was read, without its line feed
abbrev pub ReadsPart : (unread left : Option (List ℕ)) → Type 0
ReadsPart unread left = (part : List ℕ) × Consumes unread left part × All (λ byte. byte ≢ 10) part

-- What was written, and what the reader has left, where a conversation ended before its input. The reader failed: the
-- answers to all lines before the one that was being read. The writer failed: these, and a prefix of the next answer;
-- what is after that line wasn't read. Memory was refused to an answer that has no ending to say so: all answers with
-- that one; what is after its line wasn't read. A conversation ends with no other fault.
abbrev pub Fails : {E : Type 0} → Answering E → (E → Option ℕ) → E → List ℕ → E → (left written holds : Option (List ℕ)) → CaptureFault → Type 0
Fails answered waiting old input new left written holds ReadFailed =
    (rest said : List ℕ) × (lines : List (Option Became)) × AnswersInput answered waiting old input new rest said lines × Appends written holds said
    × IsUnbroken waiting lines × ReadsPart (Some rest) left
Fails answered waiting old input new left written holds OutOfMemory =
    (rest said : List ℕ) × (lines : List (Option Became)) × AnswersInput answered waiting old input new rest said (lines ++ Some NoMemory ∷ [])
    × Appends written holds said × (waiting new ≡ None) × IsUnbroken waiting lines × (left ≡ Some rest)
Fails {E} answered waiting old input new left written holds WriteFailed =
    (now : E) × (held : Option (List ℕ)) × (rest said more : List ℕ) × (lines : List (Option Became)) × (became : Option Became)
    × AnswersInput answered waiting old input now rest said lines × Appends written held said
    × SaysTo answered waiting now (first_line rest) new more became × WritesFront held holds more × IsUnbroken waiting lines
    × (left ≡ Some (drop_through 10 rest))
Fails answered waiting old input new left written holds _ = ⊥
