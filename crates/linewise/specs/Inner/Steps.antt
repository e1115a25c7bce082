-- One turn of a conversation, and how far a conversation has come.
use Rattle.std.specs.Prelude.{◌≡◌, ℕ, ◌<◌, ◌++◌, Bool, List, length, Some, None, Option, IfSome}
use Rattle.std.specs.List.{list_any, concat}
use Rattle.std.specs.Io.KnownBytes.{Appends, Keeps, IsAtEnd}
use Rattle.std.specs.Io.BufRead.{first_line, drop_through}
use Rattle.linewise.specs.Output.{WritesFront}
use Rattle.linewise.specs.Talks.{Answering, AnswersLine, BeginsAnswer, ComesIn, IsUnbroken, ReadsPart, SaysTo, AnswersInput, is_bad}
use Rattle.linewise.specs.declared.talking.Became.{Became}
use Rattle.linewise.specs.declared.talking.Answer.{Answer}
use Rattle.linewise.specs.declared.talking.Answer.TheVariants.{Whole, Begun}
use Rattle.linewise.specs.declared.talking.Next.{Next}
use Rattle.linewise.specs.declared.talking.Next.TheVariants.{Over, Line}
use Rattle.linewise.specs.declared.fault.CaptureFault.{CaptureFault}
use Rattle.linewise.specs.declared.fault.CaptureFault.TheVariants.{ReadFailed, WriteFailed}

-- what comes of a line, or how its answer begins
abbrev pub BeginsLine : {E P : Type 0} → Answering E → (E → Option ℕ) → (E → P → List (List ℕ)) → E → List ℕ → E → List ℕ → Option (Answer P) → Type 0
BeginsLine answered waiting pieces old line new text None = AnswersLine answered waiting old line new text None
BeginsLine answered waiting pieces old line new text (Some answer) =
    BeginsAnswer (λ o l n t b. AnswersLine answered waiting o l n t (Some b)) pieces old line new text answer

-- the text of an answer that began so, and what became of the line
abbrev pub Completes : {P : Type 0} → (P → List (List ℕ)) → List ℕ → Answer P → List ℕ → Became → Type 0
Completes pieces text (Whole became) whole came = (whole ≡ text) × (came ≡ became)
Completes pieces text (Begun cursor) whole came = (more : List ℕ) × ComesIn (pieces cursor) more came × (whole ≡ text ++ more)

-- The first pieces of an answer are written after its first text, but for the text that comes next;
-- these are left after that.
abbrev pub HasWritten : (pieces left : List (List ℕ)) → (first text : List ℕ) → (written holds : Option (List ℕ)) → Type 0
HasWritten pieces left first text written holds =
    (front : List (List ℕ)) × (said : List ℕ) × (pieces ≡ front ++ left) × (said ++ text ≡ first ++ concat front) × Appends written holds said

-- the answer to a line follows what was written
abbrev pub SaysLine : {E : Type 0} → Answering E → (E → Option ℕ) → E → List ℕ → E → (written holds : Option (List ℕ)) → Option Became → Type 0
SaysLine answered waiting old line new written holds became =
    (said : List ℕ) × SaysTo answered waiting old line new said became × Appends written holds said

-- a prefix of it does
abbrev pub Breaks : {E : Type 0} → Answering E → (E → Option ℕ) → E → List ℕ → E → (written holds : Option (List ℕ)) → Type 0
Breaks answered waiting old line new written holds =
    (became : Option Became) × (said : List ℕ) × SaysTo answered waiting old line new said became × WritesFront written holds said

-- what a turn comes to
abbrev pub TurnGoes : {E : Type 0} → Answering E → (E → Option ℕ) → E → E → (unread left written holds : Option (List ℕ)) → Next → Type 0
TurnGoes answered waiting old new unread left written holds Over = IsAtEnd unread × (new ≡ old) × Keeps written holds
TurnGoes answered waiting old new unread left written holds (Line became) =
    IfSome unread (λ rest. (0 < length rest) × (left ≡ Some (drop_through 10 rest))
    × SaysLine answered waiting old (first_line rest) new written holds became)

-- and where it fails
abbrev pub TalkEnds : {E : Type 0} → Answering E → (E → Option ℕ) → E → E → (unread left written holds : Option (List ℕ)) → CaptureFault → Type 0
TalkEnds answered waiting old new unread left written holds ReadFailed =
    (new ≡ old) × Keeps written holds × ReadsPart unread left
TalkEnds answered waiting old new unread left written holds WriteFailed =
    IfSome unread (λ rest. (left ≡ Some (drop_through 10 rest)) × Breaks answered waiting old (first_line rest) new written holds)
TalkEnds answered waiting old new unread left written holds _ = ⊥

-- the lines up to what is left are answered, and the writer holds the answers
abbrev pub HasTalked : {E : Type 0} → Answering E → (E → Option ℕ) → E → (unread written : Option (List ℕ)) → E → (left holds : Option (List ℕ)) → Bool → Type 0
HasTalked answered waiting old unread written now left holds bad = IfSome unread (λ input. (rest said : List ℕ) × (lines : List (Option Became))
    × (left ≡ Some rest) × Appends written holds said × AnswersInput answered waiting old input now rest said lines × (bad ≡ list_any is_bad lines) × IsUnbroken waiting lines)
