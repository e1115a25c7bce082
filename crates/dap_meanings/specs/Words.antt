-- The words of the program.
use Rattle.std.specs.Prelude.{ℕ, List, [], ◌∷◌, ◌++◌, codes}
use Rattle.std.specs.Borrow.{Bor}
use Rattle.std.specs.Fmt.{decimal}
use Rattle.dap_meanings.specs.Quoted.{quote}
use Rattle.dap_meanings.specs.Meanings.{rights_text}
use Rattle.dap_meanings.specs.declared.tables.Entry.{Entry}
use Rattle.dap_meanings.specs.declared.words.Word.{Word}
use Rattle.dap_meanings.specs.declared.words.Word.TheVariants.{Nothing, Named, Record, Quoted, Rights, Frame, Known, Object, Called, Reason}

-- what it says
abbrev pub said_text : Word → List ℕ
said_text Nothing = []
said_text (Named word) = word.now
said_text (Record number) = codes "record " ++ decimal number
said_text (Quoted bytes) = quote bytes.now
said_text (Rights fac) = codes "for" ++ rights_text fac
said_text (Frame text) = text.now
said_text (Known before name) = before.now ++ name.now
said_text (Object before number) = before.now ++ (codes "object " ++ decimal number)
said_text (Called before name) = before.now ++ quote name.now
said_text (Reason number) = codes "reason " ++ decimal number

-- as words, of which there may be none
abbrev pub word_list : Word → List (List ℕ)
word_list Nothing = []
word_list (Named word) = said_text (Named word) ∷ []
word_list (Record number) = said_text (Record number) ∷ []
word_list (Quoted bytes) = said_text (Quoted bytes) ∷ []
word_list (Rights fac) = said_text (Rights fac) ∷ []
word_list (Frame text) = said_text (Frame text) ∷ []
word_list (Known before name) = said_text (Known before name) ∷ []
word_list (Object before number) = said_text (Object before number) ∷ []
word_list (Called before name) = said_text (Called before name) ∷ []
word_list (Reason number) = said_text (Reason number) ∷ []

-- a text as words
abbrev pub named : Bor (List ℕ) → List (List ℕ)
named text = text.now ∷ []

-- an entry of a table
abbrev pub entry_of : Entry → ℕ × List ℕ
entry_of e = (e.number, e.word.now)
