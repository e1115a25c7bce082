-- What is told of words, and where an input can't be opened.
use Rattle.std.specs.Prelude.{◌==◌, ◌||◌, ℕ, [], ◌∷◌, codes, map, nat_lt, if◌then◌else◌, Option, Some, None}
use Rattle.std.specs.List.{concat}
use Rattle.cap_cli.specs.declared.opening.Unopened.{Unopened}
use Rattle.cap_cli.specs.declared.opening.Unopened.TheVariants as unopened
use Rattle.cap_cli.specs.declared.words.What.{What}
use Rattle.cap_cli.specs.declared.words.What.TheVariants.{GivenTwice, NoSuchWord, NotWithLines, TwoNodes}
use Rattle.cap_cli.specs.Words.{Text, WrongWord}

-- why an input can't be opened
abbrev pub why_text : Unopened → Text
why_text unopened.NotFound = codes "not found"
why_text unopened.NotPermitted = codes "not permitted"
why_text unopened.Folder = codes "is a folder"
why_text unopened.NotInFolder = codes "a part of its path is no folder"
why_text unopened.NoMemory = codes "no memory"
why_text unopened.Other = codes "can't be opened"

-- what is wrong with a word
abbrev pub what_text : What → Text
what_text NoSuchWord = codes "no such word"
what_text GivenTwice = codes "given twice"
what_text NotWithLines = codes "not with --lines"
what_text TwoNodes = codes "two nodes, as 1.1 1.2"

-- a byte of a word as it is shown: a line stays one line, with `?` for what a terminal wouldn't show
abbrev pub shown : ℕ → ℕ
shown byte = if nat_lt byte 32 || (byte == 127) then 63 else byte

-- a line with the name of the program, a word, and what is said of it
abbrev pub said_line : (word said : Text) → Text
said_line word said = concat (codes "dapcap: " ∷ map shown word ∷ codes ": " ∷ said ∷ codes "\n" ∷ [])

-- the line of a mistake
abbrev pub wrong_line : WrongWord → Text
wrong_line (word, what) = said_line word (what_text what)

-- the name of an input that is told: standard input is `-`
abbrev pub name_of : Option Text → Text
name_of None = codes "-"
name_of (Some name) = name

-- the line of an input that can't be opened
abbrev pub unopened_line : Option Text → Unopened → Text
unopened_line name why = said_line (name_of name) (why_text why)
