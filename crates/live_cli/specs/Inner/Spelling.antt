-- Values of options that aren't spelled as they have to be.
use Rattle.std.specs.Prelude.{◌≡◌, ℕ, Bool, not, ◌&&◌, nat_lt, is_none, List, [], ◌∷◌, ◌++◌, codes, Option, Some, None, IfSome, IsTrue, option_map, option_and_then, false}
use Rattle.std.specs.Option.{option_map_or}
use Rattle.std.specs.List.{find}
use Rattle.clap.specs.Words.{Row, Text, first_of}
use Rattle.texts.specs.Words.{decimal_of, short}
use Rattle.dap_live.specs.Orders.{address_of}
use Rattle.live_cli.specs.declared.words.Digits.{Digits}
use Rattle.live_cli.specs.declared.words.Digits.TheVariants.{Abilities, Address, Bytes, Code, Comparing, Kept, Nowhere, Number}
use Rattle.live_cli.specs.declared.words.Misspelt.{Misspelt}
use Rattle.live_cli.specs.declared.words.Role.{Role}
use Rattle.live_cli.specs.declared.words.Role.TheVariants.{Serve, Ask}
use Rattle.live_cli.specs.Words.{code_of, compared_of, has_value, has_versions, max_waiting, syscap_of}

-- what a value says that has to be spelled so
abbrev pub read_of : Digits → Text → Option ℕ
read_of Address = address_of
read_of Number = short
read_of Bytes = decimal_of max_waiting
read_of Code = code_of
read_of Abilities = syscap_of
read_of Comparing = λ text. option_map (λ compared. 0) (compared_of text)
read_of Kept = λ text. None
read_of Nowhere = λ text. None

-- it is the value of its option; where none is allowed, the words give one
abbrev pub IsValue : Digits → List Row → (option text : Text) → Type 0
IsValue Nowhere rows option text = IsTrue (has_value option rows) × IfSome (first_of option rows) (λ value. value ≡ text)
IsValue Kept rows option text = IsTrue (has_value option rows) × IfSome (first_of option rows) (λ value. value ≡ text)
IsValue _ rows option text = IfSome (first_of option rows) (λ value. value ≡ text)

-- it is the value of its option, if that has one, and says nothing
abbrev pub IsMisspelt : List Row → Misspelt → Type 0
IsMisspelt rows m = IsValue m.digits rows m.option.now m.value.now × (read_of m.digits m.value.now ≡ None)

-- there is room for several links
abbrev pub has_several : List Row → Bool
has_several rows = option_map_or (λ links. nat_lt 1 links) (option_and_then short (first_of (codes "links") rows)) false

-- names have versions
abbrev pub are_versions : List Row → Bool
are_versions rows = option_map_or has_versions (option_and_then compared_of (first_of (codes "names") rows)) false

-- the value of an option isn't spelled so, or is there where none is allowed
abbrev pub is_wrong : List Row → Text × Digits → Bool
is_wrong rows (option, Nowhere) = has_several rows && has_value option rows
is_wrong rows (option, Kept) = not (are_versions rows) && has_value option rows
is_wrong rows (option, digits) = is_none (option_and_then (read_of digits) (first_of option rows))

-- the options about links, in the order in which they are looked at
abbrev pub link_spellings : List (Text × Digits)
link_spellings = (codes "links", Number) ∷ (codes "local", Nowhere) ∷ (codes "remote", Nowhere) ∷ []

-- the options about names, in that order: how many versions are kept, and whether it may be said
abbrev pub name_spellings : List (Text × Digits)
name_spellings = (codes "keep", Number) ∷ (codes "names", Comparing) ∷ (codes "keep", Kept) ∷ []

-- the options of the server alone, in that order
abbrev pub own_spellings : Role → List (Text × Digits)
own_spellings Serve = (codes "waiting", Bytes) ∷ (link_spellings ++ name_spellings)
own_spellings Ask = []

-- the options of an end, in that order
abbrev pub spellings : Role → List (Text × Digits)
spellings role =
    (codes "local", Address) ∷ (codes "remote", Address) ∷ (codes "segment", Number) ∷ (codes "window", Number) ∷ (codes "buffer", Number)
    ∷ (codes "ostype", Code) ∷ (codes "filesys", Code) ∷ (codes "syscap", Abilities) ∷ own_spellings role

-- of these options' values, this is the first that is wrong
abbrev pub IsFirstWrong : List (Text × Digits) → List Row → Misspelt → Type 0
IsFirstWrong options rows m = find (is_wrong rows) options ≡ Some (m.option.now, m.digits)

-- none is wrong
abbrev pub AreRight : List (Text × Digits) → List Row → Type 0
AreRight options rows = find (is_wrong rows) options ≡ None
