-- What the words of a command line say, read one by one.
use Rattle.std.specs.Prelude.{◌≡◌, ℕ, ◌==◌, ◌&&◌, nat_lt, Bool, true, false, List, [], ◌∷◌, codes, bytes_eq, slice_index, length, if◌then◌else◌, Option, Some, None, is_some, Result, Ok, Err}
use Rattle.std.specs.Option.{option_map, option_or}
use Rattle.decnet_frames.specs.declared.ways.Between.{Between}
use Rattle.decnet_frames.specs.declared.ways.Between.TheVariants.{All, Two}
use Rattle.decnet_frames.specs.Nodes.{node_of}
use Rattle.cap_cli.specs.declared.words.Awaits.{Awaits}
use Rattle.cap_cli.specs.declared.words.Awaits.TheVariants.{Any, First, Other}
use Rattle.cap_cli.specs.declared.words.Given.{Given}
use Rattle.cap_cli.specs.declared.words.Mistake.{Mistake}
use Rattle.cap_cli.specs.declared.words.Options.{Options}
use Rattle.cap_cli.specs.declared.words.Task.{Task}
use Rattle.cap_cli.specs.declared.words.What.{What}
use Rattle.cap_cli.specs.declared.words.What.TheVariants.{GivenTwice, NoSuchWord, NotWithLines, TwoNodes}
use Rattle.cap_cli.specs.declared.words.Wish.{Wish}
use Rattle.cap_cli.specs.declared.words.Wish.TheVariants.{Help, Listing, Version}

-- a word
abbrev pub Text : Type 0
Text = List ℕ

-- ---- Words, read one by one.

-- a word, and what is wrong with it
abbrev pub WrongWord : Type 0
WrongWord = Text × What

-- what the words so far say
pub record Said : Type 0 where
  pub options : Options
  pub file : Option Text
  -- the first word that doesn't go with `--lines`
  pub unfit : Option Text
  -- whether the next word is any, or one of the nodes after `--between`
  pub awaits : Awaits

-- before the first word
abbrev pub nothing_said : Said
nothing_said = record {
  options = record { bare = false; segments = false; lines = false; strict = false; between = All };
  file = None;
  unfit = None;
  awaits = Any;
}

-- a word that may come once, and came, or not
abbrev pub once : Bool → Text → Said → Result Said WrongWord
once came word said = if came then Err (word, GivenTwice) else Ok said

-- `--bare` or `--segments`, which may come once, and not with `--lines`
abbrev pub without_lines : Bool → Text → Said → Options → Result Said WrongWord
without_lines came word said options =
    if came then Err (word, GivenTwice)
    else if said.options.lines then Err (word, NotWithLines)
    else Ok (record said { options = options; unfit = option_or said.unfit (Some word) })

-- `--lines`, which comes with no word that doesn't go with it
abbrev pub with_lines : Option Text → Text → Said → Result Said WrongWord
with_lines (Some unfit) word said = Err (unfit, NotWithLines)
with_lines None word said = once said.options.lines word (record said { options = record said.options { lines = true } })

-- whether two nodes are named
abbrev pub are_named : Between → Bool
are_named All = false
are_named (Two ends) = true

-- an option begins with `-`, and has more after it
abbrev pub is_option : Text → Bool
is_option word = nat_lt 1 (length word) && (slice_index word 0 == 45)

-- any word
abbrev pub any_word : Said → Text → Result Said WrongWord
any_word said word =
    if bytes_eq word (codes "--bare") then without_lines said.options.bare word said (record said.options { bare = true })
    else if bytes_eq word (codes "--segments") then without_lines said.options.segments word said (record said.options { segments = true })
    else if bytes_eq word (codes "--lines") then with_lines said.unfit word said
    else if bytes_eq word (codes "--strict") then once said.options.strict word (record said { options = record said.options { strict = true } })
    else if bytes_eq word (codes "--between") then once (are_named said.options.between) word (record said { awaits = First })
    else if is_option word then Err (word, NoSuchWord)
    else once (is_some said.file) word (record said { file = Some word })

-- what is wrong with the words after `--between`
abbrev pub no_nodes : WrongWord
no_nodes = (codes "--between", TwoNodes)

-- the first node
abbrev pub first_node : Said → Option ℕ → Result Said WrongWord
first_node said None = Err no_nodes
first_node said (Some node) = Ok (record said { awaits = Other node })

-- the second, which is another
abbrev pub other_node : Said → ℕ → Option ℕ → Result Said WrongWord
other_node said first None = Err no_nodes
other_node said first (Some node) =
    if node == first then Err no_nodes
    else Ok (record said { options = record said.options { between = Two (record { first = first; other = node }) }; awaits = Any })

-- a word after what was said
abbrev pub word_after : Awaits → Said → Text → Result Said WrongWord
word_after Any said word = any_word said word
word_after First said word = first_node said (node_of word)
word_after (Other first) said word = other_node said first (node_of word)

-- what is said is read on
abbrev pub said_next : (Said → Result Said WrongWord) → Result Said WrongWord → Result Said WrongWord
said_next next (Ok said) = next said
said_next next (Err wrong) = Err wrong

-- the last word isn't `--between`, nor the first node after it
abbrev pub said_at_end : Awaits → Said → Result Said WrongWord
said_at_end Any said = Ok said
said_at_end First said = Err no_nodes
said_at_end (Other first) said = Err no_nodes

-- and all words after it
abbrev pub said_to_end : Said → List Text → Result Said WrongWord
said_to_end said [] = said_at_end said.awaits said
said_to_end said (word ∷ words) = said_next (λ more. said_to_end more words) (word_after said.awaits said word)

-- all of them, without the program's name
abbrev pub all_said : List Text → Result Said WrongWord
all_said words = said_to_end nothing_said words

-- ---- What is wished.

-- an input that is to be listed: how, and which file
pub record WantedListing : Type 0 where
  pub options : Options
  pub file : Option Text

-- help, the version, or a listing
pub data Wished : Type 0 where
  helped : Wished
  versioned : Wished
  wished_listing : WantedListing → Wished

-- what is wished by what the words say
abbrev pub wished_by : Result Said WrongWord → Result Wished WrongWord
wished_by (Ok said) = Ok (wished_listing (record { options = said.options; file = said.file }))
wished_by (Err wrong) = Err wrong

-- what the words of a listing say
abbrev pub listing_of : List Text → Result Wished WrongWord
listing_of words = wished_by (all_said words)

-- `--help` and `--version` stand alone
abbrev pub alone : Text → Option Wished
alone word =
    if bytes_eq word (codes "--help") then Some helped
    else if bytes_eq word (codes "--version") then Some versioned
    else None

-- this wish, or what the words of a listing say
abbrev pub wish_or : Option Wished → List Text → Result Wished WrongWord
wish_or (Some wish) words = Ok wish
wish_or None words = listing_of words

-- what the words say
abbrev pub wish_of : List Text → Result Wished WrongWord
wish_of (word ∷ []) = wish_or (alone word) (word ∷ [])
wish_of words = listing_of words

-- ---- The program's own values.

-- what the words so far say
abbrev pub said_by : Given → Said
said_by g = record {
  options = g.options;
  file = option_map (λ word. word.now) g.file;
  unfit = option_map (λ word. word.now) g.unfit;
  awaits = g.awaits;
}

-- a mistake
abbrev pub wrong_by : Mistake → WrongWord
wrong_by m = (m.word.now, m.what)

-- a task
abbrev pub wanted_by : Task → WantedListing
wanted_by t = record { options = t.options; file = option_map (λ word. word.now) t.file }

-- a wish
abbrev pub wished : Wish → Wished
wished Help = helped
wished Version = versioned
wished (Listing task) = wished_listing (wanted_by task)

-- what a function returned is what the words say
abbrev pub SaysAs : Result Given Mistake → Result Said WrongWord → Type 0
SaysAs (Ok given) said = said ≡ Ok (said_by given)
SaysAs (Err mistake) said = said ≡ Err (wrong_by mistake)

-- the wish that a function returned is that of the words
abbrev pub WishesSo : Result Wish Mistake → Result Wished WrongWord → Type 0
WishesSo (Ok wish) read = read ≡ Ok (wished wish)
WishesSo (Err mistake) read = read ≡ Err (wrong_by mistake)
