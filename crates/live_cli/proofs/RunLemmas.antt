-- What the program's command line makes of words, and what holds where a reader's bytes are known.
use Rattle.std.proofs.Common.{◌≡◌, ◌∙◌, refl, inr, ap, sym, subst, ℕ, List, [], ◌∷◌, Bool, true, false, codes, Ok, Err}
use Rattle.std.specs.Prelude.{Option, Some, None, IfSome, IsErrAnd, Result, bytes_eq, fold, if◌then◌else◌, option_map}
use Rattle.std.specs.Fmt.{digits}
use Rattle.std.specs.Io.KnownBytes.{Keeps}
use Rattle.std.proofs.lemmas.Slice.Eq.{bytes_eq-Decides}
use Rattle.hex.specs.Hex.{decode_pairs}
use Rattle.clap.specs.Words.{App, FailsBy, HasKind, HasMatchesOf, Kinds, Row, Text, app_of, fault_of, is_simple, is_simple_and_free}
use Rattle.clap.specs.Words.{subcommand_name_of, subcommand_of, subcommand_rows_of, with_subcommand}
use Rattle.clap.specs.declared.builder.command.Command.{Command}
use Rattle.clap.specs.declared.error.Error.{Error}
use Rattle.clap.specs.declared.error.kind.ErrorKind.TheVariants.{DisplayHelp, InvalidSubcommand, UnknownArgument}
use Rattle.clap.specs.declared.parser.matches.ArgMatches.{ArgMatches}
use Rattle.clap.specs.declared.parser.matches.ArgMatches.TheViews.{out-ArgMatches}
use Rattle.linewise.specs.Programs.{new_program}
use Rattle.clap.proofs.OnLiterals.{clap_on_literals}
use Rattle.live_cli.specs.declared.words.Role.{Role}
use Rattle.live_cli.specs.declared.words.Role.TheVariants.{Serve, Ask}
use Rattle.live_cli.specs.declared.words.Options.{Options}
use Rattle.linewise.specs.declared.fault.CaptureFault.TheVariants.{NoMemory}
use Rattle.linewise.specs.Gives.{TellsFault}
use Rattle.linewise.specs.Output.{WritesFront}
use Rattle.live_cli.specs.Running.{EndGives}
use Rattle.live_cli.specs.Words.{capture_hint, daplive, end_named, usual}
use Rattle.live_cli.specs.Inner.CommandLine.{end_line_by, serve_line_by}

pub some_from : {X : Type 0} {P Q : X → Type 0} (o : Option X) → IfSome o P → ((x : X) → P x → Q x) → IfSome o Q
some_from None holds next = tt
some_from (Some x) holds next = next x holds

-- the command line, with the digits of what is usual
pub daplive_by : daplive ≡ fold with_subcommand (new_program (codes "daplive"))
    (serve_line_by.top ∷ (end_line_by (codes "ask") (codes "0101") (codes "0202")).top ∷ [])
unfolding digits
daplive_by = refl

pub is_simple_line : is_simple daplive ≡ true
unfolding clap_on_literals digits
is_simple_line = refl

pub is_free_line : is_simple_and_free daplive ≡ true
unfolding clap_on_literals digits
is_free_line = refl

-- what two functions give of one thing
pub both_mapped : {B : Type 0} (o : Option B) (f : B → Text) (g : B → List Row) (name : Text) (rows : List Row)
    → Some name ≡ option_map f o → Some rows ≡ option_map (λ (p : Text × List Row). p.1) (option_map {U = Text × List Row} (λ b. (f b, g b)) o)
    → option_map {U = Text × List Row} (λ b. (f b, g b)) o ≡ Some (name, rows)
both_mapped None f g name rows named rowed = cc
both_mapped (Some b) f g name rows named rowed = cc

-- the subcommand of the words, by the name and the rows that were found
pub subcommand_is : (command : Command) (m : ArgMatches) (words : List Text) (name : Text) (rows : List Row) → app_of command ≡ daplive
    → HasMatchesOf (app_of command) words m → Some name ≡ subcommand_name_of m
    → Some rows ≡ option_map (λ (p : Text × List Row). p.1) (subcommand_rows_of m) → subcommand_of daplive words ≡ Some (name, rows)
subcommand_is command m words name rows app has named rowed =
    let same = (has (ap is_simple app ∙ is_simple_line)).1 in
    ap (λ (a : App). subcommand_of a words) (sym app) ∙ sym same
    ∙ both_mapped (out-ArgMatches m).subcommand _ _ name rows named rowed

-- a failure has the kind of the error that is passed on
pub fails_with : {T : Type 0} (r : Result T Error) (kinds : Kinds) (e : Error) → IsErrAnd r (λ x. x ≡ e) → HasKind kinds e → FailsBy kinds r
fails_with (Ok a) kinds e is has = absurd is
fails_with (Err x) kinds e is has = subst (HasKind kinds) (sym is) has

-- on the word of an end alone
pub no_fault : (program : Text) (role : Role) → fault_of daplive (program ∷ (usual role).0 ∷ []) ≡ []
unfolding clap_on_literals digits
no_fault program Serve = refl
no_fault program Ask = refl

pub names_usual : (program : Text) (role : Role) → end_named (program ∷ (usual role).0 ∷ []) ≡ Some (usual role).1
unfolding clap_on_literals decode_pairs digits
names_usual program Serve = refl
names_usual program Ask = refl

-- out of memory, of whatever input
pub refused : (o : Options) (known left old new told tells : Option (List ℕ)) (status : ℕ) → (status ≡ 3) × Keeps old new × TellsFault NoMemory told tells
    → IfSome known (λ input. EndGives o input left old new told tells status)
refused o None left old new told tells status memory = tt
refused o (Some input) left old new told tells status memory = inr (memory.1, memory.0, memory.2)

-- two ends that the words name are one
pub one_end : (words : List Text) (a b : Options) → Some a ≡ end_named words → end_named words ≡ Some b → a ≡ b
one_end words a b first second = let same : Some a ≡ Some b = first ∙ second in cc

pub none_named : (words : List Text) (o : Options) → None ≡ end_named words → end_named words ≡ Some o → ⊥
none_named words o none some = let no : None ≡ Some o = none ∙ some in cc

-- what `clap` says of a word that is no subcommand
abbrev pub stray_words : Kinds
stray_words = UnknownArgument ∷ InvalidSubcommand ∷ []

-- it says so of the words of captures, whatever follows
follow_is_stray : (program : Text) (rest : List Text) → fault_of daplive (program ∷ codes "follow" ∷ rest) ≡ stray_words
unfolding clap_on_literals digits
follow_is_stray program rest = refl

watch_is_stray : (program : Text) (rest : List Text) → fault_of daplive (program ∷ codes "watch" ∷ rest) ≡ stray_words
unfolding clap_on_literals digits
watch_is_stray program rest = refl

frames_is_stray : (program : Text) (rest : List Text) → fault_of daplive (program ∷ codes "frames" ∷ rest) ≡ stray_words
unfolding clap_on_literals digits
frames_is_stray program rest = refl

named_so : (program word name : Text) (rest : List Text) → bytes_eq word name ≡ true → fault_of daplive (program ∷ name ∷ rest) ≡ stray_words
    → fault_of daplive (program ∷ word ∷ rest) ≡ stray_words
named_so program word name rest is stray = rw ((bytes_eq-Decides word name).0 is) stray

by_frames : (program word : Text) (rest : List Text) (hint : Text) (is_frames : Bool) → bytes_eq word (codes "frames") ≡ is_frames
    → (if is_frames then Some (codes "daplive: frames: dapcap lists captures; see dapcap --help\n") else None) ≡ Some hint
    → fault_of daplive (program ∷ word ∷ rest) ≡ stray_words
by_frames program word rest hint true is told = named_so program word (codes "frames") rest is (frames_is_stray program rest)
by_frames program word rest hint false is told = absurd cc

by_watch : (program word : Text) (rest : List Text) (hint : Text) (is_watch : Bool) → bytes_eq word (codes "watch") ≡ is_watch
    → (if is_watch then Some (codes "daplive: watch: dapcap lists captures; see dapcap --help\n")
    else if bytes_eq word (codes "frames") then Some (codes "daplive: frames: dapcap lists captures; see dapcap --help\n") else None) ≡ Some hint
    → fault_of daplive (program ∷ word ∷ rest) ≡ stray_words
by_watch program word rest hint true is told = named_so program word (codes "watch") rest is (watch_is_stray program rest)
by_watch program word rest hint false is told = by_frames program word rest hint (bytes_eq word (codes "frames")) refl told

by_follow : (program word : Text) (rest : List Text) (hint : Text) (is_follow : Bool) → bytes_eq word (codes "follow") ≡ is_follow
    → (if is_follow then Some (codes "daplive: follow: dapcap lists captures; see dapcap --help\n")
    else if bytes_eq word (codes "watch") then Some (codes "daplive: watch: dapcap lists captures; see dapcap --help\n")
    else if bytes_eq word (codes "frames") then Some (codes "daplive: frames: dapcap lists captures; see dapcap --help\n") else None) ≡ Some hint
    → fault_of daplive (program ∷ word ∷ rest) ≡ stray_words
by_follow program word rest hint true is told = named_so program word (codes "follow") rest is (follow_is_stray program rest)
by_follow program word rest hint false is told = by_watch program word rest hint (bytes_eq word (codes "watch")) refl told

pub hint_is_stray : (words : List Text) (hint : Text) → capture_hint words ≡ Some hint → fault_of daplive words ≡ stray_words
hint_is_stray [] hint told = absurd cc
hint_is_stray (program ∷ []) hint told = absurd cc
hint_is_stray (program ∷ word ∷ rest) hint told = by_follow program word rest hint (bytes_eq word (codes "follow")) refl told

-- so the words have a fault, and it is no request for help
pub is_some_fault : (words : List Text) (hint : Text) → Some hint ≡ capture_hint words → fault_of daplive words ≡ [] → ⊥
is_some_fault words hint told none = let no : stray_words ≡ [] = sym (hint_is_stray words hint (sym told)) ∙ none in cc

pub is_no_help : (words : List Text) (hint : Text) → Some hint ≡ capture_hint words → fault_of daplive words ≡ DisplayHelp ∷ [] → ⊥
is_no_help words hint told help = let no : stray_words ≡ DisplayHelp ∷ [] = sym (hint_is_stray words hint (sym told)) ∙ help in cc

-- nor are they the word of an end alone
no_hint : (program : Text) (role : Role) → capture_hint (program ∷ (usual role).0 ∷ []) ≡ None
no_hint program Serve = refl
no_hint program Ask = refl

pub is_no_end : (words : List Text) (program : Text) (role : Role) (hint : Text) → Some hint ≡ capture_hint words → words ≡ program ∷ (usual role).0 ∷ [] → ⊥
is_no_end words program role hint told named = let no : Some hint ≡ None = told ∙ ap capture_hint named ∙ no_hint program role in cc

-- the hint that is told is the one of the words
pub hinted_once : (words : List Text) (a b : Text) (told tells : Option (List ℕ)) → Some a ≡ capture_hint words → capture_hint words ≡ Some b
    → WritesFront told tells a → WritesFront told tells b
hinted_once words a b told tells first second front =
    let same : Some a ≡ Some b = first ∙ second in
    let equal : a ≡ b = cc in
    subst (λ (t : Text). WritesFront told tells t) equal front

-- known bytes are kept by what doesn't write
pub untouched : (known : Option (List ℕ)) → Keeps known known
untouched None = tt
untouched (Some bytes) = refl
