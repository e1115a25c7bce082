-- The command line of `daplive`.
use Rattle.std.specs.Prelude.{ℕ, ◌-◌, ◌^◌, Bool, true, false, not, ◌||◌, ◌&&◌, nat_le, nat_lt, List, [], ◌∷◌, ◌++◌, length, replicate, codes, bytes_eq, fold, if◌then◌else◌, pos, max, slice_get, Option, Some, None, option_map, option_and_then}
use Rattle.std.specs.Fmt.{decimal}
use Rattle.std.specs.Int.{from_be_bytes, w128}
use Rattle.std.specs.Result.{result_ok}
use Rattle.hex.specs.Hex.{decode_sized}
use Rattle.std.specs.Option.{option_map_or}
use Rattle.std.specs.List.{find}
use Rattle.clap.specs.Words.{App, Row, Rule, Text, first_of, new_app, new_rule, subcommand_of, with_rule, with_subcommand}
use Rattle.clap.specs.declared.parser.matches.ValueSource.{ValueSource}
use Rattle.clap.specs.declared.parser.matches.ValueSource.TheVariants.{CommandLine}
use Rattle.linewise.specs.Programs.{new_program}
use Rattle.clap.specs.declared.builder.value_parser.ValueParser.TheVariants as parser
use Rattle.dap_msg.specs.BothEnds.{max_nsp_message, min_buffer}
use Rattle.nsp_link.specs.Limits.{max_segment, max_window}
use Rattle.texts.specs.Text.{word_text}
use Rattle.texts.specs.Words.{decimal_of, short}
use Rattle.dap_live.specs.Orders.{address_of}
use Rattle.file_names.specs.Versions.{max_version}
use Rattle.dap_accessed.specs.declared.setup.Names.{Names}
use Rattle.dap_accessed.specs.declared.setup.Names.TheVariants.{Exact, Folded, Versions}
use Rattle.live_cli.specs.declared.words.Compared.{Compared}
use Rattle.live_cli.specs.declared.words.Compared.TheVariants.{ByBytes, ByFolds, ByVersions}
use Rattle.live_cli.specs.declared.words.Options.{Options}
use Rattle.live_cli.specs.declared.words.Role.{Role}
use Rattle.live_cli.specs.declared.words.Role.TheVariants.{Serve, Ask}

-- how many bytes of answers may wait: at least this
abbrev pub min_waiting : ℕ
min_waiting = 64

-- at most this
abbrev pub max_waiting : ℕ
max_waiting = 1073741824

-- and this where nothing is said
abbrev pub usual_waiting : ℕ
usual_waiting = 1048576

-- what an end says that it can do where nothing is said: what is true of it
abbrev pub usual_syscap : ℕ
usual_syscap = 0x2001c3466

-- how many links a server may have room for
abbrev pub max_links : ℕ
max_links = 1023

-- how many versions of a file are kept, where the words don't say
abbrev pub usual_keep : ℕ
usual_keep = 3

-- the name of an end, and its options by default
abbrev pub usual : Role → Text × Options
usual Serve = (
  codes "serve",
  record {
    role = Serve;
    local = 514;
    remote = 257;
    segment = 512;
    window = 8;
    buffer = 1024;
    ostype = 18;
    filesys = 13;
    syscap = usual_syscap;
    waiting = usual_waiting;
    links = 1;
    names = Exact;
  },
)
usual Ask = (
  codes "ask",
  record {
    role = Ask;
    local = 257;
    remote = 514;
    segment = 512;
    window = 8;
    buffer = 1024;
    ostype = 18;
    filesys = 13;
    syscap = usual_syscap;
    waiting = usual_waiting;
    links = 1;
    names = Exact;
  },
)

-- ---- The command line, in the words of `clap`.

-- an option with a value, and its default
abbrev pub option : Text → (usual : Text) → Rule
option name usual = record (new_rule name) { long = Some name; value_names = 1; defaults = usual ∷ [] }

-- an option whose value is a number of this range
abbrev pub number : Text → (usual : Text) → (least most : ℕ) → Rule
number name usual least most = record (option name usual) { parser = Some (parser.Signed (pos least) (pos most)) }

-- the subcommand of an end, with these options as defaults
abbrev pub end_line : Text × Options → App
end_line (word, o) = fold with_rule (new_app word)
    (option (codes "local") (word_text o.local) ∷ option (codes "remote") (word_text o.remote)
    ∷ number (codes "segment") (decimal o.segment) 1 max_segment ∷ number (codes "window") (decimal o.window) 1 max_window
    ∷ number (codes "buffer") (decimal o.buffer) min_buffer max_nsp_message
    ∷ number (codes "ostype") (decimal o.ostype) 0 255 ∷ number (codes "filesys") (decimal o.filesys) 0 255
    ∷ option (codes "syscap") (codes "2001c3466") ∷ [])

-- the subcommand `serve`, which has four options more
abbrev pub serve_line : App
serve_line =
    with_rule
    (with_rule
    (with_rule
    (with_rule (end_line (usual Serve)) (number (codes "waiting") (decimal usual_waiting) min_waiting max_waiting))
    (number (codes "links") (decimal 1) 1 max_links))
    (option (codes "names") (codes "exact")))
    (number (codes "keep") (decimal usual_keep) 1 max_version)

-- all words: one of two subcommands
abbrev pub daplive : App
daplive = fold with_subcommand (new_program (codes "daplive"))
    (serve_line.top ∷ (end_line (usual Ask)).top ∷ [])

-- ---- What they say.

-- the value of an option is read, and then what follows
abbrev pub value : {X : Type 0} → List Row → (read : Text → Option ℕ) → (name : Text) → (ℕ → Option X) → Option X
value rows read name next = option_and_then next (option_and_then read (first_of name rows))

-- a code of a Configuration, by decimal digits
abbrev pub code_of : Text → Option ℕ
code_of = decimal_of 255

-- a number, if it is a SYSCAP: it has 84 bits
abbrev pub as_syscap : ℕ → Option ℕ
as_syscap n = if nat_lt n (2 ^ 84) then Some n else None

-- a SYSCAP: the number of 1 to 21 hex digits, here with zeros before them to 16 bytes
abbrev pub syscap_of : Text → Option ℕ
syscap_of word =
    if nat_lt 0 (length word) && nat_le (length word) 21
    then option_and_then as_syscap (option_map (from_be_bytes w128) (result_ok (decode_sized (replicate (32 - length word) 48 ++ word) 16)))
    else None

-- how many bytes may wait; `ask` has no such option
abbrev pub waiting_of : Role → List Row → Option ℕ
waiting_of Serve rows = option_and_then (decimal_of max_waiting) (first_of (codes "waiting") rows)
waiting_of Ask rows = Some usual_waiting

-- the value is in the words, and no default
abbrev pub is_word : Option ValueSource → Bool
is_word (Some CommandLine) = true
is_word _ = false

-- the words give an option a value
abbrev pub has_value : Text → List Row → Bool
has_value name rows = option_map_or (λ row. is_word row.source) (find (λ row. bytes_eq row.id name) rows) false

-- the words give the end an address
abbrev pub has_address : List Row → Bool
has_address rows = has_value (codes "local") rows || has_value (codes "remote") rows

-- how names are compared
abbrev pub compared_of : Text → Option Compared
compared_of word =
    if bytes_eq word (codes "exact") then Some ByBytes
    else if bytes_eq word (codes "folded") then Some ByFolds
    else if bytes_eq word (codes "versions") then Some ByVersions
    else None

-- names have versions
abbrev pub has_versions : Compared → Bool
has_versions ByVersions = true
has_versions compared = false

-- names that are compared so, of which this number of versions is kept
abbrev pub names_by : Compared → (keep : ℕ) → Names
names_by ByBytes keep = Exact
names_by ByFolds keep = Folded
names_by ByVersions keep = Versions keep

-- such names; only where they have versions do the words say how many are kept
abbrev pub names_beside : List Row → (keep : ℕ) → Compared → Option Names
names_beside rows keep compared =
    if has_value (codes "keep") rows && not (has_versions compared) then None else Some (names_by compared keep)

-- how the words say that names are compared; `ask` has no such option
abbrev pub names_of : Role → List Row → Option Names
names_of Serve rows =
    option_and_then (λ keep. option_and_then (names_beside rows keep) (option_and_then compared_of (first_of (codes "names") rows)))
    (option_and_then short (first_of (codes "keep") rows))
names_of Ask rows = Some Exact

-- this many links; several have no address of the words
abbrev pub links_beside : List Row → ℕ → Option ℕ
links_beside rows links = if nat_lt 1 links && has_address rows then None else Some links

-- how many links there is room for; `ask` has no such option
abbrev pub links_of : Role → List Row → Option ℕ
links_of Serve rows = option_and_then (links_beside rows) (option_and_then short (first_of (codes "links") rows))
links_of Ask rows = Some 1

-- The options of an end. An address is four hex digits, a number is decimal digits, a buffer has at least 64 bytes, and
-- a SYSCAP is hex digits.
abbrev pub options_of : Role → List Row → Option Options
options_of role rows =
    value rows address_of (codes "local") (λ local.
    value rows address_of (codes "remote") (λ remote.
    value rows short (codes "segment") (λ segment.
    value rows short (codes "window") (λ window.
    value rows short (codes "buffer") (λ buffer.
    value rows code_of (codes "ostype") (λ ostype.
    value rows code_of (codes "filesys") (λ filesys.
    value rows syscap_of (codes "syscap") (λ syscap.
    option_and_then (λ waiting.
    option_and_then (λ links.
    option_and_then (λ names. Some (record {
      role = role;
      local = local;
      remote = remote;
      segment = segment;
      window = window;
      buffer = max min_buffer buffer;
      ostype = ostype;
      filesys = filesys;
      syscap = syscap;
      waiting = waiting;
      links = links;
      names = names;
    })) (names_of role rows)) (links_of role rows)) (waiting_of role rows)))))))))

-- which end a subcommand names, and its options
abbrev pub end_in : Text × List Row → Option Options
end_in p = if bytes_eq p.0 (codes "serve") then options_of Serve p.1 else options_of Ask p.1

-- what the words name, the program's name first, where nothing is at fault in them
abbrev pub end_named : List Text → Option Options
end_named words = option_and_then end_in (subcommand_of daplive words)

-- what is told of a word of captures, which the program `dapcap` lists
abbrev pub hint_of : Text → Option Text
hint_of word =
    if bytes_eq word (codes "follow") then Some (codes "daplive: follow: dapcap lists captures; see dapcap --help\n")
    else if bytes_eq word (codes "watch") then Some (codes "daplive: watch: dapcap lists captures; see dapcap --help\n")
    else if bytes_eq word (codes "frames") then Some (codes "daplive: frames: dapcap lists captures; see dapcap --help\n")
    else None

-- what is told where the word after the program's name is one of these
abbrev pub capture_hint : List Text → Option Text
capture_hint words = option_and_then hint_of (slice_get words 1)
