-- How the command line is built, and what it names.
use Rattle.std.specs.Prelude.{◌≡◌, ◌≤◌, ◌<◌, ◌^◌, [], ◌∷◌, true, false, codes, fold}
use Rattle.clap.specs.declared.builder.command.Command.{Command}
use Rattle.clap.specs.declared.builder.command.Command.TheViews.{out-Command}
use Rattle.clap.specs.Words.{App, Text, app_of, new_app, with_rule}
use Rattle.dap_msg.specs.BothEnds.{max_nsp_message, min_buffer}
use Rattle.nsp_link.specs.Limits.{max_segment, max_window}
use Rattle.live_cli.specs.declared.words.Options.{Options}
use Rattle.file_names.specs.Versions.{max_version}
use Rattle.live_cli.specs.Words.{daplive, max_waiting, min_waiting, max_links, number, option}

-- the command is another with more words, none of them global
pub record Becomes (before : Command) (line : App) (command : Command) : Type 0 where
  pub app : app_of command ≡ line
  pub local : (out-Command before).has_globals ≡ false → (out-Command command).has_globals ≡ false

abbrev pub HasAddresses : Command → (local remote : Text) → Command → Type 0
HasAddresses before local remote =
    Becomes before (with_rule (with_rule (app_of before) (option (codes "local") local)) (option (codes "remote") remote))

abbrev pub HasLimits : Command → Command → Type 0
HasLimits before =
    Becomes before
    (with_rule
    (with_rule
    (with_rule (app_of before) (number (codes "segment") (codes "512") 1 max_segment))
    (number (codes "window") (codes "8") 1 max_window))
    (number (codes "buffer") (codes "1024") min_buffer max_nsp_message))

abbrev pub HasCodes : Command → Command → Type 0
HasCodes before =
    Becomes before
    (with_rule
    (with_rule (app_of before) (number (codes "ostype") (codes "18") 0 255))
    (number (codes "filesys") (codes "13") 0 255))

abbrev pub HasSyscap : Command → Command → Type 0
HasSyscap before = Becomes before (with_rule (app_of before) (option (codes "syscap") (codes "2001c3466")))

abbrev pub HasIdentity : Command → Command → Type 0
HasIdentity before =
    Becomes before
    (with_rule
    (with_rule
    (with_rule (app_of before) (number (codes "ostype") (codes "18") 0 255))
    (number (codes "filesys") (codes "13") 0 255))
    (option (codes "syscap") (codes "2001c3466")))

-- the words after the name of an end, with the digits of its usual addresses
abbrev pub end_line_by : (name own other : Text) → App
end_line_by name own other =
    fold with_rule (new_app name)
    (option (codes "local") own ∷ option (codes "remote") other ∷ number (codes "segment") (codes "512") 1 max_segment
    ∷ number (codes "window") (codes "8") 1 max_window ∷ number (codes "buffer") (codes "1024") min_buffer max_nsp_message
    ∷ number (codes "ostype") (codes "18") 0 255 ∷ number (codes "filesys") (codes "13") 0 255 ∷ option (codes "syscap") (codes "2001c3466") ∷ [])

-- a command with the option that only the server has
abbrev pub HasWaiting : Command → Command → Type 0
HasWaiting before =
    Becomes before (with_rule (app_of before) (number (codes "waiting") (codes "1048576") min_waiting max_waiting))

-- a command with the other option of it
abbrev pub HasLinks : Command → Command → Type 0
HasLinks before = Becomes before (with_rule (app_of before) (number (codes "links") (codes "1") 1 max_links))

-- a command with the third and the fourth option of it
abbrev pub HasNames : Command → Command → Type 0
HasNames before = Becomes before
    (with_rule (with_rule (app_of before) (option (codes "names") (codes "exact"))) (number (codes "keep") (codes "3") 1 max_version))

-- a command that is the command line of an end
pub record IsEndLine (name own other : Text) (command : Command) : Type 0 where
  pub app : app_of command ≡ end_line_by name own other
  pub local : (out-Command command).has_globals ≡ false

-- the words after `serve`
abbrev pub serve_line_by : App
serve_line_by =
    with_rule
    (with_rule
    (with_rule
    (with_rule (end_line_by (codes "serve") (codes "0202") (codes "0101")) (number (codes "waiting") (codes "1048576") min_waiting max_waiting))
    (number (codes "links") (codes "1") 1 max_links))
    (option (codes "names") (codes "exact")))
    (number (codes "keep") (codes "3") 1 max_version)

-- a command that is the command line of the server
pub record IsServeLine (command : Command) : Type 0 where
  pub app : app_of command ≡ serve_line_by
  pub local : (out-Command command).has_globals ≡ false

-- a command that is the program's command line
pub record IsDapliveLine (command : Command) : Type 0 where
  pub app : app_of command ≡ daplive
  pub local : (out-Command command).has_globals ≡ false
  pub required : (out-Command command).subcommand_required ≡ true

-- an end's buffer has room for any message of a fixed length, and its SYSCAP fits into a Configuration
abbrev pub HasBufferRoom : Options → Type 0
HasBufferRoom options = (min_buffer ≤ options.buffer) × (options.syscap < 2 ^ 84)
