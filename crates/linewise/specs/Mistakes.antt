-- What is wrong with the words of a command line, by the errors of `clap`.
use Rattle.std.specs.Prelude.{◌≢◌, []}
use Rattle.clap.specs.Kinds.{IsAmong, Kinds}
use Rattle.clap.specs.declared.error.kind.ErrorKind.{ErrorKind}
use Rattle.clap.specs.declared.error.kind.ErrorKind.TheVariants.{DisplayHelp, DisplayVersion}

-- a mistake, and no request for help or for the version
abbrev pub IsMistake : ErrorKind → Type 0
IsMistake kind = (kind ≢ DisplayHelp) × (kind ≢ DisplayVersion)

-- something is at fault in the words, and whichever of these errors `clap` reports, it is a mistake
abbrev pub AreMistakes : Kinds → Type 0
AreMistakes kinds = (kinds ≢ []) × ((kind : ErrorKind) → IsAmong kind kinds → IsMistake kind)
