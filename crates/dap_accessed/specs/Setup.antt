-- What a server is set up with: what it says of itself, how it compares names, the rights that an Access may ask for,
-- and whether it is full: then it does more than a plain one.
use Rattle.std.specs.Prelude.{ℕ, ◌≤◌, ◌==◌, Bool, true, false, not, ◌&&◌, ◌||◌, List, bytes_eq}
use Rattle.file_names.specs.Folds.{fold}
use Rattle.file_names.specs.Versions.{version_number, version_wanted}
use Rattle.file_names.specs.declared.versions.Wanted.TheVariants.{Latest, Version, All, Nothing}
use Rattle.dap_msg.specs.BothEnds.{min_buffer, plain_identity}
use Rattle.dap_msg.specs.Fitting.{FieldsFit}
use Rattle.dap_msg.specs.declared.message.Message.TheVariants.{Config}
use Rattle.rec_file.specs.declared.picks.Rights.{Rights}
use Rattle.dap_accessed.specs.declared.setup.Names.{Names}
use Rattle.dap_accessed.specs.declared.setup.Names.TheVariants.{Exact, Folded, Versions}
use Rattle.dap_accessed.specs.declared.setup.ServerSetup.{ServerSetup}

-- two names are one: byte by byte, by their folds, or by their folds and numbers
abbrev pub same_name : Names → (one other : List ℕ) → Bool
same_name Exact one other = bytes_eq one other
same_name Folded one other = bytes_eq (fold one) (fold other)
same_name (Versions keep) one other = bytes_eq (fold one) (fold other) && version_number one == version_number other

-- a name asks for the latest version, or for number 1
abbrev pub asks_for_one : List ℕ → Bool
asks_for_one name = elim (version_wanted name) [ Latest ↦ true | Version n ↦ n == 1 | All ↦ false | Nothing ↦ false ]

-- every right
abbrev pub all_rights : Rights
all_rights = record { get = true; put = true; upd = true; del = true }

-- a right is asked for that isn't among these
abbrev pub lacks : (most asked : Rights) → Bool
lacks most asked =
    (asked.get && not most.get) || ((asked.put && not most.put) || ((asked.upd && not most.upd) || (asked.del && not most.del)))

-- a server with this BUFSIZ of which nothing else is asked
abbrev pub plain_setup : ℕ → ServerSetup
plain_setup bufsiz = record { identity = plain_identity bufsiz; names = Exact; most = all_rights; full = false }

-- its Configuration has a spelling, and its BUFSIZ is at least the minimum
pub record IsServerSetup (own : ServerSetup) : Type 0 where
  pub fits : FieldsFit (Config own.identity)
  pub least : min_buffer ≤ own.identity.bufsiz
