-- What a word says of the rights of a link.
use Rattle.std.specs.Prelude.{ℕ, true, false, not, ◌&&◌, ◌==◌, List, [], ◌∷◌, codes, bytes_eq, if◌then◌else◌, Option, Some, None}
use Rattle.std.specs.Option.{option_and_then, option_map, option_or}
use Rattle.std.specs.List.{slice_split}
use Rattle.rec_file.specs.declared.picks.Rights.{Rights}
use Rattle.dap_accessed.specs.Accesses.{rights_of}
use Rattle.texts.specs.Words.{decimal_of}

-- no right
abbrev pub no_rights : Rights
no_rights = record { get = false; put = false; upd = false; del = false }

-- these rights and the one that a word names, which isn't among them yet
abbrev pub with_right : Rights → List ℕ → Option Rights
with_right rights word =
    if bytes_eq word (codes "get") && not rights.get then Some (record rights { get = true })
    else if bytes_eq word (codes "put") && not rights.put then Some (record rights { put = true })
    else if bytes_eq word (codes "upd") && not rights.upd then Some (record rights { upd = true })
    else if bytes_eq word (codes "del") && not rights.del then Some (record rights { del = true })
    else None

-- these rights and those that words name, none twice
abbrev pub with_rights : Rights → List (List ℕ) → Option Rights
with_rights rights [] = Some rights
with_rights rights (word ∷ words) = option_and_then (λ more. with_rights more words) (with_right rights word)

-- the words of a list, with commas between them
abbrev pub comma_separated : List ℕ → List (List ℕ)
comma_separated list = slice_split (λ byte. byte == 44) list

-- rights by their names, none twice, with commas between them; or `-` for none
abbrev pub named_rights : List ℕ → Option Rights
named_rights word = if bytes_eq word (codes "-") then Some no_rights else with_rights no_rights (comma_separated word)

-- RIGHTS: names of rights, or a number, the bits of a FAC
abbrev pub rights_by : List ℕ → Option Rights
rights_by word = option_or (named_rights word) (option_map rights_of (decimal_of 15 word))
