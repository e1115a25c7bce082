-- What lines of both live ends say of a link.
use Rattle.std.specs.Prelude.{ℕ, List, [], ◌∷◌, Option, Some, None, option_map, unwrap_or}
use Rattle.std.specs.Int.{from_be_bytes, w16}
use Rattle.std.specs.Result.{result_ok}
use Rattle.hex.specs.Hex.{decode_sized}
use Rattle.nsp_link.specs.declared.link.LinkSetup.{LinkSetup}
use Rattle.rec_file.specs.declared.picks.Rights.{Rights}
use Rattle.texts.specs.Words.{Words, ends, field, hex_of, long, one_of}
use Rattle.dap_live.specs.declared.orders.Between.{Between}
use Rattle.dap_live.specs.Rights.{rights_by}

-- HEX, and nothing more
abbrev pub hex_alone : Words → Option (List ℕ)
hex_alone = field hex_of ends

-- a link address: the number of four hex digits
abbrev pub address_of : List ℕ → Option ℕ
address_of word = option_map (from_be_bytes w16) (result_ok (decode_sized word 2))

-- a link begins between these addresses, with this segment size and these rights where they are named
abbrev pub between_order : (local remote : ℕ) → Option ℕ → Option Rights → Between
between_order local remote segment rights = record { local = local; remote = remote; segment = segment; rights = rights }

-- nothing, or RIGHTS
abbrev pub rights_from : (local remote segment : ℕ) → Words → Option Between
rights_from local remote segment = one_of (
    ends (between_order local remote (Some segment) None)
    ∷ field rights_by (λ rights. ends (between_order local remote (Some segment) (Some rights)))
    ∷ [])

-- nothing, or SEGMENT, and RIGHTS or not
abbrev pub limits_from : (local remote : ℕ) → Words → Option Between
limits_from local remote = one_of (
    ends (between_order local remote None None)
    ∷ field long (rights_from local remote)
    ∷ [])

-- LOCAL REMOTE, and what follows
abbrev pub between_of : Words → Option Between
between_of = field address_of (λ local. field address_of (limits_from local))

-- nothing, or LOCAL REMOTE and what follows
abbrev pub anew_of : Words → Option (Option Between)
anew_of [] = Some None
anew_of (word ∷ words) = option_map Some (between_of (word ∷ words))

-- ---- What a link has then.

-- the setup of a link that begins so: what isn't named is as in this one
abbrev pub setup_beside : LinkSetup → Between → LinkSetup
setup_beside setup b = record setup { local = b.local; remote = b.remote; seg_size = unwrap_or b.segment setup.seg_size }

-- the setup of a link that begins so, or as it was where nothing is named
abbrev pub setup_anew : LinkSetup → Option Between → LinkSetup
setup_anew setup None = setup
setup_anew setup (Some b) = setup_beside setup b

-- the rights of a link that begins so: these where none are named
abbrev pub most_beside : Rights → Between → Rights
most_beside most b = unwrap_or b.rights most

-- the rights of a link that begins so, or as it was where nothing is named
abbrev pub most_anew : Rights → Option Between → Rights
most_anew most None = most
most_anew most (Some b) = most_beside most b
