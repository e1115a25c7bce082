-- Which file a name finds, under which name a new file stands, and which one it replaces. With versions a file's name is
-- its fold, `;` and its number (file_names, Versions), so a fold may have several files. The rules are a choice of this
-- implementation, in the manner of VMS. From memory.
use Rattle.std.specs.Prelude.{ℕ, Bool, ◌&&◌, ◌==◌, ◌+◌, nat_le, nat_lt, max, min, if◌then◌else◌, List, [], ◌∷◌, bytes_eq, Option, Some, None, is_some}
use Rattle.std.specs.List.{position, remove}
use Rattle.std.specs.Option.{option_or}
use Rattle.file_names.specs.Folds.{fold}
use Rattle.file_names.specs.Versions.{max_version, version_name, version_number, version_wanted}
use Rattle.file_names.specs.declared.versions.Wanted.TheVariants.{Latest, Version, All, Nothing}
use Rattle.rec_file.specs.Files.{FileVal}
use Rattle.dap_accessed.specs.declared.setup.Names.{Names}
use Rattle.dap_accessed.specs.declared.setup.Names.TheVariants.{Exact, Folded, Versions}
use Rattle.dap_accessed.specs.Setup.{asks_for_one, same_name}
use Rattle.dap_accessed.specs.Standing.{Files}

-- ---- The versions of a fold.

-- two names have one fold
abbrev pub is_alike : (one other : List ℕ) → Bool
is_alike one other = bytes_eq (fold one) (fold other)

-- the highest number of the files with this fold; 0 where there are none
abbrev pub highest_version : List ℕ → Files → ℕ
highest_version name [] = 0
highest_version name (file ∷ files) =
    if is_alike file.0 name then max (version_number file.0) (highest_version name files) else highest_version name files

-- the lowest number of the files with this fold; more than there may be, where there are none
abbrev pub lowest_version : List ℕ → Files → ℕ
lowest_version name [] = max_version + 1
lowest_version name (file ∷ files) =
    if is_alike file.0 name then min (version_number file.0) (lowest_version name files) else lowest_version name files

-- how many files have this fold
abbrev pub version_count : List ℕ → Files → ℕ
version_count name [] = 0
version_count name (file ∷ files) = if is_alike file.0 name then version_count name files + 1 else version_count name files

-- the index of the file with this fold and this number
abbrev pub index_of_version : List ℕ → (number : ℕ) → Files → Option ℕ
index_of_version name number files =
    position (λ (f : List ℕ × FileVal). is_alike f.0 name && version_number f.0 == number) files

-- ---- Which file a name finds.

-- with versions: the highest number of its fold, or the one that is asked for
abbrev pub index_by_version : List ℕ → Files → Option ℕ
index_by_version name files =
    elim (version_wanted name) [
      | Latest ↦ index_of_version name (highest_version name files) files
      | Version n ↦ index_of_version name n files
      | All ↦ None
      | Nothing ↦ None
    ]

-- the index of the file that a name finds, so compared
abbrev pub index_by : Names → List ℕ → Files → Option ℕ
index_by Exact name files = position (λ (f : List ℕ × FileVal). same_name Exact f.0 name) files
index_by Folded name files = position (λ (f : List ℕ × FileVal). same_name Folded f.0 name) files
index_by (Versions keep) name files = index_by_version name files

-- The index of the file that this name lets erase. By folds each file has one version, number 1: a name that asks for
-- another, for all or for none there can be finds nothing. Byte by byte a version is a part of the name.
abbrev pub index_to_erase : Names → List ℕ → Files → Option ℕ
index_to_erase Folded name files = if asks_for_one name then index_by Folded name files else None
index_to_erase names name files = index_by names name files

-- ---- Under which name a new file stands.

-- the number above all of a fold, where there may be such
abbrev pub next_version : List ℕ → Files → Option ℕ
next_version name files =
    let next = highest_version name files + 1 in if nat_le next max_version then Some next else None

-- this number, where no file of the fold has it
abbrev pub free_version : List ℕ → (number : ℕ) → Files → Option ℕ
free_version name number files = if is_some (index_of_version name number files) then None else Some number

-- the number of a version that an Access makes: the one that is asked for, where it is free, else the next
abbrev pub version_made : List ℕ → Files → Option ℕ
version_made name files =
    elim (version_wanted name) [
      | Latest ↦ next_version name files
      | Version n ↦ option_or (free_version name n files) (next_version name files)
      | All ↦ next_version name files
      | Nothing ↦ next_version name files
    ]

-- the number of a version that a server is given: its name has to find it
abbrev pub version_given : List ℕ → Files → Option ℕ
version_given name files =
    elim (version_wanted name) [ Latest ↦ next_version name files | Version n ↦ free_version name n files | All ↦ None | Nothing ↦ None ]

-- 0, for a file without a number, unless a file has its name
abbrev pub unnumbered : (found : Option ℕ) → Option ℕ
unnumbered found = if is_some found then None else Some 0

-- The number of a file that an Access makes; none where it can't be made. With versions it is the next one where there
-- is a file of the number that is asked for; else it is 0, which stands for none, where no file has its name.
abbrev pub number_made : Names → List ℕ → Files → Option ℕ
number_made (Versions keep) name files = version_made name files
number_made names name files = unnumbered (index_by names name files)

-- The number of a file that a server is given; none where there is one of its name, or with versions of the number that
-- is asked for, or no number is.
abbrev pub number_given : Names → List ℕ → Files → Option ℕ
number_given (Versions keep) name files = version_given name files
number_given names name files = unnumbered (index_by names name files)

-- the name of a file with this number: as it was asked for, but with versions
abbrev pub name_with : Names → List ℕ → (number : ℕ) → List ℕ
name_with (Versions keep) name number = version_name name number
name_with names name number = name

-- ---- What a new file replaces.

-- The index of the file that one more of this name replaces: with versions the lowest number of its fold, where as many
-- are there as are kept, and it is lower than that of the new file.
abbrev pub index_to_replace : Names → List ℕ → Files → Option ℕ
index_to_replace (Versions keep) name files =
    elim (number_made (Versions keep) name files) [
      | None ↦ None
      | Some new ↦ if nat_le keep (version_count name files) && nat_lt (lowest_version name files) new
          then index_of_version name (lowest_version name files) files else None
    ]
index_to_replace names name files = None

-- without the file at this index, if there is one
abbrev pub files_without : Option ℕ → Files → Files
files_without None files = files
files_without (Some at) files = remove files at
