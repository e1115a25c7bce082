-- The name of a new file is that of no other.
use Rattle.std.proofs.Common.{◌≡◌, ℕ, ◌+◌, ◌<◌, ◌≤◌, Bool, true, false, List, [], ◌∷◌, Option, Some, None, refl, ap, sym, subst, ◌∙◌, arith, inl, inr}
use Rattle.std.specs.Prelude.{◌&&◌, ◌==◌, IfSome, IsSome, bytes_eq, if◌then◌else◌, is_some, max, nat_le}
use Rattle.std.specs.Option.{option_map_or, option_or}
use Rattle.std.specs.List.{AllByRecursion}
use Rattle.std.proofs.lemmas.Bool.{cases_Bool}
use Rattle.std.proofs.lemmas.Bool.Decides.{nat_tests}
use Rattle.std.proofs.lemmas.Slice.Eq.{bytes_eq-Decides}
use Rattle.file_names.specs.Folds.{fold}
use Rattle.file_names.specs.Versions.{max_version, version_name, version_number, version_wanted}
use Rattle.file_names.specs.declared.versions.Wanted.{Wanted}
use Rattle.file_names.specs.declared.versions.Wanted.TheVariants.{Latest, Version, All, Nothing}
use Rattle.file_names.proofs.ForCallers.{fold_of_version, number_of_version, wanted_within}
use Rattle.rec_file.specs.Files.{FileVal}
use Rattle.dap_accessed.specs.declared.setup.Names.{Names}
use Rattle.dap_accessed.specs.declared.setup.Names.TheVariants.{Exact, Folded, Versions}
use Rattle.dap_accessed.specs.Setup.{same_name}
use Rattle.dap_accessed.specs.Standing.{Files, index_of}
use Rattle.dap_accessed.specs.Naming.{files_without, free_version, highest_version, index_by, index_of_version, is_alike, name_with, next_version, number_given, number_made, unnumbered, version_given, version_made}
use Rattle.dap_accessed.specs.Adding.{MayGive, name_given}
use Rattle.dap_accessed.specs.Apart.{NamesAreApart}
use Rattle.dap_accessed.specs.Sound.{AreFiles}
use Rattle.dap_accessed.proofs.SoundTables.{HasNo, all-without, distinct-without, has-without, none-passes, none-there}
use Rattle.dap_accessed.proofs.Tables.{none_of}

-- ---- A name that isn't one, as a server compares, isn't the same byte by byte.

alike-self : (name : List ℕ) → bytes_eq name name ≡ true
alike-self name = (bytes_eq-Decides name name).1 refl

equal-self : (n : ℕ) → (n == n) ≡ true
equal-self n = grind (arith, nat_tests)

same-self : (names : Names) (name : List ℕ) → same_name names name name ≡ true
same-self Exact name = alike-self name
same-self Folded name = alike-self (fold name)
same-self (Versions keep) name = ap (λ b. b && version_number name == version_number name) (alike-self (fold name)) ∙ equal-self (version_number name)

other-bytes : (names : Names) (one other : List ℕ) → same_name names one other ≡ false → bytes_eq one other ≡ false
other-bytes names one other apart =
    elim (cases_Bool (bytes_eq one other)) [
      | inl same ↦ let is : one ≡ other = (bytes_eq-Decides one other).0 same in
          let alike : same_name names one other ≡ true = ap (same_name names one) (sym is) ∙ same-self names one in absurd cc
      | inr differs ↦ differs
    ]

all-other : (names : Names) (name : List ℕ) (files : Files) → HasNo (same_name names) name files → AllByRecursion (λ f. bytes_eq f.0 name ≡ false) files
all-other names name [] h = tt
all-other names name (f ∷ files) h = (other-bytes names f.0 name h.0, all-other names name files h.1)

pub no-such : (names : Names) (name : List ℕ) (files : Files) → HasNo (same_name names) name files → index_of name files ≡ None
no-such names name files h = none-there (λ (f : List ℕ × FileVal). bytes_eq f.0 name) files (all-other names name files h)

-- ---- The number of a new version is that of no other.

and-false : (a b : Bool) → b ≡ false → (a && b) ≡ false
and-false true b e = e
and-false false b e = refl

less-differs : (a b : ℕ) → a < b → (a == b) ≡ false
less-differs a b h = grind (arith, nat_tests, h)

-- none of the files has this number
abbrev HasNoVersion : List ℕ → ℕ → Files → Type 0
HasNoVersion name n files = AllByRecursion (λ f. (is_alike f.0 name && version_number f.0 == n) ≡ false) files

above-one : (name : List ℕ) (n : ℕ) (f : List ℕ × FileVal) (files : Files) → highest_version name (f ∷ files) < n → (highest_version name files < n → HasNoVersion name n files) → (b : Bool) → is_alike f.0 name ≡ b → HasNoVersion name n (f ∷ files)
above-one name n f files h rest true e =
    let top : highest_version name (f ∷ files) ≡ max (version_number f.0) (highest_version name files) = ap (λ b. if b then max (version_number f.0) (highest_version name files) else highest_version name files) e in
    (and-false (is_alike f.0 name) (version_number f.0 == n) (less-differs (version_number f.0) n (omega (arith, top, h))), rest (omega (arith, top, h)))
above-one name n f files h rest false e =
    let top : highest_version name (f ∷ files) ≡ highest_version name files = ap (λ b. if b then max (version_number f.0) (highest_version name files) else highest_version name files) e in
    (ap (λ b. b && version_number f.0 == n) e, rest (omega (arith, top, h)))

above : (name : List ℕ) (n : ℕ) (files : Files) → highest_version name files < n → HasNoVersion name n files
above name n [] h = tt
above name n (f ∷ files) h = above-one name n f files h (λ low. above name n files low) (is_alike f.0 name) refl

-- a number that there may be, and that no file of the fold has
record IsNew (name : List ℕ) (files : Files) (n : ℕ) : Type 0 where
  pub within : n ≤ max_version
  pub new : HasNoVersion name n files

next-new : (name : List ℕ) (files : Files) (n : ℕ) → next_version name files ≡ Some n → IsNew name files n
next-new name files n e = by (nat_le (highest_version name files + 1) max_version) refl e
  where
    le-is : (a b : ℕ) → nat_le a b ≡ true → a ≤ b
    le-is a b f = grind (arith, nat_tests, f)

    by : (b : Bool) → nat_le (highest_version name files + 1) max_version ≡ b → (if b then Some (highest_version name files + 1) else None) ≡ Some n → IsNew name files n
    by true f g =
        let is : highest_version name files + 1 ≡ n = cc in
        let low = le-is (highest_version name files + 1) max_version f in
        record { within = omega (arith, is, low); new = above name n files (omega (arith, is)) }
    by false f g = absurd cc

free-new : (name : List ℕ) (files : Files) (v n : ℕ) → version_wanted name ≡ Version v → free_version name v files ≡ Some n → IsNew name files n
free-new name files v n w e = by (is_some (index_of_version name v files)) refl e
  where
    by : (b : Bool) → is_some (index_of_version name v files) ≡ b → (if b then None else Some v) ≡ Some n → IsNew name files n
    by true f g = absurd cc
    by false f g =
        let is : v ≡ n = cc in
        let low = wanted_within name v w in
        let none = none-passes (λ (f : List ℕ × FileVal). is_alike f.0 name && version_number f.0 == v) files (none_of (index_of_version name v files) f) in
        record { within = omega (arith, is, low); new = subst (λ m. HasNoVersion name m files) is none }

made-new : (name : List ℕ) (files : Files) (n : ℕ) → version_made name files ≡ Some n → IsNew name files n
made-new name files n e = by (version_wanted name) refl e
  where
    or-next : (v : ℕ) (free : Option ℕ) → version_wanted name ≡ Version v → free_version name v files ≡ free → option_or free (next_version name files) ≡ Some n → IsNew name files n
    or-next v None w f g = next-new name files n g
    or-next v (Some m) w f g = free-new name files v n w (f ∙ g)

    by : (w : Wanted) → version_wanted name ≡ w
        → (elim w as (λ x. Option ℕ) [ Latest ↦ next_version name files | Version v ↦ option_or (free_version name v files) (next_version name files) | All ↦ next_version name files | Nothing ↦ next_version name files ]) ≡ Some n
        → IsNew name files n
    by Latest w g = next-new name files n g
    by (Version v) w g = or-next v (free_version name v files) w refl g
    by All w g = next-new name files n g
    by Nothing w g = next-new name files n g

given-new : (name : List ℕ) (files : Files) (n : ℕ) → version_given name files ≡ Some n → IsNew name files n
given-new name files n e = by (version_wanted name) refl e
  where
    by : (w : Wanted) → version_wanted name ≡ w
        → (elim w as (λ x. Option ℕ) [ Latest ↦ next_version name files | Version v ↦ free_version name v files | All ↦ None | Nothing ↦ None ]) ≡ Some n
        → IsNew name files n
    by Latest w g = next-new name files n g
    by (Version v) w g = free-new name files v n w g
    by All w g = absurd cc
    by Nothing w g = absurd cc

-- ---- The name of a new file.

numbered-apart : (keep : ℕ) (name : List ℕ) (n : ℕ) (files : Files) → n ≤ max_version → HasNoVersion name n files → HasNo (same_name (Versions keep)) (version_name name n) files
numbered-apart keep name n [] le h = tt
numbered-apart keep name n (f ∷ files) le h = (
  ap (λ (x : List ℕ). bytes_eq (fold f.0) x && version_number f.0 == version_number (version_name name n)) (fold_of_version name n le)
      ∙ ap (λ m. is_alike f.0 name && version_number f.0 == m) (number_of_version name n le) ∙ h.0,
  numbered-apart keep name n files le h.1,
)

new-apart : (keep : ℕ) (name : List ℕ) (n : ℕ) (files : Files) → IsNew name files n → HasNo (same_name (Versions keep)) (version_name name n) files
new-apart keep name n files h = numbered-apart keep name n files h.within h.new

un-numbered : (found : Option ℕ) (n : ℕ) → unnumbered found ≡ Some n → found ≡ None
un-numbered None n e = refl
un-numbered (Some at) n e = absurd cc

pub made-apart : (names : Names) (name : List ℕ) (files : Files) (n : ℕ) → number_made names name files ≡ Some n → HasNo (same_name names) (name_with names name n) files
made-apart Exact name files n e = none-passes (λ (f : List ℕ × FileVal). same_name Exact f.0 name) files (un-numbered _ n e)
made-apart Folded name files n e = none-passes (λ (f : List ℕ × FileVal). same_name Folded f.0 name) files (un-numbered _ n e)
made-apart (Versions keep) name files n e = new-apart keep name n files (made-new name files n e)

pub given-apart : (names : Names) (name : List ℕ) (files : Files) (n : ℕ) → number_given names name files ≡ Some n → HasNo (same_name names) (name_with names name n) files
given-apart Exact name files n e = none-passes (λ (f : List ℕ × FileVal). same_name Exact f.0 name) files (un-numbered _ n e)
given-apart Folded name files n e = none-passes (λ (f : List ℕ × FileVal). same_name Folded f.0 name) files (un-numbered _ n e)
given-apart (Versions keep) name files n e = new-apart keep name n files (given-new name files n e)

if-some : {X : Type 0} (P : X → Type 0) (o : Option X) → ((x : X) → o ≡ Some x → P x) → IfSome o P
if-some P None h = tt
if-some P (Some x) h = h x refl

pub made_is_new : (names : Names) (name : List ℕ) (files : Files) → IfSome (number_made names name files) (λ n. index_of (name_with names name n) files ≡ None)
made_is_new names name files = if-some _ (number_made names name files) (λ n e. no-such names (name_with names name n) files (made-apart names name files n e))

pub given_is_new : (names : Names) (name : List ℕ) (files : Files) → IfSome (number_given names name files) (λ n. index_of (name_with names name n) files ≡ None)
given_is_new names name files = if-some _ (number_given names name files) (λ n e. no-such names (name_with names name n) files (given-apart names name files n e))

-- the name under which a file is given, by its number
pub given-name : (names : Names) (name : List ℕ) (files : Files) (n : ℕ) → number_given names name files ≡ Some n → name_given names name files ≡ name_with names name n
given-name names name files n e = ap (λ (o : Option ℕ). option_map_or (name_with names name) o name) e

-- a file may be given under its name
pub name-new : (names : Names) (name : List ℕ) (files : Files) → MayGive names name files → HasNo (same_name names) (name_given names name files) files
name-new names name files may = by (number_given names name files) refl may
  where
    by : (o : Option ℕ) → number_given names name files ≡ o → IsSome o → HasNo (same_name names) (option_map_or (name_with names name) o name) files
    by None e some = let no : ⊥ = cc in absurd no
    by (Some n) e some = given-apart names name files n e

pub given-none : (names : Names) (name : List ℕ) (files : Files) → MayGive names name files → index_of (name_given names name files) files ≡ None
given-none names name files may = no-such names (name_given names name files) files (name-new names name files may)

-- ---- Without the file that is replaced.

pub left-apart : (names : Names) (name : List ℕ) (replaced : Option ℕ) (files : Files) → HasNo (same_name names) name files → HasNo (same_name names) name (files_without replaced files)
left-apart names name None files h = h
left-apart names name (Some at) files h = has-without (same_name names) name files at h

pub left-distinct : (names : Names) (replaced : Option ℕ) (files : Files) → NamesAreApart names files → NamesAreApart names (files_without replaced files)
left-distinct names None files h = h
left-distinct names (Some at) files h = distinct-without (same_name names) files at h

pub left-files : (replaced : Option ℕ) (files : Files) → AreFiles files → AreFiles (files_without replaced files)
left-files None files h = h
left-files (Some at) files h = record { files = all-without files at h.files; distinct = distinct-without bytes_eq files at h.distinct }

-- ---- Without versions.

pub plain-made : (names : Names) (name : List ℕ) (files : Files) → ((keep : ℕ) → names ≡ Versions keep → ⊥) → unnumbered (index_by names name files) ≡ number_made names name files
plain-made Exact name files plain = refl
plain-made Folded name files plain = refl
plain-made (Versions keep) name files plain = absurd (plain keep refl)

pub plain-given : (names : Names) (name : List ℕ) (files : Files) → ((keep : ℕ) → names ≡ Versions keep → ⊥) → unnumbered (index_by names name files) ≡ number_given names name files
plain-given Exact name files plain = refl
plain-given Folded name files plain = refl
plain-given (Versions keep) name files plain = absurd (plain keep refl)
