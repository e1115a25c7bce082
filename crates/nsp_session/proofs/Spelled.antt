-- What is spelled is read so.
use Rattle.std.proofs.Common.{◌≡◌, ℕ, ◌+◌, ◌*◌, ◌/◌, ◌%◌, ◌≤◌, Bool, true, false, List, [], ◌∷◌, ◌++◌, length, Option, Some, None, Result, Ok, refl, sym, ◌∙◌, ap, arith, eqb}
use Rattle.std.specs.Prelude.{IfSome, is_some, if◌then◌else◌}
use Rattle.std.proofs.lemmas.Bool.{eq-eqb, ne_eqb}
use Rattle.nsp_session.specs.declared.session.EndName.{EndName}
use Rattle.nsp_session.specs.declared.session.EndName.TheVariants.{Number, Named, Grouped}
use Rattle.nsp_session.specs.declared.session.Access.{Access}
use Rattle.nsp_session.specs.declared.session.Session.{Session}
use Rattle.nsp_session.specs.declared.session.SessionFault.{SessionFault}
use Rattle.nsp_session.specs.Sessions.{max_name, max_grouped, max_access, max_data, image, name_spelling, NameFits, access_spelling, AccessFits, data_spelling, menu_of, SessionFits, SpellsSession, session_spelling}
use Rattle.nsp_session.specs.Reading.{read_named, read_grouped, read_name, read_access, read_access_if, read_data_if, read_session}
use Rattle.nsp_session.proofs.Fields.{word_back, image_back, ok_same, regroup}

name_back : (n : EndName) (rest : List ℕ) → NameFits n → read_name (name_spelling n ++ rest) ≡ Ok (n, rest)
unfolding read_name read_named read_grouped
name_back (Number object) rest fits = refl
name_back (Named n) rest fits = rw (image_back max_name n.name rest fits.1) refl
name_back (Grouped n) rest fits =
    rw (word_back n.group fits.1, word_back n.user fits.2, image_back max_grouped n.name rest fits.3) refl

images_back : (a : Access) (rest : List ℕ) → AccessFits a → read_access_if true (image a.user ++ (image a.password ++ (image a.account ++ rest))) ≡ Ok (Some a, rest)
unfolding read_access_if read_access
images_back a rest fits =
    rw (
      image_back max_access a.user (image a.password ++ (image a.account ++ rest)) fits.0,
      image_back max_access a.password (image a.account ++ rest) fits.1,
      image_back max_access a.account rest fits.2,
    ) refl

access_back : (o : Option Access) (rest : List ℕ) → IfSome o AccessFits → read_access_if (is_some o) (access_spelling o ++ rest) ≡ Ok (o, rest)
unfolding read_access_if
access_back None rest fits = refl
access_back (Some a) rest fits = ap (read_access_if true) (regroup a.user a.password a.account rest) ∙ images_back a rest fits

data_back : (o : Option (List ℕ)) (rest : List ℕ) → IfSome o (λ d. length d ≤ max_data) → read_data_if (is_some o) (data_spelling o ++ rest) ≡ Ok (o, rest)
unfolding read_data_if
data_back None rest fits = refl
data_back (Some d) rest fits = rw (image_back max_data d rest fits) refl

access_bit : (v : ℕ) (d a : Bool) → eqb ((4 * v + (if d then 2 else 0) + (if a then 1 else 0)) % 2) 1 ≡ a
access_bit v true true = eq-eqb _ _ (omega arith)
access_bit v true false = ne_eqb _ _ (λ e. absurd (omega arith))
access_bit v false true = eq-eqb _ _ (omega arith)
access_bit v false false = ne_eqb _ _ (λ e. absurd (omega arith))

data_bit : (v : ℕ) (d a : Bool) → eqb ((4 * v + (if d then 2 else 0) + (if a then 1 else 0)) / 2 % 2) 1 ≡ d
data_bit v true true = eq-eqb _ _ (omega arith)
data_bit v true false = eq-eqb _ _ (omega arith)
data_bit v false true = ne_eqb _ _ (λ e. absurd (omega arith))
data_bit v false false = ne_eqb _ _ (λ e. absurd (omega arith))

version_part : (v : ℕ) (d a : Bool) → (4 * v + (if d then 2 else 0) + (if a then 1 else 0)) / 4 ≡ v
version_part v true true = omega arith
version_part v true false = omega arith
version_part v false true = omega arith
version_part v false false = omega arith

pub read-spelling : (s : Session) → SessionFits s → read_session (session_spelling s) ≡ Ok s
unfolding read_session
read-spelling s fits =
    let behind_access : List ℕ = data_spelling s.user_data ++ s.rest in
    let behind_menu : List ℕ = access_spelling s.access ++ behind_access in
    let behind_dst : List ℕ = name_spelling s.src ++ (menu_of s ∷ [] ++ behind_menu) in
    let d = is_some s.user_data in
    let a = is_some s.access in
    rw (
      name_back s.dst behind_dst fits.dst,
      name_back s.src (menu_of s ∷ behind_menu) fits.src,
      access_bit s.version d a,
      access_back s.access behind_access fits.access,
      data_bit s.version d a,
      data_back s.user_data s.rest fits.user_data,
      version_part s.version d a,
    ) refl

pub read-spelled : (s : Session) (bytes : List ℕ) → SpellsSession s bytes → read_session bytes ≡ Ok s
read-spelled s bytes k = let same = k.spelled in rw same (read-spelling s k.fits)

pub given-spelled : (r : Result Session SessionFault) (s : Session) (bytes : List ℕ) → r ≡ read_session bytes → SpellsSession s bytes → r ≡ Ok s
given-spelled r s bytes g k = g ∙ read-spelled s bytes k

pub spells-one : (s t : Session) (bytes : List ℕ) → SpellsSession s bytes → SpellsSession t bytes → s ≡ t
spells-one s t bytes a b = ok_same s t (sym (read-spelled s bytes a) ∙ read-spelled t bytes b)

pub spells-written : (s : Session) → SessionFits s → SpellsSession s (session_spelling s)
spells-written s fits = record { fits = fits; spelled = refl }

pub spelling-one : (s t : Session) → SessionFits s → SpellsSession t (session_spelling s) → t ≡ s
spelling-one s t fits k = spells-one t s (session_spelling s) k (spells-written s fits)
