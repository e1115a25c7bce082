-- What session control says in a connect initiate (Session Control 1.0.0, connect data; from memory).
use Rattle.std.specs.Prelude.{◌≡◌, ℕ, ◌+◌, ◌*◌, ◌<◌, ◌≤◌, ◌^◌, List, [], ◌∷◌, ◌++◌, length, Option, Some, None, IfSome, is_some, if◌then◌else◌}
use Rattle.byteorder.specs.Endian.{little_bytes}
use Rattle.nsp_session.specs.declared.session.EndName.{EndName}
use Rattle.nsp_session.specs.declared.session.EndName.TheVariants.{Number, Named, Grouped}
use Rattle.nsp_session.specs.declared.session.Access.{Access}
use Rattle.nsp_session.specs.declared.session.Session.{Session}

-- the most bytes of a name
abbrev pub max_name : ℕ
max_name = 16

-- the most bytes of a name beside a group
abbrev pub max_grouped : ℕ
max_grouped = 12

-- the most bytes of RQSTRID, of PASSWRD and of ACCOUNT
abbrev pub max_access : ℕ
max_access = 39

-- the most bytes of USRDATA
abbrev pub max_data : ℕ
max_data = 16

-- ---- spelling

-- an image: a count byte, and the bytes that it counts
abbrev pub image : List ℕ → List ℕ
image bytes = length bytes ∷ [] ++ bytes

-- DSTNAME or SRCNAME: FORMAT 0 is an object's number; 1 a byte and a name; 2 a byte, a group, a user, and a name. Two-byte
-- numbers stand lowest byte first.
abbrev pub name_spelling : EndName → List ℕ
name_spelling (Number object) = 0 ∷ object ∷ []
name_spelling (Named n) = 1 ∷ n.object ∷ [] ++ image n.name
name_spelling (Grouped n) = 2 ∷ n.object ∷ [] ++ little_bytes 2 n.group ++ little_bytes 2 n.user ++ image n.name

-- RQSTRID, PASSWRD and ACCOUNT
abbrev pub access_spelling : Option Access → List ℕ
access_spelling None = []
access_spelling (Some a) = image a.user ++ image a.password ++ image a.account

-- USRDATA
abbrev pub data_spelling : Option (List ℕ) → List ℕ
data_spelling None = []
data_spelling (Some d) = image d

-- MENUVER: bit 0 says that access control follows, bit 1 that the user's data does
abbrev pub menu_of : Session → ℕ
menu_of s = 4 * s.version + (if is_some s.user_data then 2 else 0) + (if is_some s.access then 1 else 0)

-- the bytes of connect data, in the order of their fields
abbrev pub session_spelling : Session → List ℕ
session_spelling s =
    name_spelling s.dst ++ (name_spelling s.src ++ (menu_of s ∷ []
    ++ (access_spelling s.access ++ (data_spelling s.user_data ++ s.rest))))

-- ---- what fits

-- the values of a name fit their fields
abbrev pub NameFits : EndName → Type 0
NameFits (Number object) = object < 256
NameFits (Named n) = (n.object < 256) × (length n.name ≤ max_name)
NameFits (Grouped n) = (n.object < 256) × (n.group < 2 ^ 16) × (n.user < 2 ^ 16) × (length n.name ≤ max_grouped)

-- RQSTRID, PASSWRD and ACCOUNT are short enough
abbrev pub AccessFits : Access → Type 0
AccessFits a = (length a.user ≤ max_access) × (length a.password ≤ max_access) × (length a.account ≤ max_access)

-- Each value fits its field.
pub record SessionFits (s : Session) : Type 0 where
  pub dst : NameFits s.dst
  pub src : NameFits s.src
  pub version : s.version < 64
  pub access : IfSome s.access AccessFits
  pub user_data : IfSome s.user_data (λ d. length d ≤ max_data)

-- the bytes, all of them, are these connect data
pub record SpellsSession (s : Session) (bytes : List ℕ) : Type 0 where
  pub fits : SessionFits s
  pub spelled : bytes ≡ session_spelling s
