-- Reading connect data from left to right, with the first fault that is met.
-- The law `session_is_exact` says that what is read is what `SpellsSession` says.
use Rattle.std.specs.Prelude.{◌≡◌, ℕ, ◌+◌, ◌*◌, ◌/◌, ◌%◌, Bool, true, false, List, [], ◌∷◌, length, take, drop, Option, Some, None, Result, Ok, Err, nat_lt, ◌==◌, if◌then◌else◌}
use Rattle.std.specs.Result.{result_ok}
use Rattle.nsp_session.specs.declared.session.SessionFault.{SessionFault}
use Rattle.nsp_session.specs.declared.session.SessionFault.TheVariants.{Truncated, BadForm, TooLong}
use Rattle.nsp_session.specs.declared.session.EndName.{EndName}
use Rattle.nsp_session.specs.declared.session.EndName.TheVariants.{Number, Named, Grouped}
use Rattle.nsp_session.specs.declared.session.Access.{Access}
use Rattle.nsp_session.specs.declared.session.Session.{Session}
use Rattle.nsp_session.specs.Sessions.{max_name, max_grouped, max_access, max_data}

-- what is read next, unless a fault was met
infixl 10 ◌>>=◌
abbrev pub ◌>>=◌ : {A B : Type 0} → Result A SessionFault → (A → Result B SessionFault) → Result B SessionFault
(Ok x) >>= f = f x
(Err e) >>= f = Err e

-- what a function returned, seen without where it lies in memory, is what reading gives
abbrev pub ReadsSessionAs : {X Y : Type 0} → (X → Y) → Result X SessionFault → Result Y SessionFault → Type 0
ReadsSessionAs view (Ok x) read = read ≡ Ok (view x)
ReadsSessionAs view (Err e) read = read ≡ Err e

-- a byte, and what follows it
abbrev pub read_session_byte : List ℕ → Result (ℕ × List ℕ) SessionFault
read_session_byte [] = Err (Truncated 0)
read_session_byte (x ∷ rest) = Ok (x, rest)

-- a two-byte number, lowest byte first, and what follows it
abbrev pub read_session_word : List ℕ → Result (ℕ × List ℕ) SessionFault
read_session_word [] = Err (Truncated 0)
read_session_word (low ∷ []) = Err (Truncated 1)
read_session_word (low ∷ high ∷ rest) = Ok (low + 256 * high, rest)

-- an image that has at most `most` bytes, and what follows it
unfoldable pub read_image : ℕ → List ℕ → Result (List ℕ × List ℕ) SessionFault
read_image most bytes = do
  n ← read_session_byte bytes
  if nat_lt most n.0 then Err (TooLong (length bytes)) else (if nat_lt (length n.1) n.0 then Err (Truncated (length n.1)) else Ok (take n.0 n.1, drop n.0 n.1))

-- a name after FORMAT 1 and its object's number, and what follows it
unfoldable pub read_named : ℕ → List ℕ → Result (EndName × List ℕ) SessionFault
read_named object bytes = do
  name ← read_image max_name bytes
  Ok (Named (record { object = object; name = name.0 }), name.1)

-- a group, a user and a name after FORMAT 2 and the object's number, and what follows them
unfoldable pub read_grouped : ℕ → List ℕ → Result (EndName × List ℕ) SessionFault
read_grouped object bytes = do
  group ← read_session_word bytes
  user ← read_session_word group.1
  name ← read_image max_grouped user.1
  Ok (Grouped (record { object = object; group = group.0; user = user.0; name = name.0 }), name.1)

-- DSTNAME or SRCNAME, and what follows it
unfoldable pub read_name : List ℕ → Result (EndName × List ℕ) SessionFault
read_name bytes = do
  form ← read_session_byte bytes
  if nat_lt 2 form.0 then Err (BadForm (length bytes)) else (do
    object ← read_session_byte form.1
    if form.0 == 0 then Ok (Number object.0, object.1) else (if form.0 == 1 then read_named object.0 object.1 else read_grouped object.0 object.1))

-- RQSTRID, PASSWRD and ACCOUNT, and what follows them
unfoldable pub read_access : List ℕ → Result (Access × List ℕ) SessionFault
read_access bytes = do
  user ← read_image max_access bytes
  password ← read_image max_access user.1
  account ← read_image max_access password.1
  Ok (record { user = user.0; password = password.0; account = account.0 }, account.1)

-- the same, if MENUVER says that they are there
unfoldable pub read_access_if : Bool → List ℕ → Result (Option Access × List ℕ) SessionFault
read_access_if false bytes = Ok (None, bytes)
read_access_if true bytes = do
  x ← read_access bytes
  Ok (Some x.0, x.1)

-- USRDATA, if MENUVER says that it is there, and what follows it
unfoldable pub read_data_if : Bool → List ℕ → Result (Option (List ℕ) × List ℕ) SessionFault
read_data_if false bytes = Ok (None, bytes)
read_data_if true bytes = do
  x ← read_image max_data bytes
  Ok (Some x.0, x.1)

-- connect data: both names, MENUVER, and what that says is there
unfoldable pub read_session : List ℕ → Result Session SessionFault
read_session bytes = do
  dst ← read_name bytes
  src ← read_name dst.1
  menu ← read_session_byte src.1
  access ← read_access_if (menu.0 % 2 == 1) menu.1
  userdata ← read_data_if (menu.0 / 2 % 2 == 1) access.1
  Ok (record { dst = dst.0; src = src.0; version = menu.0 / 4; access = access.0; user_data = userdata.0; rest = userdata.1 })

-- the connect data that the bytes, all of them, spell, if they spell any
abbrev pub session_in : List ℕ → Option Session
session_in bytes = result_ok (read_session bytes)
