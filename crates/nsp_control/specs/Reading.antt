-- Reading a packet from left to right, with the first fault that is met.
-- The law `control_is_exact` says that what is read is what `SpellsControl` says.
use Rattle.std.specs.Prelude.{◌≡◌, ℕ, ◌+◌, ◌*◌, Bool, true, false, List, [], ◌∷◌, Result, Ok, Err, ◌==◌, if◌then◌else◌, Option}
use Rattle.std.specs.Result.{result_ok}
use Rattle.nsp_control.specs.declared.packet.Control.{Control}
use Rattle.nsp_control.specs.declared.packet.Control.TheVariants.{Connect, Confirm, Disconnect, DisconnectConfirm, ConnectAck}
use Rattle.nsp_control.specs.declared.packet.ControlFault.{ControlFault}
use Rattle.nsp_control.specs.declared.packet.ControlFault.TheVariants.{Truncated, Trailing, NotHere, BadAddress}

-- what is read next, unless a fault was met
infixl 10 ◌>>=◌
abbrev pub ◌>>=◌ : {A B : Type 0} → Result A ControlFault → (A → Result B ControlFault) → Result B ControlFault
(Ok x) >>= f = f x
(Err e) >>= f = Err e

-- what a function returned, seen without where it lies in memory, is what reading gives
abbrev pub ReadsControlAs : {X Y : Type 0} → (X → Y) → Result X ControlFault → Result Y ControlFault → Type 0
ReadsControlAs view (Ok x) read = read ≡ Ok (view x)
ReadsControlAs view (Err e) read = read ≡ Err e

-- the byte at this offset, and what follows it
abbrev pub read_control_byte : ℕ → List ℕ → Result (ℕ × List ℕ) ControlFault
read_control_byte at [] = Err (Truncated at)
read_control_byte at (x ∷ rest) = Ok (x, rest)

-- the two-byte number at this offset, and what follows it
abbrev pub read_control_word : ℕ → List ℕ → Result (ℕ × List ℕ) ControlFault
read_control_word at [] = Err (Truncated at)
read_control_word at (low ∷ []) = Err (Truncated at)
read_control_word at (low ∷ high ∷ rest) = Ok (low + 256 * high, rest)

-- an address that has to be 0
unfoldable pub read_zero : ℕ → List ℕ → Result (ℕ × List ℕ) ControlFault
read_zero at bytes = do
  x ← read_control_word at bytes
  if x.0 == 0 then Ok x else Err (BadAddress at)

-- an address that may not be 0
unfoldable pub read_address : ℕ → List ℕ → Result (ℕ × List ℕ) ControlFault
read_address at bytes = do
  x ← read_control_word at bytes
  if x.0 == 0 then Err (BadAddress at) else Ok x

-- SERVICES, INFO and SEGSIZE, which begin at offset 5, and what follows them
unfoldable pub read_sizes : List ℕ → Result (ℕ × ℕ × ℕ × List ℕ) ControlFault
read_sizes bytes = do
  services ← read_control_byte 5 bytes
  info ← read_control_byte 6 services.1
  size ← read_control_word 7 info.1
  Ok (services.0, info.0, size.0, size.1)

-- a connect initiate after its MSGFLG, which says whether it was sent before
unfoldable pub read_connect : Bool → List ℕ → Result Control ControlFault
read_connect again bytes = do
  zero ← read_zero 1 bytes
  src ← read_address 3 zero.1
  sizes ← read_sizes src.1
  Ok (Connect (record { again = again; src = src.0; services = sizes.0; info = sizes.1; seg_size = sizes.2; body = sizes.3 }))

-- a connect confirm after its MSGFLG
unfoldable pub read_confirm : List ℕ → Result Control ControlFault
read_confirm bytes = do
  dst ← read_address 1 bytes
  src ← read_address 3 dst.1
  sizes ← read_sizes src.1
  Ok (Confirm (record { dst = dst.0; src = src.0; services = sizes.0; info = sizes.1; seg_size = sizes.2; body = sizes.3 }))

-- both addresses and the reason of a disconnect, and what follows them
unfoldable pub read_reason : List ℕ → Result (ℕ × ℕ × ℕ × List ℕ) ControlFault
read_reason bytes = do
  dst ← read_control_word 1 bytes
  src ← read_control_word 3 dst.1
  reason ← read_control_word 5 src.1
  Ok (dst.0, src.0, reason.0, reason.1)

-- a disconnect initiate after its MSGFLG
unfoldable pub read_disconnect : List ℕ → Result Control ControlFault
read_disconnect bytes = do
  x ← read_reason bytes
  Ok (Disconnect (record { dst = x.0; src = x.1; reason = x.2; body = x.3 }))

-- the packet, where nothing follows up to this offset
abbrev pub at_end : ℕ → List ℕ → Control → Result Control ControlFault
at_end at [] p = Ok p
at_end at (x ∷ rest) p = Err (Trailing at)

-- a disconnect confirm after its MSGFLG
unfoldable pub read_disconnect_confirm : List ℕ → Result Control ControlFault
read_disconnect_confirm bytes = do
  x ← read_reason bytes
  at_end 7 x.3 (DisconnectConfirm (record { dst = x.0; src = x.1; reason = x.2 }))

-- a connect acknowledgement after its MSGFLG
unfoldable pub read_connect_ack : List ℕ → Result Control ControlFault
read_connect_ack bytes = do
  dst ← read_control_word 1 bytes
  at_end 3 dst.1 (ConnectAck dst.0)

-- a packet that sets up or closes a link
unfoldable pub read_control : List ℕ → Result Control ControlFault
read_control [] = Err (Truncated 0)
read_control (flag ∷ rest) =
    if flag == 0x18 then read_connect false rest else
    (if flag == 0x68 then read_connect true rest else
    (if flag == 0x28 then read_confirm rest else
    (if flag == 0x38 then read_disconnect rest else
    (if flag == 0x48 then read_disconnect_confirm rest else
    (if flag == 0x24 then read_connect_ack rest else Err (NotHere flag))))))

-- the packet that the bytes, all of them, spell, if they spell one
abbrev pub control_in : List ℕ → Option Control
control_in bytes = result_ok (read_control bytes)
