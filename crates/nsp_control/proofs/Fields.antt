-- One field, read and written.
use Rattle.std.proofs.Common.{◌≡◌, ℕ, suc, ◌+◌, ◌*◌, ◌/◌, ◌%◌, ◌<◌, ◌^◌, List, [], ◌∷◌, ◌++◌, get_or, Result, Ok, Err, refl, arith}
use Rattle.std.specs.Int.{byte_at}
use Rattle.byteorder.specs.Endian.{little_bytes}
use Rattle.std.proofs.lemmas.Nat.{from_le_bytes-to_le_bytes_2}
use Rattle.nsp_control.specs.declared.packet.ControlFault.{ControlFault}
use Rattle.nsp_control.specs.Reading.{◌>>=◌, read_control_byte, read_control_word}

abbrev pub IsBytes : List ℕ → Type 0
IsBytes bytes = (i : ℕ) → get_or bytes i 0 < 256

pub word_back : (n : ℕ) → n < 2 ^ 16 → byte_at 0 n + 256 * byte_at 1 n ≡ n
word_back n lt = let e = from_le_bytes-to_le_bytes_2 n lt in omega (arith, e)

low_cell : (low high : ℕ) → low < 256 → high < 256 → (low + 256 * high) % 256 ≡ low
low_cell low high l h = omega arith

high_cell : (low high : ℕ) → low < 256 → high < 256 → (low + 256 * high) / 256 % 256 ≡ high
high_cell low high l h = omega arith

-- what was read is a front of the bytes, and the rest are bytes
pub record Takes (bytes front rest : List ℕ) : Type 0 where
  pub split : bytes ≡ front ++ rest
  pub rest_bytes : IsBytes rest

abbrev Read : Type 0
Read = ℕ × List ℕ

abbrev ok : {A : Type 0} → A → Result A ControlFault
ok x = Ok x

pub ok_same : {A : Type 0} (x y : A) → ok x ≡ ok y → x ≡ y
ok_same x y e = cc

-- a chain is Ok where its first part is, and what follows that
pub bind_ok : {A B : Type 0} (r : Result A ControlFault) (f : A → Result B ControlFault) (y : B) → (r >>= f) ≡ Ok y → (x : A) × (r ≡ Ok x) × (f x ≡ Ok y)
bind_ok (Ok x) f y e = (x, refl, e)
bind_ok (Err d) f y e = absurd cc

pub byte_found : (at : ℕ) (bytes : List ℕ) (x : ℕ × List ℕ) → IsBytes bytes → read_control_byte at bytes ≡ Ok x → Takes bytes (x.0 ∷ []) x.1 × (x.0 < 256)
byte_found at [] x fits e = absurd cc
byte_found at (b ∷ rest) x fits e =
    let same : (b, rest) ≡ x = ok_same (b, rest) x e in
    rw (← same) (record { split = refl; rest_bytes = λ i. fits (suc i) }, fits 0)

pub word_found : (at : ℕ) (bytes : List ℕ) (x : ℕ × List ℕ) → IsBytes bytes → read_control_word at bytes ≡ Ok x → Takes bytes (little_bytes 2 x.0) x.1 × (x.0 < 2 ^ 16)
word_found at [] x fits e = absurd cc
word_found at (a ∷ []) x fits e = absurd cc
word_found at (a ∷ b ∷ rest) x fits e =
    let same : (a + 256 * b, rest) ≡ x = ok_same (a + 256 * b, rest) x e in
    let la : a < 256 = fits 0 in
    let lb : b < 256 = fits 1 in
    rw (← same) (record { split = rw (low_cell a b la lb, high_cell a b la lb) refl; rest_bytes = λ i. fits (suc (suc i)) }, omega arith)
