-- One field, read.
use Rattle.std.proofs.Common.{◌≡◌, ℕ, suc, ◌+◌, ◌*◌, ◌/◌, ◌%◌, ◌<◌, ◌≤◌, ◌^◌, Bool, true, false, List, [], ◌∷◌, ◌++◌, length, append_assoc, take, drop, get_or, Result, Ok, Err, refl, sym, ◌∙◌, ap, arith}
use Rattle.std.specs.Prelude.{nat_lt, if◌then◌else◌}
use Rattle.std.specs.Int.{byte_at}
use Rattle.byteorder.specs.Endian.{little_bytes}
use Rattle.std.proofs.lemmas.Nat.{from_le_bytes-to_le_bytes_2}
use Rattle.std.proofs.lemmas.Bool.{ltb-false, le-ltb}
use Rattle.nsp_session.specs.declared.session.SessionFault.{SessionFault}
use Rattle.nsp_session.specs.Sessions.{image}
use Rattle.nsp_session.specs.Reading.{◌>>=◌, read_session_byte, read_session_word, read_image}

abbrev pub IsBytes : List ℕ → Type 0
IsBytes bytes = (i : ℕ) → get_or bytes i 0 < 256

pub word_back : (n : ℕ) → n < 2 ^ 16 → byte_at 0 n + 256 * byte_at 1 n ≡ n
word_back n lt = let e = from_le_bytes-to_le_bytes_2 n lt in omega (arith, e)

low_cell : (low high : ℕ) → low < 256 → high < 256 → (low + 256 * high) % 256 ≡ low
low_cell low high l h = omega arith

high_cell : (low high : ℕ) → low < 256 → high < 256 → (low + 256 * high) / 256 % 256 ≡ high
high_cell low high l h = omega arith

-- what was read is a front of the bytes, and the rest are bytes
pub record Takes (bytes front rest : List ℕ) : Type 0 where
  pub split : bytes ≡ front ++ rest
  pub rest_bytes : IsBytes rest

abbrev ok : {A : Type 0} → A → Result A SessionFault
ok x = Ok x

pub ok_same : {A : Type 0} (x y : A) → ok x ≡ ok y → x ≡ y
ok_same x y e = cc

-- a chain is Ok where its first part is, and what follows that
pub bind_ok : {A B : Type 0} (r : Result A SessionFault) (f : A → Result B SessionFault) (y : B) → (r >>= f) ≡ Ok y → (x : A) × (r ≡ Ok x) × (f x ≡ Ok y)
bind_ok (Ok x) f y e = (x, refl, e)
bind_ok (Err d) f y e = absurd cc

-- what is behind a refusal
pub guard_ok : {A : Type 0} (b : Bool) (d : SessionFault) (r : Result A SessionFault) (y : A) → (if b then Err d else r) ≡ Ok y → (b ≡ false) × (r ≡ Ok y)
guard_ok true d r y e = absurd cc
guard_ok false d r y e = (refl, e)

pub byte_found : (bytes : List ℕ) (x : ℕ × List ℕ) → IsBytes bytes → read_session_byte bytes ≡ Ok x → Takes bytes (x.0 ∷ []) x.1 × (x.0 < 256)
byte_found [] x fits e = absurd cc
byte_found (b ∷ rest) x fits e =
    let same : (b, rest) ≡ x = ok_same (b, rest) x e in
    rw (← same) (record { split = refl; rest_bytes = λ i. fits (suc i) }, fits 0)

pub word_found : (bytes : List ℕ) (x : ℕ × List ℕ) → IsBytes bytes → read_session_word bytes ≡ Ok x → Takes bytes (little_bytes 2 x.0) x.1 × (x.0 < 2 ^ 16)
word_found [] x fits e = absurd cc
word_found (a ∷ []) x fits e = absurd cc
word_found (a ∷ b ∷ rest) x fits e =
    let same : (a + 256 * b, rest) ≡ x = ok_same (a + 256 * b, rest) x e in
    let la : a < 256 = fits 0 in
    let lb : b < 256 = fits 1 in
    rw (← same) (record { split = rw (low_cell a b la lb, high_cell a b la lb) refl; rest_bytes = λ i. fits (suc (suc i)) }, omega arith)

-- bytes behind some are bytes
bytes_behind : (n : ℕ) (bytes : List ℕ) → IsBytes bytes → IsBytes (drop n bytes)
bytes_behind ℕ.zero bytes fits = fits
bytes_behind (suc n) [] fits = fits
bytes_behind (suc n) (x ∷ bytes) fits = bytes_behind n bytes (λ i. fits (suc i))

pub cut : (n : ℕ) (bytes : List ℕ) → n ≤ length bytes → (length (take n bytes) ≡ n) × (take n bytes ++ drop n bytes ≡ bytes)
cut ℕ.zero bytes le = (refl, refl)
cut (suc n) [] le = absurd (omega arith)
cut (suc n) (x ∷ bytes) le =
    let rest = cut n bytes (omega arith) in
    (ap suc rest.0, ap (λ r. x ∷ r) rest.1)

joined_image : (bytes rest front back : List ℕ) (n : ℕ) → bytes ≡ n ∷ [] ++ rest → length front ≡ n → front ++ back ≡ rest → bytes ≡ image front ++ back
joined_image bytes rest front back n p len is = p ∙ ap (λ r. n ∷ r) (sym is) ∙ ap (λ k. k ∷ (front ++ back)) (sym len)

pub image_found : (most : ℕ) (bytes : List ℕ) (x : List ℕ × List ℕ) → IsBytes bytes → read_image most bytes ≡ Ok x → Takes bytes (image x.0) x.1 × (length x.0 ≤ most)
unfolding read_image
image_found most bytes x fits e =
    let n = bind_ok (read_session_byte bytes) _ x e in
    let nf = byte_found bytes n.0 fits n.1 in
    let a = guard_ok (nat_lt most n.0.0) _ _ x n.2 in
    let b = guard_ok (nat_lt (length n.0.1) n.0.0) _ _ x a.1 in
    let few : n.0.0 ≤ most = ltb-false most n.0.0 a.0 in
    let room : n.0.0 ≤ length n.0.1 = ltb-false (length n.0.1) n.0.0 b.0 in
    let c = cut n.0.0 n.0.1 room in
    let same : (take n.0.0 n.0.1, drop n.0.0 n.0.1) ≡ x = ok_same (take n.0.0 n.0.1, drop n.0.0 n.0.1) x b.1 in
    let len = c.0 in
    rw (← same) (
      record {
        split = joined_image bytes n.0.1 (take n.0.0 n.0.1) (drop n.0.0 n.0.1) n.0.0 nf.0.split c.0 c.1;
        rest_bytes = bytes_behind n.0.0 n.0.1 nf.0.rest_bytes;
      },
      omega (arith, len, few),
    )

-- ---- the way back

cut_back : (front back : List ℕ) → (take (length front) (front ++ back) ≡ front) × (drop (length front) (front ++ back) ≡ back)
cut_back [] back = (refl, refl)
cut_back (x ∷ front) back = let r = cut_back front back in (ap (λ k. x ∷ k) r.0, r.1)

long_enough : (front back : List ℕ) → length front ≤ length (front ++ back)
long_enough [] back = omega arith
long_enough (x ∷ front) back = let r = long_enough front back in omega arith

pub image_back : (most : ℕ) (front back : List ℕ) → length front ≤ most → read_image most (image front ++ back) ≡ Ok (front, back)
unfolding read_image
image_back most front back le =
    let c = cut_back front back in
    let room = long_enough front back in
    rw (le-ltb most (length front) le, le-ltb (length (front ++ back)) (length front) room, c.0, c.1) refl

pub regroup : (a b c rest : List ℕ) → (image a ++ image b ++ image c) ++ rest ≡ image a ++ (image b ++ (image c ++ rest))
regroup a b c rest = append_assoc (image a ++ image b) (image c) rest ∙ append_assoc (image a) (image b) (image c ++ rest)
