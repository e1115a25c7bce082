-- The number in an image.
use Rattle.std.proofs.Common.{◌≡◌, ℕ, ◌+◌, ◌*◌, ◌^◌, ◌<◌, List, [], ◌∷◌, length, refl, sym, ap, ◌∙◌, arith, lit<}
use Rattle.std.proofs.Math.Nat.{pow-succ'}
use Rattle.byteorder.specs.Endian.{little_from}
use Rattle.byteorder.specs.Numbers.{little_from-cons}
use Rattle.dap_fields.specs.Spelling.{AreBytes, number_of}
use Rattle.dap_fields.proofs.Readers.{AreBytes-rest}

pub number_is : (bytes : List ℕ) → number_of bytes ≡ little_from 0 (length bytes) bytes
number_is [] = refl
number_is (b ∷ bytes) = ap (λ (n : ℕ). b + 256 * n) (number_is bytes ∙ sym (little_from-cons 0 (length bytes) b bytes))

pub number_below : (bytes : List ℕ) → AreBytes bytes → number_of bytes < 256 ^ length bytes
number_below [] fits = lit< tt
number_below (b ∷ bytes) fits = omega (arith, fits 0, number_below bytes (AreBytes-rest b bytes fits), pow-succ' 256 (length bytes))
