-- The digits of `hex` are those of std, and two bytes in hex the four digits of a word.
use Rattle.std.proofs.Common.{w16, ◌≡◌, ◌<◌, ◌/◌, ◌%◌, ◌^◌, ◌&&◌, ◌==◌, ℕ, zero, suc, Bool, true, false, [], ◌∷◌, slice_index, refl, arith, inl, inr}
use Rattle.std.specs.Fmt.{digit_glyph}
use Rattle.std.specs.Int.{byte_at, to_be_bytes}
use Rattle.std.proofs.lemmas.Bool.{and_parts, cases_lt, eqb-true}
use Rattle.hex.specs.Hex.{encode_lower, encode_with, lower_digits}
use Rattle.texts.specs.Text.{word_text}

abbrev is_glyph : ℕ → Bool
is_glyph d = slice_index lower_digits d == digit_glyph false d

abbrev are_glyphs : ℕ → Bool
are_glyphs zero = true
are_glyphs (suc n) = is_glyph n && are_glyphs n

glyph_among : (n d : ℕ) → are_glyphs n ≡ true → d < n → is_glyph d ≡ true
glyph_among zero d all below = absurd (omega arith)
glyph_among (suc n) d all below =
    let parts = and_parts (is_glyph n) (are_glyphs n) all in
    elim (cases_lt d n) [
      | inl less ↦ glyph_among n d parts.1 less
      | inr top ↦
          let same : d ≡ n = omega arith in
          rw same parts.0
    ]

same_glyph : (d : ℕ) → d < 16 → slice_index lower_digits d ≡ digit_glyph false d
same_glyph d below = eqb-true (slice_index lower_digits d) (digit_glyph false d) (glyph_among 16 d refl below)

-- two bytes in hex are the four digits of their word
pub word_written : (n : ℕ) → n < 2 ^ 16 → encode_lower (to_be_bytes w16 n) ≡ word_text n
unfolding encode_with
word_written n small =
    let high : byte_at 1 n ≡ n / 256 = omega arith in
    let below : byte_at 0 n ≡ n % 256 = omega arith in
    let top : n / 256 / 16 ≡ n / 4096 = omega arith in
    let low : n % 256 / 16 ≡ n / 16 % 16 = omega arith in
    let last : n % 256 % 16 ≡ n % 16 = omega arith in
    rw (high, below, top, low, last, same_glyph (n / 4096) (omega arith), same_glyph (n / 256 % 16) (omega arith), same_glyph (n / 16 % 16) (omega arith), same_glyph (n % 16) (omega arith)) refl
