-- Only comments tell of a packet.
use Rattle.std.proofs.Common.{◌≡◌, ◌≤◌, ◌<◌, ◌==◌, ◌&&◌, ℕ, Bool, true, false, List, [], ◌∷◌, length, nat_le, arith, refl, sym, ap, ◌∙◌, Option, Ok, Err, Some, None, is_err, cond}
use Rattle.std.specs.Prelude.{bytes_eq, codes, if◌then◌else◌}
use Rattle.std.specs.List.{onto_first, slice_split}
use Rattle.std.proofs.lemmas.Bool.Decides.{nat_tests}
use Rattle.linewise.specs.Talks.{max_line}
use Rattle.texts.specs.Words.{Words, word, words_of}
use Rattle.dap_listing.specs.Lines.{Capture, Line, line_of}
use Rattle.decnet_frames.specs.Lines.{comment_origin}
use Rattle.decnet_frames.specs.Origins.{PacketOrigin, frame_in, origin_of}
use Rattle.decnet_frames.proofs.BoolLemmas.{by_bool}

-- words of which the first begins with another byte
no_mark : (a : ℕ) (part : List ℕ) (words : Words) → (a == 35) ≡ false → frame_in ((a ∷ part) ∷ words) ≡ None
no_mark a part words is = rw is refl

no_mark_on : (a : ℕ) (words : Words) → (a == 35) ≡ false → frame_in (onto_first a words) ≡ None
no_mark_on a [] is = no_mark a [] [] is
no_mark_on a (part ∷ words) is = no_mark a part words is

no_frame_in : (a : ℕ) (words : Words) (b : Bool) → (a == 35) ≡ false → frame_in (cond b ([] ∷ words) (onto_first a words)) ≡ None
no_frame_in a words true is = refl
no_frame_in a words false is = no_mark_on a words is

other_mark : (a : ℕ) (rest : List ℕ) → (a == 35) ≡ false → origin_of (a ∷ rest) ≡ None
other_mark a rest is = rw (no_frame_in a (words_of rest) (a == 32) is) refl

by_first : (limit a : ℕ) (rest : List ℕ) → (line_of limit (a ∷ rest) ≡ Ok None → ⊥) → origin_of (a ∷ rest) ≡ None
by_first limit a rest says =
    by_bool (a == 35)
    (λ t. absurd (says (rw t refl)))
    (λ f. other_mark a rest f)

-- a line that isn't skipped tells of none
none_told : (limit : ℕ) (line : List ℕ) → (line_of limit line ≡ Ok None → ⊥) → origin_of line ≡ None
none_told limit [] says = refl
none_told limit (a ∷ rest) says = by_first limit a rest says

fits_so : (n : ℕ) → n ≤ max_line → nat_le n max_line ≡ true
fits_so n short = grind (arith, nat_tests)

fits_not : (n : ℕ) → max_line < n → nat_le n max_line ≡ false
fits_not n long = grind (arith, nat_tests)

pub told_short : (line : List ℕ) → length line ≤ max_line → comment_origin line ≡ origin_of line
told_short line short = ap (λ b. if b then origin_of line else None) (fits_so (length line) short)

pub told_long : (line : List ℕ) → max_line < length line → comment_origin line ≡ None
told_long line long = ap (λ b. if b then origin_of line else None) (fits_not (length line) long)

not_skipped : (r : Line) (x : Capture) → r ≡ Ok (Some x) → r ≡ Ok None → ⊥
not_skipped r x says skipped = let wrong : ◌≡◌ {A = Line} (Ok None) (Ok (Some x)) = sym skipped ∙ says in absurd (cc)

not_bad : (r : Line) → is_err r ≡ true → r ≡ Ok None → ⊥
not_bad (Ok o) is skipped = absurd (cc)
not_bad (Err e) is skipped = absurd (cc)

-- the line of a packet tells of none
pub none_by_packet : (limit : ℕ) (line : List ℕ) (x : Capture) → length line ≤ max_line → line_of limit line ≡ Ok (Some x) → comment_origin line ≡ None
none_by_packet limit line x short is = told_short line short ∙ none_told limit line (not_skipped (line_of limit line) x is)

-- nor does a bad line
pub none_by_bad : (limit : ℕ) (line : List ℕ) → length line ≤ max_line → is_err (line_of limit line) ≡ true → comment_origin line ≡ None
none_by_bad limit line short is = told_short line short ∙ none_told limit line (not_bad (line_of limit line) is)
