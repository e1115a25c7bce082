-- Where a line ends, and what of it is kept.
use Rattle.std.proofs.Common.{◌≡◌, ◌≢◌, ◌<◌, ◌+◌, ◌-◌, ◌++◌, ℕ, true, List, [], All, length, take, length-append, arith, refl, sym, ap, ◌∙◌, eqb, eq-eqb, subst, Option, Some, None, IfSome}
use Rattle.std.proofs.lemmas.List.{get_or-take, length-take-le}
use Rattle.std.proofs.lemmas.List.Elements.{All-from_get_or}
use Rattle.memchr.specs.Find.{IsFirstByte, is_byte}
use Rattle.std.specs.Io.KnownBytes.{IsAtEnd}
use Rattle.std.specs.Io.BufRead.{first_line, drop_through}
use Rattle.std.proofs.BufReadLemmas.{take_through-nil, take_through_nonempty}
use Rattle.linewise.specs.declared.reading.Kept.{Kept}
use Rattle.linewise.specs.declared.reading.Kept.TheVariants.{All as whole, TooLong, NoMemory}
use Rattle.linewise.specs.declared.reading.Line.{Line}
use Rattle.linewise.specs.Inner.Kept.{HoldsLine, HoldsAs, HasReadLine, without_end}

is_it : (x : ℕ) → x ≡ 10 → eqb x 10 ≡ true
is_it x same = eq-eqb x 10 same

-- no byte before the first line feed is one
pub none_before : (bytes : List ℕ) (index : ℕ) → IsFirstByte (is_byte 10) bytes (Some index) → All (λ byte. byte ≢ 10) (take (index + 1 - 1) bytes)
none_before bytes index first =
    All-from_get_or (λ byte. byte ≢ 10) (take (index + 1 - 1) bytes) 0 (λ i inside same.
    let within : i < index = omega (arith, inside, length-take-le (index + 1 - 1) bytes (omega (arith, first.0.high))) in
    first.0.before i (omega arith) within (is_it _ (sym (get_or-take (index + 1 - 1) bytes i 0 (omega (arith, within))) ∙ same)))

-- nor one of all, where there is none
pub none_at_all : (bytes : List ℕ) → IsFirstByte (is_byte 10) bytes None → All (λ byte. byte ≢ 10) (take (length bytes - 1) bytes)
none_at_all bytes nowhere =
    All-from_get_or (λ byte. byte ≢ 10) (take (length bytes - 1) bytes) 0 (λ i inside same.
    let within : i < length bytes - 1 = omega (arith, inside, length-take-le (length bytes - 1) bytes (omega arith)) in
    nowhere i (omega arith) (omega (arith, within)) (is_it _ (sym (get_or-take (length bytes - 1) bytes i 0 within) ∙ same)))

-- more of a line
pub longer : (kept : Kept) (bytes read more : List ℕ) → kept ≢ whole → HoldsAs kept bytes read → HoldsAs kept bytes (read ++ more)
longer whole bytes read more other holds = absurd (other refl)
longer TooLong bytes read more other holds = (omega (arith, holds.0, length-append read more), holds.1)
longer NoMemory bytes read more other holds = omega (arith, holds, length-append read more)

-- no line was read: there was none
pub over : (unread left : Option (List ℕ)) (line : Line) → HasReadLine unread left line → ((read : List ℕ) → HoldsLine line read → read ≡ []) → IsAtEnd unread
over None left line came nothing = tt
over (Some rest) left line came nothing = take_through-nil 10 rest (ap length (sym came.2 ∙ nothing came.0 came.1))

-- what holds of the line that was read holds of the first one
pub of_first : (unread left : Option (List ℕ)) (line : Line) (P : List ℕ → Type 0) → HasReadLine unread left line
    → ((read : List ℕ) → HoldsLine line read → 0 < length read) → ((read : List ℕ) → HoldsLine line read → P (without_end read))
    → IfSome unread (λ rest. (0 < length rest) × (left ≡ Some (drop_through 10 rest)) × P (first_line rest))
of_first None left line P came some says = tt
of_first (Some rest) left line P came some says =
    (take_through_nonempty 10 rest (rw came.2 at (some came.0 came.1)), came.3, subst (λ read. P (without_end read)) came.2 (says came.0 came.1))
