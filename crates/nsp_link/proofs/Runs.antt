-- One segment more of several.
use Rattle.std.proofs.Common.{◌≡◌, ℕ, ◌≤◌, List, [], ◌∷◌, length, refl, ap, arith, inl, inr}
use Rattle.std.specs.Prelude.{unwrap_or, Option, true, false, Bool}
use Rattle.nsp_link.specs.declared.fault.LinkFault.{LinkFault}
use Rattle.nsp_link.specs.declared.fault.LinkFault.TheVariants.{BadSetup, Malformed, WrongLink, BadSequence, MessageTooLong, Failed, Exhausted, NoSuchSegment, NoMemory}
use Rattle.nsp_link.specs.Cutting.{Piece}
use Rattle.nsp_link.specs.Coming.{Coming, with_taken, with_all_taken, FitsNext, AllFitInOrder, Misfits, MisfitsOne, RefusesAll}
use Rattle.nsp_link.specs.Inner.Pieces.{IsBegun}

-- What was looked at of several segments, and what is left: an end as it would be there.
pub record Looked (limit : ℕ) (start : Coming) (all : List Piece) (len : Option ℕ) (left : List Piece) : Type 0 where
  pub now : Coming
  pub begun : IsBegun len now
  pub fit : AllFitInOrder limit now left → AllFitInOrder limit start all
  pub misfit : (e : LinkFault) → MisfitsOne limit now left e → MisfitsOne limit start all e

-- the first was looked at
pub looked_first : (limit : ℕ) (start : Coming) (p : Piece) (begun : Option ℕ) (left : List Piece) → FitsNext limit start p → IsBegun begun (with_taken start p) → Looked limit start (p ∷ left) begun left
unfolding AllFitInOrder MisfitsOne
looked_first limit start p begun left fits is = record { now = with_taken start p; begun = is; fit = λ rest. (fits, rest); misfit = λ e out. inr (fits, out) }

-- and one more
pub looked_more : (limit : ℕ) (start : Coming) (all : List Piece) (begun after : Option ℕ) (left rest : List Piece) (p : Piece) → left ≡ p ∷ rest
    → ((c : Coming) → IsBegun begun c → FitsNext limit c p × IsBegun after (with_taken c p)) → Looked limit start all begun left → Looked limit start all after rest
unfolding AllFitInOrder MisfitsOne
looked_more limit start all begun after left rest p is check looked =
    let here = check looked.now looked.begun in
    record {
      now = with_taken looked.now p;
      begun = here.1;
      fit = λ more. looked.fit (rw is (here.0, more));
      misfit = λ e out. looked.misfit e (rw is (inr (here.0, out)));
    }

-- all were looked at
pub looked_all : (limit : ℕ) (start : Coming) (all : List Piece) (begun : Option ℕ) (left : List Piece) → left ≡ [] → Looked limit start all begun left → AllFitInOrder limit start all
unfolding AllFitInOrder
looked_all limit start all begun left is looked = looked.fit (rw is tt)

-- one doesn't fit
pub misfits_first : (limit : ℕ) (start : Coming) (p : Piece) (left : List Piece) (e : LinkFault) → Misfits limit start p e → RefusesAll limit start (p ∷ left) e
unfolding MisfitsOne
misfits_first limit start p left BadSequence out = inl out
misfits_first limit start p left MessageTooLong out = inl out
misfits_first limit start p left Exhausted out = absurd out
misfits_first limit start p left NoMemory out = absurd out
misfits_first limit start p left BadSetup out = absurd out
misfits_first limit start p left (Malformed f) out = absurd out
misfits_first limit start p left WrongLink out = absurd out
misfits_first limit start p left Failed out = absurd out
misfits_first limit start p left NoSuchSegment out = absurd out

pub misfits_more : (limit : ℕ) (start : Coming) (all : List Piece) (begun : Option ℕ) (left rest : List Piece) (p : Piece) (e : LinkFault) → left ≡ p ∷ rest
    → ((c : Coming) → IsBegun begun c → Misfits limit c p e) → Looked limit start all begun left → RefusesAll limit start all e
unfolding MisfitsOne
misfits_more limit start all begun left rest p BadSequence is check looked = looked.misfit BadSequence (rw is (inl (check looked.now looked.begun)))
misfits_more limit start all begun left rest p MessageTooLong is check looked = looked.misfit MessageTooLong (rw is (inl (check looked.now looked.begun)))
misfits_more limit start all begun left rest p Exhausted is check looked = absurd (check looked.now looked.begun)
misfits_more limit start all begun left rest p NoMemory is check looked = absurd (check looked.now looked.begun)
misfits_more limit start all begun left rest p BadSetup is check looked = absurd (check looked.now looked.begun)
misfits_more limit start all begun left rest p (Malformed f) is check looked = absurd (check looked.now looked.begun)
misfits_more limit start all begun left rest p WrongLink is check looked = absurd (check looked.now looked.begun)
misfits_more limit start all begun left rest p Failed is check looked = absurd (check looked.now looked.begun)
misfits_more limit start all begun left rest p NoSuchSegment is check looked = absurd (check looked.now looked.begun)

-- those that fit leave no more begun than the limit
pub fit_short : (limit : ℕ) (c : Coming) (ps : List Piece) → AllFitInOrder limit c ps → length (unwrap_or c.partial []) ≤ limit → length (unwrap_or (with_all_taken c ps).partial []) ≤ limit
unfolding AllFitInOrder with_all_taken
fit_short limit c [] fit short = short
fit_short limit c (p ∷ ps) fit short = fit_short limit (with_taken c p) ps fit.1 (one_short c p.first p.last p.payload fit.0)
  where
    one_short : (c : Coming) (first last : Bool) (payload : List ℕ) → let p : Piece = record { first = first; last = last; payload = payload } in FitsNext limit c p → length (unwrap_or (with_taken c p).partial []) ≤ limit
    one_short c first true payload fits = omega arith
    one_short c first false payload fits = fits.1

-- one more is taken
pub taken_more : (c : Coming) (left rest : List Piece) (p : Piece) → left ≡ p ∷ rest → with_all_taken c left ≡ with_all_taken (with_taken c p) rest
unfolding with_all_taken
taken_more c left rest p is = ap (λ (ps : List Piece). with_all_taken c ps) is

-- nothing is left to take
pub none_taken : (c : Coming) (ps : List Piece) → ps ≡ [] → with_all_taken c ps ≡ c
unfolding with_all_taken
none_taken c ps e = rw e refl

-- one alone is taken
pub one_taken : (c : Coming) (p : Piece) (left : List Piece) → length left ≡ 0 → with_all_taken c (p ∷ left) ≡ with_taken c p
unfolding with_all_taken
one_taken c p [] none = refl
one_taken c p (q ∷ left) none = absurd (omega arith)
