-- The first wrong value among those of several options, one after the other.
use Rattle.std.proofs.Common.{◌≡◌, ◌++◌, ◌∷◌, [], ℕ, List, Bool, true, false, sym, subst, refl, ap, ◌∙◌}
use Rattle.std.specs.Prelude.{option_map, not, Option, Some, None, Result, Ok, Err, IfErr, IsErrAnd, cond, nat_lt, is_none, option_and_then, ◌&&◌, ◌||◌, if◌then◌else◌}
use Rattle.std.specs.Option.{option_map_or}
use Rattle.std.specs.List.{find}
use Rattle.clap.specs.Words.{Row, Text}
use Rattle.live_cli.specs.Words.{compared_of, has_versions}
use Rattle.live_cli.specs.declared.words.Compared.{Compared}
use Rattle.live_cli.specs.declared.words.Digits.{Digits}
use Rattle.live_cli.specs.declared.words.Misspelt.{Misspelt}
use Rattle.live_cli.specs.declared.words.Role.{Role}
use Rattle.live_cli.specs.declared.words.Role.TheVariants.{Serve}
use Rattle.live_cli.specs.Inner.Spelling.{AreRight, IsFirstWrong, is_wrong, own_spellings}

passed : (b : Bool) (x : Text × Digits) (r s t : Option (Text × Digits)) → cond b (Some x) r ≡ None → (r ≡ None → s ≡ t) → cond b (Some x) s ≡ t
passed true x r s t none rest = absurd cc
passed false x r s t none rest = rest none

stopped : (b : Bool) (x o : Text × Digits) (r s : Option (Text × Digits)) → cond b (Some x) r ≡ Some o → (r ≡ Some o → s ≡ Some o) → cond b (Some x) s ≡ Some o
stopped true x o r s some rest = some
stopped false x o r s some rest = rest some

-- the only option is right, or wrong
pub one_right : {X : Type 0} (read : Text → Option X) (value : Option Text) (x : X) (it : Text × Digits) → Some x ≡ option_and_then read value
    → cond (is_none (option_and_then read value)) (Some it) None ≡ None
one_right read value x it is = rw (sym is) refl

pub one_wrong : {X : Type 0} (read : Text → Option X) (value : Option Text) (it : Text × Digits) → None ≡ option_and_then read value
    → cond (is_none (option_and_then read value)) (Some it) None ≡ Some it
one_wrong read value it is = rw (sym is) refl

-- none of these is wrong, so it is the first of those after them
pub later : (rows : List Row) (xs ys : List (Text × Digits)) (m : Misspelt) → AreRight xs rows → IsFirstWrong ys rows m → IsFirstWrong (xs ++ ys) rows m
later rows [] ys m right wrong = wrong
later rows (x ∷ xs) ys m right wrong =
    passed (is_wrong rows x) x (find (is_wrong rows) xs) (find (is_wrong rows) (xs ++ ys)) (Some (m.option.now, m.digits)) right (λ none. later rows xs ys m none wrong)

-- it is the first of these, so it is that of these and those after them
pub among : (rows : List Row) (xs ys : List (Text × Digits)) (m : Misspelt) → IsFirstWrong xs rows m → IsFirstWrong (xs ++ ys) rows m
among rows [] ys m wrong = absurd cc
among rows (x ∷ xs) ys m wrong =
    stopped (is_wrong rows x) x (m.option.now, m.digits) (find (is_wrong rows) xs) (find (is_wrong rows) (xs ++ ys)) wrong (λ some. among rows xs ys m some)

-- the server has options of its own
pub of_server : (role : Role) (rows : List Row) (m : Misspelt) → role ≡ Serve → IsFirstWrong (own_spellings Serve) rows m → IsFirstWrong (own_spellings role) rows m
of_server role rows m is wrong = subst (λ (r : Role). IsFirstWrong (own_spellings r) rows m) (sym is) wrong

-- what is passed on is what failed
pub passed_on : {T : Type 0} (r : Result T Misspelt) (m : Misspelt) (P : Misspelt → Type 0) → IsErrAnd r (λ x. x ≡ m) → P m → IfErr r P
passed_on (Ok a) m P is holds = absurd is
passed_on (Err x) m P is holds = subst P (sym is) holds

none_of : (s l r : Bool) (b c : Text × Digits) → (s && (l || r)) ≡ false → cond (s && l) (Some b) (cond (s && r) (Some c) None) ≡ None
none_of true true r b c none = absurd cc
none_of true false true b c none = absurd cc
none_of true false false b c none = refl
none_of false l r b c none = refl

-- one link, or no address among the words
pub links_right : (o : Option ℕ) (links : ℕ) (l r : Bool) (a b c : Text × Digits) → Some links ≡ o → (nat_lt 1 links && (l || r)) ≡ false
    → cond (is_none o) (Some a) (cond (option_map_or (λ n. nat_lt 1 n) o false && l) (Some b) (cond (option_map_or (λ n. nat_lt 1 n) o false && r) (Some c) None)) ≡ None
links_right None links l r a b c is none = absurd cc
links_right (Some n) links l r a b c is none =
    let same : links ≡ n = cc in none_of (nat_lt 1 n) l r b c (subst (λ (k : ℕ). (nat_lt 1 k && (l || r)) ≡ false) same none)

first_of_two : (s l r : Bool) (b c : Text × Digits) → s ≡ true → (l || r) ≡ true → cond (s && l) (Some b) (cond (s && r) (Some c) None) ≡ Some (if l then b else c)
first_of_two false l r b c many some = absurd cc
first_of_two true true r b c many some = refl
first_of_two true false true b c many some = refl
first_of_two true false false b c many some = absurd cc

-- several links, and an address among the words: the first one is wrong
pub links_wrong : (o : Option ℕ) (links : ℕ) (l r : Bool) (a b c : Text × Digits) → Some links ≡ o → nat_lt 1 links ≡ true → (l || r) ≡ true
    → cond (is_none o) (Some a) (cond (option_map_or (λ n. nat_lt 1 n) o false && l) (Some b) (cond (option_map_or (λ n. nat_lt 1 n) o false && r) (Some c) None)) ≡ Some (if l then b else c)
links_wrong None links l r a b c is many some = absurd cc
links_wrong (Some n) links l r a b c is many some =
    let same : links ≡ n = cc in first_of_two (nat_lt 1 n) l r b c (subst (λ (k : ℕ). nat_lt 1 k ≡ true) same many) some

-- ---- Names, and how many versions are kept.

-- what a word says, or that it says nothing
abbrev said : Text → Option ℕ
said text = option_map (λ compared. 0) (compared_of text)

is_said : (word : Option Text) (compared : Compared) → Some compared ≡ option_and_then compared_of word → is_none (option_and_then said word) ≡ false
is_said None compared is = absurd cc
is_said (Some text) compared is = let same : compared_of text ≡ Some compared = sym is in rw same refl

is_unsaid : (word : Option Text) → None ≡ option_and_then compared_of word → is_none (option_and_then said word) ≡ true
is_unsaid None is = refl
is_unsaid (Some text) is = let same : compared_of text ≡ None = sym is in rw same refl

-- the value of `keep`, the word of `names`, and whether `keep` is in the words where names have no versions
abbrev faults : (keep : Option ℕ) → (word : Option Text) → (given : Bool) → (a b c : Text × Digits) → Option (Text × Digits)
faults keep word given a b c =
    cond (is_none keep) (Some a) (cond (is_none (option_and_then said word)) (Some b) (cond (not (option_map_or has_versions (option_and_then compared_of word) false) && given) (Some c) None))

by_both : (none unsaid : Bool) (keep : Option ℕ) (word : Option Text) (given : Bool) (a b c : Text × Digits) → is_none keep ≡ none → is_none (option_and_then said word) ≡ unsaid
    → faults keep word given a b c ≡ cond none (Some a) (cond unsaid (Some b) (cond (not (option_map_or has_versions (option_and_then compared_of word) false) && given) (Some c) None))
by_both none unsaid keep word given a b c e f =
    let rest : Option (Text × Digits) = cond (not (option_map_or has_versions (option_and_then compared_of word) false) && given) (Some c) None in
    ap (λ (x : Bool). cond x (Some a) (cond (is_none (option_and_then said word)) (Some b) rest)) e ∙ ap (λ (x : Bool). cond none (Some a) (cond x (Some b) rest)) f

in_vain : (versions given : Bool) → (given && not versions) ≡ (not versions && given)
in_vain true true = refl
in_vain true false = refl
in_vain false true = refl
in_vain false false = refl

kept_by : (word : Option Text) (compared : Compared) (given : Bool) → Some compared ≡ option_and_then compared_of word → (not (option_map_or has_versions (option_and_then compared_of word) false) && given) ≡ (given && not (has_versions compared))
kept_by word compared given is = subst (λ (o : Option Compared). (not (option_map_or has_versions o false) && given) ≡ (given && not (has_versions compared))) is (sym (in_vain (has_versions compared) given))

is_kept : (keep : ℕ) (o : Option ℕ) → Some keep ≡ o → is_none o ≡ false
is_kept keep None is = absurd cc
is_kept keep (Some n) is = refl

pub names_right : (o : Option ℕ) (keep : ℕ) (word : Option Text) (compared : Compared) (given : Bool) (a b c : Text × Digits) → Some keep ≡ o → Some compared ≡ option_and_then compared_of word → (given && not (has_versions compared)) ≡ false → faults o word given a b c ≡ None
names_right o keep word compared given a b c one two none =
    by_both false false o word given a b c (is_kept keep o one) (is_said word compared two)
    ∙ subst (λ (x : Bool). cond x (Some c) None ≡ None) (sym (kept_by word compared given two ∙ none)) refl

pub names_wrong : (o : Option ℕ) (keep : ℕ) (word : Option Text) (given : Bool) (a b c : Text × Digits) → Some keep ≡ o → None ≡ option_and_then compared_of word → faults o word given a b c ≡ Some b
names_wrong o keep word given a b c one two = by_both false true o word given a b c (is_kept keep o one) (is_unsaid word two)

pub keep_wrong : (o : Option ℕ) (keep : ℕ) (word : Option Text) (compared : Compared) (given : Bool) (a b c : Text × Digits) → Some keep ≡ o → Some compared ≡ option_and_then compared_of word → given ≡ true → has_versions compared ≡ false → faults o word given a b c ≡ Some c
keep_wrong o keep word compared given a b c one two some plain =
    by_both false false o word given a b c (is_kept keep o one) (is_said word compared two)
    ∙ subst (λ (x : Bool). cond x (Some c) None ≡ Some c) (sym (kept_by word compared given two ∙ both given (has_versions compared) some plain)) refl
  where
    both : (g v : Bool) → g ≡ true → v ≡ false → (g && not v) ≡ true
    both true false e f = refl
    both true true e f = absurd cc
    both false v e f = absurd cc
