-- A map from names to files, seen as a file table.
use Rattle.std.proofs.Common.{◌≡◌, ℕ, zero, suc, ◌+◌, ◌<◌, Bool, true, false, not, cond, ◌++◌, List, [], ◌∷◌, length, map, Option, Some, None, refl, ap, sym, subst, ◌∙◌, arith}
use Rattle.std.specs.Prelude.{is_some, nat_lt, slice_get}
use Rattle.std.specs.List.{position, prefix_len, remove}
use Rattle.std.specs.Map.{keys_of, values_of, lookup}
use Rattle.indexmap.proofs.MapLemmas.{some_index}
use Rattle.std.proofs.lemmas.List.{length-map}
use Rattle.std.specs.Prelude.{Result, IsOk, MatchBool}
use Rattle.indexmap.specs.IndexMap.{set_value_at}
use Rattle.rec_file.specs.declared.refusals.Refusal.{Refusal}
use Rattle.rec_file.specs.Acts.{Operation, StreamVal, Acts, Outcome, act, is_no_memory, IsOutcome}
use Rattle.rec_file.specs.Files.{FileVal}
use Rattle.dap_accessed.specs.Standing.{Files, file_at, name_at, with_file}

-- where two tests answer alike at every element of two lists of one length, the first that passes has one index
prefix_len-alike : {X Y Z : Type 0} (f : X → Y) (g : X → Z) (p : Y → Bool) (q : Z → Bool) → ((x : X) → p (f x) ≡ q (g x))
    → (xs : List X) → prefix_len (λ y. not (p y)) (map f xs) ≡ prefix_len (λ z. not (q z)) (map g xs)
prefix_len-alike f g p q alike [] = refl
prefix_len-alike f g p q alike (x ∷ xs) =
    ap (λ (b : Bool). cond (not b) (1 + prefix_len (λ y. not (p y)) (map f xs)) 0) (alike x)
    ∙ ap (λ (n : ℕ). cond (not (q (g x))) (1 + n) 0) (prefix_len-alike f g p q alike xs)

pub position-alike : {X Y Z : Type 0} (f : X → Y) (g : X → Z) (p : Y → Bool) (q : Z → Bool) → ((x : X) → p (f x) ≡ q (g x))
    → (xs : List X) → position p (map f xs) ≡ position q (map g xs)
position-alike f g p q alike xs =
    let found : ℕ → ℕ → Option ℕ = λ n m. cond (nat_lt n m) (Some n) None in
    ap (λ (n : ℕ). found n (length (map f xs))) (prefix_len-alike f g p q alike xs)
    ∙ ap (λ (m : ℕ). found (prefix_len (λ z. not (q z)) (map g xs)) m) (length-map xs f ∙ sym (length-map xs g))

pub map-last : {X Y : Type 0} (f : X → Y) (xs : List X) (x : X) → map f (xs ++ x ∷ []) ≡ map f xs ++ f x ∷ []
map-last {Y = Y} f [] x = refl
map-last {Y = Y} f (y ∷ xs) x = ap (λ (l : List Y). f y ∷ l) (map-last f xs x)

pub none_of : {X : Type 0} (o : Option X) → is_some o ≡ false → o ≡ None
none_of None none = refl
none_of (Some x) none = let no : ⊥ = cc in absurd no

-- where no key passes, none is found
pub absent : {K V : Type 0} (test : K → Bool) (es : List (K × V)) → position test (keys_of es) ≡ None → lookup test es ≡ None
absent test es none = none_of (lookup test es) (sym (some_index test es) ∙ ap is_some none)

module _ {K V : Type 0} (name : K → List ℕ) (file : V → FileVal) where
  abbrev pub view : K × V → List ℕ × FileVal
  view e = (name e.0, file e.1)

  pub file_at-map : (es : List (K × V)) (i : ℕ) (v : V) → slice_get (values_of es) i ≡ Some v → file_at i (map view es) ≡ file v
  file_at-map [] i v at = let no : ⊥ = cc in absurd no
  file_at-map (e ∷ es) zero v at = let is : e.1 ≡ v = cc in ap file is
  file_at-map (e ∷ es) (suc i) v at = file_at-map es i v at

  pub name_at-map : (es : List (K × V)) (i : ℕ) (k : K) (v : V) → slice_get es i ≡ Some (k, v) → name_at i (map view es) ≡ name k
  name_at-map [] i k v at = let no : ⊥ = cc in absurd no
  name_at-map (e ∷ es) zero k v at = let is : e ≡ (k, v) = cc in ap (λ (x : K × V). name x.0) is
  name_at-map (e ∷ es) (suc i) k v at = name_at-map es i k v at

  pub with_file-map : (es : List (K × V)) (i : ℕ) (w : V) → map view (set_value_at es i w) ≡ with_file i (file w) (map view es)
  with_file-map [] i w = refl
  with_file-map (e ∷ es) zero w = refl
  with_file-map (e ∷ es) (suc i) w = ap (λ (l : Files). view e ∷ l) (with_file-map es i w)

  pub without-map : (es : List (K × V)) (i : ℕ) → map view (remove es i) ≡ remove (map view es) i
  without-map [] zero = refl
  without-map [] (suc i) = refl
  without-map (e ∷ es) zero = refl
  without-map (e ∷ es) (suc i) = ap (λ (l : Files). view e ∷ l) (without-map es i)

pub file_at-with : (files : Files) (i : ℕ) (file : FileVal) → i < length files → file_at i (with_file i file files) ≡ file
file_at-with [] i file h = absurd (omega arith)
file_at-with (e ∷ es) zero file h = refl
file_at-with (e ∷ es) (suc i) file h = file_at-with es i file (omega arith)

pub length-with : (files : Files) (i : ℕ) (file : FileVal) → length (with_file i file files) ≡ length files
length-with [] i file = refl
length-with (e ∷ es) zero file = refl
length-with (e ∷ es) (suc i) file = ap suc (length-with es i file)

-- another file in the place of an entry's: the table is the one with it, and it stands there
module _ {K V : Type 0} (name : K → List ℕ) (file : V → FileVal) (es : List (K × V)) (i : ℕ) (v w : V) (files : Files) (seen : map (view name file) es ≡ files) (h : i < length files) (at : slice_get (values_of es) i ≡ Some v) where
  pub replaced : map (view name file) (set_value_at es i w) ≡ with_file i (file w) files
  replaced = with_file-map name file es i w ∙ ap (with_file i (file w)) seen

  pub there : file_at i (map (view name file) (set_value_at es i w)) ≡ file w
  there = ap (file_at i) replaced ∙ file_at-with files i (file w) h

  pub others : map (view name file) (set_value_at es i w) ≡ with_file i (file_at i (map (view name file) (set_value_at es i w))) files
  others = replaced ∙ ap (λ (x : FileVal). with_file i x files) (sym there)

  pub was : file v ≡ file_at i files
  was = sym (file_at-map name file es i v at) ∙ ap (file_at i) seen

pub with-same : (files : Files) (i : ℕ) → with_file i (file_at i files) files ≡ files
with-same [] i = refl
with-same (e ∷ es) zero = refl
with-same (e ∷ es) (suc i) = ap (λ (l : Files). e ∷ l) (with-same es i)

-- nothing has changed, though an operation of this outcome was not to be refused
abbrev pub LacksMemory : Outcome → FileVal → StreamVal → FileVal → StreamVal → Type 0
LacksMemory outcome old_file old_stream file stream = (file ≡ old_file) × (stream ≡ old_stream) × IsOk outcome.reply

-- an operation for which memory is wanted leaves the table
pub unchanged : (op : Operation) (i : ℕ) (old new : Files) (old_stream new_stream : StreamVal) (r : Result ℕ Refusal)
    → new ≡ with_file i (file_at i new) old → Acts op (file_at i old) old_stream (file_at i new) new_stream r → is_no_memory r ≡ true → new ≡ old
unchanged op i old new old_stream new_stream r o a e =
    let lacks : LacksMemory (act op (file_at i old) old_stream) (file_at i old) old_stream (file_at i new) new_stream =
    subst (λ (b : Bool). MatchBool b (LacksMemory (act op (file_at i old) old_stream) (file_at i old) old_stream (file_at i new) new_stream) (IsOutcome (act op (file_at i old) old_stream) (file_at i new) new_stream r)) e a in
    o ∙ ap (λ (f : FileVal). with_file i f old) lacks.0 ∙ with-same old i
