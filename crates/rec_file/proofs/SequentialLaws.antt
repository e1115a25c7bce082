-- What a sequential file answers, by its list of records.
use Rattle.std.proofs.Common.{◌≡◌, ℕ, zero, suc, ◌+◌, ◌-◌, ◌<◌, ◌≤◌, true, List, [], ◌∷◌, ◌++◌, length, set, map, Some, None, IsSome, Vec, Global, slice_get, get_or, option_map, refl, sym, ap, subst, ◌∙◌, arith}
use Rattle.std.specs.FinMap.{get, empty, get-empty}
use Rattle.std.specs.Ordering.{nat_cmp}
use Rattle.rec_file.specs.declared.look.Look.{Look}
use Rattle.rec_file.specs.declared.shapes.Shape.{Shape}
use Rattle.rec_file.specs.Limits.{max_record_number}
use Rattle.rec_file.specs.Shapes.{is_seq}
use Rattle.rec_file.specs.Files.{FileVal, IsFile, lowest_from, highest_of, file_with_record}
use Rattle.rec_file.specs.Inner.Numbered.{numbered_records, sequential_file}
use Rattle.rec_file.proofs.FileLaws.{limit_le, same_records}
use Rattle.std.proofs.lemmas.List.{length-map, map-append, map-set}
use Rattle.std.proofs.lemmas.Option.{slice_get-map, slice_get_read}
use Rattle.rec_file.proofs.NumberedLaws.{get-numbered, get_zero-numbered, some-numbered, none-numbered, within-numbered, highest-numbered, lowest-numbered, no_lowest-numbered, numbered-push, numbered-set}

empty_at : (q : ℕ) → get (numbered_records []) q ≡ get (empty {X = List ℕ} {R = nat_cmp}) q
empty_at zero = get_zero-numbered [] ∙ sym (get-empty {X = List ℕ} nat_cmp 0)
empty_at (suc q) = get-numbered [] (suc q) (omega arith) ∙ sym (get-empty {X = List ℕ} nat_cmp (suc q))

pub numbered-empty : numbered_records [] ≡ empty
numbered-empty = same_records _ _ empty_at

-- a file holds no more records than there are numbers
pub count_fits : {l : Look} (s : Shape) (bs : List (List ℕ)) → IsFile (sequential_file s l bs) → length bs ≤ max_record_number
count_fits s [] h = omega arith
count_fits s (b ∷ bs) h = let last = h.within (length (b ∷ bs)) (some-numbered (b ∷ bs) _ (omega arith) (omega arith)) in let top = limit_le s h.shape in omega arith

-- the bytes of vectors
abbrev pub bodies : List (Vec ℕ Global) → List (List ℕ)
bodies vs = map (λ v. v.items) vs

module _ {l : Look} (s : Shape) (vs : List (Vec ℕ Global)) (f : FileVal) (e : sequential_file s l (bodies vs) ≡ f) where
  records_are : numbered_records (bodies vs) ≡ f.records
  records_are = ap (λ g. g.records) e

  size : length (bodies vs) ≡ length vs
  size = length-map vs _

  pub highest_is_length : (n : ℕ) → n ≡ length vs → n ≡ highest_of f.records
  highest_is_length n is = is ∙ sym size ∙ sym (highest-numbered (bodies vs)) ∙ ap highest_of records_are

  pub fits : (n : ℕ) → n ≡ length vs → IsFile (sequential_file s l (bodies vs)) → n ≤ max_record_number
  fits n is h = let most = count_fits s (bodies vs) h in let same = size in omega arith

  pub first_is : (n k : ℕ) → n ≤ k → 1 ≤ k → (2 ≤ k → k ≡ n) → k ≤ length vs → Some k ≡ lowest_from f.records n
  first_is n k le least first most = sym (lowest-numbered (bodies vs) n k le least first (let same = size in omega arith)) ∙ ap (λ m. lowest_from m n) records_are

  pub no_first : (n : ℕ) → ((j : ℕ) → n ≤ j → 1 ≤ j → length vs < j) → None ≡ lowest_from f.records n
  no_first n past = sym (no_lowest-numbered (bodies vs) n (λ j ge least. let same = size in let h = past j ge least in omega arith)) ∙ ap (λ m. lowest_from m n) records_are

  pub none_at_zero : None ≡ get f.records 0
  none_at_zero = sym (get_zero-numbered (bodies vs)) ∙ ap (λ m. get m 0) records_are

  pub none_past : (n : ℕ) → length vs < n → None ≡ get f.records n
  none_past n past = sym (none-numbered (bodies vs) n (let same = size in omega arith)) ∙ ap (λ m. get m n) records_are

  pub found : (n i : ℕ) (v : Vec ℕ Global) → n ≡ i + 1 → i < length vs → v ≡ get_or vs i v → Some v.items ≡ get f.records n
  found n i v is lt here =
      let at : slice_get (bodies vs) i ≡ Some v.items = slice_get-map (λ v. v.items) vs i ∙ ap (λ o. option_map (λ v. v.items) o) (slice_get_read vs (length vs) i v refl lt here) in
      sym (get-numbered (bodies vs) n (omega arith) ∙ ap (slice_get (bodies vs)) (let j : n - 1 ≡ i = omega arith in j) ∙ at) ∙ ap (λ m. get m n) records_are

  -- an occupied number is within the list
  pub occupied_within : (n : ℕ) → IsSome (get f.records n) → (1 ≤ n) × (n ≤ length vs)
  occupied_within n some = let h = within-numbered (bodies vs) n (subst (λ m. IsSome (get m n)) (sym records_are) some) in let same = size in (h.0, omega arith)

  -- and each number within it is occupied
  pub within_occupied : (n : ℕ) → 1 ≤ n → n ≤ length vs → IsSome (get f.records n)
  within_occupied n least most = subst (λ m. IsSome (get m n)) records_are (some-numbered (bodies vs) n least (let same = size in omega arith))

  pub pushed : (v : Vec ℕ Global) (n : ℕ) (body : List ℕ) → v.items ≡ body → n ≡ highest_of f.records + 1 → sequential_file s l (bodies (vs ++ v ∷ [])) ≡ file_with_record f n body
  pushed v n body is next =
      let top = highest_is_length (length vs) refl in
      let more : bodies (vs ++ v ∷ []) ≡ bodies vs ++ body ∷ [] = map-append _ vs (v ∷ []) ∙ ap (λ b. bodies vs ++ b ∷ []) is in
      ap (sequential_file s l) more
      ∙ ap (λ m. record { shape = s; look = l; records = m }) (sym (numbered-push (bodies vs) body n (let same = size in omega arith)))
      ∙ ap (λ g. file_with_record g n body) e

  pub replaced : (v : Vec ℕ Global) (i n : ℕ) (body : List ℕ) → v.items ≡ body → i + 1 ≡ n → i < length vs → sequential_file s l (bodies (set vs i v)) ≡ file_with_record f n body
  replaced v i n body is at lt =
      ap (sequential_file s l) (map-set (λ v. v.items) vs i v ∙ ap (set (bodies vs) i) is)
      ∙ ap (λ m. record { shape = s; look = l; records = m }) (sym (numbered-set (bodies vs) i body n at (let same = size in omega arith)))
      ∙ ap (λ g. file_with_record g n body) e

  pub stays_sequential : is_seq s.org ≡ true → is_seq f.shape.org ≡ true
  stays_sequential h = ap (λ g. is_seq g.shape.org) (sym e) ∙ h
