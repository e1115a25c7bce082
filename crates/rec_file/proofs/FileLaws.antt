-- An operation leaves what holds of every file.
use Rattle.std.proofs.Common.{◌≡◌, ℕ, ◌+◌, ◌<◌, ◌≤◌, ◌≢◌, cond, eqb, Bool, true, false, not, ◌&&◌, ◌||◌, List, length, Option, Some, None, IsSome, IfSome, IsTrue, Bor, is_none, is_some, refl, sym, ap, subst, ◌∙◌, arith, inl, inr}
use Rattle.std.specs.Prelude.{nat_le, nat_eq, Result, Ok, Err, OnErr}
use Rattle.std.specs.Option.{option_copied}
use Rattle.std.specs.Ordering.{nat_cmp, eq_by_cmp}
use Rattle.std.specs.Cmp.{nat_cmp_total}
use Rattle.std.specs.FinMap.{get, insert, remove, get-insert, get-remove, get-empty, empty, same_map, nat_cmp-IsAntisymmetric}
use Rattle.std.proofs.lemmas.Bool.Decides.{nat_tests}
use Rattle.rec_file.specs.declared.look.Look.{Look}
use Rattle.rec_file.specs.declared.shapes.Shape.{Shape}
use Rattle.rec_file.specs.Limits.{max_record_number, max_record}
use Rattle.rec_file.specs.Shapes.{is_shape, has_length, is_seq, max_number, allows_length}
use Rattle.rec_file.specs.Looks.{plain_look, exceeds_front, LookFits, IsLook}
use Rattle.rec_file.specs.Files.{FileVal, IsFile, Records, highest_of, empty_file, file_with_record, file_without_record}
use Rattle.rec_file.proofs.Rising.{same_or_not}
use Rattle.rec_file.proofs.RecordsLaws.{is_highest, highest_is}

tie_is : {A : Type 0} (a b : ℕ) (x y : A) → cond (eq_by_cmp nat_cmp a b) x y ≡ cond (eqb a b) x y
tie_is a b x y = grind (arith, nat_tests)

pub get_stored : (m : Records) (n : ℕ) (body : List ℕ) (q : ℕ) → get (insert m n body) q ≡ cond (eqb q n) (Some body) (get m q)
get_stored m n body q = get-insert nat_cmp_total m n body q ∙ tie_is q n _ _

pub get_removed : (m : Records) (n q : ℕ) → get (remove m n) q ≡ cond (eqb q n) None (get m q)
get_removed m n q = get-remove nat_cmp_total m n q ∙ tie_is q n _ _

pub same_records : (m n : Records) → ((q : ℕ) → get m q ≡ get n q) → m ≡ n
same_records m n h = same_map nat_cmp_total nat_cmp-IsAntisymmetric m n h

pub get_stored_same : (m : Records) (n : ℕ) (body : List ℕ) (q : ℕ) → q ≡ n → get (insert m n body) q ≡ Some body
get_stored_same m n body q same = let e = get_stored m n body q in grind (arith, nat_tests)

pub get_stored_other : (m : Records) (n : ℕ) (body : List ℕ) (q : ℕ) → q ≢ n → get (insert m n body) q ≡ get m q
get_stored_other m n body q other = let e = get_stored m n body q in grind (arith, nat_tests)

-- an option with no value
none_unless : (o : Option (List ℕ)) → (IsSome o → ⊥) → o ≡ None
none_unless None h = refl
none_unless (Some body) h = absurd (h refl)

pub no_zero : (file : FileVal) → IsFile file → get file.records 0 ≡ None
no_zero file h = none_unless _ (λ some. let least = h.above 0 some in omega arith)

-- a new record, in a sequential file after the last
pub IsFile-placed :
    (file : FileVal) (n : ℕ) (body : List ℕ) → IsFile file → 1 ≤ n → n ≤ max_number file.shape
    → (IsTrue (is_seq file.shape.org) → n ≡ highest_of file.records + 1)
    → IsTrue (allows_length file.shape (length body)) → IsFile (file_with_record file n body)
IsFile-placed file n body h least most next allowed = record {
  shape = h.shape;
  look = h.look;
  above = λ q some. elim (same_or_not q n) [ inl same ↦ omega arith | inr other ↦ h.above q (subst IsSome (get_stored_other file.records n body q other) some) ];
  within = λ q some. elim (same_or_not q n) [ inl same ↦ subst (λ k. k ≤ max_number file.shape) (sym same) most | inr other ↦ h.within q (subst IsSome (get_stored_other file.records n body q other) some) ];
  dense = λ seq q ge le.
      let top = is_highest file.records in
      let new : highest_of (insert file.records n body) ≡ n =
      highest_is (insert file.records n body) n
      (record {
        occupied = λ _. ap is_some (get_stored_same file.records n body n refl);
        none_above = λ j lt. get_stored_other file.records n body j (omega arith) ∙ top.none_above j (let e = next seq in omega arith);
      })
      (get_stored_other file.records n body 0 (omega arith) ∙ no_zero file h) in
      elim (same_or_not q n) [
        | inl same ↦ ap is_some (get_stored_same file.records n body q same)
        | inr other ↦ subst IsSome (sym (get_stored_other file.records n body q other)) (h.dense seq q ge (let e = next seq in omega arith))
      ];
  lengths = λ q. elim (same_or_not q n) [
    | inl same ↦ subst (λ o. IfSome o (λ b. IsTrue (allows_length file.shape (length b)))) (sym (get_stored_same file.records n body q same)) allowed
    | inr other ↦ subst (λ o. IfSome o (λ b. IsTrue (allows_length file.shape (length b)))) (sym (get_stored_other file.records n body q other)) (h.lengths q)
  ];
}

-- another record in the place of one
pub IsFile-replaced :
    (file : FileVal) (n : ℕ) (body : List ℕ) → IsFile file → IsSome (get file.records n)
    → IsTrue (allows_length file.shape (length body)) → IsFile (file_with_record file n body)
IsFile-replaced file n body h there allowed = record {
  shape = h.shape;
  look = h.look;
  above = λ q some. elim (same_or_not q n) [ inl same ↦ h.above q (subst (λ k. IsSome (get file.records k)) (sym same) there) | inr other ↦ h.above q (subst IsSome (get_stored_other file.records n body q other) some) ];
  within = λ q some. elim (same_or_not q n) [ inl same ↦ h.within q (subst (λ k. IsSome (get file.records k)) (sym same) there) | inr other ↦ h.within q (subst IsSome (get_stored_other file.records n body q other) some) ];
  dense = λ seq q ge le.
      let top = is_highest file.records in
      let kept : (k : ℕ) → IsSome (get file.records k) → IsSome (get (insert file.records n body) k) =
      λ k some. elim (same_or_not k n) [ inl same ↦ ap is_some (get_stored_same file.records n body k same) | inr other ↦ subst IsSome (sym (get_stored_other file.records n body k other)) some ] in
      let new : highest_of (insert file.records n body) ≡ highest_of file.records =
      highest_is (insert file.records n body) (highest_of file.records)
      (record {
        occupied = λ least. kept _ (top.occupied least);
        none_above = λ j lt. elim (same_or_not j n) [
          | inl same ↦ cc (top.none_above n (subst (λ k. highest_of file.records < k) same lt), there)
          | inr other ↦ get_stored_other file.records n body j other ∙ top.none_above j lt
        ];
      })
      (get_stored_other file.records n body 0 (let least = h.above n there in omega arith) ∙ no_zero file h) in
      kept q (h.dense seq q ge (subst (λ k. q ≤ k) new le));
  lengths = λ q. elim (same_or_not q n) [
    | inl same ↦ subst (λ o. IfSome o (λ b. IsTrue (allows_length file.shape (length b)))) (sym (get_stored_same file.records n body q same)) allowed
    | inr other ↦ subst (λ o. IfSome o (λ b. IsTrue (allows_length file.shape (length b)))) (sym (get_stored_other file.records n body q other)) (h.lengths q)
  ];
}

pub get_removed_other : (m : Records) (n q : ℕ) → q ≢ n → get (remove m n) q ≡ get m q
get_removed_other m n q other = let e = get_removed m n q in grind (arith, nat_tests)

pub get_removed_same : (m : Records) (n q : ℕ) → q ≡ n → get (remove m n) q ≡ None
get_removed_same m n q same = let e = get_removed m n q in grind (arith, nat_tests)

-- a record less, in a relative file
pub IsFile-removed : (file : FileVal) (n : ℕ) → IsFile file → is_seq file.shape.org ≡ false → IsFile (file_without_record file n)
IsFile-removed file n h rel = record {
  shape = h.shape;
  look = h.look;
  above = λ q some. elim (same_or_not q n) [ inl same ↦ cc (get_removed_same file.records n q same) | inr other ↦ h.above q (subst IsSome (get_removed_other file.records n q other) some) ];
  within = λ q some. elim (same_or_not q n) [ inl same ↦ cc (get_removed_same file.records n q same) | inr other ↦ h.within q (subst IsSome (get_removed_other file.records n q other) some) ];
  dense = λ seq q ge le. cc;
  lengths = λ q. elim (same_or_not q n) [
    | inl same ↦ subst (λ o. IfSome o (λ b. IsTrue (allows_length file.shape (length b)))) (sym (get_removed_same file.records n q same)) tt
    | inr other ↦ subst (λ o. IfSome o (λ b. IsTrue (allows_length file.shape (length b)))) (sym (get_removed_other file.records n q other)) (h.lengths q)
  ];
}

and_second : (b c : Bool) → (b && c) ≡ true → c ≡ true
and_second true c h = h
and_second false c h = cc

and_first : (b c : Bool) → (b && c) ≡ true → b ≡ true
and_first true c h = refl
and_first false c h = cc

third : (a b c d : Bool) → (((a && b) && c) && d) ≡ true → c ≡ true
third a b c d h = and_second (a && b) c (and_first ((a && b) && c) d h)

-- no limit is above the greatest number
pub limit_le : (s : Shape) → IsTrue (is_shape s) → max_number s ≤ max_record_number
limit_le s h =
    let fits : nat_le s.mrn max_record_number ≡ true = third (has_length s.format s.mrs) (nat_le s.mrs max_record) (nat_le s.mrn max_record_number) (not (is_seq s.org) || nat_eq s.mrn 0) h in
    grind (arith, nat_tests)

has_room-none : (mrs : ℕ) → IsTrue (exceeds_front mrs 0)
has_room-none mrs = grind (arith, nat_tests)

-- the look of which nothing is kept is one of each shape
pub plain-look : (s : Shape) → IsLook s plain_look
unfolding IsLook
plain-look s = record { datatype = tt; rat = tt; bls = tt; bks = tt; bsz = tt; format = tt; front = λ e. cc; limit = has_room-none s.mrs }

-- what is kept of a look of a shape, and back
pub are_kept : (s : Shape) (l : Look) → IsLook s l → LookFits s l
unfolding IsLook
are_kept s l h = h

pub is_look : (s : Shape) (l : Look) → LookFits s l → IsLook s l
unfolding IsLook
is_look s l h = h

-- an empty file of a shape and a look
pub IsFile-new : (s : Shape) (l : Look) → IsTrue (is_shape s) → IsLook s l → IsFile (empty_file s l)
IsFile-new s l h look = record {
  shape = h;
  look = look;
  above = λ n some. cc (get-empty {X = List ℕ} nat_cmp n);
  within = λ n some. cc (get-empty {X = List ℕ} nat_cmp n);
  dense = λ seq n least most. absurd (let none = highest_is (empty {X = List ℕ} {R = nat_cmp}) 0 (record { occupied = λ h. absurd (omega arith); none_above = λ j lt. get-empty {X = List ℕ} nat_cmp j }) (get-empty {X = List ℕ} nat_cmp 0) in omega arith);
  lengths = λ n. subst (λ o. IfSome o (λ b. IsTrue (allows_length s (length b)))) (sym (get-empty {X = List ℕ} nat_cmp n)) tt;
}

-- an empty file of a shape
pub IsFile-empty : (s : Shape) → IsTrue (is_shape s) → IsFile (empty_file s plain_look)
IsFile-empty s h = IsFile-new s plain_look h (plain-look s)

-- an occupied number of a file is no greater than the greatest
pub number_fits : (f : FileVal) (n : ℕ) → IsFile f → IsSome (get f.records n) → n ≤ max_record_number
number_fits f n h some = let low = h.within n some in let top = limit_le f.shape h.shape in omega arith

pub some_of : (f : FileVal) (n : ℕ) (body : List ℕ) → Some body ≡ get f.records n → IsSome (get f.records n)
some_of f n body is = ap is_some (sym is)

pub not_both : (o : Option (List ℕ)) → None ≡ o → IsSome o → ⊥
not_both None none some = cc
not_both (Some body) none some = cc

-- and no record is longer than the longest
pub body_fits : (f : FileVal) (n : ℕ) (body : List ℕ) → IsFile f → Some body ≡ get f.records n → length body ≤ max_record
body_fits f n body h is =
    let allowed : IsTrue (allows_length f.shape (length body)) = subst (λ o. IfSome o (λ b. IsTrue (allows_length f.shape (length b)))) (sym is) (h.lengths n) in
    let fits : nat_le (length body) max_record ≡ true = and_first _ _ allowed in
    grind (arith, nat_tests)

pub copied_fits : (f : FileVal) (n : ℕ) (o : Option (Bor (List ℕ))) → IsFile f → option_copied o ≡ get f.records n → IfSome o (λ body. length body.now ≤ max_record)
copied_fits f n None h is = tt
copied_fits f n (Some body) h is = body_fits f n body.now h is

pub record_fits : (f : FileVal) (n : ℕ) → IsFile f → IfSome (get f.records n) (λ body. length body ≤ max_record)
record_fits f n h = by (get f.records n) refl
  where
    by : (o : Option (List ℕ)) → get f.records n ≡ o → IfSome o (λ body. length body ≤ max_record)
    by None e = tt
    by (Some body) e = body_fits f n body h (sym e)

-- what a reference has is none, or some, as the reference is
pub copied_none : (o : Option (Bor (List ℕ))) (r : Option (List ℕ)) → option_copied o ≡ r → is_some o ≡ false → None ≡ r
copied_none None r is none = is
copied_none (Some body) r is none = cc

pub copied_some : (o : Option (Bor (List ℕ))) (r : Option (List ℕ)) → option_copied o ≡ r → is_some o ≡ true → IsSome r
copied_some None r is some = cc
copied_some (Some body) r is some = ap is_some (sym is)

pub not_none : (o : Option (List ℕ)) → IsSome o → false ≡ is_none o
not_none None some = cc
not_none (Some body) some = refl

-- what holds, holds also where an answer is an error
pub wanted : {A E P : Type 0} (r : Result A E) → P → OnErr r P
wanted (Ok a) p = tt
wanted (Err e) p = p
