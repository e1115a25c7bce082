-- The numbers of the files before an index, and one more.
use Rattle.std.proofs.Common.{◌≡◌, ℕ, zero, suc, ◌+◌, ◌<◌, ◌≤◌, Bool, true, false, List, [], ◌∷◌, length, length-take, take, refl, ap, ◌∙◌, arith}
use Rattle.std.specs.Prelude.{if◌then◌else◌, max, min}
use Rattle.file_names.specs.Versions.{version_number}
use Rattle.dap_accessed.specs.Standing.{Files, name_at}
use Rattle.dap_accessed.specs.Naming.{highest_version, is_alike, lowest_version, version_count}

-- two files of which each may count, in either order
higher : (b c : Bool) (m n high : ℕ) → (if b then max m (if c then max n high else high) else (if c then max n high else high)) ≡ (if c then max n (if b then max m high else high) else (if b then max m high else high))
higher true true m n high = omega arith
higher true false m n high = refl
higher false true m n high = refl
higher false false m n high = refl

lower : (b c : Bool) (m n low : ℕ) → (if b then min m (if c then min n low else low) else (if c then min n low else low)) ≡ (if c then min n (if b then min m low else low) else (if b then min m low else low))
lower true true m n low = omega arith
lower true false m n low = refl
lower false true m n low = refl
lower false false m n low = refl

counted : (b c : Bool) (n : ℕ) → (if b then (if c then n + 1 else n) + 1 else (if c then n + 1 else n)) ≡ (if c then (if b then n + 1 else n) + 1 else (if b then n + 1 else n))
counted true true n = refl
counted true false n = refl
counted false true n = refl
counted false false n = refl

highest-suc : (name : List ℕ) (files : Files) (i : ℕ) → i < length files
    → highest_version name (take (suc i) files) ≡ (if is_alike (name_at i files) name then max (version_number (name_at i files)) (highest_version name (take i files)) else highest_version name (take i files))
highest-suc name [] i lt = absurd (omega (arith, lt))
highest-suc name (f ∷ files) zero lt = refl
highest-suc name (f ∷ files) (suc i) lt =
    ap (λ n. if is_alike f.0 name then max (version_number f.0) n else n) (highest-suc name files i (omega (arith, lt)))
    ∙ higher (is_alike f.0 name) (is_alike (name_at i files) name) (version_number f.0) (version_number (name_at i files)) (highest_version name (take i files))

lowest-suc : (name : List ℕ) (files : Files) (i : ℕ) → i < length files
    → lowest_version name (take (suc i) files) ≡ (if is_alike (name_at i files) name then min (version_number (name_at i files)) (lowest_version name (take i files)) else lowest_version name (take i files))
lowest-suc name [] i lt = absurd (omega (arith, lt))
lowest-suc name (f ∷ files) zero lt = refl
lowest-suc name (f ∷ files) (suc i) lt =
    ap (λ n. if is_alike f.0 name then min (version_number f.0) n else n) (lowest-suc name files i (omega (arith, lt)))
    ∙ lower (is_alike f.0 name) (is_alike (name_at i files) name) (version_number f.0) (version_number (name_at i files)) (lowest_version name (take i files))

count-suc : (name : List ℕ) (files : Files) (i : ℕ) → i < length files
    → version_count name (take (suc i) files) ≡ (if is_alike (name_at i files) name then version_count name (take i files) + 1 else version_count name (take i files))
count-suc name [] i lt = absurd (omega (arith, lt))
count-suc name (f ∷ files) zero lt = refl
count-suc name (f ∷ files) (suc i) lt =
    ap (λ n. if is_alike f.0 name then n + 1 else n) (count-suc name files i (omega (arith, lt)))
    ∙ counted (is_alike f.0 name) (is_alike (name_at i files) name) (version_count name (take i files))

one-more : (i : ℕ) → i + 1 ≡ suc i
one-more i = omega arith

pub highest-next : (name : List ℕ) (files : Files) (i : ℕ) → i < length files
    → highest_version name (take (i + 1) files) ≡ (if is_alike (name_at i files) name then max (version_number (name_at i files)) (highest_version name (take i files)) else highest_version name (take i files))
highest-next name files i lt = ap (λ (k : ℕ). highest_version name (take k files)) (one-more i) ∙ highest-suc name files i lt

pub lowest-next : (name : List ℕ) (files : Files) (i : ℕ) → i < length files
    → lowest_version name (take (i + 1) files) ≡ (if is_alike (name_at i files) name then min (version_number (name_at i files)) (lowest_version name (take i files)) else lowest_version name (take i files))
lowest-next name files i lt = ap (λ (k : ℕ). lowest_version name (take k files)) (one-more i) ∙ lowest-suc name files i lt

pub count-next : (name : List ℕ) (files : Files) (i : ℕ) → i < length files
    → version_count name (take (i + 1) files) ≡ (if is_alike (name_at i files) name then version_count name (take i files) + 1 else version_count name (take i files))
count-next name files i lt = ap (λ (k : ℕ). version_count name (take k files)) (one-more i) ∙ count-suc name files i lt

-- no more than the files, so it is a number of the machine
one-within : (b : Bool) (few many : ℕ) → few ≤ many → (if b then few + 1 else few) ≤ suc many
one-within true few many le = omega (arith, le)
one-within false few many le = omega (arith, le)

count-within : (name : List ℕ) (files : Files) → version_count name files ≤ length files
count-within name [] = omega arith
count-within name (f ∷ files) = one-within (is_alike f.0 name) (version_count name files) (length files) (count-within name files)

pub count-before : (name : List ℕ) (files : Files) (i : ℕ) → version_count name (take i files) ≤ i
count-before name files i = let few = count-within name (take i files) in let size = length-take i files in omega (arith, few, size)
