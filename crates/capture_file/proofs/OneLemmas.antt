-- A file has one reading.
use Rattle.std.proofs.Common.{◌≡◌, ℕ, ◌+◌, ◌≤◌, List, [], ◌++◌, take, drop, length, Result, Ok, Err, arith, refl, ap, sym, subst, ◌∙◌, length-append, append-nil, append_assoc, inl, inr}
use Rattle.std.proofs.lemmas.List.{take-append-le}
use Rattle.std.proofs.Math.Seq.{take-append_seam, drop-append_seam}
use Rattle.capture_file.specs.Units.{IsUnit, extent_of, head_len, kept_prefix}
use Rattle.capture_file.specs.Files.{IsCutShort, IsNone, IsPart, IsWhole, Stops, Units, bounded_count as offset_of}
use Rattle.capture_file.specs.Files.Units.{no_unit_more, one_unit_more}
use Rattle.capture_file.specs.Meanings.{Record, format_after, interfaces_after, meaning_of, records_of}
use Rattle.capture_file.specs.declared.fault.FaultKind.{FaultKind}
use Rattle.capture_file.specs.declared.units.Extent.{Extent}
use Rattle.capture_file.specs.declared.units.Format.{Format}
use Rattle.capture_file.specs.declared.meaning.Interface.{Interface}
use Rattle.capture_file.specs.declared.meaning.Meaning.{Meaning}
use Rattle.capture_file.proofs.StateLemmas.{head_least}

-- no unit stands there
abbrev pub IsStuck : Format → List Interface → List ℕ → Type 0
IsStuck format interfaces rest = (unit more : List ℕ) (extent : Extent) (meaning : Meaning) → rest ≡ unit ++ more → IsUnit format extent unit
    → meaning_of format interfaces (kept_prefix extent unit) ≡ Ok meaning → ⊥

-- the head of a unit is that of what begins with it
head_in : (format : Format) (extent : Extent) (rest unit more : List ℕ) → rest ≡ unit ++ more → IsUnit format extent unit
    → extent_of format (take (head_len format) rest) ≡ Ok extent
head_in format extent rest unit more e is =
    let some : head_len format ≤ length unit = is.has_head in
    ap (λ xs. extent_of format (take (head_len format) xs)) e ∙ (ap (λ xs. extent_of format xs) (take-append-le (head_len format) unit more some) ∙ is.extent_is)

long_in : (rest unit more : List ℕ) → rest ≡ unit ++ more → length rest ≡ length unit + length more
long_in rest unit more e = ap length e ∙ length-append unit more

ok_one : (e d : Extent) → ◌≡◌ {A = Result Extent FaultKind} (Ok e) (Ok d) → e ≡ d
ok_one e d h = cc

ok_meaning : (e d : Meaning) → ◌≡◌ {A = Result Meaning FaultKind} (Ok e) (Ok d) → e ≡ d
ok_meaning e d h = cc

err_kind : (e d : FaultKind) → ◌≡◌ {A = Result Extent FaultKind} (Err e) (Err d) → e ≡ d
err_kind e d h = cc

err_meaning : (e d : FaultKind) → ◌≡◌ {A = Result Meaning FaultKind} (Err e) (Err d) → e ≡ d
err_meaning e d h = cc

never : (e : Extent) (kind : FaultKind) → ◌≡◌ {A = Result Extent FaultKind} (Ok e) (Err kind) → ⊥
never e kind h = cc

never_meaning : (m : Meaning) (kind : FaultKind) → ◌≡◌ {A = Result Meaning FaultKind} (Ok m) (Err kind) → ⊥
never_meaning m kind h = cc

-- two units at one offset are one
pub one_unit : (format : Format) (extent other : Extent) (unit last more rest : List ℕ) → IsUnit format extent unit → IsUnit format other last
    → unit ++ more ≡ last ++ rest → (extent ≡ other) × (unit ≡ last) × (more ≡ rest)
one_unit format extent other unit last more rest is are e =
    let heads = sym (head_in format extent (unit ++ more) unit more refl is) ∙ head_in format other (unit ++ more) last rest e are in
    let same : extent ≡ other = ok_one extent other heads in
    let long : length unit ≡ length last = is.long ∙ (ap (λ x. x.long) same ∙ sym are.long) in (
      same,
      sym (take-append_seam unit more) ∙ (ap (λ n. take n (unit ++ more)) long ∙ (ap (λ xs. take (length last) xs) e ∙ take-append_seam last rest)),
      sym (drop-append_seam unit more) ∙ (ap (λ n. drop n (unit ++ more)) long ∙ (ap (λ xs. drop (length last) xs) e ∙ drop-append_seam last rest)),
    )

pub stuck_end : (format : Format) (interfaces : List Interface) → IsStuck format interfaces []
stuck_end format interfaces unit more extent meaning e is means =
    let long : 0 ≡ length unit + length more = long_in [] unit more e in
    let some : head_len format ≤ length unit = is.has_head in
    omega (arith, head_least format)

pub stuck_part : (format : Format) (interfaces : List Interface) (rest : List ℕ) → IsPart format rest → IsStuck format interfaces rest
stuck_part format interfaces rest part unit more extent meaning e is means =
    let long = long_in rest unit more e in
    let some : head_len format ≤ length unit = is.has_head in
    let all : length unit ≡ extent.long = is.long in
    elim part [
      | inl few ↦ omega (arith, few, long)
      | inr cut ↦
          let same : extent ≡ cut.0 = ok_one extent cut.0 (sym (head_in format extent rest unit more e is) ∙ cut.2) in
          let same_long : extent.long ≡ cut.0.long = ap (λ x. x.long) same in
          omega (arith, cut.3, long)
    ]

pub stuck_none : (format : Format) (interfaces : List Interface) (rest : List ℕ) (kind : FaultKind) → IsNone format interfaces rest kind → IsStuck format interfaces rest
stuck_none format interfaces rest kind none unit more extent meaning e is means =
    elim none [
      | inl head ↦ never extent kind (sym (head_in format extent rest unit more e is) ∙ head.1)
      | inr bad ↦
          let one = one_unit format extent bad.2 unit bad.0 more bad.1 is bad.4 (sym e ∙ bad.3) in
          never_meaning meaning kind (sym means ∙ (ap (λ x. meaning_of format interfaces (kept_prefix x unit)) one.0 ∙ (ap (λ xs. meaning_of format interfaces (kept_prefix bad.2 xs)) one.1 ∙ bad.5)))
    ]

-- two faults at one offset are one
pub one_kind : (format : Format) (interfaces : List Interface) (rest : List ℕ) (kind other : FaultKind) → IsNone format interfaces rest kind
    → IsNone format interfaces rest other → kind ≡ other
one_kind format interfaces rest kind other none nor =
    elim none [
      | inl head ↦ elim nor [
        | inl first ↦ err_kind kind other (sym head.1 ∙ first.1)
        | inr bad ↦ absurd (never bad.2 kind (sym (head_in format bad.2 rest bad.0 bad.1 bad.3 bad.4) ∙ head.1))
      ]
      | inr bad ↦ elim nor [
        | inl first ↦ absurd (never bad.2 other (sym (head_in format bad.2 rest bad.0 bad.1 bad.3 bad.4) ∙ first.1))
        | inr worse ↦
            let one = one_unit format bad.2 worse.2 bad.0 worse.0 bad.1 worse.1 bad.4 worse.4 (sym bad.3 ∙ worse.3) in
            err_meaning kind other (sym bad.5 ∙ (ap (λ x. meaning_of format interfaces (kept_prefix x bad.0)) one.0 ∙ (ap (λ xs. meaning_of format interfaces (kept_prefix worse.2 xs)) one.1 ∙ worse.5)))
      ]
    ]

-- not a part and none at once
pub part_or_none : (format : Format) (interfaces : List Interface) (rest : List ℕ) (kind : FaultKind) → IsPart format rest → IsNone format interfaces rest kind → ⊥
part_or_none format interfaces rest kind part none =
    elim none [
      | inl head ↦
          let some : head_len format ≤ length rest = head.0 in
          elim part [
            | inl few ↦ omega (arith, few)
            | inr cut ↦ never cut.0 kind (sym cut.2 ∙ head.1)
          ]
      | inr bad ↦
          let long = long_in rest bad.0 bad.1 bad.3 in
          let is = bad.4 in
          let some : head_len format ≤ length bad.0 = is.has_head in
          let all : length bad.0 ≡ bad.2.long = is.long in
          elim part [
            | inl few ↦ omega (arith, few, long)
            | inr cut ↦
                let same : bad.2 ≡ cut.0 = ok_one bad.2 cut.0 (sym (head_in format bad.2 rest bad.0 bad.1 bad.3 is) ∙ cut.2) in
                let same_long : bad.2.long ≡ cut.0.long = ap (λ x. x.long) same in
                omega (arith, cut.3, long)
          ]
    ]

-- how far a reading goes
pub record Same (bytes others : List ℕ) (records more : List Record) (last end : Format) (described told : List Interface) : Type 0 where
  pub bytes_are : bytes ≡ others
  pub records_are : records ≡ more
  pub last_is : last ≡ end
  pub described_are : described ≡ told

-- up to where no unit stands, two readings are one
pub one_reading : {format last end : Format} {interfaces described told : List Interface} {bytes others : List ℕ} {records more : List Record} (x y : List ℕ)
    → Units format interfaces bytes records last described → Units format interfaces others more end told
    → IsStuck last described x → IsStuck end told y → bytes ++ x ≡ others ++ y
    → Same bytes others records more last end described told
one_reading x y no_unit_more no_unit_more here there e = record { bytes_are = refl; records_are = refl; last_is = refl; described_are = refl }
one_reading x y no_unit_more (one_unit_more {bytes} unit extent meaning is means units) here there e =
    absurd (here unit (bytes ++ y) extent meaning (e ∙ append_assoc unit bytes y) is means)
one_reading x y (one_unit_more {bytes} unit extent meaning is means units) no_unit_more here there e =
    absurd (there unit (bytes ++ x) extent meaning (sym e ∙ append_assoc unit bytes x) is means)
one_reading x y (one_unit_more {format} {last} {interfaces} {described} {bytes} {records} unit extent meaning is means units) (one_unit_more {last = end} {described = told} {bytes = others} {records = more} other extent2 meaning2 are mean units2) here there e =
    let one = one_unit format extent extent2 unit other (bytes ++ x) (others ++ y) is are (sym (append_assoc unit bytes x) ∙ (e ∙ append_assoc other others y)) in
    let mean_is : meaning ≡ meaning2 = ok_meaning meaning meaning2 (sym means ∙ (ap (λ z. meaning_of format interfaces (kept_prefix z unit)) one.0 ∙ (ap (λ xs. meaning_of format interfaces (kept_prefix extent2 xs)) one.1 ∙ mean))) in
    let kept_is : kept_prefix extent unit ≡ kept_prefix extent2 other = ap (λ z. kept_prefix z unit) one.0 ∙ ap (λ xs. kept_prefix extent2 xs) one.1 in
    let rest = one_reading x y units (subst (λ (m : Meaning). Units (format_after format m) (interfaces_after interfaces m) others more end told) (sym mean_is) units2) here there one.2 in
    record {
      bytes_are = ap (λ xs. xs ++ bytes) one.1 ∙ ap (λ xs. other ++ xs) rest.bytes_are;
      records_are = ap (λ k. records_of k meaning ++ records) kept_is ∙ (ap (λ m. records_of (kept_prefix extent2 other) m ++ records) mean_is ∙ ap (λ r. records_of (kept_prefix extent2 other) meaning2 ++ r) rest.records_are);
      last_is = rest.last_is;
      described_are = rest.described_are;
    }

rest_one : (a b x y : List ℕ) → a ≡ b → a ++ x ≡ b ++ y → x ≡ y
rest_one a b x y same e =
    sym (drop-append_seam a x) ∙ (ap (λ n. drop n (a ++ x)) (ap length same) ∙ (ap (λ xs. drop (length b) xs) e ∙ drop-append_seam b y))

-- two stops of one file
pub stops_one : (bytes : List ℕ) (records others : List Record) (kind other : FaultKind) (at offset : ℕ) → Stops bytes records kind at → Stops bytes others other offset
    → (records ≡ others) × (kind ≡ other) × (at ≡ offset)
stops_one bytes records others kind other at offset s t =
    let joined = sym s.joined ∙ t.joined in
    let one = one_reading s.rest t.rest s.units t.units (stuck_none s.format s.interfaces s.rest kind s.none) (stuck_none t.format t.interfaces t.rest other t.none) joined in
    let rests = rest_one s.front t.front s.rest t.rest one.bytes_are joined in
    let none = subst (λ (f : Format). IsNone f t.interfaces t.rest kind) one.last_is
    (subst (λ (i : List Interface). IsNone s.format i t.rest kind) one.described_are
    (subst (λ (xs : List ℕ). IsNone s.format s.interfaces xs kind) rests s.none)) in
    (one.records_are, one_kind t.format t.interfaces t.rest kind other none t.none, s.offset ∙ (ap (λ f. offset_of (length f)) one.bytes_are ∙ sym t.offset))

pub cuts_one : (bytes : List ℕ) (records others : List Record) (at offset : ℕ) → IsCutShort bytes records at → IsCutShort bytes others offset → (records ≡ others) × (at ≡ offset)
cuts_one bytes records others at offset s t =
    let joined = sym s.joined ∙ t.joined in
    let one = one_reading s.rest t.rest s.units t.units (stuck_part s.format s.interfaces s.rest s.partial) (stuck_part t.format t.interfaces t.rest t.partial) joined in
    (one.records_are, s.offset ∙ (ap (λ f. offset_of (length f)) one.bytes_are ∙ sym t.offset))

pub wholes_one : (bytes : List ℕ) (records others : List Record) → IsWhole bytes records → IsWhole bytes others → records ≡ others
wholes_one bytes records others s t =
    let one = one_reading [] [] s.units t.units (stuck_end s.format s.interfaces) (stuck_end t.format t.interfaces) refl in
    one.records_are

none_empty : (format : Format) (interfaces : List Interface) (kind : FaultKind) → IsNone format interfaces [] kind → ⊥
none_empty format interfaces kind none =
    elim none [
      | inl head ↦ let some : head_len format ≤ 0 = head.0 in omega (arith, head_least format)
      | inr bad ↦
          let long : 0 ≡ length bad.0 + length bad.1 = long_in [] bad.0 bad.1 bad.3 in
          let is = bad.4 in
          let some : head_len format ≤ length bad.0 = is.has_head in
          omega (arith, head_least format)
    ]

pub whole_or_stops : (bytes : List ℕ) (records others : List Record) (kind : FaultKind) (at : ℕ) → IsWhole bytes records → Stops bytes others kind at → ⊥
whole_or_stops bytes records others kind at w s =
    let joined = append-nil bytes ∙ s.joined in
    let one = one_reading [] s.rest w.units s.units (stuck_end w.format w.interfaces) (stuck_none s.format s.interfaces s.rest kind s.none) joined in
    let rests = rest_one bytes s.front [] s.rest one.bytes_are joined in
    none_empty s.format s.interfaces kind (subst (λ (xs : List ℕ). IsNone s.format s.interfaces xs kind) (sym rests) s.none)

pub whole_or_cut : (bytes : List ℕ) (records others : List Record) (at : ℕ) → IsWhole bytes records → IsCutShort bytes others at → ⊥
whole_or_cut bytes records others at w s =
    let joined = append-nil bytes ∙ s.joined in
    let one = one_reading [] s.rest w.units s.units (stuck_end w.format w.interfaces) (stuck_part s.format s.interfaces s.rest s.partial) joined in
    let long : 0 ≡ length s.rest = ap length (rest_one bytes s.front [] s.rest one.bytes_are joined) in
    elim s.some [
      | inl more ↦ omega (arith, more, long)
      | inr start ↦ w.begun (one.last_is ∙ start)
    ]

pub cut_or_stops : (bytes : List ℕ) (records others : List Record) (kind : FaultKind) (at offset : ℕ) → IsCutShort bytes records offset → Stops bytes others kind at → ⊥
cut_or_stops bytes records others kind at offset s t =
    let joined = sym s.joined ∙ t.joined in
    let one = one_reading s.rest t.rest s.units t.units (stuck_part s.format s.interfaces s.rest s.partial) (stuck_none t.format t.interfaces t.rest kind t.none) joined in
    let rests = rest_one s.front t.front s.rest t.rest one.bytes_are joined in
    part_or_none t.format t.interfaces t.rest kind
    (subst (λ (f : Format). IsPart f t.rest) one.last_is (subst (λ (xs : List ℕ). IsPart s.format xs) rests s.partial)) t.none
