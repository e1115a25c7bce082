-- What is kept of the front of a unit.
use Rattle.std.proofs.Common.{◌≡◌, ℕ, ◌+◌, ◌-◌, ◌<◌, ◌≤◌, nat_lt, Bool, true, false, List, [], ◌++◌, take, drop, length, if◌then◌else◌, Option, Some, None, Ok, Err, arith, refl, ap, sym, subst, ◌∙◌, length-append, append_assoc, append-nil, inl, inr}
use Rattle.std.proofs.lemmas.List.{take-append-le, drop-append-le, drop_all, take_all, take-append-drop}
use Rattle.std.proofs.lemmas.Bool.{cond_both, ltb-true, ltb-false}
use Rattle.capture_file.specs.Units.{IsUnit, extent_of, head_len, kept_prefix}
use Rattle.capture_file.specs.Files.{HasUnits, IsNone, Stops, Units, bounded_count}
use Rattle.capture_file.specs.Files.Units.{no_unit_more, one_unit_more}
use Rattle.capture_file.specs.Meanings.{Record, format_after, interfaces_after, meaning_of, records_of}
use Rattle.capture_file.specs.Reading.{Gathers, HasRead, IsMeasured, given_in, keeps, wanted_count}
use Rattle.capture_file.specs.Inner.State.{ReadsUnit, Lies, IsInUnits, KeepsUnits, given_by, goal_of}
use Rattle.capture_file.specs.declared.fault.FaultKind.{FaultKind}
use Rattle.capture_file.specs.declared.units.Extent.{Extent}
use Rattle.capture_file.specs.declared.units.Format.{Format}
use Rattle.capture_file.specs.declared.units.Format.TheVariants.{Start, Pcap, Section}
use Rattle.capture_file.specs.declared.meaning.Interface.{Interface}
use Rattle.capture_file.specs.declared.meaning.Given.{Given}
use Rattle.capture_file.specs.declared.meaning.Meaning.{Meaning}
use Rattle.capture_file.specs.declared.meaning.Meaning.TheVariants as means
use Rattle.capture_file.specs.declared.reading.Reading.{Reading}

pub head_least : (format : Format) → 12 ≤ head_len format
head_least Start = omega arith
head_least (Pcap order digits) = omega arith
head_least (Section order) = omega arith

pub by_bool : {X : Type 0} (b : Bool) → (b ≡ true → X) → (b ≡ false → X) → X
by_bool true f g = f refl
by_bool false f g = g refl

-- ---- more bytes come

pub measured_more : (format : Format) (extent : Option Extent) (rest more : List ℕ) → IsMeasured format extent rest → IsMeasured format extent (rest ++ more)
measured_more format None rest more m = tt
measured_more format (Some e) rest more m =
    let h : head_len format ≤ length rest = m.0 in
    (omega (arith, h, length-append rest more), rw take-append-le m.1, m.2, m.3)

-- the aim is what is wanted, or less
pub goal_within : (format : Format) (extent : Option Extent) (seen : ℕ) → (goal_of format extent seen).0 ≤ wanted_count format extent
goal_within format None seen = omega arith
goal_within format (Some e) seen =
    cond_both {A = ℕ × Bool} e.whole _ _ (λ goal. goal.0 ≤ e.long) (λ _. omega arith)
    (λ _. cond_both {A = ℕ × Bool} (nat_lt seen (e.long - 4)) _ _ (λ goal. goal.0 ≤ e.long) (λ _. omega arith) (λ _. omega arith))

-- and lies ahead
pub goal_ahead : (format : Format) (extent : Option Extent) (seen : ℕ) → seen < wanted_count format extent → seen < (goal_of format extent seen).0
goal_ahead format None seen h = h
goal_ahead format (Some e) seen h =
    cond_both {A = ℕ × Bool} e.whole _ _ (λ goal. seen < goal.0) (λ _. h)
    (λ _. cond_both {A = ℕ × Bool} (nat_lt seen (e.long - 4)) _ _ (λ goal. seen < goal.0) (λ t. ltb-true _ _ t) (λ _. h))

-- of a block that is passed over
passed_more : (b : Bool) (long : ℕ) (rest more : List ℕ) → 12 ≤ length rest → nat_lt (length rest) (long - 4) ≡ b
    → (let goal : ℕ × Bool = if b then (long - 4, false) else (long, true) in
    length rest + length more ≤ goal.0
    → (goal.1 ≡ true → kept_prefix (record { long = long; whole = false }) (rest ++ more) ≡ kept_prefix (record { long = long; whole = false }) rest ++ more)
    × (goal.1 ≡ false → kept_prefix (record { long = long; whole = false }) (rest ++ more) ≡ kept_prefix (record { long = long; whole = false }) rest))
passed_more true long rest more head below = λ h. (
  λ f. absurd (cc),
  λ _.
      let one : drop (long - 4) (rest ++ more) ≡ [] = drop_all (long - 4) (rest ++ more) (omega (arith, length-append rest more)) in
      let two : drop (long - 4) rest ≡ [] = drop_all (long - 4) rest (omega arith) in
      rw (one, two, take-append-le) refl,
)
passed_more false long rest more head above = λ h. (
  λ _.
      let past : long - 4 ≤ length rest = ltb-false _ _ above in
      rw (take-append-le, drop-append-le) (sym (append_assoc (take 12 rest) (drop (long - 4) rest) more)),
  λ f. absurd (cc),
)

kept_more_some : (whole : Bool) (long : ℕ) (format : Format) (rest more : List ℕ) → 12 ≤ length rest
    → (let extent : Option Extent = Some (record { long = long; whole = whole }) in
    length rest + length more ≤ (goal_of format extent (length rest)).0
    → ((goal_of format extent (length rest)).1 ≡ true → keeps extent (rest ++ more) ≡ keeps extent rest ++ more)
    × ((goal_of format extent (length rest)).1 ≡ false → keeps extent (rest ++ more) ≡ keeps extent rest))
kept_more_some true long format rest more head = λ h. (λ _. refl, λ f. absurd (cc))
kept_more_some false long format rest more head = passed_more (nat_lt (length rest) (long - 4)) long rest more head refl

-- what is kept where more bytes come
pub kept_more : (format : Format) (extent : Option Extent) (rest more : List ℕ) → IsMeasured format extent rest
    → length rest + length more ≤ (goal_of format extent (length rest)).0
    → ((goal_of format extent (length rest)).1 ≡ true → keeps extent (rest ++ more) ≡ keeps extent rest ++ more)
    × ((goal_of format extent (length rest)).1 ≡ false → keeps extent (rest ++ more) ≡ keeps extent rest)
kept_more format None rest more m h = (λ _. refl, λ f. absurd (cc))
kept_more format (Some e) rest more m h =
    let some : head_len format ≤ length rest = m.0 in
    kept_more_some e.whole e.long format rest more (omega (arith, some, head_least format)) h

-- by what a reading has
pub gathers_from : (r : Reading) (format : Format) (extent : Option Extent) (rest : List ℕ) → r.format ≡ format → r.extent ≡ extent
    → r.seen ≡ length rest → (0 < length rest → r.kept.items ≡ keeps extent rest) → IsMeasured format extent rest
    → length rest ≤ wanted_count format extent → Gathers r rest
gathers_from r format extent rest f e seen kept measured within = record {
  seen = seen;
  kept = λ some. kept some ∙ ap (λ e. keeps e rest) (sym e);
  measured = subst (λ (g : Format). IsMeasured g r.extent rest) (sym f) (subst (λ (x : Option Extent). IsMeasured format x rest) (sym e) measured);
  within = subst (λ (g : Format). length rest ≤ wanted_count g r.extent) (sym f) (subst (λ (x : Option Extent). length rest ≤ wanted_count format x) (sym e) within);
}

pub gathers_more : (old begun new : Reading) (goal : ℕ × Bool) (rest part : List ℕ) → Gathers old rest
    → length rest < wanted_count old.format old.extent → Lies old begun → begun.seen ≡ old.seen → begun.kept.items ≡ keeps old.extent rest
    → goal ≡ goal_of begun.format begun.extent begun.seen → length part ≤ goal.0 - begun.seen → Lies begun new
    → new.seen ≡ begun.seen + length part → (goal.1 ≡ true → new.kept.items ≡ begun.kept.items ++ part)
    → (goal.1 ≡ false → new.kept.items ≡ begun.kept.items) → Gathers new (rest ++ part)
gathers_more old begun new goal rest part g short lies seen kept goal_is few lies_new seen_new kept_new passed_new =
    let extent_is : new.extent ≡ old.extent = lies_new.extent ∙ lies.extent in
    let format_is : new.format ≡ old.format = lies_new.stays.format ∙ lies.stays.format in
    let came : begun.seen ≡ length rest = seen ∙ g.seen in
    let same : goal ≡ goal_of old.format old.extent (length rest) =
    goal_is ∙ (ap (λ n. goal_of begun.format begun.extent n) came ∙ (ap (λ f. goal_of f begun.extent (length rest)) lies.stays.format ∙ ap (λ e. goal_of old.format e (length rest)) lies.extent)) in
    let ahead : length rest < (goal_of old.format old.extent (length rest)).0 = goal_ahead old.format old.extent (length rest) short in
    let front : goal.0 ≡ (goal_of old.format old.extent (length rest)).0 = ap (λ (p : ℕ × Bool). p.0) same in
    let back : goal.1 ≡ (goal_of old.format old.extent (length rest)).1 = ap (λ (p : ℕ × Bool). p.1) same in
    let fits : length rest + length part ≤ (goal_of old.format old.extent (length rest)).0 = omega arith in
    let more = kept_more old.format old.extent rest part g.measured fits in
    gathers_from new old.format old.extent (rest ++ part) format_is extent_is
    (omega (arith, length-append rest part))
    (λ _. by_bool goal.1 (λ t. kept_new t ∙ (ap (λ xs. xs ++ part) kept ∙ sym (more.0 (sym back ∙ t)))) (λ f. passed_new f ∙ (kept ∙ sym (more.1 (sym back ∙ f)))))
    (measured_more old.format old.extent rest part g.measured)
    (omega (arith, length-append rest part, goal_within old.format old.extent (length rest)))

-- ---- after units

pub stands_on : (old new : Reading) (bytes part : List ℕ) (records : List Record) (h : HasRead old bytes records) → KeepsUnits old new
    → Gathers new (h.rest ++ part) → IsInUnits new (bytes ++ part) records (h.rest ++ part)
stands_on old new bytes part records h stays gathers = record {
  front = h.front;
  joined = ap (λ xs. xs ++ part) h.joined ∙ append_assoc h.front h.rest part;
  units = subst (λ (f : Format). HasUnits h.front records f new.interfaces.items) (sym stays.format)
      (subst (λ (i : List Interface). HasUnits h.front records old.format i) (sym stays.interfaces) h.units);
  gathers = gathers;
  offset = stays.offset ∙ h.offset;
}

pub none_more : (format : Format) (interfaces : List Interface) (rest more : List ℕ) (kind : FaultKind) → IsNone format interfaces rest kind
    → IsNone format interfaces (rest ++ more) kind
none_more format interfaces rest more kind none =
    elim none [
      | inl head ↦ let some : head_len format ≤ length rest = head.0 in inl (omega (arith, some, length-append rest more), rw take-append-le head.1)
      | inr unit ↦ inr (unit.0, unit.1 ++ more, unit.2, ap (λ xs. xs ++ more) unit.3 ∙ append_assoc unit.0 unit.1 more, unit.4, unit.5)
    ]

pub stops_at : (old : Reading) (bytes piece : List ℕ) (count : ℕ) (records : List Record) (kind : FaultKind) (h : HasRead old bytes records)
    → IsNone old.format old.interfaces.items (h.rest ++ take count piece) kind → Stops (bytes ++ piece) records kind old.offset
stops_at old bytes piece count records kind h none = record {
  front = h.front;
  rest = h.rest ++ piece;
  format = old.format;
  interfaces = old.interfaces.items;
  joined = ap (λ xs. xs ++ piece) h.joined ∙ append_assoc h.front h.rest piece;
  units = h.units;
  none = subst (λ xs. IsNone old.format old.interfaces.items xs kind)
      (append_assoc h.rest (take count piece) (drop count piece) ∙ ap (λ xs. h.rest ++ xs) (take-append-drop count piece))
      (none_more old.format old.interfaces.items (h.rest ++ take count piece) (drop count piece) kind none);
  offset = h.offset;
}

-- bytes that are no unit after a call are none before it either, where the call keeps the units read so far
pub none_at : (old new : Reading) (rest : List ℕ) (kind : FaultKind) → KeepsUnits old new
    → IsNone new.format new.interfaces.items rest kind → IsNone old.format old.interfaces.items rest kind
none_at old new rest kind stays none =
    subst (λ (f : Format). IsNone f old.interfaces.items rest kind) stays.format
    (subst (λ (i : List Interface). IsNone new.format i rest kind) stays.interfaces none)

pub stays_both : (old now new : Reading) → KeepsUnits old now → KeepsUnits now new → KeepsUnits old new
stays_both old now new a b = record { format = b.format ∙ a.format; interfaces = b.interfaces ∙ a.interfaces; offset = b.offset ∙ a.offset }

-- ---- a unit is whole

pub unit_of : (r : Reading) (rest : List ℕ) (e : Extent) → Gathers r rest → r.extent ≡ Some e → e.long ≤ r.seen
    → IsUnit r.format e rest × (r.kept.items ≡ kept_prefix e rest)
unit_of r rest e g is long =
    let measured = subst (λ (x : Option Extent). IsMeasured r.format x rest) is g.measured in
    let within : length rest ≤ e.long = subst (λ (x : Option Extent). length rest ≤ wanted_count r.format x) is g.within in
    let some : head_len r.format ≤ length rest = measured.0 in
    let seen : r.seen ≡ length rest = g.seen in (
      record { has_head = some; extent_is = measured.1; long = omega arith },
      g.kept (omega (arith, some, head_least r.format)) ∙ ap (λ x. keeps x rest) is,
    )

-- a unit more
pub units_more : {format last : Format} {interfaces described : List Interface} {bytes : List ℕ} {records : List Record} (unit : List ℕ) (e : Extent) (meaning : Meaning)
    → Units format interfaces bytes records last described → IsUnit last e unit → meaning_of last described (kept_prefix e unit) ≡ Ok meaning
    → Units format interfaces (bytes ++ unit) (records ++ records_of (kept_prefix e unit) meaning) (format_after last meaning) (interfaces_after described meaning)
units_more unit e meaning (no_unit_more {format} {interfaces}) is means =
    let more = one_unit_more unit e meaning is means no_unit_more in
    subst (λ (records : List Record). Units format interfaces unit records (format_after format meaning) (interfaces_after interfaces meaning))
    (append-nil (records_of (kept_prefix e unit) meaning))
    (subst (λ (bytes : List ℕ). Units format interfaces bytes (records_of (kept_prefix e unit) meaning ++ []) (format_after format meaning) (interfaces_after interfaces meaning))
    (append-nil unit) more)
units_more unit e meaning (one_unit_more {format} {last} {interfaces} {described} {bytes} {records} first extent said is_first said_is units) is means =
    let more = one_unit_more first extent said is_first said_is (units_more unit e meaning units is means) in
    subst (λ (all : List Record). Units format interfaces ((first ++ bytes) ++ unit) all (format_after last meaning) (interfaces_after described meaning))
    (sym (append_assoc (records_of (kept_prefix extent first) said) records (records_of (kept_prefix e unit) meaning)))
    (subst (λ (all : List ℕ). Units format interfaces all (records_of (kept_prefix extent first) said ++ (records ++ records_of (kept_prefix e unit) meaning)) (format_after last meaning) (interfaces_after described meaning))
    (sym (append_assoc first bytes unit)) more)

pub read_on : (r : Reading) (bytes rest : List ℕ) (records : List Record) → IsInUnits r bytes records rest → length rest < wanted_count r.format r.extent
    → HasRead r bytes (records ++ [])
read_on r bytes rest records s short = record {
  front = s.front;
  rest = rest;
  joined = s.joined;
  units = rw append-nil s.units;
  gathers = s.gathers;
  short = short;
  offset = s.offset;
}

records_are : (kept : List ℕ) (meaning : Meaning) → given_in kept (given_by meaning) ≡ records_of kept meaning
records_are kept (means.Begins f) = refl
records_are kept (means.Describes i) = refl
records_are kept (means.Gives g) = refl
records_are kept means.Nothing = refl

pub clamped_on : (a b n : ℕ) → a ≡ bounded_count n → bounded_count (a + b) ≡ bounded_count (n + b)
clamped_on a b n e = omega arith

pub read_more : (old new : Reading) (bytes rest : List ℕ) (records : List Record) (e : Extent) (meaning : Meaning) (given : Option Given)
    → IsInUnits old bytes records rest → old.extent ≡ Some e → e.long ≤ old.seen
    → meaning_of old.format old.interfaces.items old.kept.items ≡ Ok meaning → ReadsUnit old new meaning given
    → HasRead new bytes (records ++ given_in new.kept.items given)
read_more old new bytes rest records e meaning given s is long means goes =
    let unit = unit_of old rest e s.gathers is long in
    let units = units_more rest e meaning s.units unit.0 (ap (λ kept. meaning_of old.format old.interfaces.items kept) (sym unit.1) ∙ means) in
    let same : given_in new.kept.items given ≡ records_of (kept_prefix e rest) meaning =
    ap (λ x. given_in new.kept.items x) goes.given ∙ (ap (λ k. given_in k (given_by meaning)) (goes.kept ∙ unit.1) ∙ records_are (kept_prefix e rest) meaning) in
    let seen : old.seen ≡ length rest = s.gathers.seen in
    record {
      front = s.front ++ rest;
      rest = [];
      joined = s.joined ∙ sym (append-nil (s.front ++ rest));
      units = rw (same, goes.format, goes.interfaces) units;
      gathers = gathers_from new new.format None [] refl goes.extent goes.seen (λ some. absurd (omega (arith, some))) tt (omega arith);
      short = subst (λ (x : Option Extent). 0 < wanted_count new.format x) (sym goes.extent) (omega (arith, head_least new.format));
      offset = goes.offset ∙ (ap (λ n. bounded_count (old.offset + n)) seen ∙ (clamped_on old.offset (length rest) (length s.front) s.offset ∙ ap bounded_count (sym (length-append s.front rest))));
    }

pub none_of : (r : Reading) (rest : List ℕ) (e : Extent) (kind : FaultKind) → Gathers r rest → r.extent ≡ Some e → e.long ≤ r.seen
    → meaning_of r.format r.interfaces.items r.kept.items ≡ Err kind → IsNone r.format r.interfaces.items rest kind
none_of r rest e kind g is long means =
    let unit = unit_of r rest e g is long in
    inr (rest, [], e, sym (append-nil rest), unit.0, ap (λ kept. meaning_of r.format r.interfaces.items kept) (sym unit.1) ∙ means)

-- ---- the head is whole

pub head_of : (r : Reading) (rest : List ℕ) → Gathers r rest → r.extent ≡ None → r.seen ≡ head_len r.format
    → (r.kept.items ≡ rest) × (take (head_len r.format) rest ≡ rest) × (head_len r.format ≤ length rest)
head_of r rest g none seen =
    let came : r.seen ≡ length rest = g.seen in
    (g.kept (omega (arith, head_least r.format)) ∙ ap (λ x. keeps x rest) none, take_all _ rest (omega arith), omega arith)

kept_head : (whole : Bool) (long : ℕ) (rest : List ℕ) → (whole ≡ false → (length rest ≡ 12) × (16 ≤ long))
    → kept_prefix (record { long = long; whole = whole }) rest ≡ rest
kept_head true long rest h = refl
kept_head false long rest h =
    let few = h refl in
    let none : drop (long - 4) rest ≡ [] = drop_all (long - 4) rest (omega (arith, few.0, few.1)) in
    let all : take 12 rest ≡ rest = take_all 12 rest (omega (arith, few.0)) in
    rw (none, all) (append-nil rest)

pub measured_by : (old new : Reading) (rest : List ℕ) (e : Extent) → Gathers old rest → old.extent ≡ None → old.seen ≡ head_len old.format
    → extent_of old.format old.kept.items ≡ Ok e → head_len old.format ≤ e.long
    → (e.whole ≡ false → (head_len old.format ≡ 12) × (16 ≤ e.long)) → Lies (record old { extent = Some e }) new → new.seen ≡ old.seen → new.kept.items ≡ old.kept.items
    → Gathers new rest
measured_by old new rest e g none seen measures long passed lies seen_new kept_new =
    let head = head_of old rest g none seen in
    let came : old.seen ≡ length rest = g.seen in
    gathers_from new old.format (Some e) rest lies.stays.format lies.extent (seen_new ∙ came)
    (λ _. kept_new ∙ (head.0 ∙ sym (kept_head e.whole e.long rest (λ f. (sym came ∙ (seen ∙ (passed f).0), (passed f).1)))))
    (head.2, ap (λ xs. extent_of old.format xs) (head.1 ∙ sym head.0) ∙ measures, long, passed)
    (omega arith)
