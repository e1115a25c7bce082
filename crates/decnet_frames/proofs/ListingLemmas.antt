-- The packets of one frame more, and where a listing ends.
use Rattle.std.proofs.Common.{◌≡◌, ℕ, suc, ◌+◌, ◌-◌, ◌≤◌, ◌<◌, List, [], ◌∷◌, ◌++◌, take, length, length-append, arith, Option, Some, None, refl, ap, sym, ◌∙◌, subst, append_assoc, append-nil, inl, inr}
use Rattle.std.specs.Prelude.{◌⊎◌, IfSome}
use Rattle.std.specs.Global.{Vec}
use Rattle.std.specs.Io.KnownBytes.{Appends, Consumes, IsAtEnd, Keeps}
use Rattle.std.proofs.KnownBytes.{Appends-nil, Appends-trans, Consumes-nil, Consumes-trans, Consumes-whole}
use Rattle.std.proofs.Math.Seq.{take-append-add}
use Rattle.linewise.specs.Output.{WritesFront}
use Rattle.capture_file.specs.Files.{IsCutShort, IsPart, IsWhole, Stops, bounded_count}
use Rattle.capture_file.specs.Meanings.{Record}
use Rattle.capture_file.specs.Reading.{HasRead, IsMeasured, wanted_count}
use Rattle.capture_file.specs.Files.Units.{no_unit_more}
use Rattle.capture_file.specs.declared.fault.FaultKind.{FaultKind}
use Rattle.capture_file.specs.declared.fault.FaultKind.TheVariants.{CutShort, NoMemory}
use Rattle.capture_file.specs.declared.fault.FileFault.{FileFault}
use Rattle.capture_file.specs.declared.reading.Reading.{Reading}
use Rattle.capture_file.specs.declared.units.Extent.{Extent}
use Rattle.capture_file.specs.declared.units.Format.{Format}
use Rattle.capture_file.specs.declared.units.Format.TheVariants.{Start}
use Rattle.capture_file.proofs.ForCallers.{none_more}
use Rattle.decnet_frames.specs.Found.{FoundPacket, TakesAll, Taking}
use Rattle.decnet_frames.specs.Founds.{counts_of_file, founds_from, founds_of_file, record_founds, record_pairs}
use Rattle.decnet_frames.specs.Inner.Progress.{AddsTexts, HasListed, HasStopped, IsAt, IsAtFault, IsEnded, StepFails, count_all, pairs_all, taken_with}
use Rattle.decnet_frames.specs.Listed.{HasJustRecords, HasRecords, IsListed, IsListedTo, TakesFile}
use Rattle.decnet_frames.specs.declared.run.FramesFault.{FramesFault}
use Rattle.decnet_frames.specs.declared.run.FramesFault.TheVariants.{File, ReadFailed, WriteFailed, NoMemory as Wants}
use Rattle.decnet_frames.specs.declared.run.Frames.{Frames}
use Rattle.decnet_frames.specs.declared.tally.Counts.{Counts}
use Rattle.decnet_frames.specs.declared.ways.Between.{Between}
use Rattle.decnet_frames.specs.declared.ways.Ends.{Ends}
use Rattle.decnet_frames.proofs.TakingLemmas.{takes_append}

-- ---- one frame more

pub pairs_more : (between : Between) (pairs : List Ends) (records : List Record) (r : Record)
    → pairs_all between pairs (records ++ r ∷ []) ≡ record_pairs between (pairs_all between pairs records) r
pairs_more between pairs [] r = refl
pairs_more between pairs (x ∷ records) r = pairs_more between (record_pairs between pairs x) records r

pub count_more : (count : ℕ) (records : List Record) (r : Record) → count_all count (records ++ r ∷ []) ≡ bounded_count (count_all count records + 1)
count_more count [] r = refl
count_more count (x ∷ records) r = count_more (bounded_count (count + 1)) records r

sums : (count n : ℕ) → bounded_count (count + 1 + n) ≡ bounded_count (count + suc n)
sums count n = omega arith

from_zero : (n : ℕ) → 0 + n ≡ n
from_zero n = omega arith

-- how many frames there are, without a step at each
pub count_is : (count : ℕ) (records : List Record) → count_all (bounded_count count) records ≡ bounded_count (count + length records)
count_is count [] = omega arith
count_is count (x ∷ records) =
    let here : bounded_count (bounded_count count + 1) ≡ bounded_count (count + 1) = omega arith in
    ap (λ n. count_all n records) here ∙ (count_is (count + 1) records ∙ sums count (length records))

-- and how many packets are taken
pub taken_is : (count : ℕ) (founds : List FoundPacket) → taken_with (bounded_count count) founds ≡ bounded_count (count + length founds)
taken_is count [] = omega arith
taken_is count (x ∷ founds) =
    let here : bounded_count (bounded_count count + 1) ≡ bounded_count (count + 1) = omega arith in
    ap (λ n. taken_with n founds) here ∙ (taken_is (count + 1) founds ∙ sums count (length founds))

founds_on : (between : Between) (pairs : List Ends) (count : ℕ) (records : List Record) (r : Record)
    → founds_from between pairs count (records ++ r ∷ [])
    ≡ founds_from between pairs count records ++ record_founds between (pairs_all between pairs records) (bounded_count (count_all count records + 1)) r
founds_on between pairs count [] r = append-nil (record_founds between pairs (bounded_count (count + 1)) r)
founds_on between pairs count (x ∷ records) r =
    let first = record_founds between pairs (bounded_count (count + 1)) x in
    let after = record_pairs between pairs x in
    let next = bounded_count (count + 1) in
    ap (λ fs. first ++ fs) (founds_on between after next records r)
    ∙ sym (append_assoc first (founds_from between after next records) (record_founds between (pairs_all between after records) (bounded_count (count_all next records + 1)) r))

-- what is found in the next frame
abbrev next_founds : Between → List Record → Record → List FoundPacket
next_founds between records r = record_founds between (pairs_all between [] records) (bounded_count (count_all 0 records + 1)) r

founds_more : (between : Between) (records : List Record) (r : Record) → founds_of_file between (records ++ r ∷ []) ≡ founds_of_file between records ++ next_founds between records r
founds_more between records r = founds_on between [] 0 records r

taken_more : (between : Between) (records : List Record) (r : Record) (count : ℕ) → count ≡ bounded_count (length (founds_of_file between records))
    → taken_with count (next_founds between records r) ≡ bounded_count (length (founds_of_file between (records ++ r ∷ [])))
taken_more between records r count e =
    let long : length (founds_of_file between (records ++ r ∷ [])) ≡ length (founds_of_file between records) + length (next_founds between records r) =
    ap length (founds_more between records r) ∙ length-append (founds_of_file between records) (next_founds between records r) in
    ap (λ n. taken_with n (next_founds between records r)) e
    ∙ (taken_is (length (founds_of_file between records)) (next_founds between records r) ∙ ap bounded_count (sym long))

-- the packets of a frame, as the program knows the pairs of nodes and the count
abbrev now_founds : Frames → Record → List FoundPacket
now_founds f r = record_founds f.tally.ways.between f.tally.ways.pairs.known.keys (bounded_count (f.tally.count + 1)) r

founds_are : {T : Type 0} (taken : Taking T) (between : Between) (first : T) (f : Frames) (now : T) (bytes written : List ℕ) (r : Record) (h : HasListed taken between first f now bytes written)
    → now_founds f r ≡ next_founds between h.records r
founds_are taken between first f now bytes written r h =
    ap (λ b. record_founds b f.tally.ways.pairs.known.keys (bounded_count (f.tally.count + 1)) r) h.between_is
    ∙ ap (λ ps. record_founds between ps (bounded_count (f.tally.count + 1)) r) h.pairs_are
    ∙ ap (λ n. record_founds between (pairs_all between [] h.records) (bounded_count (n + 1)) r) h.counted

-- no frame came
pub listed_none : {T : Type 0} (taken : Taking T) (between : Between) (first : T) (old new : Frames) (now : T) (bytes part written : List ℕ) (h : HasListed taken between first old now bytes written)
    → HasRead new.reading (bytes ++ part) (h.records ++ []) → new.tally ≡ old.tally → new.text ≡ old.text
    → HasListed taken between first new now (bytes ++ part) written
listed_none taken between first old new now bytes part written h read tally text = record {
  records = h.records;
  read = subst (λ (records : List Record). HasRead new.reading (bytes ++ part) records) (append-nil h.records) read;
  between_is = ap (λ t. t.ways.between) tally ∙ h.between_is;
  pairs_are = ap (λ t. t.ways.pairs.known.keys) tally ∙ h.pairs_are;
  counted = ap (λ t. t.count) tally ∙ h.counted;
  taken_is = ap (λ t. t.taken) tally ∙ h.taken_is;
  takes = subst (λ (t : List ℕ). TakesFile taken between first h.records now (written ++ t)) (sym (ap (λ t. t.items) text)) h.takes;
}

-- a frame came
pub listed_more : {T : Type 0} (taken : Taking T) (between : Between) (first : T) (old new : Frames) (had has : T) (bytes part written : List ℕ) (r : Record)
    → (h : HasListed taken between first old had bytes written)
    → HasRead new.reading (bytes ++ part) (h.records ++ r ∷ []) → new.tally.ways.between ≡ old.tally.ways.between
    → new.tally.ways.pairs.known.keys ≡ record_pairs old.tally.ways.between old.tally.ways.pairs.known.keys r
    → new.tally.count ≡ bounded_count (old.tally.count + 1)
    → new.tally.taken ≡ taken_with old.tally.taken (now_founds old r)
    → AddsTexts taken had (now_founds old r) has old.text new.text
    → HasListed taken between first new has (bytes ++ part) written
listed_more taken between first old new had has bytes part written r h read between_is pairs counted count adds =
    let same = founds_are taken between first old had bytes written r h in
    let took = subst (λ (fs : List FoundPacket). TakesAll taken had fs has adds.0) same adds.1 in
    let both = takes_append taken first had has (founds_of_file between h.records) (next_founds between h.records r) (written ++ old.text.items) adds.0 h.takes took in
    let joined : (written ++ old.text.items) ++ adds.0 ≡ written ++ new.text.items =
    append_assoc written old.text.items adds.0 ∙ ap (λ t. written ++ t) (sym adds.2) in
    record {
      records = h.records ++ r ∷ [];
      read = read;
      between_is = between_is ∙ h.between_is;
      pairs_are = pairs ∙ (ap (λ b. record_pairs b old.tally.ways.pairs.known.keys r) h.between_is
          ∙ (ap (λ ps. record_pairs between ps r) h.pairs_are ∙ sym (pairs_more between [] h.records r)));
      counted = counted ∙ (ap (λ n. bounded_count (n + 1)) h.counted ∙ sym (count_more 0 h.records r));
      taken_is = count ∙ (ap (λ fs. taken_with old.tally.taken fs) same ∙ taken_more between h.records r old.tally.taken h.taken_is);
      takes = subst (λ (t : List ℕ). TakesFile taken between first (h.records ++ r ∷ []) has t) joined
          (subst (λ (fs : List FoundPacket). TakesAll taken first fs has ((written ++ old.text.items) ++ adds.0)) (sym (founds_more between h.records r)) both);
    }

-- ---- what is known of an input of which some was taken

known_front : (a b : Option (List ℕ)) (bs : List ℕ) (P : List ℕ → Type 0) → Consumes a b bs → ((rest : List ℕ) → P (bs ++ rest)) → IfSome a P
known_front None b bs P c h = tt
known_front (Some xs) None bs P c h = absurd c
known_front (Some xs) (Some ys) bs P c h = subst P (sym c) (h ys)

known_all : (a b : Option (List ℕ)) (bs : List ℕ) (P : List ℕ → Type 0) → Consumes a b bs → ((xs : List ℕ) → Consumes (Some xs) b bs → P xs) → IfSome a P
known_all None b bs P c h = tt
known_all (Some xs) b bs P c h = h xs c

pub has_records : (r : Reading) (bytes more : List ℕ) (records : List Record) → HasRead r bytes records → HasRecords (bytes ++ more) records
has_records r bytes more records h = record {
  front = h.front;
  rest = h.rest ++ more;
  format = r.format;
  interfaces = r.interfaces.items;
  joined = ap (λ xs. xs ++ more) h.joined ∙ append_assoc h.front h.rest more;
  units = h.units;
}

records_more : (bytes more : List ℕ) (records : List Record) → HasRecords bytes records → HasRecords (bytes ++ more) records
records_more bytes more records h = record {
  front = h.front;
  rest = h.rest ++ more;
  format = h.format;
  interfaces = h.interfaces;
  joined = ap (λ xs. xs ++ more) h.joined ∙ append_assoc h.front h.rest more;
  units = h.units;
}

is_part : (format : Format) (extent : Option Extent) (rest : List ℕ) → IsMeasured format extent rest → length rest < wanted_count format extent → IsPart format rest
is_part format None rest measured short = inl short
is_part format (Some extent) rest measured short = inr (extent, measured.0, measured.1, short)

just_records : (r : Reading) (bytes : List ℕ) (records : List Record) → HasRead r bytes records → HasJustRecords bytes records
just_records r bytes records h = record {
  front = h.front;
  rest = h.rest;
  format = r.format;
  interfaces = r.interfaces.items;
  joined = h.joined;
  units = h.units;
  partial = is_part r.format r.extent h.rest h.gathers.measured h.short;
}

-- a fault after more bytes
stops_more : (bytes more : List ℕ) (records : List Record) (kind : FaultKind) (at : ℕ) → Stops bytes records kind at → Stops (bytes ++ more) records kind at
stops_more bytes more records kind at s = record {
  front = s.front;
  rest = s.rest ++ more;
  format = s.format;
  interfaces = s.interfaces;
  joined = ap (λ xs. xs ++ more) s.joined ∙ append_assoc s.front s.rest more;
  units = s.units;
  none = none_more s.format s.interfaces s.rest more kind s.none;
  offset = s.offset;
}

stops_records : (bytes : List ℕ) (records : List Record) (kind : FaultKind) (at : ℕ) → Stops bytes records kind at → HasRecords bytes records
stops_records bytes records kind at s =
    record { front = s.front; rest = s.rest; format = s.format; interfaces = s.interfaces; joined = s.joined; units = s.units }

-- ---- from read to read

-- at the start
pub at_start : {T : Type 0} (taken : Taking T) (between : Between) (f : Frames) (now : T) (input written : Option (List ℕ)) → HasRead f.reading [] []
    → f.tally.ways.between ≡ between → f.tally.ways.pairs.known.keys ≡ [] → f.tally.count ≡ 0 → f.tally.taken ≡ 0 → f.text.items ≡ []
    → IsAt taken between now f now input input written written
at_start taken between f now input written read between_is pairs count count_taken none = record {
  came = [];
  text = [];
  consumed = Consumes-nil input;
  listed = record { records = []; read = read; between_is = between_is; pairs_are = pairs; counted = count; taken_is = count_taken; takes = (refl, none) };
  appended = Appends-nil written;
  none_left = none;
}

-- a piece came, and its text was written
pub at_more : {T : Type 0} (taken : Taking T) (between : Between) (first : T) (old mid new : Frames) (had has : T) (input unread left start written holds : Option (List ℕ)) (piece : List ℕ)
    → IsAt taken between first old had input unread start written → Consumes unread left piece
    → ((bytes text : List ℕ) → HasListed taken between first old had bytes text → HasListed taken between first mid has (bytes ++ piece) text)
    → Appends written holds mid.text.items → new.reading ≡ mid.reading → new.tally ≡ mid.tally → new.text.items ≡ []
    → IsAt taken between first new has input left start holds
at_more taken between first old mid new had has input unread left start written holds piece a consumed listed appended reading tally none =
    let h = listed a.came a.text a.listed in
    record {
      came = a.came ++ piece;
      text = a.text ++ mid.text.items;
      consumed = Consumes-trans input unread left a.came piece a.consumed consumed;
      listed = record {
        records = h.records;
        read = subst (λ (r : Reading). HasRead r (a.came ++ piece) h.records) (sym reading) h.read;
        between_is = ap (λ t. t.ways.between) tally ∙ h.between_is;
        pairs_are = ap (λ t. t.ways.pairs.known.keys) tally ∙ h.pairs_are;
        counted = ap (λ t. t.count) tally ∙ h.counted;
        taken_is = ap (λ t. t.taken) tally ∙ h.taken_is;
        takes = subst (λ (t : List ℕ). TakesFile taken between first h.records has t)
            (sym (ap (λ t. (a.text ++ mid.text.items) ++ t) none ∙ append-nil (a.text ++ mid.text.items))) h.takes;
      };
      appended = Appends-trans start written holds a.text mid.text.items a.appended appended;
      none_left = none;
    }

pub counts_are_both : (counts : Counts) (taken passed : ℕ) → counts.taken ≡ taken → counts.passed ≡ passed → counts ≡ record { taken = taken; passed = passed }
counts_are_both counts taken passed one two =
    ap (λ (n : ℕ). record { taken = n; passed = counts.passed }) one ∙ ap (λ (n : ℕ). record { taken = taken; passed = n }) two

-- the counts of a listing are those of its frames
counts_are : (between : Between) (records : List Record) (count taken : ℕ) (counts : Counts) → count ≡ count_all 0 records
    → taken ≡ bounded_count (length (founds_of_file between records)) → counts.taken ≡ taken → counts.passed ≡ count - taken → counts ≡ counts_of_file between records
counts_are between records count taken counts counted taken_so first other =
    let all : count ≡ bounded_count (length records) = counted ∙ (count_is 0 records ∙ ap bounded_count (from_zero (length records))) in
    counts_are_both counts (bounded_count (length (founds_of_file between records))) (bounded_count (length records) - bounded_count (length (founds_of_file between records)))
    (first ∙ taken_so) (other ∙ (ap (λ n. n - taken) all ∙ ap (λ n. bounded_count (length records) - n) taken_so))

-- all that was taken is written
written_all : {T : Type 0} (taken : Taking T) (between : Between) (first : T) (f : Frames) (now : T) (records : List Record) (text : List ℕ) → f.text.items ≡ []
    → TakesFile taken between first records now (text ++ f.text.items) → TakesFile taken between first records now text
written_all taken between first f now records text none takes =
    subst (λ (t : List ℕ). TakesFile taken between first records now t) (ap (λ t. text ++ t) none ∙ append-nil text) takes

-- the input is over
pub listed_whole : {T : Type 0} (taken : Taking T) (between : Between) (first : T) (f : Frames) (now : T) (input unread left start holds : Option (List ℕ)) (piece : List ℕ) (counts : Counts)
    → IsAt taken between first f now input unread start holds → Consumes unread left piece → piece ≡ [] → IsAtEnd left
    → ((bytes : List ℕ) (records : List Record) → HasRead f.reading bytes records → IsWhole bytes records)
    → counts.taken ≡ f.tally.taken → counts.passed ≡ f.tally.count - f.tally.taken
    → IfSome input (λ bytes. IsListed taken between first bytes now start holds counts)
listed_whole taken between first f now input unread left start holds piece counts a consumed none over whole count passed =
    let h = a.listed in
    let all : Consumes input left a.came = subst (λ (xs : List ℕ). Consumes input left xs) (ap (λ xs. a.came ++ xs) none ∙ append-nil a.came)
    (Consumes-trans input unread left a.came piece a.consumed consumed) in
    Consumes-whole input left a.came (λ bytes. IsListed taken between first bytes now start holds counts) all over (
      h.records,
      a.text,
      whole a.came h.records h.read,
      written_all taken between first f now h.records a.text a.none_left h.takes,
      a.appended,
      counts_are between h.records f.tally.count f.tally.taken counts h.counted h.taken_is count passed,
    )

-- it ends too soon
pub listed_cut : {T : Type 0} (taken : Taking T) (between : Between) (first : T) (f : Frames) (now : T) (input unread left start holds : Option (List ℕ)) (piece : List ℕ) (fault : FileFault) (counts : Counts)
    → IsAt taken between first f now input unread start holds → Consumes unread left piece → piece ≡ [] → IsAtEnd left → fault.kind ≡ CutShort
    → ((bytes : List ℕ) (records : List Record) → HasRead f.reading bytes records → IsCutShort bytes records fault.at)
    → counts.taken ≡ f.tally.taken → counts.passed ≡ f.tally.count - f.tally.taken
    → IfSome input (λ bytes. IsListedTo taken between first bytes now left start holds (File fault counts))
listed_cut taken between first f now input unread left start holds piece fault counts a consumed none over kind cut count passed =
    let h = a.listed in
    let all : Consumes input left a.came = subst (λ (xs : List ℕ). Consumes input left xs) (ap (λ xs. a.came ++ xs) none ∙ append-nil a.came)
    (Consumes-trans input unread left a.came piece a.consumed consumed) in
    Consumes-whole input left a.came (λ bytes. IsListedTo taken between first bytes now left start holds (File fault counts)) all over (
      h.records,
      a.text,
      inr (kind, cut a.came h.records h.read),
      written_all taken between first f now h.records a.text a.none_left h.takes,
      a.appended,
      counts_are between h.records f.tally.count f.tally.taken counts h.counted h.taken_is count passed,
    )

kept_left : (a b c : Option (List ℕ)) (bs : List ℕ) → Consumes a b bs → Keeps b c → Consumes a c bs
kept_left None b c bs one other = tt
kept_left (Some xs) None c bs one other = absurd one
kept_left (Some xs) (Some ys) None bs one other = absurd other
kept_left (Some xs) (Some ys) (Some zs) bs one other = subst (λ (l : List ℕ). xs ≡ bs ++ l) (sym other) one

-- the reader fails
pub listed_so_far : {T : Type 0} (taken : Taking T) (between : Between) (first : T) (f : Frames) (now : T) (input unread left start holds : Option (List ℕ))
    → IsAt taken between first f now input unread start holds → Keeps unread left
    → IfSome input (λ bytes. IsListedTo taken between first bytes now left start holds ReadFailed)
listed_so_far taken between first f now input unread left start holds a keeps =
    let h = a.listed in
    known_all input left a.came (λ bytes. IsListedTo taken between first bytes now left start holds ReadFailed) (kept_left input unread left a.came a.consumed keeps)
    (λ bytes consumed. (
      a.came,
      h.records,
      a.text,
      consumed,
      just_records f.reading a.came h.records h.read,
      written_all taken between first f now h.records a.text a.none_left h.takes,
      a.appended,
    ))

-- the writer fails after what was written
front_more : (a b c : Option (List ℕ)) (front text all : List ℕ) → Appends a b front → WritesFront b c text → front ++ text ≡ all → WritesFront a c all
front_more a b c front text all appended writes same =
    let count : writes.0 ≤ length text = writes.1 in
    subst (λ (t : List ℕ). WritesFront a c t) same (
      length front + writes.0,
      omega (arith, length-append front text),
      subst (λ (t : List ℕ). Appends a c t) (sym (take-append-add front text writes.0)) (Appends-trans a b c front (take writes.0 text) appended writes.2),
    )

-- the writer fails with the text of a piece
pub listed_front : {T : Type 0} (taken : Taking T) (between : Between) (first : T) (old mid : Frames) (had has now : T) (input unread left start written holds : Option (List ℕ)) (piece : List ℕ)
    → IsAt taken between first old had input unread start written → Consumes unread left piece
    → ((bytes text : List ℕ) → HasListed taken between first old had bytes text → HasListed taken between first mid has (bytes ++ piece) text)
    → WritesFront written holds mid.text.items → IfSome input (λ bytes. IsListedTo taken between first bytes now left start holds WriteFailed)
listed_front taken between first old mid had has now input unread left start written holds piece a consumed listed writes =
    let h = listed a.came a.text a.listed in
    known_front input left (a.came ++ piece) (λ bytes. IsListedTo taken between first bytes now left start holds WriteFailed)
    (Consumes-trans input unread left a.came piece a.consumed consumed)
    (λ more. (
      h.records,
      has,
      a.text ++ mid.text.items,
      has_records mid.reading (a.came ++ piece) more h.records h.read,
      h.takes,
      front_more start written holds a.text mid.text.items (a.text ++ mid.text.items) a.appended writes refl,
    ))

records_stopped : {T : Type 0} (between : Between) (f : Frames) (now last : T) (bytes : List ℕ) (records : List Record) (fault : FileFault)
    → ((fault.kind ≡ NoMemory) × HasRecords bytes records) ⊎ IsAtFault between f now last bytes records fault → HasRecords bytes records
records_stopped between f now last bytes records fault (inl (kind, has)) = has
records_stopped between f now last bytes records fault (inr at) = stops_records bytes records fault.kind fault.at at.stops

-- it is at fault, or memory is refused
pub listed_to : {T : Type 0} (taken : Taking T) (between : Between) (first : T) (old mid : Frames) (had has : T) (input unread left start written holds : Option (List ℕ)) (piece : List ℕ) (fault : FileFault) (counts : Counts) (ended : FramesFault)
    → IsAt taken between first old had input unread start written → Consumes unread left piece → StepFails taken old had mid has piece fault
    → counts.taken ≡ mid.tally.taken → counts.passed ≡ mid.tally.count - mid.tally.taken
    → IsEnded fault counts mid.text.items written holds ended → IfSome input (λ bytes. IsListedTo taken between first bytes has left start holds ended)
listed_to {T} taken between first old mid had has input unread left start written holds piece fault counts ended a consumed fails count passed is_ended =
    let P : FramesFault → Type 0 = λ e. IfSome input (λ bytes. IsListedTo taken between first bytes has left start holds e) in
    let s = fails between first a.came a.text a.listed in
    let all = Consumes-trans input unread left a.came piece a.consumed consumed in
    let text = a.text ++ mid.text.items in
    let has_so = records_stopped between mid has s.last (a.came ++ piece) s.records fault s.why in
    elim is_ended [
      | inl front ↦ subst P (sym front.0)
          (known_front input left (a.came ++ piece) (λ bytes. IsListedTo taken between first bytes has left start holds WriteFailed) all
          (λ rest. (
            s.records,
            s.last,
            text,
            records_more (a.came ++ piece) rest s.records has_so,
            s.takes,
            front_more start written holds a.text mid.text.items text a.appended front.1 refl,
          )))
      | inr told ↦
          let appended = Appends-trans start written holds a.text mid.text.items a.appended told.0 in
          elim told.1 [
            | inl wants ↦ subst P (sym wants.1)
                (known_front input left (a.came ++ piece) (λ bytes. IsListedTo taken between first bytes has left start holds Wants) all
                (λ rest. (s.records, s.last, text, records_more (a.came ++ piece) rest s.records has_so, s.takes, appended)))
            | inr file ↦ subst P (sym file.1)
                (known_front input left (a.came ++ piece) (λ bytes. IsListedTo taken between first bytes has left start holds (File fault counts)) all
                (λ rest. elim s.why [
                  | inl memory ↦ absurd (file.0 memory.0)
                  | inr at ↦ (
                    s.records,
                    text,
                    inl (stops_more (a.came ++ piece) rest s.records fault.kind fault.at at.stops),
                    subst (λ (t : T). TakesFile taken between first s.records t text) at.same s.takes,
                    appended,
                    counts_are between s.records mid.tally.count mid.tally.taken counts at.counted at.taken_is count passed,
                  )
                ]))
          ]
    ]

-- nothing came
pub nothing_came : {T : Type 0} (taken : Taking T) (between : Between) (first now : T) (input left written : Option (List ℕ))
    → IfSome input (λ bytes. IsListedTo taken between first bytes now left written written Wants)
nothing_came taken between first now None left written = tt
nothing_came taken between first now (Some xs) left written =
    ([], first, [], record { front = []; rest = xs; format = Start; interfaces = []; joined = refl; units = no_unit_more }, (refl, refl), Appends-nil written)

-- what isn't touched stays
pub keeps_same : (known : Option (List ℕ)) → Keeps known known
keeps_same None = tt
keeps_same (Some xs) = refl
