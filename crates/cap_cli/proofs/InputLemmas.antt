-- An input has one list of packets, which have bytes, and one text.
use Rattle.std.proofs.Common.{◌≡◌, ◌∙◌, refl, sym, ap, subst, arith, inl, inr, ℕ, zero, suc, ◌-◌, cond, Bool, true, false, List, [], ◌∷◌, ◌++◌, take, drop, Option, Some, None, Result, Ok, Err}
use Rattle.std.specs.Prelude.{if◌then◌else◌}
use Rattle.std.specs.Option.{option_map_or}
use Rattle.std.specs.Result.{result_unwrap_or}
use Rattle.std.specs.List.{AllByRecursion, filter}
use Rattle.std.specs.Str.Lines.{lines}
use Rattle.hex.specs.Hex.{decode_of}
use Rattle.hex.specs.declared.error.FromHexError.{FromHexError}
use Rattle.hex.proofs.HexLemmas.{decode_of-ok}
use Rattle.dap_fields.specs.Spelling.{AreBytes}
use Rattle.capture_file.specs.Files.{IsCutShort, IsWhole, Stops, Units}
use Rattle.capture_file.specs.Files.Units.{no_unit_more, one_unit_more}
use Rattle.capture_file.specs.Meanings.{Record, records_of}
use Rattle.capture_file.specs.Units.{kept_prefix}
use Rattle.capture_file.specs.declared.fault.FaultKind.{FaultKind}
use Rattle.capture_file.specs.declared.fault.FileFault.{FileFault}
use Rattle.capture_file.specs.declared.meaning.Interface.{Interface}
use Rattle.capture_file.specs.declared.meaning.Meaning.{Meaning}
use Rattle.capture_file.specs.declared.meaning.Meaning.TheVariants.{Begins, Describes, Gives, Nothing}
use Rattle.capture_file.specs.declared.units.Extent.{Extent}
use Rattle.capture_file.specs.declared.units.Format.{Format}
use Rattle.dap_listing.specs.Lines.{Capture}
use Rattle.decnet_frames.specs.Founds.{counts_of_file, founds_of_file}
use Rattle.decnet_frames.specs.Lines.{capture_in, comment_origin, found_in, founds_of_lines, packets_after, packets_of_lines, takes_packet}
use Rattle.decnet_frames.specs.Listed.{FileFails}
use Rattle.decnet_frames.specs.Origins.{PacketOrigin}
use Rattle.decnet_frames.specs.declared.ways.Between.{Between}
use Rattle.dap_follow.specs.Listed.{PacketsAreListed}
use Rattle.cap_cli.specs.Running.{AreFrames, FileHas, Founds, LinesHave}
use Rattle.cap_cli.specs.Tasks.{TextsBy, chosen_of}
use Rattle.cap_cli.specs.declared.telling.FileEnd.{FileEnd}
use Rattle.cap_cli.specs.declared.telling.LinesEnd.{LinesEnd}
use Rattle.cap_cli.specs.declared.words.Options.{Options}

-- ---- packets of lines have bytes

-- the bytes of packets
abbrev pub FoundBytes : Founds → Type 0
FoundBytes founds = AllByRecursion (λ p. AreBytes p.bytes) founds

no_bytes : AreBytes []
no_bytes zero = omega arith
no_bytes (suc i) = omega arith

captured_bytes : (origin : Option PacketOrigin) (capture : Capture) → AreBytes (found_in origin capture).bytes
captured_bytes origin (way, digits) = by (decode_of digits) refl
  where
    by : (r : Result (List ℕ) FromHexError) → decode_of digits ≡ r → AreBytes (result_unwrap_or r [])
    by (Ok bytes) is = (decode_of-ok digits bytes is).3
    by (Err fault) is = no_bytes

both_all : {X : Type 0} (P : X → Type 0) (xs ys : List X) → AllByRecursion P xs → AllByRecursion P ys → AllByRecursion P (xs ++ ys)
both_all P [] ys all more = more
both_all P (x ∷ xs) ys all more = (all.0, both_all P xs ys all.1 more)

after_bytes : (origin : Option PacketOrigin) (ls : List (List ℕ)) → FoundBytes (packets_after origin ls)
after_bytes origin [] = tt
after_bytes origin (line ∷ others) =
    both_all _ (option_map_or (λ capture. found_in origin capture ∷ []) (capture_in line) []) (packets_after (comment_origin line) others)
    (by (capture_in line)) (after_bytes (comment_origin line) others)
  where
    by : (o : Option Capture) → FoundBytes (option_map_or (λ capture. found_in origin capture ∷ []) o [])
    by None = tt
    by (Some capture) = (captured_bytes origin capture, tt)

filtered : {X : Type 0} (P : X → Type 0) (test : X → Bool) (xs : List X) → AllByRecursion P xs → AllByRecursion P (filter test xs)
filtered P test [] all = tt
filtered {X = X} P test (x ∷ xs) all = by (test x) (filtered P test xs all.1)
  where
    by : (t : Bool) → AllByRecursion P (filter test xs) → AllByRecursion P (cond t (x ∷ filter test xs) (filter test xs))
    by true rest = (all.0, rest)
    by false rest = rest

pub lines_bytes : (between : Between) (input : List ℕ) → FoundBytes (founds_of_lines between input)
lines_bytes between input = filtered _ (takes_packet between) (packets_of_lines input) (after_bytes None (lines input))

-- ---- and those of a file

bytes_behind : (xs ys : List ℕ) → AreBytes (xs ++ ys) → AreBytes ys
bytes_behind [] ys are = are
bytes_behind (x ∷ xs) ys are = bytes_behind xs ys (λ i. are (suc i))

bytes_first : (xs ys : List ℕ) → AreBytes (xs ++ ys) → AreBytes xs
bytes_first [] ys are i = no_bytes i
bytes_first (x ∷ xs) ys are zero = are zero
bytes_first (x ∷ xs) ys are (suc i) = bytes_first xs ys (λ k. are (suc k)) i

bytes_both : (xs ys : List ℕ) → AreBytes xs → AreBytes ys → AreBytes (xs ++ ys)
bytes_both [] ys are others i = others i
bytes_both (x ∷ xs) ys are others zero = are zero
bytes_both (x ∷ xs) ys are others (suc i) = bytes_both xs ys (λ k. are (suc k)) others i

bytes_drop : (n : ℕ) (xs : List ℕ) → AreBytes xs → AreBytes (drop n xs)
bytes_drop zero xs are = are
bytes_drop (suc n) [] are = no_bytes
bytes_drop (suc n) (x ∷ xs) are = bytes_drop n xs (λ i. are (suc i))

bytes_take : (n : ℕ) (xs : List ℕ) → AreBytes xs → AreBytes (take n xs)
bytes_take zero xs are i = no_bytes i
bytes_take (suc n) [] are i = no_bytes i
bytes_take (suc n) (x ∷ xs) are zero = are zero
bytes_take (suc n) (x ∷ xs) are (suc i) = bytes_take n xs (λ k. are (suc k)) i

kept_bytes : (extent : Extent) (unit : List ℕ) → AreBytes unit → AreBytes (kept_prefix extent unit)
kept_bytes extent unit are = by extent.whole
  where
    by : (t : Bool) → AreBytes (if t then unit else take 12 unit ++ drop (extent.long - 4) unit)
    by true = are
    by false = bytes_both (take 12 unit) (drop (extent.long - 4) unit) (bytes_take 12 unit are) (bytes_drop (extent.long - 4) unit are)

abbrev RecordBytes : List Record → Type 0
RecordBytes records = AllByRecursion (λ r. AreBytes r.bytes) records

unit_bytes : (kept : List ℕ) (meaning : Meaning) → AreBytes kept → RecordBytes (records_of kept meaning)
unit_bytes kept (Gives given) are = (bytes_take given.count (drop given.from kept) (bytes_drop given.from kept are), tt)
unit_bytes kept (Begins next) are = tt
unit_bytes kept (Describes interface) are = tt
unit_bytes kept Nothing are = tt

units_bytes : (format last : Format) (interfaces described : List Interface) (bytes : List ℕ) (records : List Record) → Units format interfaces bytes records last described
    → AreBytes bytes → RecordBytes records
units_bytes format last interfaces described bytes records no_unit_more are = tt
units_bytes format last interfaces described bytes records (one_unit_more {bytes = others} {records = found} unit extent meaning is means more) are =
    both_all _ (records_of (kept_prefix extent unit) meaning) found (unit_bytes (kept_prefix extent unit) meaning (kept_bytes extent unit (bytes_first unit others are)))
    (units_bytes _ last _ described others found more (bytes_behind unit others are))

stopped_bytes : (input : List ℕ) (records : List Record) (kind : FaultKind) (at : ℕ) → Stops input records kind at → AreBytes input → RecordBytes records
stopped_bytes input records kind at s are = units_bytes _ s.format [] s.interfaces s.front records s.units (bytes_first s.front s.rest (subst AreBytes s.joined are))

cut_bytes : (input : List ℕ) (records : List Record) (at : ℕ) → IsCutShort input records at → AreBytes input → RecordBytes records
cut_bytes input records at s are = units_bytes _ s.format [] s.interfaces s.front records s.units (bytes_first s.front s.rest (subst AreBytes s.joined are))

pub frames_bytes : (fault : Option FileFault) (input : List ℕ) (records : List Record) → AreFrames fault input records → AreBytes input → RecordBytes records
frames_bytes None input records whole are = units_bytes _ whole.format [] whole.interfaces input records whole.units are
frames_bytes (Some fault) input records (inl stops) are = stopped_bytes input records fault.kind fault.at stops are
frames_bytes (Some fault) input records (inr (kind, cut)) are = cut_bytes input records fault.at cut are

-- ---- a file has one list of frames, and one end

-- what the law of files says
pub record OneReading : Type 0 where
  pub whole : (bytes : List ℕ) (records others : List Record) → IsWhole bytes records → IsWhole bytes others → records ≡ others
  pub stops : (bytes : List ℕ) (records others : List Record) (kind other : FaultKind) (at offset : ℕ) → Stops bytes records kind at → Stops bytes others other offset
      → (records ≡ others) × (kind ≡ other) × (at ≡ offset)
  pub cut : (bytes : List ℕ) (records others : List Record) (at offset : ℕ) → IsCutShort bytes records at → IsCutShort bytes others offset → (records ≡ others) × (at ≡ offset)
  pub whole_or_stops : (bytes : List ℕ) (records others : List Record) (kind : FaultKind) (at : ℕ) → IsWhole bytes records → Stops bytes others kind at → ⊥
  pub whole_or_cut : (bytes : List ℕ) (records others : List Record) (at : ℕ) → IsWhole bytes records → IsCutShort bytes others at → ⊥
  pub cut_or_stops : (bytes : List ℕ) (records others : List Record) (kind : FaultKind) (at offset : ℕ) → IsCutShort bytes records offset → Stops bytes others kind at → ⊥

same_fault : (a b : FileFault) → a.kind ≡ b.kind → a.at ≡ b.at → a ≡ b
same_fault a b kinds ats =
    let first : a ≡ record { kind = b.kind; at = a.at } = ap (λ (k : FaultKind). record { kind = k; at = a.at }) kinds in
    first ∙ ap (λ (n : ℕ). record { kind = b.kind; at = n }) ats

never : OneReading → (input : List ℕ) (records others : List Record) (fault : FileFault) → IsWhole input records → FileFails input others fault → ⊥
never law input records others fault whole (inl stops) = law.whole_or_stops input records others fault.kind fault.at whole stops
never law input records others fault whole (inr (kind, cut)) = law.whole_or_cut input records others fault.at whole cut

one_fault : OneReading → (input : List ℕ) (records others : List Record) (a b : FileFault) → FileFails input records a → FileFails input others b → (a ≡ b) × (records ≡ others)
one_fault law input records others a b (inl x) (inl y) =
    let same = law.stops input records others a.kind b.kind a.at b.at x y in (same_fault a b same.1 same.2, same.0)
one_fault law input records others a b (inl x) (inr (kind, y)) = absurd (law.cut_or_stops input others records a.kind a.at b.at y x)
one_fault law input records others a b (inr (kind, x)) (inl y) = absurd (law.cut_or_stops input records others b.kind b.at a.at x y)
one_fault law input records others a b (inr (kind, x)) (inr (kind', y)) =
    let same = law.cut input records others a.at b.at x y in (same_fault a b (kind ∙ sym kind') same.1, same.0)

one_frames : OneReading → (input : List ℕ) (records others : List Record) (a b : Option FileFault) → AreFrames a input records → AreFrames b input others → (a ≡ b) × (records ≡ others)
one_frames law input records others None None x y = (refl, law.whole input records others x y)
one_frames law input records others None (Some b) x y = absurd (never law input records others b x y)
one_frames law input records others (Some a) None x y = absurd (never law input others records a y x)
one_frames law input records others (Some a) (Some b) x y = let same = one_fault law input records others a b x y in (ap (λ (f : FileFault). Some f) same.0, same.1)

same_end : (a b : FileEnd) → a.fault ≡ b.fault → a.counts ≡ b.counts → a ≡ b
same_end a b faults counts =
    let first : a ≡ record { fault = b.fault; counts = a.counts } = ap (λ (f : Option FileFault). record { fault = f; counts = a.counts }) faults in
    first ∙ ap (λ k. record { fault = b.fault; counts = k }) counts

pub one_file : OneReading → (between : Between) (input : List ℕ) (end other : FileEnd) (founds others : Founds) → FileHas between input end founds → FileHas between input other others
    → (end ≡ other) × (founds ≡ others)
one_file law between input end other founds others (records, are, is, counts) (records', are', is', counts') =
    let same = one_frames law input records records' end.fault other.fault are are' in (
      same_end end other same.0 (counts ∙ ap (λ (r : List Record). counts_of_file between r) same.1 ∙ sym counts'),
      is ∙ ap (λ (r : List Record). founds_of_file between r) same.1 ∙ sym is',
    )

-- ---- and so have lines

pub one_of_lines : (between : Between) (input : List ℕ) (end other : LinesEnd) (founds others : Founds) → LinesHave between input end founds → LinesHave between input other others
    → (end ≡ other) × (founds ≡ others)
one_of_lines between input end other founds others (is, counts, bad) (is', counts', bad') =
    let first : end ≡ record { is_bad = other.is_bad; counts = end.counts } = ap (λ (b : Bool). record { is_bad = b; counts = end.counts }) (bad ∙ sym bad') in
    (first ∙ ap (λ k. record { is_bad = other.is_bad; counts = k }) (counts ∙ sym counts'), is ∙ sym is')

-- ---- packets have one text

-- packets that have one listing have one text
pub one_text_by : (t : Bool) (options : Options) (founds : Founds) (written rest others ends : List ℕ)
    → (PacketsAreListed (chosen_of options) founds written rest → PacketsAreListed (chosen_of options) founds others ends → (written ≡ others) × (rest ≡ ends))
    → TextsBy t options founds written rest → TextsBy t options founds others ends → (written ≡ others) × (rest ≡ ends)
one_text_by true options founds written rest others ends one (is, none) (is', none') = (is ∙ sym is', none ∙ sym none')
one_text_by false options founds written rest others ends one x y = one x y
