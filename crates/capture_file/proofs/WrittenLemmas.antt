-- What a writer of pcap writes is read.
use Rattle.std.proofs.Common.{◌≡◌, ℕ, ◌+◌, ◌*◌, ◌^◌, ◌<◌, true, List, [], ◌∷◌, ◌++◌, take, drop, length, map, Some, Result, Ok, arith, refl, subst}
use Rattle.std.specs.List.{AllByRecursion, flat_map}
use Rattle.byteorder.specs.Numbers.{big_number-reads_back, little_number-reads_back}
use Rattle.capture_file.specs.Numbers.{u32_at}
use Rattle.capture_file.specs.Units.{IsUnit, extent_of}
use Rattle.capture_file.specs.Files.{IsWhole, Units}
use Rattle.capture_file.specs.Files.Units.{no_unit_more, one_unit_more}
use Rattle.capture_file.specs.Meanings.{Record, meaning_of, record_meaning, records_of}
use Rattle.capture_file.specs.Written.{FitsFrame, Frame, SecondParts, PcapHeader, digits_of, file_header_bytes, parts_of_second, pcap_bytes, record_bytes, record_of_frame}
use Rattle.capture_file.specs.Written.SecondParts.{Billionths, Millionths}
use Rattle.capture_file.specs.declared.fault.FaultKind.{FaultKind}
use Rattle.capture_file.specs.declared.units.Extent.{Extent}
use Rattle.capture_file.specs.declared.units.Order.{Order}
use Rattle.capture_file.specs.declared.units.Order.TheVariants.{Big, Little}
use Rattle.capture_file.specs.declared.units.Format.TheVariants.{Start, Pcap}
use Rattle.capture_file.specs.declared.meaning.Meaning.{Meaning}
use Rattle.capture_file.specs.declared.meaning.Meaning.TheVariants.{Begins, Gives}

-- ---- the header

abbrev pub whole_of : ℕ → Extent
whole_of long = record { long = long; whole = true }

header_extent : (order : Order) (parts : SecondParts) (h : PcapHeader) → extent_of Start (take 12 (file_header_bytes order parts h)) ≡ Ok (whole_of 24)
unfolding u32_at
header_extent Big Millionths h = refl
header_extent Big Billionths h = refl
header_extent Little Millionths h = refl
header_extent Little Billionths h = refl

header_long : (order : Order) (parts : SecondParts) (h : PcapHeader) → length (file_header_bytes order parts h) ≡ 24
header_long Big parts h = refl
header_long Little parts h = refl

header_unit : (order : Order) (parts : SecondParts) (h : PcapHeader) → IsUnit Start (whole_of 24) (file_header_bytes order parts h)
header_unit order parts h = record { has_head = omega (arith, header_long order parts h); extent_is = header_extent order parts h; long = header_long order parts h }

pub link_at : (order : Order) (parts : SecondParts) (h : PcapHeader) → h.above < 2 ^ 16 → u32_at order 20 (file_header_bytes order parts h) ≡ h.above * 65536 + 1
unfolding u32_at
link_at Big parts h few = big_number-reads_back 4 (h.above * 65536 + 1) [] (omega arith)
link_at Little parts h few = little_number-reads_back 4 (h.above * 65536 + 1) [] (omega arith)

-- ---- a record

pub seconds_at : (order : Order) (f : Frame) → f.seconds < 2 ^ 32 → u32_at order 0 (record_bytes order f) ≡ f.seconds
unfolding u32_at
seconds_at Big f h = big_number-reads_back 4 f.seconds [] h
seconds_at Little f h = little_number-reads_back 4 f.seconds [] h

pub parts_at : (order : Order) (f : Frame) → f.parts < 2 ^ 32 → u32_at order 4 (record_bytes order f) ≡ f.parts
unfolding u32_at
parts_at Big f h = big_number-reads_back 4 f.parts [] h
parts_at Little f h = little_number-reads_back 4 f.parts [] h

pub count_at : (order : Order) (f : Frame) → length f.bytes < 2 ^ 32 → u32_at order 8 (take 16 (record_bytes order f)) ≡ length f.bytes
unfolding u32_at
count_at Big f h = big_number-reads_back 4 (length f.bytes) [] h
count_at Little f h = little_number-reads_back 4 (length f.bytes) [] h

pub record_long : (order : Order) (f : Frame) → length (record_bytes order f) ≡ 16 + length f.bytes
record_long Big f = omega arith
record_long Little f = omega arith

pub behind_record : (order : Order) (f : Frame) → drop 16 (record_bytes order f) ≡ f.bytes
behind_record Big f = refl
behind_record Little f = refl

-- ---- a file

abbrev pub meaning_for : SecondParts → (seconds some count : ℕ) → Meaning
meaning_for parts seconds some count =
    Gives (record { time = Some (record { parts = seconds * parts_of_second parts + some; resolution = digits_of parts; offset = 0 }); is_ethernet = true; from = 16; count = count })

abbrev pub given_for : SecondParts → (seconds some count : ℕ) → Result Meaning FaultKind
given_for parts seconds some count = Ok (meaning_for parts seconds some count)

-- what is read of a header and of a record
pub record ReadsRecords : Type 0 where
  pub headers : (order : Order) (parts : SecondParts) (h : PcapHeader) → h.above < 2 ^ 16
      → meaning_of Start [] (file_header_bytes order parts h) ≡ Ok (Begins (Pcap order (digits_of parts)))
  pub units : (order : Order) (parts : SecondParts) (f : Frame) → FitsFrame f → IsUnit (Pcap order (digits_of parts)) (whole_of (16 + length f.bytes)) (record_bytes order f)
  pub records : (order : Order) (parts : SecondParts) (f : Frame) → FitsFrame f
      → record_meaning order (digits_of parts) (record_bytes order f) ≡ given_for parts f.seconds f.parts (length f.bytes)
  pub frames : (order : Order) (parts : SecondParts) (f : Frame)
      → records_of (record_bytes order f) (meaning_for parts f.seconds f.parts (length f.bytes)) ≡ record_of_frame parts f ∷ []

records_read : ReadsRecords → (order : Order) (parts : SecondParts) (frames : List Frame) → AllByRecursion FitsFrame frames
    → Units (Pcap order (digits_of parts)) [] (flat_map (record_bytes order) frames) (map (record_of_frame parts) frames) (Pcap order (digits_of parts)) []
records_read reads order parts [] fits = no_unit_more
records_read reads order parts (f ∷ frames) fits =
    let format = Pcap order (digits_of parts) in
    subst (λ (some : List Record). Units format [] (record_bytes order f ++ flat_map (record_bytes order) frames) (some ++ map (record_of_frame parts) frames) format [])
    (reads.frames order parts f)
    (one_unit_more (record_bytes order f) (whole_of (16 + length f.bytes)) (meaning_for parts f.seconds f.parts (length f.bytes)) (reads.units order parts f fits.0) (reads.records order parts f fits.0) (records_read reads order parts frames fits.1))

not_start : (order : Order) (digits : ℕ) → Pcap order digits ≡ Start → ⊥
not_start order digits e = cc

pub written_read : ReadsRecords → (order : Order) (parts : SecondParts) (h : PcapHeader) (frames : List Frame) → h.above < 2 ^ 16 → AllByRecursion FitsFrame frames
    → IsWhole (pcap_bytes order parts h frames) (map (record_of_frame parts) frames)
written_read reads order parts h frames few fits = record {
  format = Pcap order (digits_of parts);
  begun = not_start order (digits_of parts);
  interfaces = [];
  units = one_unit_more (file_header_bytes order parts h) (whole_of 24) (Begins (Pcap order (digits_of parts))) (header_unit order parts h) (reads.headers order parts h few) (records_read reads order parts frames fits);
}
