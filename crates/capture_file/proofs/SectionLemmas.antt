-- What a writer of pcapng writes is read.
use Rattle.std.proofs.Common.{◌≡◌, ℕ, ◌+◌, ◌-◌, ◌/◌, ◌%◌, ◌^◌, ◌<◌, ◌≤◌, ◌==◌, Bool, List, [], ◌∷◌, ◌++◌, take, drop, length, length-append, map, None, Ok, arith, refl, ap, sym, subst, ◌∙◌, append_assoc}
use Rattle.std.specs.Prelude.{slice_get, slice_range}
use Rattle.std.specs.List.{AllByRecursion, flat_map}
use Rattle.std.proofs.lemmas.List.{length-map, map-append, take_at}
use Rattle.byteorder.specs.Numbers.{big_number-reads_back, little_number-reads_back}
use Rattle.capture_file.specs.Numbers.{u16_at, u32_at}
use Rattle.capture_file.specs.Units.{max_unit}
use Rattle.capture_file.specs.Files.{IsWhole, Units}
use Rattle.capture_file.specs.Files.Units.{no_unit_more, one_unit_more}
use Rattle.capture_file.specs.Meanings.{Record, enhanced_meaning, given_of, interface_meaning, records_of, simple_meaning}
use Rattle.capture_file.specs.Written.{number_bytes}
use Rattle.capture_file.specs.WrittenBlocks.{DescribedInterface, EnhancedPacket, FitBlocks, FitsBlock, FitsInterface, FitsPacket, FitsSection, SimplePacket, WrittenBlock, WrittenSection, body_of_block, bytes_of_block, bytes_of_blocks, bytes_of_interface, bytes_of_options, bytes_of_packet, bytes_of_section, bytes_of_simple, captured_bytes, described_after, head_of_section, is_of_ethernet, kind_of_block, option_of_interface, pcapng_bytes, records_of_block, records_of_blocks, records_of_section, resolution_by, seconds_by}
use Rattle.capture_file.specs.WrittenBlocks.WrittenBlock.{InterfaceBlock, OtherBlock, PacketBlock, SimpleBlock}
use Rattle.capture_file.specs.declared.units.Order.{Order}
use Rattle.capture_file.specs.declared.units.Order.TheVariants.{Big, Little}
use Rattle.capture_file.specs.declared.units.Format.{Format}
use Rattle.capture_file.specs.declared.units.Format.TheVariants.{Section, Start}
use Rattle.capture_file.specs.declared.meaning.Interface.{Interface}
use Rattle.capture_file.specs.declared.meaning.Meaning.{Meaning}
use Rattle.capture_file.specs.declared.meaning.Meaning.TheVariants.{Begins, Describes, Gives, Nothing}
use Rattle.capture_file.proofs.BlockLemmas.{BeginsSection, begins_first, begins_next, block_long, kept_means, kept_unit, other_read, whole_of}
use Rattle.capture_file.proofs.WrittenOptions.{options_fit, options_fours}

-- ---- an interface

-- as a reader keeps it
abbrev pub interface_of : DescribedInterface → Interface
interface_of i = record { is_ethernet = i.link == 1; limit = i.limit; resolution = resolution_by i.options; offset = seconds_by i.options }

abbrev pub interface_options : Order → DescribedInterface → List ℕ
interface_options order i = bytes_of_options order i.is_ended (map (option_of_interface order) i.options)

pub interface_long : (order : Order) (i : DescribedInterface) → length (bytes_of_interface order i) ≡ 8 + length (interface_options order i)
interface_long Big i = omega arith
interface_long Little i = omega arith

interface_fours : (order : Order) (i : DescribedInterface) → FitsInterface i → length (bytes_of_interface order i) % 4 ≡ 0
interface_fours order i fits = omega (arith, interface_long order i, options_fours order i.is_ended _ (options_fit order i.options fits.options))

abbrev pub interface_unit : Order → DescribedInterface → List ℕ
interface_unit order i = bytes_of_block order 1 (bytes_of_interface order i)

pub link_in : (order : Order) (i : DescribedInterface) → i.link < 2 ^ 16 → u16_at order 8 (interface_unit order i) ≡ i.link
unfolding u16_at
link_in Big i h = big_number-reads_back 2 i.link [] h
link_in Little i h = little_number-reads_back 2 i.link [] h

pub limit_in : (order : Order) (i : DescribedInterface) → i.limit < 2 ^ 32 → u32_at order 12 (interface_unit order i) ≡ i.limit
unfolding u32_at
limit_in Big i h = big_number-reads_back 4 i.limit [] h
limit_in Little i h = little_number-reads_back 4 i.limit [] h

after_limit : (order : Order) (i : DescribedInterface) → drop 16 (interface_unit order i) ≡ interface_options order i ++ number_bytes order 4 (12 + length (bytes_of_interface order i))
after_limit Big i = refl
after_limit Little i = refl

pub options_in : (order : Order) (i : DescribedInterface) → slice_range (interface_unit order i) 16 (length (interface_unit order i) - 4) ≡ interface_options order i
options_in order i =
    let unit = interface_unit order i in
    let count : length unit - 4 - 16 ≡ length (interface_options order i) = omega (arith, block_long order 1 (bytes_of_interface order i), interface_long order i) in
    ap (λ n. take n (drop 16 unit)) count
    ∙ (ap (λ xs. take (length (interface_options order i)) xs) (after_limit order i)
    ∙ take_at (interface_options order i) (number_bytes order 4 (12 + length (bytes_of_interface order i))) (length (interface_options order i)) refl)

-- ---- a packet

abbrev pub packet_options : Order → EnhancedPacket → List ℕ
packet_options order p = bytes_of_options order p.is_ended p.options

pub packet_long : (order : Order) (p : EnhancedPacket) → length (bytes_of_packet order p) ≡ 20 + (length p.bytes + (length p.filler + length (packet_options order p)))
packet_long Big p = omega (arith, length-append p.bytes (p.filler ++ packet_options Big p), length-append p.filler (packet_options Big p))
packet_long Little p = omega (arith, length-append p.bytes (p.filler ++ packet_options Little p), length-append p.filler (packet_options Little p))

packet_fours : (order : Order) (p : EnhancedPacket) → FitsPacket p → length (bytes_of_packet order p) % 4 ≡ 0
packet_fours order p fits =
    let whole : (length p.bytes + length p.filler) % 4 ≡ 0 = fits.filled.whole in
    omega (arith, whole, packet_long order p, options_fours order p.is_ended p.options fits.options)

abbrev pub packet_unit : Order → EnhancedPacket → List ℕ
packet_unit order p = bytes_of_block order 6 (bytes_of_packet order p)

pub index_in : (order : Order) (p : EnhancedPacket) → p.interface < 2 ^ 32 → u32_at order 8 (packet_unit order p) ≡ p.interface
unfolding u32_at
index_in Big p h = big_number-reads_back 4 p.interface [] h
index_in Little p h = little_number-reads_back 4 p.interface [] h

pub high_in : (order : Order) (p : EnhancedPacket) → p.time < 2 ^ 64 → u32_at order 12 (packet_unit order p) ≡ p.time / 2 ^ 32
unfolding u32_at
high_in Big p h = big_number-reads_back 4 (p.time / 2 ^ 32) [] (omega arith)
high_in Little p h = little_number-reads_back 4 (p.time / 2 ^ 32) [] (omega arith)

pub low_in : (order : Order) (p : EnhancedPacket) → u32_at order 16 (packet_unit order p) ≡ p.time % 2 ^ 32
unfolding u32_at
low_in Big p = big_number-reads_back 4 (p.time % 2 ^ 32) [] (omega arith)
low_in Little p = little_number-reads_back 4 (p.time % 2 ^ 32) [] (omega arith)

pub count_in : (order : Order) (p : EnhancedPacket) → length p.bytes < 2 ^ 32 → u32_at order 20 (packet_unit order p) ≡ length p.bytes
unfolding u32_at
count_in Big p h = big_number-reads_back 4 (length p.bytes) [] h
count_in Little p h = little_number-reads_back 4 (length p.bytes) [] h

after_counts : (order : Order) (p : EnhancedPacket)
    → drop 28 (packet_unit order p) ≡ (p.bytes ++ (p.filler ++ packet_options order p)) ++ number_bytes order 4 (12 + length (bytes_of_packet order p))
after_counts Big p = refl
after_counts Little p = refl

pub frame_in : (order : Order) (p : EnhancedPacket) → take (length p.bytes) (drop 28 (packet_unit order p)) ≡ p.bytes
frame_in order p =
    let rest = p.filler ++ packet_options order p in
    let tail = number_bytes order 4 (12 + length (bytes_of_packet order p)) in
    ap (λ xs. take (length p.bytes) xs) (after_counts order p ∙ append_assoc p.bytes rest tail) ∙ take_at p.bytes (rest ++ tail) (length p.bytes) refl

-- ---- a simple packet

pub simple_long : (order : Order) (described : List DescribedInterface) (p : SimplePacket)
    → length (bytes_of_simple order described p) ≡ 4 + (length (captured_bytes described p.frame) + length p.filler)
simple_long Big described p = omega (arith, length-append (captured_bytes described p.frame) p.filler)
simple_long Little described p = omega (arith, length-append (captured_bytes described p.frame) p.filler)

abbrev pub simple_unit : Order → List DescribedInterface → SimplePacket → List ℕ
simple_unit order described p = bytes_of_block order 3 (bytes_of_simple order described p)

pub frame_long_in : (order : Order) (described : List DescribedInterface) (p : SimplePacket) → length p.frame < 2 ^ 32 → u32_at order 8 (simple_unit order described p) ≡ length p.frame
unfolding u32_at
frame_long_in Big described p h = big_number-reads_back 4 (length p.frame) [] h
frame_long_in Little described p h = little_number-reads_back 4 (length p.frame) [] h

after_count : (order : Order) (described : List DescribedInterface) (p : SimplePacket)
    → drop 12 (simple_unit order described p) ≡ (captured_bytes described p.frame ++ p.filler) ++ number_bytes order 4 (12 + length (bytes_of_simple order described p))
after_count Big described p = refl
after_count Little described p = refl

pub captured_in : (order : Order) (described : List DescribedInterface) (p : SimplePacket)
    → take (length (captured_bytes described p.frame)) (drop 12 (simple_unit order described p)) ≡ captured_bytes described p.frame
captured_in order described p =
    let bytes = captured_bytes described p.frame in
    let tail = number_bytes order 4 (12 + length (bytes_of_simple order described p)) in
    ap (λ xs. take (length bytes) xs) (after_count order described p ∙ append_assoc bytes p.filler tail) ∙ take_at bytes (p.filler ++ tail) (length bytes) refl

-- ---- blocks

abbrev pub simple_by : (is_ethernet : Bool) → (count : ℕ) → Meaning
simple_by is_ethernet count = Gives (record { time = None; is_ethernet = is_ethernet; from = 12; count = count })

-- what is read of each
pub record ReadsBlocks : Type 0 where
  pub interfaces : (order : Order) (count : ℕ) (i : DescribedInterface) → FitsInterface i → count < 1024
      → interface_meaning order count (interface_unit order i) ≡ Ok (Describes (interface_of i))
  pub packets : (order : Order) (interfaces : List Interface) (p : EnhancedPacket) → FitsPacket p → 12 + length (bytes_of_packet order p) ≤ max_unit
      → enhanced_meaning order interfaces (packet_unit order p) ≡ Ok (Gives (given_of (slice_get interfaces p.interface) p.time (length p.bytes)))
  pub frames : (order : Order) (described : List DescribedInterface) (p : EnhancedPacket)
      → records_of (packet_unit order p) (Gives (given_of (slice_get (map interface_of described) p.interface) p.time (length p.bytes))) ≡ records_of_block described (PacketBlock p)
  pub simples : (order : Order) (described : List DescribedInterface) (p : SimplePacket) → length p.frame < 2 ^ 32
      → simple_meaning order (map interface_of described) (simple_unit order described p) ≡ Ok (simple_by (is_of_ethernet described) (length (captured_bytes described p.frame)))
  pub simple_frames : (order : Order) (described : List DescribedInterface) (p : SimplePacket)
      → records_of (simple_unit order described p) (simple_by (is_of_ethernet described) (length (captured_bytes described p.frame))) ≡ records_of_block described (SimpleBlock p)

-- the interfaces that are described in the end
abbrev pub described_by_all : List DescribedInterface → List WrittenBlock → List DescribedInterface
described_by_all described [] = described
described_by_all described (block ∷ others) = described_by_all (described_after described block) others

-- one block, and what follows it
one_block : ReadsBlocks → (order : Order) (described : List DescribedInterface) (block : WrittenBlock) (rest : List ℕ) (records : List Record) (last : Format) (interfaces : List Interface)
    → FitsBlock order described block
    → Units (Section order) (map interface_of (described_after described block)) rest records last interfaces
    → Units (Section order) (map interface_of described) (bytes_of_block order (kind_of_block block) (body_of_block order described block) ++ rest) (records_of_block described block ++ records) last interfaces
one_block reads order described (InterfaceBlock i) rest records last interfaces fits next =
    let body = bytes_of_interface order i in
    let room : 12 + length body ≤ max_unit = fits.2 in
    let count : length (map interface_of described) < 1024 = omega (arith, length-map described interface_of, fits.1) in
    one_unit_more (interface_unit order i) (whole_of (12 + length body)) (Describes (interface_of i))
    (kept_unit order 1 body (omega arith) (λ e. omega (arith, e)) (interface_fours order i fits.0) refl room)
    (kept_means order (map interface_of described) 1 body (omega arith) (λ e. omega (arith, e)) (omega (arith, room)) ∙ reads.interfaces order (length (map interface_of described)) i fits.0 count)
    (subst (λ (is : List Interface). Units (Section order) is rest records last interfaces) (map-append interface_of described (i ∷ [])) next)
one_block reads order described (PacketBlock p) rest records last interfaces fits next =
    let body = bytes_of_packet order p in
    let room : 12 + length body ≤ max_unit = fits.1 in
    let all = map interface_of described in
    subst (λ (some : List Record). Units (Section order) all (packet_unit order p ++ rest) (some ++ records) last interfaces) (reads.frames order described p)
    (one_unit_more (packet_unit order p) (whole_of (12 + length body)) (Gives (given_of (slice_get all p.interface) p.time (length p.bytes)))
    (kept_unit order 6 body (omega arith) (λ e. omega (arith, e)) (packet_fours order p fits.0) refl room)
    (kept_means order all 6 body (omega arith) (λ e. omega (arith, e)) (omega (arith, room)) ∙ reads.packets order all p fits.0 room)
    next)
one_block reads order described (SimpleBlock p) rest records last interfaces fits next =
    let body = bytes_of_simple order described p in
    let room : 12 + length body ≤ max_unit = fits.2 in
    let all = map interface_of described in
    let whole : (length (captured_bytes described p.frame) + length p.filler) % 4 ≡ 0 = fits.1.whole in
    subst (λ (some : List Record). Units (Section order) all (simple_unit order described p ++ rest) (some ++ records) last interfaces) (reads.simple_frames order described p)
    (one_unit_more (simple_unit order described p) (whole_of (12 + length body)) (simple_by (is_of_ethernet described) (length (captured_bytes described p.frame)))
    (kept_unit order 3 body (omega arith) (λ e. omega (arith, e)) (omega (arith, whole, simple_long order described p)) refl room)
    (kept_means order all 3 body (omega arith) (λ e. omega (arith, e)) (omega (arith, room)) ∙ reads.simples order described p fits.0)
    next)
one_block reads order described (OtherBlock kind body) rest records last interfaces fits next =
    let passed = other_read order (map interface_of described) kind body fits.0 fits.1 fits.2 in
    one_unit_more (bytes_of_block order kind body) passed.extent Nothing passed.is passed.means next

blocks_read : ReadsBlocks → (order : Order) (described : List DescribedInterface) (blocks : List WrittenBlock) (rest : List ℕ) (records : List Record) (last : Format) (interfaces : List Interface)
    → FitBlocks order described blocks
    → Units (Section order) (map interface_of (described_by_all described blocks)) rest records last interfaces
    → Units (Section order) (map interface_of described) (bytes_of_blocks order described blocks ++ rest) (records_of_blocks described blocks ++ records) last interfaces
blocks_read reads order described [] rest records last interfaces fit next = next
blocks_read reads order described (block ∷ others) rest records last interfaces fit next =
    let unit = bytes_of_block order (kind_of_block block) (body_of_block order described block) in
    let after = described_after described block in
    subst (λ (xs : List ℕ). Units (Section order) (map interface_of described) xs (records_of_blocks described (block ∷ others) ++ records) last interfaces)
    (sym (append_assoc unit (bytes_of_blocks order after others) rest))
    (subst (λ (rs : List Record). Units (Section order) (map interface_of described) (unit ++ (bytes_of_blocks order after others ++ rest)) rs last interfaces)
    (sym (append_assoc (records_of_block described block) (records_of_blocks after others) records))
    (one_block reads order described block (bytes_of_blocks order after others ++ rest) (records_of_blocks after others ++ records) last interfaces fit.0
    (blocks_read reads order after others rest records last interfaces fit.1 next)))

-- ---- sections

-- a section, and what follows it
one_section : ReadsBlocks → (format : Format) (interfaces : List Interface) (s : WrittenSection) (rest : List ℕ) (records : List Record) (last : Format) (told : List Interface)
    → BeginsSection format interfaces s.order (bytes_of_block s.order 0x0A0D0D0A (head_of_section s)) → FitBlocks s.order [] s.blocks
    → Units (Section s.order) (map interface_of (described_by_all [] s.blocks)) rest records last told
    → Units format interfaces (bytes_of_section s ++ rest) (records_of_section s ++ records) last told
one_section reads format interfaces s rest records last told begins fit next =
    let head = bytes_of_block s.order 0x0A0D0D0A (head_of_section s) in
    subst (λ (xs : List ℕ). Units format interfaces xs (records_of_section s ++ records) last told)
    (sym (append_assoc head (bytes_of_blocks s.order [] s.blocks) rest))
    (one_unit_more head begins.extent (Begins (Section s.order)) begins.is begins.means (blocks_read reads s.order [] s.blocks rest records last told fit next))

-- what follows the number that tells the order
abbrev pub head_rest : WrittenSection → List ℕ
head_rest s = number_bytes s.order 2 s.major ++ (number_bytes s.order 2 s.minor ++ (number_bytes s.order 8 s.long ++ bytes_of_options s.order s.is_ended s.options))

rest_long : (order : Order) (major minor long : ℕ) (options : List ℕ) → length (number_bytes order 2 major ++ (number_bytes order 2 minor ++ (number_bytes order 8 long ++ options))) ≡ 12 + length options
rest_long Big major minor long options = omega arith
rest_long Little major minor long options = omega arith

abbrev pub ReadsSections : Order → List Interface → List WrittenSection → Type 0
ReadsSections order interfaces sections =
    (last : Order) × (told : List Interface) × Units (Section order) interfaces (pcapng_bytes sections) (flat_map records_of_section sections) (Section last) told

sections_read : ReadsBlocks → (order : Order) (interfaces : List Interface) (sections : List WrittenSection) → AllByRecursion FitsSection sections → ReadsSections order interfaces sections
sections_read reads order interfaces [] fit = (order, interfaces, no_unit_more)
sections_read reads order interfaces (s ∷ others) fit =
    let options = bytes_of_options s.order s.is_ended s.options in
    let long = rest_long s.order s.major s.minor s.long options in
    let fours = options_fours s.order s.is_ended s.options fit.0.options in
    let next = sections_read reads s.order (map interface_of (described_by_all [] s.blocks)) others fit.1 in (
      next.0,
      next.1,
      one_section reads (Section order) interfaces s (pcapng_bytes others) (flat_map records_of_section others) (Section next.0) next.1
          (begins_next order interfaces s.order (head_rest s) (omega (arith, long)) (omega (arith, long, fours)) fit.0.long) fit.0.blocks next.2,
    )

section_apart : (order : Order) → Section order ≡ Start → ⊥
section_apart order e = cc

pub sections_whole : ReadsBlocks → (sections : List WrittenSection) → 0 < length sections → AllByRecursion FitsSection sections → IsWhole (pcapng_bytes sections) (flat_map records_of_section sections)
sections_whole reads [] some fit = absurd (omega (arith, some))
sections_whole reads (s ∷ others) some fit =
    let options = bytes_of_options s.order s.is_ended s.options in
    let long = rest_long s.order s.major s.minor s.long options in
    let fours = options_fours s.order s.is_ended s.options fit.0.options in
    let next = sections_read reads s.order (map interface_of (described_by_all [] s.blocks)) others fit.1 in
    record {
      format = Section next.0;
      begun = section_apart next.0;
      interfaces = next.1;
      units = one_section reads Start [] s (pcapng_bytes others) (flat_map records_of_section others) (Section next.0) next.1
          (begins_first [] s.order (head_rest s) (omega (arith, long)) (omega (arith, long, fours)) fit.0.long) fit.0.blocks next.2;
    }
