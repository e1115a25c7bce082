-- The lines of packets are read back.
use Rattle.std.proofs.Common.{◌≡◌, ◌<◌, ◌≤◌, ◌+◌, ◌-◌, ◌*◌, ◌/◌, ◌%◌, ◌^◌, ◌==◌, ◌&&◌, ◌||◌, not, ℕ, zero, suc, Bool, true, false, List, [], ◌∷◌, ◌++◌, length, length-append, length-drop, drop, map, slice_index, Option, Some, None, Result, Ok, Err, refl, sym, ap, subst, ◌∙◌, arith, decimal, append_assoc, append-nil}
use Rattle.std.specs.Prelude.{codes, nat_lt, nat_le, is_err}
use Rattle.std.specs.Option.{option_map_or}
use Rattle.std.specs.Result.{result_unwrap_or}
use Rattle.std.specs.Char.{is_ascii_hexdigit}
use Rattle.std.specs.List.{AllByRecursion, AllPass, concat, list_all, list_any, slice_split}
use Rattle.std.specs.Str.Lines.{lines, lines_of_parts, strip_carriage_return}
use Rattle.std.proofs.lemmas.Bool.{cond_both, ltb-true}
use Rattle.std.proofs.lemmas.Bool.Decides.{nat_tests}
use Rattle.std.proofs.lemmas.Fmt.{decimal_by_steps_wide, length-decimal-le}
use Rattle.std.proofs.lemmas.List.Elements.{All-weaker}
use Rattle.std.proofs.lemmas.List.Splits.{slice_split_at, length-slice_split}
use Rattle.std.proofs.lemmas.List.Sums.{AllPass-from_list_all, list_all-from_AllPass}
use Rattle.std.proofs.lemmas.Nat.{mod_below}
use Rattle.hex.specs.Hex.{decode_of, encode_lower, is_hex_digit, lower_digits}
use Rattle.hex.proofs.HexLemmas.{decode_of-encode_lower, decode_of-ok, length-encode_with}
use Rattle.dap_fields.specs.Spelling.{AreBytes}
use Rattle.texts.specs.Text.{line_feed}
use Rattle.texts.specs.Words.{is_hex_text}
use Rattle.linewise.specs.Talks.{max_line}
use Rattle.dap_listing.specs.Lines.{Capture, Line, line_of}
use Rattle.dap_listing.specs.Listing.{arrow_text, packet_limit}
use Rattle.dap_listing.specs.declared.lines.Direction.{Direction}
use Rattle.dap_listing.specs.declared.lines.Direction.TheVariants.{Right, Left}
use Rattle.capture_file.specs.Files.{bounded_count}
use Rattle.capture_file.specs.Meanings.{Record}
use Rattle.capture_file.specs.declared.meaning.Time.{Time}
use Rattle.decnet_frames.specs.Found.{FoundPacket}
use Rattle.decnet_frames.specs.Founds.{found_as, founds_from, founds_of_file, packet_in, record_founds, record_pairs, seen_founds}
use Rattle.decnet_frames.specs.Frames.{Packet}
use Rattle.decnet_frames.specs.HexLines.{all_hex_lines, data_line, hex_lines}
use Rattle.decnet_frames.specs.Lines.{capture_in, comment_origin, found_by, found_in, is_refused, packets_after, packets_of_lines}
use Rattle.decnet_frames.specs.Nodes.{node_text, pair_text}
use Rattle.decnet_frames.specs.Origins.{PacketOrigin, comment_text, frame_by}
use Rattle.decnet_frames.specs.Times.{digits_after_first, frame_text, parts_in_second, seconds_text, shown_parts, time_text}
use Rattle.decnet_frames.specs.Ways.{nodes_of, way_in}
use Rattle.decnet_frames.specs.declared.addresses.Nodes.{Nodes}
use Rattle.decnet_frames.specs.declared.packet.Passed.{Passed}
use Rattle.decnet_frames.specs.declared.ways.Between.{Between}
use Rattle.decnet_frames.specs.declared.ways.Ends.{Ends}
use Rattle.decnet_frames.proofs.BytesLemmas.{IsPacket, OkPacket, OkShort, packet_in_bytes, packet_in_short}
use Rattle.decnet_frames.proofs.CommentLemmas.{none_by_packet, told_short}
use Rattle.decnet_frames.proofs.TimeLemmas.{few_shown, scaled_below, some_parts, some_shown}
use Rattle.decnet_frames.proofs.WrittenLemmas.{comment_read}

-- ---- text without the end of a line

abbrev is_plain : ℕ → Bool
is_plain byte = not (byte == 10) && not (byte == 13)

abbrev IsPlain : List ℕ → Type 0
IsPlain text = list_all is_plain text ≡ true

both_true : (a b : Bool) → a ≡ true → b ≡ true → (a && b) ≡ true
both_true true true one two = refl
both_true true false one two = absurd (cc)
both_true false b one two = absurd (cc)

first_true : (a b : Bool) → (a && b) ≡ true → a ≡ true
first_true true b h = refl
first_true false b h = absurd (cc)

second_true : (a b : Bool) → (a && b) ≡ true → b ≡ true
second_true true b h = h
second_true false b h = absurd (cc)

plain-append : (a b : List ℕ) → IsPlain a → IsPlain b → IsPlain (a ++ b)
plain-append [] b one two = two
plain-append (x ∷ a) b one two = both_true (is_plain x) (list_all is_plain (a ++ b)) (first_true (is_plain x) (list_all is_plain a) one)
    (plain-append a b (second_true (is_plain x) (list_all is_plain a) one) two)

plain_concat : (ws : List (List ℕ)) → AllByRecursion IsPlain ws → IsPlain (concat ws)
plain_concat [] are = refl
plain_concat (w ∷ ws) are = plain-append w (concat ws) are.0 (plain_concat ws are.1)

plain_drop : (xs : List ℕ) → IsPlain xs → IsPlain (drop 1 xs)
plain_drop [] h = h
plain_drop (x ∷ xs) h = second_true (is_plain x) (list_all is_plain xs) h

hex_plain : (c : ℕ) → is_hex_digit c ≡ true → is_plain c ≡ true
hex_plain c h = grind (arith, nat_tests)

plain_digit : (n : ℕ) → n < 10 → is_plain (48 + n) ≡ true
plain_digit n few = grind (arith, nat_tests)

plain_one : (n : ℕ) → n < 10 → IsPlain ((48 + n) ∷ [])
plain_one n few = both_true (is_plain (48 + n)) true (plain_digit n few) refl

below_ten : (n : ℕ) → n % 10 < 10
below_ten n = omega arith

plain_decimal : (n : ℕ) → n < 10 ^ 64 → IsPlain (decimal n)
plain_decimal n low =
    decimal_by_steps_wide (λ n ds. IsPlain ds) plain_one (λ n ds some before. plain-append ds ((48 + n % 10) ∷ []) before (plain_one (n % 10) (below_ten n))) n low

are_hex : (bytes : List ℕ) → AreBytes bytes → AllPass is_hex_digit (encode_lower bytes)
are_hex bytes are = (decode_of-ok (encode_lower bytes) bytes (decode_of-encode_lower bytes are)).1

plain_hex : (bytes : List ℕ) → AreBytes bytes → IsPlain (encode_lower bytes)
plain_hex bytes are = list_all-from_AllPass is_plain (encode_lower bytes) (All-weaker (λ c. is_hex_digit c ≡ true) (λ c. is_plain c ≡ true) hex_plain (encode_lower bytes) (are_hex bytes are))

plain_arrow : (way : Direction) → IsPlain (arrow_text way)
plain_arrow Right = refl
plain_arrow Left = refl

-- ---- a line

abbrev is_feed : ℕ → Bool
is_feed byte = byte == 10

no_feed : (c : ℕ) → is_plain c ≡ true → is_feed c ≡ false
no_feed c h = grind (arith, nat_tests)

no_return : (c : ℕ) → is_plain c ≡ true → (c == 13) ≡ false
no_return c h = grind (arith, nat_tests)

return_nowhere : (l : List ℕ) (i : ℕ) → IsPlain l → (slice_index l i == 13) ≡ false
return_nowhere [] i h = refl
return_nowhere (x ∷ l) zero h = no_return x (first_true (is_plain x) (list_all is_plain l) h)
return_nowhere (x ∷ l) (suc i) h = return_nowhere l i (second_true (is_plain x) (list_all is_plain l) h)

unstripped : (l : List ℕ) → IsPlain l → strip_carriage_return l ≡ l
unstripped l h = rw (return_nowhere l (length l - 1) h) refl

more_parts : (part : List ℕ) (parts : List (List ℕ)) → 0 < length parts → lines_of_parts (part ∷ parts) ≡ strip_carriage_return part ∷ lines_of_parts parts
more_parts part [] some = absurd (omega arith)
more_parts part (next ∷ parts) some = refl

one_line : (l rest : List ℕ) → IsPlain l → lines (l ++ 10 ∷ rest) ≡ l ∷ lines rest
one_line l rest h =
    let none = All-weaker (λ c. is_plain c ≡ true) (λ c. is_feed c ≡ false) no_feed l (AllPass-from_list_all is_plain l h) in
    ap lines_of_parts (slice_split_at is_feed l 10 rest none refl)
    ∙ more_parts l (slice_split is_feed rest) (omega (arith, length-slice_split is_feed rest))
    ∙ ap (λ x. x ∷ lines rest) (unstripped l h)

ended : (ws : List (List ℕ)) (rest : List ℕ) → concat (ws ++ line_feed ∷ []) ++ rest ≡ concat ws ++ 10 ∷ rest
ended [] rest = refl
ended (w ∷ ws) rest =
    append_assoc w (concat (ws ++ line_feed ∷ [])) rest ∙ (ap (λ l. w ++ l) (ended ws rest) ∙ sym (append_assoc w (concat ws) (10 ∷ rest)))

line_of_words : (ws : List (List ℕ)) (rest : List ℕ) → AllByRecursion IsPlain ws → lines (concat (ws ++ line_feed ∷ []) ++ rest) ≡ concat ws ∷ lines rest
line_of_words ws rest are = ap lines (ended ws rest) ∙ one_line (concat ws) rest (plain_concat ws are)

-- ---- a comment

plain_seconds : (seconds parts in_second shown : ℕ) → shown + parts * shown / in_second < 10 ^ 64 → IsPlain (seconds_text seconds parts in_second shown)
plain_seconds seconds parts in_second shown low =
    let fraction = digits_after_first (shown + parts * shown / in_second) in
    cond_both {A = List ℕ} (nat_lt seconds (2 ^ 63)) _ _ IsPlain
    (λ few. plain-append (decimal seconds) (codes "." ++ fraction) (plain_decimal seconds (omega (arith, ltb-true _ _ few)))
    (plain-append (codes ".") fraction refl (plain_drop (decimal (shown + parts * shown / in_second)) (plain_decimal (shown + parts * shown / in_second) low))))
    (λ _. refl)

shown_low : (parts m shown : ℕ) → 0 < m → 0 < shown → shown ≤ 1000000000 → shown + (parts % m) * shown / m < 10 ^ 64
shown_low parts m shown some more few =
    let below : (parts % m) * shown / m < shown = scaled_below (parts % m) m shown (mod_below parts m some) more in
    omega (arith, below, few)

plain_time : (time : Option Time) → IsPlain (time_text time)
plain_time None = refl
plain_time (Some t) =
    plain_seconds ((t.parts / parts_in_second t.resolution + t.offset) % 2 ^ 64) (t.parts % parts_in_second t.resolution) (parts_in_second t.resolution) (shown_parts t.resolution)
    (shown_low t.parts (parts_in_second t.resolution) (shown_parts t.resolution) (some_parts t.resolution) (some_shown t.resolution) (few_shown t.resolution))

plain_node : (node : ℕ) → node < 65536 → IsPlain (node_text node)
plain_node node small =
    plain_concat (decimal (node / 1024) ∷ codes "." ∷ decimal (node % 1024) ∷ []) (plain_decimal (node / 1024) (omega (arith, small)), (refl, (plain_decimal (node % 1024) (omega (arith, small)), tt)))

abbrev data_words : Direction → List ℕ → List (List ℕ)
data_words way packet = arrow_text way ∷ codes " " ∷ encode_lower packet ∷ []

plain_data : (way : Direction) (bytes : List ℕ) → AreBytes bytes → AllByRecursion IsPlain (data_words way bytes)
plain_data way bytes are = (plain_arrow way, (refl, (plain_hex bytes are, tt)))

-- ---- a packet

ascii_digit : (c : ℕ) → is_hex_digit c ≡ true → is_ascii_hexdigit c ≡ true
ascii_digit c h = grind (arith, nat_tests)

some_hex : (bytes : List ℕ) → AreBytes bytes → 0 < length bytes → is_hex_text (encode_lower bytes) ≡ true
some_hex bytes are some =
    let twice = length-encode_with lower_digits bytes in
    let all = list_all-from_AllPass is_ascii_hexdigit (encode_lower bytes) (All-weaker (λ c. is_hex_digit c ≡ true) (λ c. is_ascii_hexdigit c ≡ true) ascii_digit (encode_lower bytes) (are_hex bytes are)) in
    rw all (grind (arith, nat_tests, twice, some))

at_most : (a b : ℕ) → a ≤ b → nat_le a b ≡ true
at_most a b h = grind (arith, nat_tests)

few_digits : (bytes : List ℕ) → length bytes ≤ packet_limit → nat_le (length (encode_lower bytes)) (2 * packet_limit) ≡ true
few_digits bytes few = at_most (length (encode_lower bytes)) (2 * packet_limit) (omega (arith, length-encode_with lower_digits bytes, few))

packet_line : (way : Direction) (bytes : List ℕ) → AreBytes bytes → 0 < length bytes → length bytes ≤ packet_limit
    → line_of packet_limit (concat (data_words way bytes)) ≡ Ok (Some (way, encode_lower bytes))
packet_line Right bytes are some few = rw (append-nil (encode_lower bytes), some_hex bytes are some, few_digits bytes few) refl
packet_line Left bytes are some few = rw (append-nil (encode_lower bytes), some_hex bytes are some, few_digits bytes few) refl

-- ---- how long a line is

decimal_long : (n : ℕ) → n < 2 ^ 64 → length (decimal n) ≤ 20
decimal_long n small = length-decimal-le 20 n (omega arith) (omega (arith, small)) small

seconds_long : (seconds n : ℕ) → seconds < 2 ^ 64 → n < 2 ^ 64 → length (decimal seconds ++ (codes "." ++ digits_after_first n)) ≤ 41
seconds_long seconds n low small =
    omega (arith, length-append (decimal seconds) (codes "." ++ digits_after_first n), length-drop 1 (decimal n), decimal_long seconds low, decimal_long n small)

time_long : (time : Option Time) → length (time_text time) ≤ 41
time_long None = omega arith
time_long (Some t) =
    let m = parts_in_second t.resolution in
    let below : (t.parts % m) * shown_parts t.resolution / m < shown_parts t.resolution =
    scaled_below (t.parts % m) m (shown_parts t.resolution) (mod_below t.parts m (some_parts t.resolution)) (some_shown t.resolution) in
    cond_both {A = List ℕ} (nat_lt ((t.parts / m + t.offset) % 2 ^ 64) (2 ^ 63)) _ _ (λ text. length text ≤ 41)
    (λ few. seconds_long ((t.parts / m + t.offset) % 2 ^ 64) (shown_parts t.resolution + (t.parts % m) * shown_parts t.resolution / m) (omega (arith, ltb-true _ _ few)) (omega (arith, below, few_shown t.resolution)))
    (λ _. omega arith)

node_long : (node : ℕ) → node < 65536 → length (node_text node) ≤ 41
node_long node small =
    omega (
      arith,
      length-append (decimal (node / 1024)) (codes "." ++ (decimal (node % 1024) ++ [])),
      length-append (decimal (node % 1024)) [],
      decimal_long (node / 1024) (omega (arith, small)),
      decimal_long (node % 1024) (omega arith),
    )

frame_long : (number : ℕ) (time : Option Time) → number < 2 ^ 64 → length (frame_text number time) ≤ 68
frame_long number time small =
    omega (arith, length-append (decimal number) (codes " " ++ (time_text time ++ [])), length-append (time_text time) [], decimal_long number small, time_long time)

pair_long : (nodes : Nodes) → nodes.source < 65536 → nodes.destination < 65536 → length (pair_text nodes) ≤ 86
pair_long nodes source destination =
    omega (
      arith,
      length-append (node_text nodes.source) (codes " -> " ++ (node_text nodes.destination ++ [])),
      length-append (node_text nodes.destination) [],
      node_long nodes.source source,
      node_long nodes.destination destination,
    )

comment_long : (number : ℕ) (time : Option Time) (nodes : Nodes) → number < 2 ^ 64 → nodes.source < 65536 → nodes.destination < 65536
    → length (comment_text (frame_text number time) nodes) ≤ max_line
comment_long number time nodes small source destination =
    omega (
      arith,
      length-append (frame_text number time) (codes " " ++ (pair_text nodes ++ [])),
      length-append (pair_text nodes) [],
      frame_long number time small,
      pair_long nodes source destination,
    )

data_long : (way : Direction) (bytes : List ℕ) → length bytes ≤ packet_limit → length (concat (data_words way bytes)) ≤ max_line
data_long Right bytes few = omega (arith, length-append (encode_lower bytes) [], length-encode_with lower_digits bytes, few)
data_long Left bytes few = omega (arith, length-append (encode_lower bytes) [], length-encode_with lower_digits bytes, few)

-- ---- a packet that is written

-- its frame and nodes are told, and its bytes fit a line
pub record IsWritten (f : FoundPacket) : Type 0 where
  pub number : ℕ
  pub time : Option Time
  pub nodes : Nodes
  pub small : number < 2 ^ 64
  pub source : nodes.source < 65536
  pub destination : nodes.destination < 65536
  pub bytes : AreBytes f.bytes
  pub some : 0 < length f.bytes
  pub few : length f.bytes ≤ packet_limit
  pub is : f ≡ record { way = f.way; frame = frame_text number time; nodes = Some nodes; bytes = f.bytes }

plain_frame : (number : ℕ) (time : Option Time) → number < 2 ^ 64 → IsPlain (frame_text number time)
plain_frame number time small =
    plain_concat (codes "frame " ∷ decimal number ∷ codes " " ∷ time_text time ∷ []) (refl, (plain_decimal number (omega (arith, small)), (refl, (plain_time time, tt))))

plain_pair : (nodes : Nodes) → nodes.source < 65536 → nodes.destination < 65536 → IsPlain (pair_text nodes)
plain_pair nodes source destination =
    plain_concat (node_text nodes.source ∷ codes " -> " ∷ node_text nodes.destination ∷ []) (plain_node nodes.source source, (refl, (plain_node nodes.destination destination, tt)))

plain_comment : (number : ℕ) (time : Option Time) (nodes : Nodes) → number < 2 ^ 64 → nodes.source < 65536 → nodes.destination < 65536
    → IsPlain (comment_text (frame_text number time) nodes)
plain_comment number time nodes small source destination =
    plain_concat (codes "# " ∷ frame_text number time ∷ codes " " ∷ pair_text nodes ∷ [])
    (refl, (plain_frame number time small, (refl, (plain_pair nodes source destination, tt))))

-- the packet, from its parts
abbrev written_of : Direction → ℕ → Option Time → Nodes → List ℕ → FoundPacket
written_of way number time nodes bytes = record { way = way; frame = frame_text number time; nodes = Some nodes; bytes = bytes }

two_lines : (way : Direction) (number : ℕ) (time : Option Time) (nodes : Nodes) (bytes rest : List ℕ) → number < 2 ^ 64 → nodes.source < 65536 → nodes.destination < 65536 → AreBytes bytes
    → lines (hex_lines (written_of way number time nodes bytes) ++ rest) ≡ comment_text (frame_text number time) nodes ∷ concat (data_words way bytes) ∷ lines rest
two_lines way number time nodes bytes rest small source destination are =
    let comment = comment_text (frame_text number time) nodes in
    ap lines (append_assoc (comment ++ line_feed) (data_line way bytes) rest ∙ append_assoc comment line_feed (data_line way bytes ++ rest))
    ∙ (one_line comment (data_line way bytes ++ rest) (plain_comment number time nodes small source destination)
    ∙ ap (λ ls. comment ∷ ls) (line_of_words (data_words way bytes) rest (plain_data way bytes are)))

no_capture : (frame : List ℕ) (nodes : Nodes) → capture_in (comment_text frame nodes) ≡ None
no_capture frame nodes = refl

decoded : (bytes : List ℕ) → AreBytes bytes → result_unwrap_or (decode_of (encode_lower bytes)) [] ≡ bytes
decoded bytes are = rw (decode_of-encode_lower bytes are) refl

-- what two lines tell, and the others
told : (origin : Option PacketOrigin) (comment line : List ℕ) (others : List (List ℕ)) (capture : Capture) → capture_in comment ≡ None → capture_in line ≡ Some capture → comment_origin line ≡ None
    → packets_after origin (comment ∷ line ∷ others) ≡ found_in (comment_origin comment) capture ∷ packets_after None others
told origin comment line others capture none some last = rw (none, some, last) refl

read_one : (way : Direction) (number : ℕ) (time : Option Time) (nodes : Nodes) (bytes rest : List ℕ) → number < 2 ^ 64 → nodes.source < 65536 → nodes.destination < 65536 → AreBytes bytes
    → 0 < length bytes → length bytes ≤ packet_limit
    → packets_after None (lines (hex_lines (written_of way number time nodes bytes) ++ rest)) ≡ written_of way number time nodes bytes ∷ packets_after None (lines rest)
read_one way number time nodes bytes rest small source destination are some few =
    let comment = comment_text (frame_text number time) nodes in
    let line = concat (data_words way bytes) in
    let is = packet_line way bytes are some few in
    let says : comment_origin comment ≡ Some (record { frame = frame_text number time; nodes = nodes }) =
    told_short comment (comment_long number time nodes small source destination) ∙ comment_read number time nodes small source destination in
    ap (packets_after None) (two_lines way number time nodes bytes rest small source destination are)
    ∙ (told None comment line (lines rest) (way, encode_lower bytes) (no_capture (frame_text number time) nodes) (ap (λ (r : Line). result_unwrap_or r None) is)
    (none_by_packet packet_limit line (way, encode_lower bytes) (data_long way bytes few) is)
    ∙ (ap (λ o. found_by o way (result_unwrap_or (decode_of (encode_lower bytes)) []) ∷ packets_after None (lines rest)) says
    ∙ ap (λ bs. written_of way number time nodes bs ∷ packets_after None (lines rest)) (decoded bytes are)))

not_over : (n : ℕ) → n ≤ max_line → nat_lt max_line n ≡ false
not_over n short = grind (arith, nat_tests)

good_comment : (frame : List ℕ) (nodes : Nodes) → length (comment_text frame nodes) ≤ max_line → is_refused (comment_text frame nodes) ≡ false
good_comment frame nodes short = ap (λ b. b || false) (not_over (length (comment_text frame nodes)) short)

good_data : (line : List ℕ) (capture : Capture) → length line ≤ max_line → line_of packet_limit line ≡ Ok (Some capture) → is_refused line ≡ false
good_data line capture short is = ap (λ b. b || is_err (line_of packet_limit line)) (not_over (length line) short) ∙ ap (λ (r : Line). is_err r) is

clean_one : (way : Direction) (number : ℕ) (time : Option Time) (nodes : Nodes) (bytes rest : List ℕ) → number < 2 ^ 64 → nodes.source < 65536 → nodes.destination < 65536 → AreBytes bytes
    → 0 < length bytes → length bytes ≤ packet_limit
    → list_any is_refused (lines (hex_lines (written_of way number time nodes bytes) ++ rest)) ≡ list_any is_refused (lines rest)
clean_one way number time nodes bytes rest small source destination are some few =
    let comment = comment_text (frame_text number time) nodes in
    let line = concat (data_words way bytes) in
    ap (list_any is_refused) (two_lines way number time nodes bytes rest small source destination are)
    ∙ (ap (λ b. b || (is_refused line || list_any is_refused (lines rest))) (good_comment (frame_text number time) nodes (comment_long number time nodes small source destination))
    ∙ ap (λ b. b || list_any is_refused (lines rest)) (good_data line (way, encode_lower bytes) (data_long way bytes few) (packet_line way bytes are some few)))

-- ---- packets

pub all_read : (founds : List FoundPacket) → AllByRecursion IsWritten founds → packets_of_lines (all_hex_lines founds) ≡ founds
all_read [] are = refl
all_read (f ∷ founds) are =
    let w = are.0 in
    ap (λ x. packets_after None (lines (hex_lines x ++ all_hex_lines founds))) w.is
    ∙ (read_one f.way w.number w.time w.nodes f.bytes (all_hex_lines founds) w.small w.source w.destination w.bytes w.some w.few
    ∙ (ap (λ x. x ∷ packets_after None (lines (all_hex_lines founds))) (sym w.is) ∙ ap (λ fs. f ∷ fs) (all_read founds are.1)))

pub all_clean : (founds : List FoundPacket) → AllByRecursion IsWritten founds → list_any is_refused (lines (all_hex_lines founds)) ≡ false
all_clean [] are = refl
all_clean (f ∷ founds) are =
    let w = are.0 in
    ap (λ x. list_any is_refused (lines (hex_lines x ++ all_hex_lines founds))) w.is
    ∙ (clean_one f.way w.number w.time w.nodes f.bytes (all_hex_lines founds) w.small w.source w.destination w.bytes w.some w.few ∙ all_clean founds are.1)

-- ---- those of a file

as_written : (way : Option Direction) (number : ℕ) (time : Option Time) (p : Packet) → number < 2 ^ 64 → IsPacket p → length p.packet ≤ packet_limit → AllByRecursion IsWritten (found_as way number time p)
as_written None number time p small is few = tt
as_written (Some way) number time p small is few = (
  record {
    number = number;
    time = time;
    nodes = nodes_of p;
    small = small;
    source = is.source;
    destination = is.destination;
    bytes = is.bytes;
    some = is.some;
    few = few;
    is = refl;
  },
  tt,
)

seen_written : (between : Between) (pairs : List Ends) (number : ℕ) (time : Option Time) (seen : Result Packet Passed) → number < 2 ^ 64 → OkPacket seen → OkShort seen
    → AllByRecursion IsWritten (seen_founds between pairs number time seen)
seen_written between pairs number time (Ok p) small is few = as_written (way_in between pairs (nodes_of p)) number time p small is few
seen_written between pairs number time (Err e) small is few = tt

both_written : (some others : List FoundPacket) → AllByRecursion IsWritten some → AllByRecursion IsWritten others → AllByRecursion IsWritten (some ++ others)
both_written [] others one two = two
both_written (f ∷ some) others one two = (one.0, both_written some others one.1 two)

counted_small : (count : ℕ) → bounded_count (count + 1) < 2 ^ 64
counted_small count = omega arith

from_written : (between : Between) (pairs : List Ends) (count : ℕ) (records : List Record) → AllByRecursion (λ r. AreBytes r.bytes) records → AllByRecursion IsWritten (founds_from between pairs count records)
from_written between pairs count [] are = tt
from_written between pairs count (r ∷ records) are =
    let number = bounded_count (count + 1) in
    both_written (record_founds between pairs number r) (founds_from between (record_pairs between pairs r) number records)
    (seen_written between pairs number r.time (packet_in r) (counted_small count) (packet_in_bytes r are.0) (packet_in_short r))
    (from_written between (record_pairs between pairs r) number records are.1)

pub file_written : (between : Between) (records : List Record) → AllByRecursion (λ r. AreBytes r.bytes) records → AllByRecursion IsWritten (founds_of_file between records)
file_written between records are = from_written between [] 0 records are
