-- The packet lines of a text, piece by piece.
use Rattle.std.proofs.Common.{◌≡◌, ℕ, refl, sym, ◌∙◌, subst, ap, append_assoc, Bool, true, false, List, [], ◌∷◌, ◌++◌, map}
use Rattle.std.specs.Prelude.{◌==◌, ◌+◌, ◌/◌, ◌%◌, ◌&&◌, not, nat_lt, slice_index, if◌then◌else◌, codes, Option, Some, None}
use Rattle.std.specs.Fmt.{decimal, digit_glyph, digits, digits_onto}
use Rattle.std.proofs.Common.{zero, suc, arith}
use Rattle.std.proofs.lemmas.Bool.{ne_eqb}
use Rattle.rec_file.specs.declared.shapes.Format.{Format}
use Rattle.rec_file.specs.declared.shapes.Format.TheVariants as form
use Rattle.rec_file.specs.declared.shapes.Org.{Org}
use Rattle.rec_file.specs.declared.shapes.Org.TheVariants as org
use Rattle.rec_file.specs.declared.look.Look.{Look}
use Rattle.rec_file.specs.declared.shapes.Shape.{Shape}
use Rattle.dap_accessed.specs.Replies.{given_limit}
use Rattle.dap_text.specs.Kept.{look_bytes}
use Rattle.nsp_seg.specs.Flags.{flag_kind_of}
use Rattle.nsp_seg.specs.declared.packet.FlagKind.{FlagKind}
use Rattle.nsp_seg.specs.declared.packet.FlagKind.TheVariants as kind
use Rattle.nsp_seg.specs.declared.packet.SegFault.{SegFault}
use Rattle.std.specs.FinMap.{entries}
use Rattle.dap_msg.specs.Codes.{reasons, stscode}
use Rattle.nsp_seg.specs.declared.packet.SegFault.TheVariants as seg
use Rattle.nsp_link.specs.declared.fault.LinkFault.TheVariants as fault
use Rattle.dap_accessed.specs.declared.fault.AddFault.TheVariants as add
use Rattle.dap_accessed.specs.Replies.{reason_of}
use Rattle.dap_accessing.specs.declared.fault.ReadFault.TheVariants as read
use Rattle.dap_shared.specs.declared.fault.RemoveFault.TheVariants as removing
use Rattle.dap_end.specs.declared.fault.EndFault.TheVariants as end
use Rattle.dap_text.specs.Reports.{refused_text}
use Rattle.linewise.specs.declared.talking.Became.TheVariants as was
use Rattle.std.specs.List.{AllByRecursion, concat}
use Rattle.std.proofs.lemmas.List.{append-nil, map-append}
use Rattle.hex.specs.Hex.{encode_lower, encode_with, lower_digits}
use Rattle.nsp_link.specs.declared.link.Got.{Got}
use Rattle.nsp_link.specs.declared.link.Got.TheVariants.{Accepted, AckOnly, Early, Repeat}
use Rattle.nsp_link.specs.declared.fault.LinkFault.{LinkFault}
use Rattle.dap_accessed.specs.declared.fault.AddFault.{AddFault}
use Rattle.dap_accessed.specs.Standing.{Files}
use Rattle.dap_shared.specs.declared.fault.RemoveFault.{RemoveFault}
use Rattle.dap_end.specs.declared.fault.EndFault.{EndFault}
use Rattle.dap_meanings.specs.Faults.{fault_line, flag_text}
use Rattle.dap_text.specs.Answers.{got_text}
use Rattle.dap_text.specs.Tables.{file_line, file_lines, files_lines, format_text, org_text, record_line, kept_text}
use Rattle.texts.specs.Text.{image_text, line_feed, word_text}
use Rattle.linewise.specs.declared.talking.Became.{Became}
use Rattle.linewise.specs.Talks.{ComesIn, ending_of, refusal_of}
use Rattle.dap_live.specs.Texts.{add_refusal, end_refusal, link_refusal, locked_text, packet_text, packets_text, refused_with, remove_refusal, status_line}
use Rattle.dap_transcripts.specs.Transcripts.{is_packet_line, lines_after, written_line, packet_lines, those_of}

-- whatever text follows, these are the packet lines before its own
abbrev pub Speaks : List ℕ → List (List ℕ) → Type 0
Speaks text packets = (rest : List ℕ) → packet_lines (text ++ rest) ≡ map written_line packets ++ packet_lines rest

pub speaks_none : Speaks [] []
speaks_none rest = refl

pub speaks_both : (one two : List ℕ) (ps qs : List (List ℕ)) → Speaks one ps → Speaks two qs → Speaks (one ++ two) (ps ++ qs)
speaks_both one two ps qs h k = λ rest.
    ap packet_lines (append_assoc one two rest) ∙ h (two ++ rest) ∙ ap (λ (l : List (List ℕ)). map written_line ps ++ l) (k rest)
    ∙ sym (append_assoc (map written_line ps) (map written_line qs) (packet_lines rest)) ∙ ap (λ (l : List (List ℕ)). l ++ packet_lines rest) (sym (map-append written_line ps qs))

pub speaks_after : (one two : List ℕ) (qs : List (List ℕ)) → Speaks one [] → Speaks two qs → Speaks (one ++ two) qs
speaks_after one two qs h k = speaks_both one two [] qs h k

pub speaks_before : (one two : List ℕ) (ps : List (List ℕ)) → Speaks one ps → Speaks two [] → Speaks (one ++ two) ps
speaks_before one two ps h k = subst (Speaks (one ++ two)) (append-nil ps) (speaks_both one two ps [] h k)

pub speaks_all : (text : List ℕ) (ps : List (List ℕ)) → Speaks text ps → packet_lines text ≡ map written_line ps
speaks_all text ps h = ap packet_lines (sym (append-nil text)) ∙ h [] ∙ append-nil (map written_line ps)

-- ---- A line.

-- no byte of it ends a line
abbrev pub HasNoFeed : List ℕ → Type 0
HasNoFeed line = AllByRecursion (λ b. (b == 10) ≡ false) line

feed_first : (begun line rest : List ℕ) → HasNoFeed line → lines_after begun (line ++ 10 ∷ rest) ≡ (begun ++ line) ∷ lines_after [] rest
feed_first begun [] rest h = ap (λ (l : List ℕ). l ∷ lines_after [] rest) (sym (append-nil begun))
feed_first begun (b ∷ line) rest h =
    ap (λ (t : Bool). if t then begun ∷ lines_after [] (line ++ 10 ∷ rest) else lines_after (begun ++ b ∷ []) (line ++ 10 ∷ rest)) h.0
    ∙ feed_first (begun ++ b ∷ []) line rest h.1 ∙ ap (λ (l : List ℕ). l ∷ lines_after [] rest) (append_assoc begun (b ∷ []) line)

-- a line that doesn't begin with `<`
pub speaks_line : (line : List ℕ) → HasNoFeed line → is_packet_line line ≡ false → Speaks (line ++ 10 ∷ []) []
speaks_line line h other = λ rest.
    ap packet_lines (append_assoc line (10 ∷ []) rest) ∙ ap those_of (feed_first [] line rest h)
    ∙ ap (λ (t : Bool). if t then line ∷ packet_lines rest else packet_lines rest) other

-- the line of a packet
pub speaks_packet : (bytes : List ℕ) → HasNoFeed (encode_lower bytes) → Speaks (packet_text bytes) (bytes ∷ [])
speaks_packet bytes h = λ rest.
    (let is : packet_text bytes ++ rest ≡ written_line bytes ++ 10 ∷ rest = ap (λ (l : List ℕ). codes "< " ++ l) (append_assoc (encode_lower bytes) (10 ∷ []) rest) in
    ap packet_lines is ∙ ap those_of (feed_first [] (written_line bytes) rest (refl, (refl, h))))

-- ---- The pieces of an answer.

-- ---- Bytes that end no line.

abbrev none_feeds : List ℕ → Bool
none_feeds [] = true
none_feeds (b ∷ line) = not (b == 10) && none_feeds line

and_parts : (a b : Bool) → (not a && b) ≡ true → (a ≡ false) × (b ≡ true)
and_parts true b e = let none : ⊥ = cc in absurd none
and_parts false b e = (refl, e)

-- a literal
pub no_feed_by : (line : List ℕ) → none_feeds line ≡ true → HasNoFeed line
no_feed_by [] e = tt
no_feed_by (b ∷ line) e = let p = and_parts (b == 10) (none_feeds line) e in (p.0, no_feed_by line p.1)

pub no_feed_both : (xs ys : List ℕ) → HasNoFeed xs → HasNoFeed ys → HasNoFeed (xs ++ ys)
no_feed_both [] ys h k = k
no_feed_both (x ∷ xs) ys h k = (h.0, no_feed_both xs ys h.1 k)

pub no_feed_all : (pieces : List (List ℕ)) → AllByRecursion HasNoFeed pieces → HasNoFeed (concat pieces)
no_feed_all [] h = tt
no_feed_all (p ∷ pieces) h = no_feed_both p (concat pieces) h.0 (no_feed_all pieces h.1)

glyph_by : (d : ℕ) (b : Bool) → ((if b then 48 + d else 87 + d) == 10) ≡ false
glyph_by d true = ne_eqb (48 + d) 10 (λ e. omega arith)
glyph_by d false = ne_eqb (87 + d) 10 (λ e. omega arith)

no_feed_glyph : (d : ℕ) → (digit_glyph false d == 10) ≡ false
no_feed_glyph d = glyph_by d (nat_lt d 10)

onto_by : (k base n : ℕ) (acc : List ℕ) (b : Bool) → HasNoFeed acc → ((acc' : List ℕ) → HasNoFeed acc' → HasNoFeed (digits_onto k base false (n / base) acc')) → HasNoFeed (if b then digit_glyph false (n % base) ∷ acc else digits_onto k base false (n / base) (digit_glyph false (n % base) ∷ acc))
onto_by k base n acc true h f = (no_feed_glyph (n % base), h)
onto_by k base n acc false h f = f (digit_glyph false (n % base) ∷ acc) (no_feed_glyph (n % base), h)

no_feed_onto : (k base n : ℕ) (acc : List ℕ) → HasNoFeed acc → HasNoFeed (digits_onto k base false n acc)
no_feed_onto zero base n acc h = h
no_feed_onto (suc k) base n acc h = onto_by k base n acc (n / base == 0) h (λ acc' g. no_feed_onto k base (n / base) acc' g)

pub no_feed_decimal : (n : ℕ) → HasNoFeed (decimal n)
unfolding digits
no_feed_decimal n = no_feed_onto 64 10 n [] tt

pub no_feed_word : (n : ℕ) → HasNoFeed (word_text n)
no_feed_word n = (no_feed_glyph _, (no_feed_glyph _, (no_feed_glyph _, (no_feed_glyph _, tt))))

no_feed_at : (t : List ℕ) (k : ℕ) → HasNoFeed t → (slice_index t k == 10) ≡ false
no_feed_at [] k h = refl
no_feed_at (x ∷ t) zero h = h.0
no_feed_at (x ∷ t) (suc k) h = no_feed_at t k h.1

no_feed_with : (t bytes : List ℕ) → HasNoFeed t → HasNoFeed (encode_with t bytes)
unfolding encode_with
no_feed_with t [] h = tt
no_feed_with t (b ∷ bytes) h = (no_feed_at t (b / 16) h, (no_feed_at t (b % 16) h, no_feed_with t bytes h))

-- hex digits end no line
no_feed_hex : (bytes : List ℕ) → HasNoFeed (encode_lower bytes)
no_feed_hex bytes = no_feed_with lower_digits bytes (no_feed_by lower_digits refl)

pub speaks_hex : (bytes : List ℕ) → Speaks (packet_text bytes) (bytes ∷ [])
speaks_hex bytes = speaks_packet bytes (no_feed_hex bytes)

pub speaks_packets : (packets : List (List ℕ)) → Speaks (packets_text packets) packets
speaks_packets [] = speaks_none
speaks_packets (bytes ∷ packets) = speaks_both (packet_text bytes) (packets_text packets) (bytes ∷ []) packets (speaks_packet bytes (no_feed_hex bytes)) (speaks_packets packets)

pub speaks_got : (got : Got) → Speaks (got_text got ++ line_feed) []
speaks_got Accepted = λ rest. refl
speaks_got Repeat = λ rest. refl
speaks_got Early = λ rest. refl
speaks_got AckOnly = λ rest. refl

-- pieces of one line, and its end
pieces_end : (pieces : List (List ℕ)) → concat (pieces ++ line_feed ∷ []) ≡ concat pieces ++ 10 ∷ []
pieces_end [] = refl
pieces_end (p ∷ pieces) = ap (λ (l : List ℕ). p ++ l) (pieces_end pieces) ∙ sym (append_assoc p (concat pieces) (10 ∷ []))

pub speaks_pieces : (pieces : List (List ℕ)) → AllByRecursion HasNoFeed pieces → is_packet_line (concat pieces) ≡ false → Speaks (concat (pieces ++ line_feed ∷ [])) []
speaks_pieces pieces h other = subst (λ (l : List ℕ). Speaks l []) (sym (pieces_end pieces)) (speaks_line (concat pieces) (no_feed_all pieces h) other)

pub speaks_locked : (locked : List ℕ) → Speaks (locked_text locked) []
speaks_locked [] = speaks_none
speaks_locked (local ∷ locked) =
    speaks_both (concat (codes "locked " ∷ word_text local ∷ line_feed ∷ [])) (locked_text locked) [] []
    (speaks_pieces (codes "locked " ∷ word_text local ∷ []) (no_feed_by (codes "locked ") refl, (no_feed_word local, tt)) refl) (speaks_locked locked)

no_feed_flag : (k : FlagKind) → HasNoFeed (flag_text k)
no_feed_flag kind.LinkService = no_feed_by (codes "link-service") refl
no_feed_flag kind.Interrupt = no_feed_by (codes "interrupt") refl
no_feed_flag kind.OtherAck = no_feed_by (codes "other-ack") refl
no_feed_flag kind.ConnectAck = no_feed_by (codes "connect-ack") refl
no_feed_flag kind.Control = no_feed_by (codes "control") refl
no_feed_flag k = no_feed_by (codes "unknown") refl

speaks_fault : (f : SegFault) → Speaks (codes "refused " ++ fault_line f) []
speaks_fault (seg.NotHere flag) = speaks_pieces (codes "refused " ∷ codes "not-here " ∷ flag_text (flag_kind_of flag) ∷ []) (no_feed_by (codes "refused ") refl, (no_feed_by (codes "not-here ") refl, (no_feed_flag (flag_kind_of flag), tt))) refl
speaks_fault (seg.Truncated at) = speaks_pieces (codes "refused " ∷ codes "bad truncated at=" ∷ decimal at ∷ []) (no_feed_by (codes "refused ") refl, (no_feed_by (codes "bad truncated at=") refl, (no_feed_decimal at, tt))) refl
speaks_fault (seg.Trailing at) = speaks_pieces (codes "refused " ∷ codes "bad trailing at=" ∷ decimal at ∷ []) (no_feed_by (codes "refused ") refl, (no_feed_by (codes "bad trailing at=") refl, (no_feed_decimal at, tt))) refl
speaks_fault (seg.BadNumber at) = speaks_pieces (codes "refused " ∷ codes "bad number at=" ∷ decimal at ∷ []) (no_feed_by (codes "refused ") refl, (no_feed_by (codes "bad number at=") refl, (no_feed_decimal at, tt))) refl
speaks_fault seg.NoMemory = λ rest. refl

pub speaks_link : (f : LinkFault) → Speaks (link_refusal f).0 []
speaks_link (fault.Malformed f) = speaks_fault f
speaks_link fault.NoMemory = speaks_none
speaks_link fault.BadSetup = λ rest. refl
speaks_link fault.WrongLink = λ rest. refl
speaks_link fault.BadSequence = λ rest. refl
speaks_link fault.MessageTooLong = λ rest. refl
speaks_link fault.Failed = λ rest. refl
speaks_link fault.Exhausted = λ rest. refl
speaks_link fault.NoSuchSegment = λ rest. refl

pub speaks_end : (f : EndFault) → Speaks (end_refusal f).0 []
speaks_end (end.Link f) = speaks_link f
speaks_end (end.Read read.Failed) = λ rest. refl
speaks_end (end.Read read.Unexpected) = λ rest. refl
speaks_end (end.Read read.NoMemory) = speaks_none

pub speaks_status : (code why : ℕ) → Speaks (status_line code why) []
speaks_status code why =
    speaks_line (refused_text code why)
    (no_feed_all (codes "refused " ∷ word_text code ∷ codes " " ∷ decimal why ∷ []) (no_feed_by (codes "refused ") refl, (no_feed_word code, (no_feed_by (codes " ") refl, (no_feed_decimal why, tt))))) refl

pub speaks_add : (f : AddFault) → Speaks (add_refusal f).0 []
speaks_add add.Busy = λ rest. refl
speaks_add add.FileExists = speaks_status stscode.access_refused reasons.file_exists
speaks_add add.NoFile = speaks_status stscode.file_not_found 0
speaks_add (add.Record why) = speaks_status stscode.record_refused (reason_of why)
speaks_add add.NoMemory = speaks_none

pub speaks_remove : (f : RemoveFault) → Speaks (remove_refusal f).0 []
speaks_remove removing.NoFile = speaks_status stscode.file_not_found 0
speaks_remove removing.Busy = λ rest. refl

pub speaks_no_links : Speaks (refused_with (codes "no-links")).0 []
speaks_no_links = λ rest. refl

-- ---- Files.

abbrev AreQuiet : List (List ℕ) → Type 0
AreQuiet pieces = AllByRecursion (λ l. Speaks l []) pieces

quiet_all : (pieces : List (List ℕ)) → AreQuiet pieces → Speaks (concat pieces) []
quiet_all [] h = speaks_none
quiet_all (p ∷ pieces) h = speaks_both p (concat pieces) [] [] h.0 (quiet_all pieces h.1)

quiet_both : (xs ys : List (List ℕ)) → AreQuiet xs → AreQuiet ys → AreQuiet (xs ++ ys)
quiet_both [] ys h k = k
quiet_both (x ∷ xs) ys h k = (h.0, quiet_both xs ys h.1 k)

quiet_front : (xs ys : List (List ℕ)) → AreQuiet (xs ++ ys) → AreQuiet xs
quiet_front [] ys h = tt
quiet_front (x ∷ xs) ys h = (h.0, quiet_front xs ys h.1)

pub no_feed_image : (bytes : List ℕ) → HasNoFeed (image_text bytes)
no_feed_image [] = no_feed_by (codes "-") refl
no_feed_image (b ∷ bytes) = no_feed_hex (b ∷ bytes)

no_feed_org : (org : Org) → HasNoFeed (org_text org)
no_feed_org org.Seq = no_feed_by (codes "seq") refl
no_feed_org org.Rel = no_feed_by (codes "rel") refl

no_feed_format : (f : Format) → HasNoFeed (format_text f)
no_feed_format form.Fixed = no_feed_by (codes "fixed") refl
no_feed_format form.Variable = no_feed_by (codes "variable") refl

pub one_space : HasNoFeed (codes " ")
one_space = no_feed_by (codes " ") refl

no_feed_kept : (bytes : List ℕ) → HasNoFeed (kept_text bytes)
no_feed_kept [] = no_feed_by [] refl
no_feed_kept (b ∷ bytes) = no_feed_both (codes " kept=") (image_text (b ∷ bytes)) (no_feed_by (codes " kept=") refl) (no_feed_image (b ∷ bytes))

quiet_file : (name : List ℕ) (shape : Shape) (look : Look) → Speaks (file_line name shape look) []
quiet_file name shape look =
    speaks_pieces (codes "file " ∷ image_text name ∷ codes " " ∷ org_text shape.org ∷ codes " " ∷ format_text shape.format ∷ codes " " ∷ decimal (given_limit shape look) ∷ codes " " ∷ decimal shape.mrn ∷ kept_text (look_bytes look) ∷ [])
    (no_feed_by (codes "file ") refl, (no_feed_image name, (one_space, (no_feed_org shape.org, (one_space, (no_feed_format shape.format, (one_space, (no_feed_decimal (given_limit shape look), (one_space, (no_feed_decimal shape.mrn, (no_feed_kept (look_bytes look), tt))))))))))) refl

quiet_record : (r : ℕ × List ℕ) → Speaks (record_line r) []
quiet_record (number, body) = speaks_pieces (codes "  " ∷ decimal number ∷ codes " " ∷ image_text body ∷ []) (no_feed_by (codes "  ") refl, (no_feed_decimal number, (one_space, (no_feed_image body, tt)))) refl

quiet_records : (rs : List (ℕ × List ℕ)) → AreQuiet (map record_line rs)
quiet_records [] = tt
quiet_records (r ∷ rs) = (quiet_record r, quiet_records rs)

quiet_files : (files : Files) → AreQuiet (files_lines files)
quiet_files [] = tt
quiet_files ((name, file) ∷ files) = quiet_both (file_lines (name, file)) (files_lines files) (quiet_file name file.shape file.look, quiet_records (entries file.records)) (quiet_files files)

comes_quiet : (pieces : List (List ℕ)) (text : List ℕ) (became : Became) → AreQuiet pieces → ComesIn pieces text became → Speaks text []
comes_quiet pieces text was.Done q h = subst (λ (l : List ℕ). Speaks l []) (sym h) (quiet_all pieces q)
comes_quiet pieces text was.BadLine q h = absurd h
comes_quiet pieces text was.NoMemory q h = subst (λ (l : List ℕ). Speaks l []) (sym h.4) (quiet_all h.0 (quiet_front h.0 h.1 (subst AreQuiet h.2 q)))

pub speaks_files : (files : Files) (text : List ℕ) (became : Became) → ComesIn (files_lines files) text became → Speaks text []
speaks_files files text became h = comes_quiet (files_lines files) text became (quiet_files files) h

-- ---- The end of an answer.

speaks_waits : (count : ℕ) → Speaks (codes "waits " ++ (decimal count ++ codes "\n")) []
speaks_waits count = speaks_line (codes "waits " ++ decimal count) (no_feed_both (codes "waits ") (decimal count) (no_feed_by (codes "waits ") refl) (no_feed_decimal count)) refl

speaks_refusal : (became : Became) → Speaks (refusal_of became) []
speaks_refusal was.Done = speaks_none
speaks_refusal was.BadLine = λ rest. refl
speaks_refusal was.NoMemory = λ rest. refl

pub speaks_ending : (became : Became) (count : Option ℕ) → Speaks (ending_of became count) []
speaks_ending became None = speaks_none
speaks_ending became (Some count) = speaks_both (refusal_of became) (codes "waits " ++ (decimal count ++ codes "\n")) [] [] (speaks_refusal became) (speaks_waits count)
