-- What the lines of a listing say in words.
use Rattle.std.specs.Prelude.{◌≡◌, ℕ, ◌==◌, ◌||◌, ◌-◌, nat_le, List, [], ◌∷◌, ◌++◌, codes, length, take, if◌then◌else◌, Option}
use Rattle.std.specs.Option.{option_map_or}
use Rattle.std.specs.List.{flat_map}
use Rattle.std.specs.Fmt.{decimal}
use Rattle.std.specs.Global.{Vec}
use Rattle.dap_msg.specs.Codes.{asks_for, fac_bits, maccode, stscode}
use Rattle.dap_msg.specs.BothEnds.{number_of}
use Rattle.dap_msg.specs.declared.message.Message.{Message}
use Rattle.dap_msg.specs.declared.message.Message.TheVariants.{Config, Attrib, Access, Control, Contran, Ack, Accomp, Filedata, Status, Other}
use Rattle.dap_msg.specs.declared.items.Item.{Item}
use Rattle.dap_msg.specs.declared.items.Item.TheVariants.{Whole, Malformed}
use Rattle.texts.specs.Text.{line_feed}
use Rattle.dap_meanings.specs.Tables.{word_in, access_functions, complete_functions, continue_functions, control_functions, formats, organizations, other_types, reason_table, record_accesses, status_codes, status_kinds, systems}
use Rattle.dap_meanings.specs.Quoted.{quoted_bytes}

-- words, if a field is there
abbrev pub if_there : {X : Type 0} → (X → List (List ℕ)) → Option X → List (List ℕ)
if_there words field = option_map_or words field []

-- the number of a record, which has 1 to 8 bytes, the lowest first
abbrev pub record_words : List ℕ → List (List ℕ)
record_words [] = []
record_words (byte ∷ bytes) =
    if nat_le (length bytes) 7 then (codes "record " ++ decimal (number_of (byte ∷ bytes))) ∷ [] else []

-- a word, if FAC has the bit
abbrev pub right_text : ℕ → ℕ → List ℕ → List ℕ
right_text fac bit word = if asks_for fac bit then word else []

-- the operations for which a file is opened
abbrev pub rights_text : ℕ → List ℕ
rights_text fac =
    right_text fac fac_bits.get (codes " get") ++ (right_text fac fac_bits.put (codes " put")
    ++ (right_text fac fac_bits.update (codes " update") ++ right_text fac fac_bits.delete (codes " delete")))

-- the operations for which a file is opened, after "for"; nothing where there are none
abbrev pub rights_words : ℕ → List (List ℕ)
rights_words fac = if length (rights_text fac) == 0 then [] else (codes "for" ++ rights_text fac) ∷ []

-- STV as a reason: one byte
abbrev pub reason_words : List ℕ → List (List ℕ)
reason_words (reason ∷ []) = word_in reason_table reason
reason_words _ = []

-- the first words of these
abbrev pub first_words : List (List ℕ) → List (List ℕ) → List (List ℕ)
first_words [] others = others
first_words (word ∷ words) others = word ∷ words

-- the reason of a refused Access or operation on a record
abbrev pub refusal_words : (code : ℕ) → (stv : List ℕ) → List (List ℕ)
refusal_words code stv = if code == stscode.access_refused || code == stscode.record_refused then reason_words stv else []

-- the code of a Status, or the reason of a refusal, or else MACCODE
abbrev pub status_words : (code : ℕ) → (stv : List ℕ) → List (List ℕ)
status_words code stv = first_words (word_in status_codes code) (first_words (refusal_words code stv) (word_in status_kinds (maccode code)))

-- the words of a DAP message
abbrev pub message_words : Message → List (List ℕ)
message_words (Config c) = word_in systems c.ostype
message_words (Attrib a) = if_there (word_in organizations) a.org ++ if_there (word_in formats) a.rfm
message_words (Access a) = word_in access_functions a.func ++ (quoted_bytes a.name ++ rights_words a.fac)
message_words (Control c) =
    word_in control_functions c.func ++ (if_there (word_in record_accesses) c.rac ++ if_there record_words c.key)
message_words (Contran func) = word_in continue_functions func
message_words Ack = []
message_words (Accomp c) = word_in complete_functions c.func
message_words (Filedata recnum payload) = record_words recnum ++ quoted_bytes payload
message_words (Status s) = status_words s.code s.stv ++ record_words s.recnum
message_words (Other number body) = word_in other_types number

-- what can't be read has none
abbrev pub item_words : Item → List (List ℕ)
item_words (Whole m) = message_words m
item_words (Malformed fault) = []

-- ` ; ` and words, with `, ` between them
abbrev pub words_text : List (List ℕ) → List ℕ
words_text [] = []
words_text (word ∷ words) = codes " ; " ++ (word ++ flat_map (λ next. codes ", " ++ next) words)

-- a line with words before its end
abbrev pub with_words : List (List ℕ) → List ℕ → List ℕ
with_words words line = take (length line - 1) line ++ (words_text words ++ line_feed)

-- what was there, but for its last byte, is a prefix of what is there now, also where memory was refused
unfoldable pub KeepsButEnd : Vec ℕ → Vec ℕ → Type 0
KeepsButEnd old new = (more : List ℕ) × (new.items ≡ take (length old.items - 1) old.items ++ more)
