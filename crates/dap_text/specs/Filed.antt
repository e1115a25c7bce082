-- The lines of a file and of a record, read back. Whether there may be such a file or record isn't checked here. By
-- the laws `files_are_read_back` and `records_are_read_back` what is printed is read back.
use Rattle.std.specs.Prelude.{ℕ, List, [], ◌∷◌, length, take, drop, codes, bytes_eq, if◌then◌else◌, Option, Some, None, option_map}
use Rattle.std.specs.Map.{lookup}
use Rattle.dap_msg.specs.Codes.{org, rfm}
use Rattle.texts.specs.Words.{Words, ends, field, hex_of, long, short, text_of, word, words_of}
use Rattle.dap_text.specs.declared.filed.FileLine.{FileLine}
use Rattle.dap_text.specs.declared.filed.RecordLine.{RecordLine}

-- ORG by its word
abbrev pub org_of : List ℕ → Option ℕ
org_of word = lookup (bytes_eq word) ((codes "seq", org.sequential) ∷ (codes "rel", org.relative) ∷ [])

-- RFM by its word
abbrev pub rfm_of : List ℕ → Option ℕ
rfm_of word = lookup (bytes_eq word) ((codes "fixed", rfm.fixed) ∷ (codes "variable", rfm.variable) ∷ [])

-- `kept=HEX`
abbrev pub kept_in_word : List ℕ → Option (List ℕ)
kept_in_word word =
    let front = codes "kept=" in if bytes_eq (take (length front) word) front then hex_of (drop (length front) word) else None

-- what is kept, by the last word; nothing where there is none
abbrev pub kept_last : Words → Option (List ℕ)
kept_last [] = Some []
kept_last (word ∷ words) = field kept_in_word (λ kept. ends kept) (word ∷ words)

-- `file NAME ORG RFM MRS MRN [kept=HEX]`; what the bytes of `kept` say isn't looked at here
abbrev pub file_line_of : List ℕ → Option FileLine
file_line_of line =
    word (codes "file") (field text_of (λ name. field org_of (λ org. field rfm_of (λ rfm. field short (λ mrs. field long (λ mrn words.
    option_map (λ kept. record { name = name; org = org; rfm = rfm; mrs = mrs; mrn = mrn; kept = kept }) (kept_last words))))))) (words_of line)

-- two spaces, that is two empty words, and `NUMBER BODY`
abbrev pub record_line_of : List ℕ → Option RecordLine
record_line_of line =
    word [] (word [] (field long (λ number. field text_of (λ body. ends (record { number = number; body = body }))))) (words_of line)
