-- What the numbers of a listing mean, in words. Where a number isn't in a table it has no word.
use Rattle.std.specs.Prelude.{ℕ, ◌==◌, List, [], ◌∷◌, codes, if◌then◌else◌}
use Rattle.dap_msg.specs.Codes.{accfunc, ctlfunc, rac, confunc, cmpfunc, org, rfm, stscode, reasons, rms_access, rms_record, maccode_success}

-- numbers with their words
abbrev pub Table : Type 0
Table = List (ℕ × List ℕ)

-- the word of a number, if it has one
abbrev pub word_in : Table → ℕ → List (List ℕ)
word_in [] number = []
word_in (entry ∷ others) number = if entry.0 == number then entry.1 ∷ [] else word_in others number

-- OSTYPE, of a Configuration: the system. All but 7 are from memory.
abbrev pub systems : Table
systems =
    (1, codes "RT-11") ∷ (2, codes "RSTS/E") ∷ (3, codes "RSX-11S") ∷ (4, codes "RSX-11M") ∷ (6, codes "IAS")
    ∷ (7, codes "VAX/VMS") ∷ (8, codes "TOPS-20") ∷ (9, codes "TOPS-10") ∷ (12, codes "RSX-11M-PLUS") ∷ (18, codes "Ultrix-32") ∷ []

-- ORG, of Attributes
abbrev pub organizations : Table
organizations = (org.sequential, codes "sequential") ∷ (org.relative, codes "relative") ∷ (32, codes "indexed") ∷ []

-- RFM, of Attributes
abbrev pub formats : Table
formats =
    (0, codes "undefined") ∷ (rfm.fixed, codes "fixed") ∷ (rfm.variable, codes "variable") ∷ (3, codes "VFC") ∷ (4, codes "stream") ∷ []

-- ACCFUNC, of an Access
abbrev pub access_functions : Table
access_functions = (accfunc.opening, codes "open") ∷ (accfunc.creating, codes "create") ∷ []

-- CTLFUNC, of a Control
abbrev pub control_functions : Table
control_functions =
    (ctlfunc.get, codes "get") ∷ (ctlfunc.connect, codes "connect") ∷ (ctlfunc.update, codes "update")
    ∷ (ctlfunc.put, codes "put") ∷ (ctlfunc.delete, codes "delete") ∷ (ctlfunc.rewind, codes "rewind") ∷ []

-- RAC, of a Control: how records are found
abbrev pub record_accesses : Table
record_accesses =
    (rac.sequential, codes "sequential") ∷ (rac.keyed, codes "by number") ∷ (rac.address, codes "by RFA") ∷ (rac.whole_file, codes "whole file") ∷ []

-- CONFUNC, of a Continue Transfer
abbrev pub continue_functions : Table
continue_functions =
    (confunc.again, codes "try again") ∷ (confunc.skip, codes "skip") ∷ (confunc.abort, codes "abort") ∷ (confunc.resume, codes "resume") ∷ []

-- CMPFUNC, of an Access Complete
abbrev pub complete_functions : Table
complete_functions =
    (cmpfunc.close, codes "close") ∷ (cmpfunc.response, codes "response") ∷ (cmpfunc.purge, codes "purge")
    ∷ (cmpfunc.end_of_stream, codes "end of stream") ∷ (cmpfunc.skip, codes "skip") ∷ []

-- the types of the messages that aren't decoded
abbrev pub other_types : Table
other_types =
    (10, codes "key definition") ∷ (11, codes "allocation") ∷ (12, codes "summary") ∷ (13, codes "date and time")
    ∷ (14, codes "protection") ∷ (15, codes "name") ∷ (16, codes "access control list") ∷ []

-- STSCODE, of a Status, where MACCODE and MICCODE together have a word. All but 0x5027 and 0x4032 are from memory.
abbrev pub status_codes : Table
status_codes =
    (stscode.end_of_file, codes "end of file") ∷ (stscode.file_not_found, codes "file not found") ∷ (0x4030, codes "file locked")
    ∷ (rms_access.file_exists, codes "file exists") ∷ (rms_access.not_permitted, codes "not permitted")
    ∷ (rms_access.bad_attributes, codes "bad attributes") ∷ (rms_record.not_permitted, codes "not permitted")
    ∷ (rms_record.no_current, codes "no current record") ∷ (rms_record.record_not_found, codes "record not found")
    ∷ (rms_record.record_exists, codes "record exists") ∷ (rms_record.number_out_of_range, codes "number out of range")
    ∷ (rms_record.bad_length, codes "bad length") ∷ (rms_record.bad_access_mode, codes "bad access mode")
    ∷ (rms_record.delete_not_allowed, codes "delete not allowed") ∷ (rms_record.too_large_for_buffer, codes "too large for buffer")
    ∷ (rms_record.bad_key, codes "bad key") ∷ []

-- the reason in STV, where an Access or an operation on a record is refused
abbrev pub reason_table : Table
reason_table =
    (reasons.file_exists, codes "file exists") ∷ (reasons.not_permitted, codes "not permitted")
    ∷ (reasons.no_current, codes "no current record") ∷ (reasons.record_not_found, codes "record not found")
    ∷ (reasons.record_exists, codes "record exists") ∷ (reasons.number_out_of_range, codes "number out of range")
    ∷ (reasons.bad_length, codes "bad length") ∷ (reasons.bad_access_mode, codes "bad access mode")
    ∷ (reasons.delete_not_allowed, codes "delete not allowed") ∷ (reasons.too_large_for_buffer, codes "too large for buffer")
    ∷ (reasons.bad_attributes, codes "bad attributes") ∷ (reasons.bad_key, codes "bad key") ∷ []

-- MACCODE, of a Status
abbrev pub status_kinds : Table
status_kinds =
    (0, codes "pending") ∷ (maccode_success, codes "success") ∷ (2, codes "unsupported") ∷ (4, codes "error on opening")
    ∷ (5, codes "transfer error") ∷ (6, codes "transfer warning") ∷ (7, codes "termination error") ∷ (8, codes "format")
    ∷ (9, codes "invalid") ∷ (10, codes "out of synchronization") ∷ []
