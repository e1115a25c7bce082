-- How long the spellings are that are written.
use Rattle.std.proofs.Common.{◌≡◌, ℕ, ◌+◌, ◌^◌, ◌<◌, ◌≤◌, List, [], ◌∷◌, ◌++◌, length, Option, Some, None, refl, arith, lit≤, lit<}
use Rattle.std.specs.List.{concat}
use Rattle.std.proofs.lemmas.Bool.Decides.{nat_tests}
use Rattle.dap_fields.specs.Spelling.{little_bytes}
use Rattle.std.proofs.lemmas.List.{length-append}
use Rattle.dap_fields.specs.Writing.{groups}
use Rattle.dap_msg.specs.Message.{Message, Configuration, StatusFields, Ack, Attrib, Config, Filedata, Status}
use Rattle.dap_msg.specs.Formats.{type_number, header_bytes}
use Rattle.dap_msg.specs.Canon.{Fits}
use Rattle.dap_msg.specs.Grammar.{Byte, Word, Extensible}
use Rattle.dap_msg.specs.Canon.{option_bytes, operand_fields, operand_bytes, canon}
use Rattle.dap_msg.specs.Fitting.{FieldsFit}
use Rattle.dap_msg.specs.Sizes.{header_size, file_data_size}
use Rattle.dap_msg.specs.BothEnds.{no_attributes, plain_identity, config_of, complete_with, attributes_of}
use Rattle.dap_msg.specs.Inner.Answers.{IsShortAnswer, AnswersFit}
use Rattle.dap_msg.proofs.Canonical.{closed_spelling}
use Rattle.dap_msg.proofs.Sizes.{IsPlainMessage, plain_short, groups_short}

header_length : (number len : ℕ) → length (header_bytes number len) ≡ header_size len
header_length number len = grind (arith, nat_tests)

pub canon_length : (m : Message) → length (canon m) ≡ header_size (length (operand_bytes m)) + length (operand_bytes m)
unfolding canon
canon_length m =
    omega (arith, length-append (header_bytes (type_number m) (length (operand_bytes m))) (operand_bytes m), header_length (type_number m) (length (operand_bytes m)))

pub file_data_operand : (recnum payload : List ℕ) → length (operand_bytes (Filedata recnum payload)) ≡ 1 + length recnum + length payload
file_data_operand recnum payload = omega (arith, length-append recnum (payload ++ []), length-append payload [])

pub file_data_measured : (recnum payload : List ℕ) → length (canon (Filedata recnum payload)) ≡ file_data_size (length recnum) (length payload)
file_data_measured recnum payload = rw (canon_length (Filedata recnum payload), file_data_operand recnum payload) refl

pub file_data_short : (recnum payload : List ℕ) → length recnum + length payload < 255 → length (canon (Filedata recnum payload)) ≡ 4 + length recnum + length payload
file_data_short recnum payload lt = grind (arith, nat_tests, file_data_measured recnum payload, lt)

pub file_data_long : (recnum payload : List ℕ) → 255 ≤ length recnum + length payload → length (canon (Filedata recnum payload)) ≡ 5 + length recnum + length payload
file_data_long recnum payload le = grind (arith, nat_tests, file_data_measured recnum payload, le)

-- ---- Answers.

header_extent : (len : ℕ) → (3 ≤ header_size len) × (header_size len ≤ 4)
header_extent len = grind (arith, nat_tests)

short_answer_of : (m : Message) → FieldsFit m → IsPlainMessage m → length (operand_bytes m) ≤ 60 → IsShortAnswer m
short_answer_of m fields plain short = record {
  fits = closed_spelling m (record { fields = fields; length = plain_short m fields plain });
  short = omega (arith, canon_length m, (header_extent (length (operand_bytes m))).1);
}

identity_short : (own : Configuration) → FieldsFit (Config own) → IsShortAnswer (Config own)
identity_short own fits =
    short_answer_of (Config own) fits tt (omega (arith, length-append (groups 12 own.syscap) [], groups_short 12 own.syscap))

config_short : (bufsiz : ℕ) → bufsiz < 2 ^ 16 → IsShortAnswer (config_of bufsiz)
config_short bufsiz lt = identity_short (plain_identity bufsiz) (omega arith, lit< tt, lit< tt, lit< tt, lit< tt, lit< tt, lit< tt, lit< tt, lit< tt)

attributes_short : (org rfm mrs mrn : ℕ) → org < 2 ^ 8 → rfm < 2 ^ 8 → mrs < 2 ^ 16 → IsShortAnswer (attributes_of org rfm mrs mrn)
unfolding groups
attributes_short org rfm mrs mrn o r m =
    short_answer_of (attributes_of org rfm mrs mrn) (tt, omega arith, omega arith, tt, tt, omega arith, tt, tt, tt, lit≤ tt, tt, tt, tt, tt, tt, tt, tt, tt, tt, tt, tt) tt (lit≤ tt)

-- each field is no longer than its limit
abbrev AllWithin : List (List ℕ) → List ℕ → Type 0
AllWithin [] limits = Unit {0}
AllWithin (f ∷ fields) [] = ⊥
AllWithin (f ∷ fields) (n ∷ limits) = (length f ≤ n) × AllWithin fields limits

-- all limits together
abbrev total : List ℕ → ℕ
total [] = 0
total (n ∷ limits) = n + total limits

concat_within : (fields : List (List ℕ)) (limits : List ℕ) → AllWithin fields limits → length (concat fields) ≤ total limits
concat_within [] limits s = omega arith
concat_within (f ∷ fields) [] s = absurd s
concat_within (f ∷ fields) (n ∷ limits) s = omega (arith, length-append f (concat fields), concat_within fields limits s.1, s.0)

byte_option : (v : Option ℕ) → length (option_bytes Byte v) ≤ 1
byte_option (Some v) = lit≤ tt
byte_option None = lit≤ tt

word_option : (v : Option ℕ) → length (option_bytes Word v) ≤ 2
word_option (Some v) = lit≤ tt
word_option None = lit≤ tt

extensible_option : (max : ℕ) (v : Option ℕ) → length (option_bytes (Extensible max) v) ≤ 12
extensible_option max (Some v) = groups_short 12 v
extensible_option max None = lit≤ tt

-- the Attributes of a file, with what else is kept of it
pub file_attributes_fit : (datatype : Option ℕ) (org rfm : ℕ) (rat bls : Option ℕ) (mrs : ℕ) (bks fsz : Option ℕ) (mrn : ℕ) (bsz : Option ℕ) →
    let m = Attrib (record no_attributes { datatype = datatype; org = Some org; rfm = Some rfm; rat = rat; bls = bls; mrs = Some mrs; bks = bks; fsz = fsz; mrn = Some (little_bytes 4 mrn); bsz = bsz }) in
    FieldsFit m → IsShortAnswer m
file_attributes_fit datatype org rfm rat bls mrs bks fsz mrn bsz fits =
    let m = Attrib (record no_attributes { datatype = datatype; org = Some org; rfm = Some rfm; rat = rat; bls = bls; mrs = Some mrs; bks = bks; fsz = fsz; mrn = Some (little_bytes 4 mrn); bsz = bsz }) in
    short_answer_of m fits tt (omega (
      arith,
      concat_within (operand_fields m) (12 ∷ 12 ∷ 1 ∷ 1 ∷ 12 ∷ 2 ∷ 2 ∷ 0 ∷ 1 ∷ 1 ∷ 5 ∷ 0 ∷ 0 ∷ 0 ∷ 1 ∷ 0 ∷ 0 ∷ 0 ∷ 0 ∷ 0 ∷ 0 ∷ 0 ∷ []) (
        groups_short 12 _,
        (
          extensible_option 2 datatype,
          (
            lit≤ tt,
            (
              lit≤ tt,
              (
                extensible_option 3 rat,
                (
                  word_option bls,
                  (
                    lit≤ tt,
                    (
                      lit≤ tt,
                      (
                        byte_option bks,
                        (
                          byte_option fsz,
                          (
                            lit≤ tt,
                            (lit≤ tt, (lit≤ tt, (lit≤ tt, (byte_option bsz, (lit≤ tt, (lit≤ tt, (lit≤ tt, (lit≤ tt, (lit≤ tt, (lit≤ tt, (lit≤ tt, tt))))))))))),
                          ),
                        ),
                      ),
                    ),
                  ),
                ),
              ),
            ),
          ),
        ),
      ),
    ))

-- what is kept of Attributes with a file, by itself
pub kept_operand : (datatype rfm rat bls bks fsz bsz : Option ℕ) →
    length (operand_bytes (Attrib (record no_attributes { datatype = datatype; rfm = rfm; rat = rat; bls = bls; bks = bks; fsz = fsz; bsz = bsz }))) ≤ 60
kept_operand datatype rfm rat bls bks fsz bsz =
    let m = Attrib (record no_attributes { datatype = datatype; rfm = rfm; rat = rat; bls = bls; bks = bks; fsz = fsz; bsz = bsz }) in
    omega (
      arith,
      concat_within (operand_fields m) (12 ∷ 12 ∷ 0 ∷ 1 ∷ 12 ∷ 2 ∷ 0 ∷ 0 ∷ 1 ∷ 1 ∷ 0 ∷ 0 ∷ 0 ∷ 0 ∷ 1 ∷ 0 ∷ 0 ∷ 0 ∷ 0 ∷ 0 ∷ 0 ∷ 0 ∷ []) (
        groups_short 12 _,
        (
          extensible_option 2 datatype,
          (
            lit≤ tt,
            (
              byte_option rfm,
              (
                extensible_option 3 rat,
                (
                  word_option bls,
                  (
                    lit≤ tt,
                    (
                      lit≤ tt,
                      (
                        byte_option bks,
                        (
                          byte_option fsz,
                          (
                            lit≤ tt,
                            (lit≤ tt, (lit≤ tt, (lit≤ tt, (byte_option bsz, (lit≤ tt, (lit≤ tt, (lit≤ tt, (lit≤ tt, (lit≤ tt, (lit≤ tt, (lit≤ tt, tt))))))))))),
                          ),
                        ),
                      ),
                    ),
                  ),
                ),
              ),
            ),
          ),
        ),
      ),
    )

pub kept_attributes_fit : (datatype rfm rat bls bks fsz bsz : Option ℕ) →
    let m = Attrib (record no_attributes { datatype = datatype; rfm = rfm; rat = rat; bls = bls; bks = bks; fsz = fsz; bsz = bsz }) in
    FieldsFit m → IsShortAnswer m
kept_attributes_fit datatype rfm rat bls bks fsz bsz fits = short_answer_of _ fits tt (kept_operand datatype rfm rat bls bks fsz bsz)

complete_short : (func : ℕ) → func < 2 ^ 8 → IsShortAnswer (complete_with func)
unfolding groups
complete_short func lt = short_answer_of (complete_with func) (omega arith, lit< tt, tt) tt (lit≤ tt)

status_short : (s : StatusFields) → s.code < 2 ^ 16 → length s.rfa ≤ 4 → length s.recnum ≤ 4 → length s.stv ≤ 4 → IsShortAnswer (Status s)
status_short s c r n v =
    short_answer_of (Status s) (omega arith, omega arith, omega arith, omega arith) tt
    (omega (arith, length-append s.rfa ((length s.recnum ∷ s.recnum) ++ ((length s.stv ∷ s.stv) ++ [])), length-append s.recnum ((length s.stv ∷ s.stv) ++ []), length-append s.stv []))

pub file_data_fits : (recnum payload : List ℕ) → length recnum ≤ 8 → length payload ≤ 65526 → Fits (Filedata recnum payload)
file_data_fits recnum payload small short =
    closed_spelling (Filedata recnum payload) (record { fields = small; length = omega (arith, file_data_operand recnum payload) })

-- a record without a number
pub unnumbered_fits : (payload : List ℕ) → length payload ≤ 65534 → Fits (Filedata [] payload)
unnumbered_fits payload short =
    closed_spelling (Filedata [] payload) (record { fields = lit≤ tt; length = omega (arith, file_data_operand [] payload) })

pub answers_fit : AnswersFit
answers_fit = record {
  config = config_short;
  identity = identity_short;
  attributes = attributes_short;
  ack = short_answer_of Ack tt tt (lit≤ tt);
  complete = complete_short;
  status = status_short;
  filedata = λ number body short. file_data_fits (little_bytes 4 number) body (lit≤ tt) (omega arith);
}
