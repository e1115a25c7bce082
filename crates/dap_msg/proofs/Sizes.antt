-- How long the operand of a message is whose values fit.
use Rattle.std.proofs.Common.{ℕ, zero, suc, ◌+◌, ◌*◌, ◌/◌, ◌^◌, ◌<◌, ◌≤◌, List, [], ◌∷◌, length, length-append, arith, rules, lit≤, Option, Some, None}
use Rattle.std.proofs.lemmas.Bool.Decides.{nat_tests}
use Rattle.std.specs.List.{concat}
use Rattle.dap_fields.specs.Writing.{groups}
use Rattle.dap_msg.specs.Grammar.{Kind, Byte, Word, Extensible, Image, ValueOf, field_bytes}
use Rattle.dap_msg.specs.Message.{Message, Config, Attrib, Access, Control, Contran, Ack, Accomp, Filedata, Status, Other}
use Rattle.dap_msg.specs.Canon.{option_bytes, operand_fields, operand_bytes}
use Rattle.dap_msg.specs.Fitting.{FitsField, FitsOption, FieldsFit}

pub groups_short : (n v : ℕ) → length (groups n v) ≤ n
unfolding groups
groups_short zero v = lit≤ tt
groups_short (suc n) v = grind (arith, nat_tests, groups_short n (v / 128))

-- the longest value of a kind
abbrev size : Kind → ℕ
size Byte = 1
size Word = 2
size (Extensible max) = 12
size (Image max) = 1 + max

short : (k : Kind) (v : ValueOf k) → size k ≤ 300 → FitsField k v → length (field_bytes k v) ≤ 300
short Byte v s f = lit≤ tt
short Word v s f = lit≤ tt
short (Extensible max) v s f = omega (arith, groups_short 12 v)
short (Image max) image s f = omega arith

short-groups : (v : ℕ) → length (groups 12 v) ≤ 300
short-groups v = omega (arith, groups_short 12 v)

short-option : (k : Kind) (v : Option (ValueOf k)) → size k ≤ 300 → FitsOption k v → length (option_bytes k v) ≤ 300
short-option k (Some v) s f = short k v s f
short-option k None s f = lit≤ tt

abbrev pub AllShort : List (List ℕ) → Type 0
AllShort [] = Unit {0}
AllShort (f ∷ fields) = (length f ≤ 300) × AllShort fields

concat_short : (fields : List (List ℕ)) → AllShort fields → length (concat fields) ≤ 300 * length fields
concat_short [] s = lit≤ tt
concat_short (f ∷ fields) s = omega (arith, length-append f (concat fields), concat_short fields s.1, s.0)

few : (m : Message) → AllShort (operand_fields m) → length (operand_fields m) ≤ 22 → length (operand_bytes m) < 2 ^ 16
few m short le = omega (arith, concat_short (operand_fields m) short)

-- all but records and messages that are kept as bytes
abbrev pub IsPlainMessage : Message → Type 0
IsPlainMessage (Filedata recnum payload) = ⊥
IsPlainMessage (Other number body) = ⊥
IsPlainMessage _ = Unit {0}

pub plain_short : (m : Message) → FieldsFit m → IsPlainMessage m → length (operand_bytes m) < 2 ^ 16
plain_short (Config c) f p = few (Config c) (search (rules, short, short-option)) (lit≤ tt)
plain_short (Attrib a) f p = few (Attrib a) (search (rules, short-groups, short, short-option)) (lit≤ tt)
plain_short (Access a) f p = few (Access a) (search (rules, short, short-option)) (lit≤ tt)
plain_short (Control c) f p = few (Control c) (search (rules, short-groups, short, short-option)) (lit≤ tt)
plain_short (Accomp c) f p = few (Accomp c) (search (rules, short, short-option)) (lit≤ tt)
plain_short (Status s) f p = few (Status s) (search (rules, short, short-option)) (lit≤ tt)
plain_short (Contran func) f p = few (Contran func) (search (rules, short, short-option)) (lit≤ tt)
plain_short Ack f p = few Ack tt (lit≤ tt)
plain_short (Filedata recnum payload) f p = absurd p
plain_short (Other number body) f p = absurd p
