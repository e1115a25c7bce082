-- No fault is out of memory.
use Rattle.std.proofs.Common.{◌≡◌, ◌≢◌, ℕ, ◌==◌, ◌^◌, Bool, true, false, List, sym, ap, ◌∙◌, inl, inr}
use Rattle.std.specs.Prelude.{Option, Some, None, Result, Ok, Err, IfErr, nat_lt, if◌then◌else◌}
use Rattle.dap_msg.specs.declared.fault.FaultKind.{FaultKind}
use Rattle.dap_msg.specs.declared.fault.FaultKind.TheVariants.{Truncated, TooLong, BadFlags, BadStream, UnknownType, BadMenu, NoMemory}
use Rattle.dap_msg.specs.declared.fault.MsgFault.{MsgFault}
use Rattle.dap_msg.specs.Grammar.{Kind, ValueOf, FaultyField, Part, Must, When, OrElse, UnlessEnd, Remainder, PartValue, FaultyPart, Grammar, Done, Next, Faulty}
use Rattle.dap_msg.specs.Message.{Message}
use Rattle.dap_msg.specs.Formats.{any, flags_are_known, header, configuration_format, attributes_format, access_format, control_format, continuation_format, acknowledge_format, completion_format, file_data_format, status_format, other_format, operand}
use Rattle.dap_msg.specs.Decoding.{IsFault, IsDecoded}
use Rattle.dap_msg.specs.Inner.Refusals.{refuses_bits}

abbrev IsCalmRefusal : {V : Type 0} → (V → Option FaultKind) → Type 0
IsCalmRefusal {V = V} refuses = (v : V) → refuses v ≢ Some NoMemory

abbrev IsCalmPart : Part → Type 0
IsCalmPart (Must k refuses) = IsCalmRefusal refuses
IsCalmPart (When test k refuses) = IsCalmRefusal refuses
IsCalmPart (OrElse k default refuses) = IsCalmRefusal refuses
IsCalmPart (UnlessEnd k refuses) = IsCalmRefusal refuses
IsCalmPart (Remainder kept) = Unit {0}

-- no part refuses a value for out of memory
abbrev IsCalm : {A : Type 0} → Grammar A → Type 0
IsCalm (Done a) = Unit {0}
IsCalm (Next p next) = IsCalmPart p × ((v : PartValue p) → IsCalm (next v))

truncated : Truncated ≢ NoMemory
truncated = λ e. absurd cc

field_calm : (k : Kind) (refuses : ValueOf k → Option FaultKind) (bytes : List ℕ) (kind : FaultKind) → IsCalmRefusal refuses → FaultyField k refuses bytes kind → kind ≢ NoMemory
field_calm k refuses bytes kind calm (inl h) = λ e. truncated (sym h.0 ∙ e)
field_calm k refuses bytes kind calm (inr (inl h)) = λ e. absurd (let t : TooLong ≡ NoMemory = sym h.0 ∙ e in cc)
field_calm k refuses bytes kind calm (inr (inr h)) = λ e. calm h.0 (h.3 ∙ ap (λ x. Some x) e)

part_calm : (p : Part) (bytes : List ℕ) (kind : FaultKind) → IsCalmPart p → FaultyPart p bytes kind → kind ≢ NoMemory
part_calm (Must k refuses) bytes kind calm h = field_calm k refuses bytes kind calm h
part_calm (When test k refuses) bytes kind calm h = field_calm k refuses bytes kind calm h.1
part_calm (OrElse k default refuses) bytes kind calm h = field_calm k refuses bytes kind calm h.1
part_calm (UnlessEnd k refuses) bytes kind calm h = field_calm k refuses bytes kind calm h.1
part_calm (Remainder kept) bytes kind calm h = absurd h

grammar_calm : {A : Type 0} (g : Grammar A) (bytes : List ℕ) (kind : FaultKind) (offset : ℕ) → IsCalm g → Faulty g bytes kind offset → kind ≢ NoMemory
grammar_calm (Done a) bytes kind offset calm h = absurd h
grammar_calm (Next p next) bytes kind offset calm (inl h) = part_calm p bytes kind calm.0 h.1
grammar_calm (Next p next) bytes kind offset calm (inr (v, front, back, later, joined, at, part, more)) = grammar_calm (next v) back kind later (calm.1 v) more

calm_if : (b : Bool) (kind : FaultKind) → kind ≢ NoMemory → (if b then None else Some kind) ≢ Some NoMemory
calm_if true kind n = λ e. absurd cc
calm_if false kind n = λ e. n (let f : Some kind ≡ Some NoMemory = e in cc)

calm_any : {V : Type 0} → IsCalmRefusal {V = V} any
calm_any = λ v e. absurd cc

calm_menu : (fields : ℕ) → IsCalmRefusal (refuses_bits fields)
calm_menu fields = λ v. calm_if (nat_lt v (2 ^ fields)) BadMenu (λ e. absurd cc)

calm_header : IsCalm header
unfolding header
calm_header = (
  λ v. calm_if _ UnknownType (λ e. absurd cc),
  λ number. (
    λ v. calm_if (flags_are_known v) BadFlags (λ e. absurd cc),
    λ flags. (λ v. calm_if (v == 0) BadStream (λ e. absurd cc), λ stream. (calm_any, λ low. (calm_any, λ high. tt))),
  ),
)

calm_or : (b : Bool) (x y : Grammar Message) → IsCalm x → IsCalm y → IsCalm (if b then x else y)
calm_or true x y p q = p
calm_or false x y p q = q

calm_configuration : IsCalm configuration_format
unfolding configuration_format
calm_configuration = (calm_any, λ _. (calm_any, λ _. (calm_any, λ _. (calm_any, λ _. (calm_any, λ _. (calm_any, λ _. (calm_any, λ _. (calm_any, λ _. (calm_any, λ _. (tt, λ _. tt))))))))))

calm_attributes : IsCalm attributes_format
unfolding attributes_format
calm_attributes = (calm_menu 21, λ _. (calm_any, λ _. (calm_any, λ _. (calm_any, λ _. (calm_any, λ _. (calm_any, λ _. (calm_any, λ _. (calm_any, λ _. (calm_any, λ _. (calm_any, λ _. (calm_any, λ _. (calm_any, λ _. (calm_any, λ _. (calm_any, λ _. (calm_any, λ _. (calm_any, λ _. (calm_any, λ _. (calm_any, λ _. (calm_any, λ _. (calm_any, λ _. (calm_any, λ _. (calm_any, λ _. (tt, λ _. tt)))))))))))))))))))))))

calm_access : IsCalm access_format
unfolding access_format
calm_access = (calm_any, λ _. (calm_any, λ _. (calm_any, λ _. (calm_any, λ _. (calm_any, λ _. (calm_any, λ _. (calm_any, λ _. (tt, λ _. tt))))))))

calm_control : IsCalm control_format
unfolding control_format
calm_control = (calm_any, λ _. (calm_menu 6, λ _. (calm_any, λ _. (calm_any, λ _. (calm_any, λ _. (calm_any, λ _. (calm_any, λ _. (calm_any, λ _. (tt, λ _. tt)))))))))

calm_continuation : IsCalm continuation_format
unfolding continuation_format
calm_continuation = (calm_any, λ _. (tt, λ _. tt))

calm_acknowledge : IsCalm acknowledge_format
unfolding acknowledge_format
calm_acknowledge = (tt, λ _. tt)

calm_completion : IsCalm completion_format
unfolding completion_format
calm_completion = (calm_any, λ _. (calm_any, λ _. (calm_any, λ _. (tt, λ _. tt))))

calm_file_data : IsCalm file_data_format
unfolding file_data_format
calm_file_data = (calm_any, λ _. (tt, λ _. tt))

calm_status : IsCalm status_format
unfolding status_format
calm_status = (calm_any, λ _. (calm_any, λ _. (calm_any, λ _. (calm_any, λ _. (tt, λ _. tt)))))

calm_other : (number : ℕ) → IsCalm (other_format number)
unfolding other_format
calm_other number = (tt, λ _. tt)

calm_operand : (n : ℕ) → IsCalm (operand n)
calm_operand n =
    calm_or (n == 1) _ _ calm_configuration
    (calm_or (n == 2) _ _ calm_attributes
    (calm_or (n == 3) _ _ calm_access
    (calm_or (n == 4) _ _ calm_control
    (calm_or (n == 5) _ _ calm_continuation
    (calm_or (n == 6) _ _ calm_acknowledge
    (calm_or (n == 7) _ _ calm_completion
    (calm_or (n == 8) _ _ calm_file_data
    (calm_or (n == 9) _ _ calm_status (calm_other n)))))))))

fault_calm : (bytes : List ℕ) (kind : FaultKind) (offset : ℕ) → IsFault bytes kind offset → kind ≢ NoMemory
fault_calm bytes kind offset (inl h) = grammar_calm header bytes kind offset calm_header h
fault_calm bytes kind offset (inr (s, inl h)) = λ e. truncated (sym h.kind_is ∙ e)
fault_calm bytes kind offset (inr (s, inr h)) = grammar_calm (operand s.head.number) h.body kind h.within (calm_operand s.head.number) h.fault

pub never_no_memory : (bytes : List ℕ) (result : Result (Message × ℕ) MsgFault) → IsDecoded bytes result → IfErr result (λ f. f.kind ≢ NoMemory)
never_no_memory bytes (Ok x) a = tt
never_no_memory bytes (Err f) a = fault_calm bytes f.kind f.offset a.0
