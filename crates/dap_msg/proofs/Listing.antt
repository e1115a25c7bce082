-- One item stands at an offset.
use Rattle.std.proofs.Common.{◌≡◌, ℕ, ◌+◌, ◌≤◌, List, length, take, drop, Result, Ok, Err, sym, ap, subst, ◌∙◌, arith}
use Rattle.std.proofs.lemmas.List.{take-append-drop, length-append, length-take}
use Rattle.dap_fields.specs.Spelling.{AreBytes}
use Rattle.dap_msg.specs.declared.fault.MsgFault.{MsgFault}
use Rattle.dap_msg.specs.declared.fault.FaultKind.{FaultKind}
use Rattle.std.specs.Prelude.{IfOk, IfErr}
use Rattle.dap_msg.specs.Message.{Message}
use Rattle.dap_msg.specs.Decoding.{StandsInFront, IsDecoded}
use Rattle.dap_msg.specs.Items.{Item, Whole, Malformed, ItemAt}
use Rattle.dap_msg.proofs.Fields.{AreBytes-back}
use Rattle.dap_msg.proofs.Messages.{header_room, only, fault_only}

pub AreBytes-drop : (at : ℕ) (bytes : List ℕ) → AreBytes bytes → AreBytes (drop at bytes)
AreBytes-drop at bytes fits = AreBytes-back (take at bytes) (drop at bytes) (subst AreBytes (sym (take-append-drop at bytes)) fits)

-- a message has at least its type and its flags
pub stands_some : (m : Message) (n : ℕ) (bytes : List ℕ) → StandsInFront m n bytes → 2 ≤ n
stands_some m n bytes h =
    let s = h.spelled.start in
    omega (arith, ap length s.joined, length-append s.front s.rest, length-take n bytes, h.there, (header_room s.head s.front s.rest s.header).fixed)

pub some_read : (bytes : List ℕ) (result : Result (Message × ℕ) MsgFault) → IsDecoded bytes result → IfOk result (λ x. 2 ≤ x.1)
some_read bytes (Ok x) h = stands_some x.0 x.1 bytes h
some_read bytes (Err f) h = tt

pub fault_told : (bytes : List ℕ) (result : Result (Message × ℕ) MsgFault) → AreBytes bytes → IsDecoded bytes result → IfErr result (λ f. f.offset ≤ length bytes)
fault_told bytes (Ok x) fits h = tt
fault_told bytes (Err f) fits h = (fault_only bytes f.kind f.offset fits h.0).0

same_answer : (bytes : List ℕ) (a b : Result (Message × ℕ) MsgFault) → AreBytes bytes → IsDecoded bytes a → IsDecoded bytes b → a ≡ b
same_answer bytes a b fits h k = only bytes fits a h ∙ sym (only bytes fits b k)

abbrev fault_of : FaultKind → ℕ → ℕ → MsgFault
fault_of kind message_type offset = record { kind = kind; message_type = message_type; offset = offset }

abbrev told_fault : FaultKind → ℕ → ℕ → Result (Message × ℕ) MsgFault
told_fault kind message_type offset = Err (fault_of kind message_type offset)

abbrev told_message : Message → ℕ → Result (Message × ℕ) MsgFault
told_message m n = Ok (m, n)

same_message : (m k : Message) (n l : ℕ) → told_message m n ≡ told_message k l → (m ≡ k) × (n ≡ l)
same_message m k n l e = let p : ◌≡◌ {A = Message × ℕ} (m, n) (k, l) = cc in (ap (λ (x : Message × ℕ). x.0) p, ap (λ (x : Message × ℕ). x.1) p)

moved : (f g : MsgFault) (at i j : ℕ) → f.offset ≡ at + i → g.offset ≡ at + j
    → told_fault f.kind f.message_type i ≡ told_fault g.kind g.message_type j → f ≡ g
moved f g at i j a b e =
    let p : fault_of f.kind f.message_type i ≡ fault_of g.kind g.message_type j = cc in
    let k : f.kind ≡ g.kind = ap (λ (x : MsgFault). x.kind) p in
    let t : f.message_type ≡ g.message_type = ap (λ (x : MsgFault). x.message_type) p in
    let o : f.offset ≡ g.offset = omega (arith, a, b, ap (λ (x : MsgFault). x.offset) p) in
    let all : fault_of f.kind f.message_type f.offset ≡ fault_of g.kind g.message_type g.offset = cc in
    all

pub one_item : (bytes : List ℕ) (at : ℕ) (item other : Item) (next after : ℕ) → AreBytes bytes → ItemAt bytes at item next → ItemAt bytes at other after → (other ≡ item) × (after ≡ next)
one_item bytes at (Whole m) (Whole k) next after fits h o =
    let e = same_message _ _ _ _ (same_answer (drop at bytes) (Ok (k, o.0)) (Ok (m, h.0)) (AreBytes-drop at bytes fits) o.1 h.1) in
    (ap (λ x. Whole x) e.0, omega (arith, e.1, h.2, o.2))
one_item bytes at (Whole m) (Malformed g) next after fits h o =
    absurd (let e = same_answer (drop at bytes) (told_fault g.kind g.message_type o.0) (Ok (m, h.0)) (AreBytes-drop at bytes fits) (o.1, o.3) h.1 in cc)
one_item bytes at (Malformed f) (Whole k) next after fits h o =
    absurd (let e = same_answer (drop at bytes) (told_fault f.kind f.message_type h.0) (Ok (k, o.0)) (AreBytes-drop at bytes fits) (h.1, h.3) o.1 in cc)
one_item bytes at (Malformed f) (Malformed g) next after fits h o =
    let e = same_answer (drop at bytes) (told_fault g.kind g.message_type o.0) (told_fault f.kind f.message_type h.0) (AreBytes-drop at bytes fits) (o.1, o.3) (h.1, h.3) in
    (ap (λ x. Malformed x) (moved g f at o.0 h.0 o.2 h.2 e), o.4 ∙ sym h.4)
