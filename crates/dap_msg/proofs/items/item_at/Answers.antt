use Rattle.std.proofs.Common.{◌≡◌, ◌+◌, ℕ, List, length, drop, slice_index, Err, refl, subst, arith}
use Rattle.dap_msg.specs.declared.fault.MsgFault.{MsgFault}
use Rattle.dap_msg.specs.Decoding.{StandsInFront, IsFault, IsDecoded, IsSpelled}
use Rattle.dap_msg.specs.Items.{Whole, Malformed, ItemAt}
use Rattle.dap_msg.proofs.Listing.{one_item}
use Rattle.dap_msg.proofs.items.item_at.Goals as goal

malformed : (bytes rest : List ℕ) (at : ℕ) (f : MsgFault) → rest ≡ drop at bytes → IsDecoded rest (Err f) → ItemAt bytes at (Malformed (record f { offset = at + f.offset })) (length bytes)
malformed bytes rest at f e h = (f.offset, subst (λ b. IsFault b f.kind f.offset) e h.0, refl, subst (λ b. f.message_type ≡ slice_index b 0) e h.1, refl)

pub returns-in-Ok-clause-only : goal.returns-in-Ok-clause-only
returns-in-Ok-clause-only c = λ item next h.
    one_item c.args.nsp_message.now c.args.at (Whole c.in-Ok.message) item (c.args.at + c.in-Ok.len) next (λ i. omega (arith, c.type_inv.nsp_message i))
    (c.in-Ok.len, subst (λ b. StandsInFront c.in-Ok.message c.in-Ok.len b) c.split_at.ensures.back c.in-Ok.ensures.exact, refl) h

pub returns-in-Ok-clause-fields : goal.returns-in-Ok-clause-fields
returns-in-Ok-clause-fields c = λ m e. let same : c.in-Ok.message ≡ m = cc in subst IsSpelled same c.in-Ok.ensures.fields

pub returns-in-Err-clause-fields : goal.returns-in-Err-clause-fields
returns-in-Err-clause-fields c = λ m e. (let no : ⊥ = cc in absurd no)

pub returns-in-Err-clause-exact : goal.returns-in-Err-clause-exact
returns-in-Err-clause-exact c = malformed c.args.nsp_message.now _ c.args.at c.in-Err.fault c.split_at.ensures.back c.in-Err.ensures.exact

pub returns-in-Err-clause-only : goal.returns-in-Err-clause-only
returns-in-Err-clause-only c = λ item next h.
    one_item c.args.nsp_message.now c.args.at (Malformed _) item _ next (λ i. omega (arith, c.type_inv.nsp_message i))
    (malformed c.args.nsp_message.now _ c.args.at c.in-Err.fault c.split_at.ensures.back c.in-Err.ensures.exact) h
