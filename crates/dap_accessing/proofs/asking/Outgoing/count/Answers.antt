use Rattle.std.proofs.Common.{rules, refl, map, IsTrue, false, []}
use Rattle.std.specs.Prelude.{option_to_list}
use Rattle.dap_msg.specs.declared.message.Message.TheVariants.{Filedata}
use Rattle.dap_accessing.proofs.Sending.{sendable_front, sendable_back}
use Rattle.dap_accessing.proofs.asking.Outgoing.count.Goals as goal

no : IsTrue false → ⊥
no e = search rules

pub returns-then-not-are_sendable-clause-no : goal.returns-then-not-are_sendable-clause-no
returns-then-not-are_sendable-clause-no c =
    λ _ s. no (c.if-not-are_sendable.ensures.1 (sendable_front c.args.limit (map (Filedata []) c.args.self.now.records.now) (option_to_list c.args.self.now.last) s.1))

pub returns-in_err-last-in-Some-clause-no : goal.returns-in_err-last-in-Some-clause-no
returns-in_err-last-in-Some-clause-no c =
    λ _ s. c.in_err-last-in-Some.ensures.no refl (sendable_back c.args.limit (map (Filedata []) c.args.self.now.records.now) _ (rw c.in-Some.is at s.1)).0
