use Rattle.std.proofs.Common.{rules, arith, ◌≡◌, ℕ, List}
use Rattle.dap_msg.specs.declared.message.Message.{Message}
use Rattle.dap_msg.specs.declared.message.Message.TheVariants.{Filedata, Other}
use Rattle.dap_msg.proofs.Sizes.{IsPlainMessage, plain_short}
use Rattle.dap_msg.proofs.fitting.operand_fits.Goals as goal

plain : (m : Message) → ((x x' : List ℕ) → m ≡ Filedata x x' → ⊥) → ((x : ℕ) (x' : List ℕ) → m ≡ Other x x' → ⊥) → IsPlainMessage m
plain m none none' = grind (arith, none, none')

pub returns-in_default : goal.returns-in_default
returns-in_default c = (λ _. plain_short _ c.requires (plain _ c.in_default.not-Filedata c.in_default.not-Other), λ _. search rules)
