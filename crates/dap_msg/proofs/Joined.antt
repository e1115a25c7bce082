-- What is joined is spellings of the messages.
use Rattle.std.proofs.Common.{List, [], ◌∷◌, true}
use Rattle.std.specs.List.{AllByRecursion}
use Rattle.dap_msg.specs.Message.{Message}
use Rattle.dap_msg.specs.Decoding.{SpellsMessage}
use Rattle.dap_msg.specs.Canon.{canon}
use Rattle.dap_msg.specs.Blocked.{AllFit}
use Rattle.dap_msg.proofs.Canonical.{canon_spells}
use Rattle.dap_msg.proofs.Values.{limits}

pub all_spelled : (messages : List Message) → AllFit messages → AllByRecursion (λ m. SpellsMessage m (canon m) true) messages
all_spelled [] fit = tt
all_spelled (m ∷ messages) fit = (canon_spells m (limits m fit.0), all_spelled messages fit.1)
