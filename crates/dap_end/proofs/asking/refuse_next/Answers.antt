use Rattle.std.proofs.Common.{refl, sym}
use Rattle.dap_end.proofs.ServingOne.{has_first}
use Rattle.dap_end.proofs.asking.refuse_next.Goals as goal

pub returns-clause-refused : goal.returns-clause-refused
returns-clause-refused c =
    let bytes = c.unwrap-message.result.now in
    let first = sym (rw c.unwrap-message.ensures at c.peek_message.ensures) in
    let waits = has_first c.port.inside.link.coming.inbox bytes first in
    rw (← c.port.view_is) (record { bytes = bytes; later = waits.0; came = waits.1; port = refl; own = c.refuse.ensures.own; identity = c.refuse.ensures.identity; refused = c.refuse.ensures.refused })
