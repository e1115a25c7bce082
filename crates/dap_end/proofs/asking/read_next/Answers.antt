use Rattle.std.proofs.Common.{◌≡◌, Some, sym, subst, refl}
use Rattle.std.specs.Prelude.{slice_get}
use Rattle.dap_accessing.specs.Calls.{Reads}
use Rattle.dap_accessing.specs.Each.{ReadsOn}
use Rattle.dap_end.specs.Ports.{PortValue}
use Rattle.dap_end.specs.Inner.AskingView.{asking_of}
use Rattle.dap_end.proofs.ServingOne.{has_first, gone_is, offset_there}
use Rattle.dap_end.proofs.Asked.{reads_one}
use Rattle.dap_end.proofs.asking.read_next.Goals as goal

pub returns-in-Ok-clause-ok : goal.returns-in-Ok-clause-ok
returns-in-Ok-clause-ok c =
    let port = c.args.port.now in
    let bytes = c.unwrap-message.result.now in
    let first = sym (rw c.unwrap-message.ensures at c.peek_message.ensures) in
    let waits = has_first port.link.coming.inbox bytes (subst (λ (p : PortValue). slice_get p.link.coming.inbox 0 ≡ Some bytes) c.port.view_is first) in
    reads_one (asking_of port c.args.accessing.now) bytes waits.0 c.is_end-at_end.ensures.bytes c.read.new.self c.advance.new.self c.in-Ok.step waits.1 (offset_there port bytes waits.0 waits.1 c.requires.kept)
    (subst (λ (p : PortValue). Reads bytes p.offset c.args.accessing.now c.read.new.self c.in-Ok.step) c.port.view_is c.in-Ok.ensures.reads)
    (subst (λ (p : PortValue). ReadsOn bytes p.offset c.args.accessing.now c.read.new.self c.in-Ok.step) c.port.view_is c.in-Ok.ensures.reads_on) c.in-Ok.ensures.within c.in-Ok.ensures.own c.in-Ok.ensures.identity
    (gone_is port c.advance.new.self bytes waits.0 c.in-Ok.step.next c.is_end-at_end.result c.is_end-at_end.ensures.end waits.1 (c.advance.ensures.going, c.advance.ensures.ends))

pub returns-in-Err-clause-err : goal.returns-in-Err-clause-err
returns-in-Err-clause-err c =
    let bytes = c.unwrap-message.result.now in
    let first = sym (rw c.unwrap-message.ensures at c.peek_message.ensures) in
    let waits = has_first c.port.inside.link.coming.inbox bytes first in
    rw (← c.port.view_is) (record { bytes = bytes; later = waits.0; came = waits.1; port = refl; own = c.in-Err.ensures.own; identity = c.in-Err.ensures.identity; refused = c.in-Err.ensures.refused })
