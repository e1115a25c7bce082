-- How a link moves where a packet comes or segments are sent.
use Rattle.std.proofs.Common.{ℕ, List, sym, subst}
use Rattle.std.specs.Prelude.{Result}
use Rattle.nsp_link.specs.Link.{LinkValue}
use Rattle.nsp_link.specs.declared.fault.LinkFault.{LinkFault}
use Rattle.nsp_link.specs.declared.link.Got.{Got}
use Rattle.nsp_link.specs.Receiving.{Receives}
use Rattle.dap_end.specs.Ports.{PortValue}
use Rattle.dap_end.specs.Moved.{sent_more}
use Rattle.dap_end.specs.Going.{GoneThrough}
use Rattle.dap_end.specs.Inner.Kept.{LinkMoved}
use Rattle.dap_end.proofs.Taking.{grown}
use Rattle.dap_end.proofs.Going.{gone_stays}

-- a packet came
pub received : (old new : LinkValue) (bytes : List ℕ) (r : Result Got LinkFault) → Receives old new bytes r → LinkMoved old new
received old new bytes r h =
    let g = grown old new bytes r h in
    record {
      gone = λ given offset items through. subst (λ (l : List (List ℕ)). GoneThrough given l offset items) (sym g.inbox) (gone_stays given old.coming.inbox g.more offset items through);
      sends = h.sends;
    }

-- segments were sent
pub sent : (p : PortValue) (n : ℕ) → LinkMoved p.link (sent_more p n).link
sent p n = record { gone = λ given offset items through. through; sends = λ messages h. record { queue = h.queue; acked = h.acked; part = h.part } }
