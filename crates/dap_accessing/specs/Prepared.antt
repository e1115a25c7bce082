-- What `prepare` makes and `ask_prepared` needs.
use Rattle.std.specs.Prelude.{◌≡◌, ◌≤◌, true, false, None}
use Rattle.dap_msg.specs.Sendable.{AreSendable}
use Rattle.dap_msg.specs.BothEnds.{four_bytes, max_nsp_message}
use Rattle.dap_accessing.specs.declared.asking.Prepared.{Prepared}
use Rattle.dap_accessing.specs.Request.{Request}
use Rattle.dap_accessing.specs.Asked.{messages_of}
use Rattle.dap_accessing.specs.Phases.{phase_fits}
use Rattle.dap_accessing.specs.Present.{ClientState}
use Rattle.dap_accessing.specs.Outgoing.{AreCounted, first_of, last_of, number_carried}

-- the client may ask the request: it is admissible by what the client keeps
pub record MayAsk (old : ClientState) (request : Request) : Type 0 where
  pub works : old.failed ≡ false
  pub none_due : old.pending ≡ None
  pub in_phase : phase_fits old.phase request ≡ true
  pub sendable : AreSendable old.limit (messages_of old.identity request)
  pub most : old.limit ≤ max_nsp_message

-- The client may ask the request, and this has the number that it carries, in four bytes, and the numbers of bytes of
-- its first message and its last.
pub record IsPrepared (old : ClientState) (request : Request) (p : Prepared) : Type 0 where
  pub may : MayAsk old request
  pub number : p.number ≡ four_bytes (number_carried request)
  pub counted : AreCounted (first_of old.identity request) (last_of request) p.counts
