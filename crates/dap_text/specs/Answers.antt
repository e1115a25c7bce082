-- The words for what became of a packet, and for a request that isn't asked.
use Rattle.std.specs.Prelude.{ℕ, List, codes, Option, Some, None}
use Rattle.dap_accessing.specs.declared.fault.AskFault.{AskFault}
use Rattle.dap_accessing.specs.declared.fault.AskFault.TheVariants as ask
use Rattle.nsp_link.specs.declared.link.Got.{Got}
use Rattle.nsp_link.specs.declared.link.Got.TheVariants.{Accepted, Repeat, Early, AckOnly}

-- a packet that a link received
abbrev pub got_text : Got → List ℕ
got_text Accepted = codes "accepted"
got_text Repeat = codes "repeat"
got_text Early = codes "early"
got_text AckOnly = codes "ack-only"

-- why a request isn't asked; out of memory has no word
abbrev pub ask_text : AskFault → Option (List ℕ)
ask_text ask.Failed = Some (codes "ask-failed")
ask_text ask.Busy = Some (codes "ask-busy")
ask_text ask.WrongPhase = Some (codes "ask-phase")
ask_text ask.TooLarge = Some (codes "ask-too-large")
ask_text ask.NoMemory = None
