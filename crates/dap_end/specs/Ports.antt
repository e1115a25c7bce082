-- One end of a link, the NSP messages that wait for it, and how far the oldest one that came is processed.
use Rattle.std.specs.Prelude.{◌≡◌, ◌⊎◌, ℕ, ◌<◌, ◌+◌, ◌==◌, if◌then◌else◌, List, [], length, IsTrue}
use Rattle.nsp_link.specs.Cutting.{cut, total_length}
use Rattle.nsp_link.specs.declared.link.LinkSetup.{LinkSetup}
use Rattle.nsp_link.specs.Link.{LinkValue, new_link, with_inbox, waiting_bytes}
use Rattle.nsp_link.specs.Sending.{may_queue, queued_link}

-- a link and what waits for it
pub record PortValue : Type 0 where
  pub link : LinkValue
  pub outbox : List (List ℕ)  -- the NSP messages that wait
  pub offset : ℕ  -- where the next DAP message begins in the oldest NSP message that came

-- an end: its port, and the state of its client or server
pub record EndValue (P : Type 0) : Type 0 where
  pub port : PortValue
  pub present : P

-- How many bytes wait: those of the NSP messages that wait here, and of each one at the link, all its bytes until its
-- last segment is acknowledged.
abbrev pub bytes_waiting : PortValue → ℕ
bytes_waiting p = waiting_bytes p.link + total_length p.outbox

-- a new port
abbrev pub new_port : LinkSetup → PortValue
new_port setup = record { link = new_link setup; outbox = []; offset = 0 }

-- The offset moves on. At the end of the NSP message this leaves the link.
abbrev pub gone_on : PortValue → (bytes : List ℕ) (later : List (List ℕ)) → (next : ℕ) → PortValue
gone_on p bytes later next =
    let ends = next == length bytes in
    record p { link = with_inbox p.link (if ends then later else p.link.coming.inbox); offset = if ends then 0 else next }

-- All that waits is passed to the link, which takes it: n NSP messages.
abbrev pub HandsOver : {P : Type 0} → (old new : EndValue P) → ℕ → Type 0
HandsOver old new n =
    let p = old.port in IsTrue (may_queue p.link p.outbox)
    × (new ≡ record old { port = record p { link = queued_link p.link (cut p.link.setup.seg_size p.outbox); outbox = [] } }) × (n ≡ length p.outbox)

-- a segment was taken or is held
abbrev pub HasCome : PortValue → Type 0
HasCome p = (0 < p.link.coming.received) ⊎ (0 < length p.link.held)
