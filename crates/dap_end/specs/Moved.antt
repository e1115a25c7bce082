-- A port of which a part has changed.
use Rattle.std.specs.Prelude.{ℕ, ◌+◌, []}
use Rattle.nsp_link.specs.Cutting.{cut}
use Rattle.nsp_link.specs.Link.{LinkValue}
use Rattle.nsp_link.specs.Sending.{queued_link}
use Rattle.dap_end.specs.Ports.{PortValue}

-- the port with another link in place of the one that it has
abbrev pub with_link : PortValue → LinkValue → PortValue
with_link p link = record p { link = link }

-- all that waits is passed to the link
abbrev pub with_outbox_sent : PortValue → PortValue
with_outbox_sent p =
    record p { link = queued_link p.link (cut p.link.setup.seg_size p.outbox); outbox = [] }

-- n segments more are sent
abbrev pub sent_more : PortValue → ℕ → PortValue
sent_more p n = with_link p (record p.link { sent = p.link.sent + n })
