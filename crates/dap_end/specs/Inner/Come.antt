-- Whether a segment came on a link, as code returns it.
use Rattle.std.specs.Prelude.{Bool, false, ◌||◌, nat_lt, length, Option, Some, None}
use Rattle.dap_end.specs.Ports.{PortValue}

-- a segment was taken or is held
abbrev pub has_come : PortValue → Bool
has_come p = nat_lt 0 p.link.coming.received || nat_lt 0 (length p.link.held)

-- the link is there, and a segment came on it
abbrev pub come_on : Option PortValue → Bool
come_on None = false
come_on (Some p) = has_come p
