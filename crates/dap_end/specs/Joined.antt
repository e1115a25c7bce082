-- Two ends, each the other's peer, and a network that loses, repeats and reorders packets. Their headline is the law
-- `two_ends_keep_the_headline`.
use Rattle.std.specs.Prelude.{◌≡◌, ℕ, List, Some, slice_get}
use Rattle.nsp_link.specs.Link.{LinkValue, IsTimely}
use Rattle.dap_accessing.specs.Request.{Request}
use Rattle.dap_accessing.specs.declared.report.Report.{Report}
use Rattle.dap_end.specs.Done.{ServingValue, AskingValue}
use Rattle.dap_end.specs.Headline.{WrittenPacket}

-- both ends, every packet that each wrote, the requests, and the reports
pub record Pair : Type 0 where
  pub a : AskingValue
  pub b : ServingValue
  pub from_a : List WrittenPacket
  pub from_b : List WrittenPacket
  pub requests : List Request
  pub reports : List Report

-- what comes is a packet that the other end wrote, unaltered and not more than 2,047 numbers old
abbrev pub IsBrought : List WrittenPacket → LinkValue → List ℕ → Type 0
IsBrought wire v bytes =
    (j : ℕ) × (w : WrittenPacket) × (slice_get wire j ≡ Some w) × (bytes ≡ w.bytes) × IsTimely v w.segment w.acks
