-- What the crates above may cite of this one's proofs. No other file here is for them.

-- what stands at a sequence number
pub use Rattle.dap_follow.proofs.OrderLemmas.{at-here, at-other}
-- what a lister makes of packets from its beginning is their listing
pub use Rattle.dap_follow.proofs.ListLemmas.{is_listed}
