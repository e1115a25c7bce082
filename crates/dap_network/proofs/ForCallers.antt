-- What the crates above may cite of this one's proofs. No other file here is for them.

-- calls of a node are events, and what passed in two lists of events
pub use Rattle.dap_network.proofs.Happens.{ack_happens, again_happens, runs_join, take_happens, went_happens}
pub use Rattle.dap_network.proofs.Traffic.{all_came_more, all_written_more}
-- calls of a node or a client lead from a network to the next
pub use Rattle.dap_network.proofs.Asking.{leads_on, peer_leads}
pub use Rattle.dap_network.proofs.Calling.{ack_leads, after_writing, comes_if, go_on_leads, resend_leads, take_leads}
-- a list with another element at an index
pub use Rattle.dap_network.proofs.Sets.{set_here, set_other, there_is}
