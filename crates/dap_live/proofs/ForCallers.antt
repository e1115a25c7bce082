-- What the crates above may cite of this one's proofs. No other file here is for them.

-- an input has one text
pub use Rattle.dap_live.proofs.OneAsking.{new_asking, asking_text}
pub use Rattle.dap_live.proofs.OneNode.{new_node, node_text}
