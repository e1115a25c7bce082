-- What the crates above may cite of this one's proofs. No other file here is for them.

-- a line of a file asks for one thing
pub use Rattle.dap_text.proofs.KeptLemmas.{one-asked}
