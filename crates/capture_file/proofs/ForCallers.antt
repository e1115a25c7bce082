-- What the crates above may cite of this one's proofs. No other file here is for them.

-- what is no unit is none with more bytes after it
pub use Rattle.capture_file.proofs.StateLemmas.{none_more}
