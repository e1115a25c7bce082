-- What the crates above may cite of this one's proofs. No other file here is for them.

-- two talks have one text, where each line has one answer
pub use Rattle.linewise.proofs.OneText.{OneAnswer, one_text}
-- an answer that is said piece by piece has one text, where no memory is refused
pub use Rattle.linewise.proofs.PieceLemmas.{comes_one}
-- what an error of `clap` is, from the kinds that the words can give
pub use Rattle.linewise.proofs.ErrorLemmas.{only_memory, memory_or_help, memory_or_mistake}
