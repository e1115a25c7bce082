-- What the crates above may cite of this one's proofs. No other file here is for them.

-- the name of a version has the fold that it was made of, and asks for its number
pub use Rattle.file_names.proofs.NameLemmas.{fold_of_version, number_of_version}
-- a version that is asked for is one that there may be
pub use Rattle.file_names.proofs.NameLemmas.{wanted_within}
