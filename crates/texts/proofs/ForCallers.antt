-- What the crates above may cite of this one's proofs. No other file here is for them.

-- hex text has an even number of digits, and all of it are hex digits
pub use Rattle.texts.proofs.HexTextLemmas.{all_digits, even_hex}
-- the parts of a text, where a byte is between two of them: the first and those after it, or only one
pub use Rattle.texts.proofs.WordLemmas.{some_part, only_part}
-- the slice from an index to the end
pub use Rattle.texts.proofs.SliceLemmas.{slice_from}
-- a word of digits is a text
pub use Rattle.texts.proofs.TextWords.{hex_is_text, is_some, same_some}
-- what digits stand for
pub use Rattle.texts.proofs.NumberLemmas.{values}
