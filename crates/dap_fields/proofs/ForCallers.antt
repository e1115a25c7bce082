-- What the crates above may cite of this one's proofs. No other file here is for them.

-- what a reader answers is right, and nothing else is
pub use Rattle.dap_fields.proofs.Readers.{IsReader, byte_reader, word_reader, ex_reader, image_reader}
-- where nothing that stands there is a spelling, a right answer is TooLong
pub use Rattle.dap_fields.proofs.Readers.{too_long}
-- the groups that are written of a number spell it
pub use Rattle.dap_fields.proofs.Shortest.{groups_spell}
