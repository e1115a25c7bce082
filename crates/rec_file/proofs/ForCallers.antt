-- What the crates above may cite of this one's proofs. No other file here is for them.

-- a file without records is a file
pub use Rattle.rec_file.proofs.FileLaws.{IsFile-empty, IsFile-new}
-- the look of which nothing is kept is one of each shape
pub use Rattle.rec_file.proofs.FileLaws.{plain-look}
-- what is kept of a look of a shape, and back
pub use Rattle.rec_file.proofs.FileLaws.{are_kept, is_look}
-- one with a record more
pub use Rattle.rec_file.proofs.FileLaws.{IsFile-placed}
-- one with a record less
pub use Rattle.rec_file.proofs.FileLaws.{IsFile-removed}
-- one with a record replaced
pub use Rattle.rec_file.proofs.FileLaws.{IsFile-replaced}
-- no record of a file is longer than the longest
pub use Rattle.rec_file.proofs.Bodies.{AreShort, records_short}
pub use Rattle.rec_file.proofs.FileLaws.{body_fits}
-- what an occupied number and a free one are
pub use Rattle.rec_file.proofs.FileLaws.{number_fits, some_of, not_none, wanted, get_stored, get_removed, same_records}
pub use Rattle.rec_file.proofs.RecordsLaws.{lowest_from_some, lowest_from_none, highest_of_some, highest_of_none}
-- a list of numbered values whose numbers rise, a search in it, and an edit of it
pub use Rattle.rec_file.proofs.Rising.{at, AllAbove, IsRising, find_is_at, sorted_from_rising, rising_from_sorted, same_or_not}
pub use Rattle.rec_file.proofs.Gaps.{searched, numbers, ordered, at-gap, at-index, at-insert, at-remove, rising-insert, rising-remove, number_at}
