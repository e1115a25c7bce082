-- What the crates above may cite of this one's proofs. No other file here is for them.

-- where an end stands after one item more
pub use Rattle.dap_accessed.specs.Groups.{after_item, more_after, next_group}
pub use Rattle.dap_accessed.proofs.Cuts.{cut-more}
-- the answers to a list and one item more are those to the list, and those that the item adds
pub use Rattle.dap_accessed.proofs.Coding.{access-fails, coded-records, record-fails}
pub use Rattle.dap_accessed.proofs.Cuts.{Answers-more, answers_after-more}
-- after any items the files are files, and the open one is there
pub use Rattle.dap_accessed.proofs.SoundLists.{all-sound}
-- a file of a table of files is a file; no files are files
pub use Rattle.dap_accessed.proofs.SoundTables.{AllFiles, file-there, no-files}
-- a file may be made as attributes ask for it
pub use Rattle.dap_accessed.proofs.Asking.{Good, a_file_made_fully, good-file}
-- what is kept with a file has a short spelling
pub use Rattle.dap_accessed.proofs.Writing.{kept_fits}
-- the attributes of a file ask for such a file
pub use Rattle.dap_accessed.proofs.AskingBack.{attributes-back, look-back}
-- the index of a name is within the table
pub use Rattle.dap_accessed.proofs.SoundGroups.{erased-within, index-within, replaced-within}
-- each answer to one message more has a spelling that the peer takes
pub use Rattle.dap_accessed.proofs.Answering.{HasShortType, added-sends}
-- before a Config the answers don't depend on the files, and the end stood so after each front of the items too
pub use Rattle.dap_accessed.proofs.Lateness.{of_any, prefix_fresh, with_files}
-- a table with another file at an index
pub use Rattle.dap_accessed.proofs.Tables.{with-same, length-with}
-- an Access uses up the attributes
pub use Rattle.dap_accessed.proofs.StepIs.{access-keeps}
-- a file with another in its place, one less, or one more of a new name: files stay files, and their names apart
pub use Rattle.dap_accessed.proofs.SoundTables.{all-without, distinct-more, distinct-with, distinct-without, files-more, files-with, has-without, none-passes}
-- a file that is made or given has a name of its own
pub use Rattle.dap_accessed.proofs.NewNames.{given-name, given-none, left-apart, left-distinct, left-files, made-apart, name-new, no-such}
-- one record more leaves a file a file, and one item more files that are files and whose names differ
pub use Rattle.dap_accessed.proofs.Given.{stored-file}
pub use Rattle.dap_accessed.proofs.SoundGroups.{more-sound}
pub use Rattle.dap_accessed.proofs.Apart.{more-leaves}
-- where two conditions hold together, each holds
pub use Rattle.dap_accessed.proofs.Kept.{both}
