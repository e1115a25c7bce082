-- What the crates above may cite of this one's proofs. No other file here is for them.

-- at an offset stands one item, and it ends at one offset
pub use Rattle.dap_msg.proofs.Listing.{one_item}
-- a message has at least its type and its flags
pub use Rattle.dap_msg.proofs.Listing.{stands_some}
-- all bytes have items
pub use Rattle.dap_msg.proofs.Offsets.{have_items}
-- joined messages that fit are the items that stand there
pub use Rattle.dap_msg.proofs.Offsets.{are_items}
-- what is written is read back in place, whatever stands before and after it
pub use Rattle.dap_msg.proofs.Offsets.{read_in_place}
-- the answers of both ends have spellings, and all but records have short ones
pub use Rattle.dap_msg.proofs.Extents.{answers_fit}
-- the Attributes of a file with what else is kept of it have a short spelling, and so has what is kept alone
pub use Rattle.dap_msg.proofs.Extents.{file_attributes_fit, kept_attributes_fit}
-- what is written of the latter is bytes
pub use Rattle.dap_msg.proofs.Octets.{kept_are_bytes}
-- a Filedata has a spelling
pub use Rattle.dap_msg.proofs.Extents.{file_data_fits, unnumbered_fits}
-- the length of a Filedata's spelling
pub use Rattle.dap_msg.proofs.Extents.{file_data_measured}
-- one message more, in the last NSP message or in a new one
pub use Rattle.dap_msg.proofs.BlockedLaws.{Blocked-more}
-- blocking loses none, and keeps their order
pub use Rattle.dap_msg.proofs.BlockedLaws.{messages_in-Blocked}
-- none of several messages is longer than the limit
pub use Rattle.dap_msg.proofs.BlockedLaws.{within_limit}
-- what was read is an item that fits
pub use Rattle.dap_msg.proofs.Read.{item_fits}
-- the values of a message that was read fit their fields
pub use Rattle.dap_msg.proofs.Values.{fields_fit}
-- those whose values fit have a spelling, and no others
pub use Rattle.dap_msg.proofs.Values.{spelled_fields}
-- two messages of which the same is written are one
pub use Rattle.dap_msg.proofs.Values.{written_once}
-- a spelling without LENGTH, of a message whose values fit
pub use Rattle.dap_msg.proofs.Canonical.{open_spelling}
-- the type of a message that was read is one byte
pub use Rattle.dap_msg.proofs.Types.{type_short}
-- a record's bytes may be any others
pub use Rattle.dap_msg.proofs.Records.{other_record}
