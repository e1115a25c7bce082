-- What the crates above may cite of this one's proofs. No other file here is for them.

-- one answer more in front, of the kind that is looked for
pub use Rattle.dap_accessing.proofs.Fronts.{behind-more}
-- one record more in front
pub use Rattle.dap_accessing.proofs.Fronts.{records-more}
-- one Status more in front
pub use Rattle.dap_accessing.proofs.Fronts.{statuses-more}
-- a hearing with more answers is the same with these after it, unless it waits
pub use Rattle.dap_accessing.proofs.Hearings.{Stays}
-- so is that of each request
pub use Rattle.dap_accessing.proofs.Hearings.{stays}
-- the reports of a request's hearing and those of the requests after it
pub use Rattle.dap_accessing.proofs.Hearings.{told_by}
-- what is told is told so
pub use Rattle.dap_accessing.proofs.Hearings.{Told-told_by}
-- more answers never take a report back
pub use Rattle.dap_accessing.proofs.Hearings.{reports_grow}
-- what is due, by the hearing of the first request
pub use Rattle.dap_accessing.proofs.Laws.{due_by}
-- what is due is due so
pub use Rattle.dap_accessing.proofs.Laws.{due-due_by}
-- what one request more changes where nothing is due
pub use Rattle.dap_accessing.proofs.Laws.{Asked1}
-- where nothing is due, one request more tells nothing more
pub use Rattle.dap_accessing.proofs.Laws.{asked_one}
-- where none is due, each request has its report
pub use Rattle.dap_accessing.proofs.Laws.{each_told}
-- where each has, and no answer was out of sequence, none is due
pub use Rattle.dap_accessing.proofs.Laws.{none_due}
-- what an end keeps follows from the requests and answers
pub use Rattle.dap_accessing.proofs.One.{one_present}
-- where a request is in a phase of its list, the table has it there
pub use Rattle.dap_accessing.proofs.Phases.{fits-where}
-- records that are taken out of a batch, and put back
pub use Rattle.dap_accessing.proofs.Each.{taken_out}
