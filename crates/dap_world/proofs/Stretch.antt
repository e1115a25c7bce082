-- A clean stretch: both ends settle, and every request has its report.
pub mod Quiet
pub mod Still
pub mod Settles
pub mod Bringing
pub mod Emptying
pub mod Exhausting
pub mod Resting
pub mod Few
pub mod Onward
pub mod Posting
pub mod Settled
pub mod ServingAll
pub mod SentBoth
pub mod Untold
pub mod Finishes
pub mod Directing
