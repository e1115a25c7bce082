-- What only the contracts of private functions cite, and proofs: nobody has to believe it.
pub mod Answers
pub mod Attributes
pub mod Blocked
pub mod Fields
pub mod Reading
pub mod Refusals
pub mod Whole
