-- What only the contracts of private functions cite, and proofs: nobody has to believe it.
pub mod Reports
pub mod Requests
pub mod Tables
pub mod Kept
