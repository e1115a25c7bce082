-- What only the contracts of private functions cite, and proofs: nobody has to believe it.
pub mod Sessions
pub mod Written
pub mod Moves
pub mod Steps
