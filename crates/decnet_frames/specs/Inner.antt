-- What only the contracts of private functions cite, and proofs: nobody has to believe it.
pub mod Lines
pub mod Progress
