-- What only the contracts of private functions cite, and proofs: nobody has to believe it.
pub mod Adding
pub mod Texts
pub mod Lines
pub mod Messages
pub mod Fields
