-- What only the contracts of private functions cite, and proofs: nobody has to believe it.
pub mod Agreement
pub mod Links
pub mod Parts
pub mod Settling
pub mod Setups
pub mod Sides
pub mod Splitting
pub mod Ways
pub mod Within
pub mod WorldView
pub mod Worlds
