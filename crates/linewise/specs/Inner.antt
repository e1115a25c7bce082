-- What only the contracts of private functions cite: nobody has to believe it.
pub mod Endings
pub mod Kept
pub mod Steps
