-- What only the contracts of private functions cite: nobody has to believe it.
pub mod Fronts
pub mod Hex
pub mod Taken
