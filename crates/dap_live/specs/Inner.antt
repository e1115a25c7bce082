-- What only the contracts of private functions cite: nobody has to believe it.
pub mod Again
pub mod Filing
pub mod NodeReaching
pub mod OneText
pub mod Reaching
pub mod Saying
