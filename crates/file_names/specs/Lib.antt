pub mod Folds
pub mod Versions
