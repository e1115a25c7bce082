pub mod ChoiceLemmas
pub mod ForCallers
