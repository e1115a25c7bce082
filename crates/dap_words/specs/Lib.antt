pub mod Choosing
pub mod Inner
