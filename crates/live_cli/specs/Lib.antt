pub mod Inner
pub mod Running
pub mod Words
