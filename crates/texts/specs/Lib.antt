pub mod Inner
pub mod Adding
pub mod Text
pub mod Words
