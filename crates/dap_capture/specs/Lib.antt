pub mod Inner
pub mod Played
