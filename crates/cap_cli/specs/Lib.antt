pub mod Words
pub mod Forms
pub mod Opening
pub mod Telling
pub mod Program
pub mod Running
pub mod Tasks
pub mod Inner
