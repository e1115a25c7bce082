pub mod Faults
pub mod Sessions
pub mod Reading
