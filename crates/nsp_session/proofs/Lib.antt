pub mod Faults
pub mod Fields
pub mod Found
pub mod Spelled
