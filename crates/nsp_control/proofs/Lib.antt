pub mod Faults
pub mod Fields
pub mod Found
pub mod Layouts
pub mod Spelled
