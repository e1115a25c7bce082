pub mod Orders
pub mod Schedules
