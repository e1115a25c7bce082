pub mod Inner
pub mod Answers
pub mod Requests
pub mod Reports
pub mod Tables
pub mod Filed
pub mod Kept
