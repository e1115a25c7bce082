pub mod Speaking
pub mod Lines
pub mod Talking
pub mod Leading
pub mod Reporting
pub mod AskLines
