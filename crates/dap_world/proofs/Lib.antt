pub mod Plain
pub mod Headline
pub mod Steps
pub mod Stretch
pub mod ForCallers
