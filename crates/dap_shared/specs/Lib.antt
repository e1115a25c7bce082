pub mod Sharing
pub mod Nodes
pub mod Keeping
pub mod Shared
pub mod Stored
pub mod Noted
pub mod Inner
