pub mod Inner
pub mod Lines
pub mod Messages
pub mod Packets
pub mod Listing
