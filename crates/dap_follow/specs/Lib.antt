pub mod Keeping
pub mod Streams
pub mod Segments
pub mod Joined
pub mod Ends
pub mod Room
pub mod Lines
pub mod Listed
