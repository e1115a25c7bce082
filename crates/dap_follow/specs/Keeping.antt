-- What the lister keeps of packets and streams.
pub mod Pieces
pub mod Kept
pub mod Streams
pub mod Room
pub mod Endings
pub mod Rest
pub mod Lister
