pub mod Tables
pub mod PacketWords
