pub mod Numbers
pub mod Units
pub mod Meanings
pub mod Files
pub mod Written
pub mod WrittenBlocks
pub mod Reading
pub mod Inner
