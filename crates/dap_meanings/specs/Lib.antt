pub mod Faults
pub mod Tables
pub mod Quoted
pub mod Meanings
pub mod Words
