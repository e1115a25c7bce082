pub mod Transcripts
pub mod AskLines
pub mod Programs
