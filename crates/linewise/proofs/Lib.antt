pub mod InputLemmas
pub mod LineLemmas
mod ReadingLemmas
mod OutputLemmas
pub mod PieceLemmas
pub mod OneText
pub mod ForCallers
mod TalkLemmas
pub mod ErrorLemmas
