pub mod Examples
mod Capitals
mod FoldLemmas
pub mod ForCallers
mod NameLemmas
mod VersionLemmas
