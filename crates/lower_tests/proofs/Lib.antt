pub mod Edits
pub mod ListLaws
