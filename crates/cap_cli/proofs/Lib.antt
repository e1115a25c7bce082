mod FormLemmas
mod InputLemmas
mod LawLemmas
mod RunLemmas
mod WordLemmas
pub mod WriteLemmas
