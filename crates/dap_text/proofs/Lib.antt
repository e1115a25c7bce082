pub mod KeptLemmas
pub mod ReadBack
pub mod RequestLemmas
pub mod TableLemmas
pub mod ForCallers
