mod OptionLemmas
mod StateLemmas
mod OneLemmas
mod WrittenLemmas
mod BlockLemmas
mod WrittenOptions
mod SectionLemmas
mod KindLemmas
pub mod ForCallers
