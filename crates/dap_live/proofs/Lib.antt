mod AgainLemmas
mod EachLemmas
pub mod OneLine
pub mod OneAsking
mod ReachLemmas
mod ResultLemmas
mod RightsLemmas
pub mod ForCallers
pub mod Indices
pub mod NodeRows
pub mod NodeLemmas
pub mod Forms
pub mod OneTurn
pub mod OneNode
pub mod NewNode
