pub mod ListingLemmas
pub mod MessageLemmas
pub mod OneListing
