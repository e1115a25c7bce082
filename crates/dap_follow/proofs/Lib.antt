pub mod ForCallers
pub mod NameLemmas
pub mod OrderLemmas
mod StayLemmas
mod GlueLemmas
mod KeptRoomLemmas
mod KeptLemmas
mod JoinRoomLemmas
mod JoinLemmas
mod SegmentLemmas
mod GrowLemmas
mod EntryLemmas
mod RestLemmas
mod TakenLemmas
mod PlaceLemmas
mod CrowdLemmas
mod LineLemmas
mod LaterLemmas
mod BoundLemmas
mod ListLemmas
mod ShownLemmas
mod OneTextLemmas
