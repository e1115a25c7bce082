-- What only the contracts of private functions cite, and how types keep their values: nobody has to believe it.
pub mod Kept
pub mod PortView
pub mod ServingView
pub mod AskingView
pub mod Stored
pub mod NodeInside
pub mod Answered
pub mod Turned
pub mod Come
pub mod Wanting
pub mod Running
