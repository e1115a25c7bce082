-- The headline: both ends agree, and nothing that comes is unexpected.
pub mod Agreeing
pub mod Limits
pub mod Within
pub mod Blocking
pub mod Asking
pub mod Kept
pub mod Reading
pub mod Blocks
pub mod Splits
