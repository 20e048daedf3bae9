pub mod Blocked
pub mod BlockedSize
pub mod Choosing
pub mod Closing
pub mod FreeClosure
pub mod Lean
pub mod Leaving
pub mod Settlings
