pub mod Due
pub mod Laws
pub mod Lean
pub mod Logging
pub mod Nodes
pub mod Searching
