pub mod Example
pub mod Laws
pub mod Models
pub mod Numbered
pub mod Reachable
pub mod Tables
pub mod Worlds
