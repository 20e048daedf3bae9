pub mod Evaluated
pub mod Laws
pub mod Members
pub mod Parts
pub mod Relaxed
pub mod Sound
pub mod Sums
