pub mod FullLemmas
pub mod GroundLemmas
pub mod NameLemmas
pub mod OrderLemmas
pub mod RunLemmas
pub mod Saturated
