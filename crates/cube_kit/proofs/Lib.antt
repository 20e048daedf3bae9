pub mod ApartLemmas
pub mod CubeLemmas
pub mod OrderLemmas
pub mod RangeLemmas
pub mod WalkLemmas
pub mod WeightLemmas
