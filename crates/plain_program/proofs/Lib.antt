pub mod BestLemmas
pub mod RunLemmas
pub mod SetLists
