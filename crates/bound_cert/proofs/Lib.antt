pub mod LineLemmas
pub mod ListLemmas
pub mod LookLemmas
pub mod ProofLemmas
pub mod RoomLemmas
