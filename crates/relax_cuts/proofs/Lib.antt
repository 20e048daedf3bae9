pub mod FoundLemmas
pub mod GrowLemmas
pub mod LackLemmas
pub mod LeaveLemmas
