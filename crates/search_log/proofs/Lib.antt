pub mod ClosureLemmas
pub mod DueLemmas
pub mod LeanLemmas
pub mod LogLemmas
