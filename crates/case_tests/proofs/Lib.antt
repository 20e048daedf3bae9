pub mod SidedLemmas
