pub mod LawLemmas
mod NumberLemmas
mod SentenceLemmas
