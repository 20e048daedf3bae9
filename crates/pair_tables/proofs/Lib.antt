pub mod FeatureLemmas
pub mod NumberLemmas
pub mod PlacedLemmas
pub mod PriceLemmas
pub mod SchemaLemmas
pub mod TableLemmas
