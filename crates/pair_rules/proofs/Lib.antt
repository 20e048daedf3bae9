pub mod FeatureLemmas
pub mod PartLemmas
pub mod PriceLemmas
pub mod RuleLemmas
pub mod TypeLemmas
