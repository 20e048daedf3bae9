pub mod RowLemmas
pub mod KeptRows
