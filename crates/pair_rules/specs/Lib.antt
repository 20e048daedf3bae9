pub mod Fitting
pub mod Made
pub mod Ruled
