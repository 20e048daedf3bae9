pub mod Changed
pub mod Models
pub mod Rows
pub mod Touched
