pub mod Differing
pub mod Rows
pub mod Gathering
pub mod Telling
pub mod Parts
pub mod Blending
