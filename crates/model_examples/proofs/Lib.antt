pub mod Patched
pub mod Runs
pub mod Sets
pub mod Explained
pub mod Judged
pub mod Posed
