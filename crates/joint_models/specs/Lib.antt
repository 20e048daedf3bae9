pub mod Listed
pub mod Disagreements
pub mod Lists
pub mod Searching
pub mod Renaming
