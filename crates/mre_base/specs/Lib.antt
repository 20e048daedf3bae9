pub mod Before
pub mod Lending
pub mod Log
pub mod SameSets
pub mod Sets
pub mod Words
pub mod formers
