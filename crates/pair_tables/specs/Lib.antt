pub mod Featured
pub mod Made
pub mod Numbers
pub mod Pricing
pub mod Schemas
