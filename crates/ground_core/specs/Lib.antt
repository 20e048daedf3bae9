pub mod ActionForms
pub mod Full
pub mod Grounds
pub mod Laws
pub mod Names
pub mod Ordered
pub mod Stops
