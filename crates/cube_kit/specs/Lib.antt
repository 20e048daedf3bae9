pub mod Child
pub mod Cubes
pub mod Laws
pub mod Weighing
