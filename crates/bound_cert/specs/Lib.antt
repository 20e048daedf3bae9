pub mod Formed
pub mod Lines
pub mod Proven
pub mod Rooms
