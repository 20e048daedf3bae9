pub mod Bodies
pub mod Saying
pub mod Unrepeated
pub mod WordTables
pub mod Says
