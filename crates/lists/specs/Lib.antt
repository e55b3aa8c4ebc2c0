pub mod Over
pub mod Rooms
