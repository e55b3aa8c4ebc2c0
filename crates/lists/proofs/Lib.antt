pub mod Places
pub mod Choice
pub mod Writing
pub mod Each
pub mod Blocks
pub mod Stands
pub mod Rooms
