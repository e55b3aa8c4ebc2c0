pub mod Kinds
pub mod Files
pub mod LookUps
pub mod Writing
pub mod PrivateFinding
pub mod Kept
pub mod Worked
