pub mod Heads
pub mod Putting
