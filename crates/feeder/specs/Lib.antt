pub mod Machine
pub mod Feeding
pub mod PrivateRuns
