pub mod Classes
pub mod Numbers
pub mod Runs
pub mod PrivateWords
