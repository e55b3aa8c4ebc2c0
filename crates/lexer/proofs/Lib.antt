pub mod Runs
pub mod Comments
pub mod Digits
pub mod Starts
pub mod Within
pub mod DigitPlaces
pub mod Skips
