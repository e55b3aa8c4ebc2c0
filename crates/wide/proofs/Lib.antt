-- The laws: other crates cite TwoLimbs, Values, Decimals and Numbers; the rest serve the proofs of this crate.
pub mod TwoLimbs
pub mod Values
pub mod Signs
pub mod Minus
pub mod Growth
pub mod Tens
pub mod Lowest
pub mod Decimals
pub mod Spelling
pub mod Numbers
pub mod Putting
pub mod Samples
