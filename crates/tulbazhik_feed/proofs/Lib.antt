-- The law behind the words of a state.
pub mod Packed
