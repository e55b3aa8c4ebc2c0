-- The laws behind the words of a windowed print.
pub mod Packed
pub mod Twins
