-- The laws behind the words.
pub mod Limbs
pub mod Injective
