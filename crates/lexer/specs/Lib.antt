pub mod Tokens
pub mod Literals
pub mod Lexing
pub mod Streams
pub mod BareTokens
pub mod Gaps
pub mod PrivateBlocks
pub mod DigitPlaces
