pub mod Grammar
pub mod Reading
pub mod Nesting
pub mod Promised
pub mod PrivateWalk
