pub mod Machine
pub mod Filling
pub mod PrivateGiving
pub mod AnyCall
pub mod Joined
