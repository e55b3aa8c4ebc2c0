pub mod Giving
pub mod AnyCall
pub mod NeverRoom
pub mod Running
pub mod Prints
pub mod Joined
pub mod Printed
