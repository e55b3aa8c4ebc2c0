pub mod Table
pub mod Rules
pub mod Firsts
pub mod Goes
pub mod Pieces
pub mod Words
pub mod Marks
pub mod Zeros
