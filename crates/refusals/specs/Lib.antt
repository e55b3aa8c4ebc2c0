pub mod Numbers
pub mod Result
