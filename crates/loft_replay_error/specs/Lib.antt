pub mod Difference
pub mod Errors
