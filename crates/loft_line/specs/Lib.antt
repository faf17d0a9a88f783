pub mod Line
pub mod Counts
