pub mod Batches
pub mod States
pub mod Counts
