pub mod Positions
pub mod Batches
pub mod States
