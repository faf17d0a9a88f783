pub mod Counts
pub mod Adds
pub mod Blocks
pub mod Instants
