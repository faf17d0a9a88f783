pub mod Preceding
pub mod Blocks
