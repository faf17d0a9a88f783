pub mod Preceded
pub mod Blocks
