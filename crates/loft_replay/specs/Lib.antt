pub mod Named
pub mod PlainBlocks
pub mod Whole
