pub mod Caps
pub mod Finds
