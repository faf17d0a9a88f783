pub mod Compiled
pub mod Implements
pub mod Whole
