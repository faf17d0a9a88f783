pub mod Lines
pub mod Stops
pub mod Kept
pub mod Going
