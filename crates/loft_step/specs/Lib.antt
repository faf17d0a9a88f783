pub mod Runs
pub mod Lines
pub mod Kept
pub mod Frames
pub mod Midst
