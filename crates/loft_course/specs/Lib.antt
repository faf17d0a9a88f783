pub mod Blocks
pub mod Course
pub mod Running
pub mod Turning
