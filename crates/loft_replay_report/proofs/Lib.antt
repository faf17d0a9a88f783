pub mod Judging
pub mod Texts
pub mod Writing
pub mod Replaying
