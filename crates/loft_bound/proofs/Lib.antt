pub mod Rounds
pub mod Rows
pub mod Stable
pub mod Reachers
pub mod Judged
pub mod Answered
pub mod Keeps
