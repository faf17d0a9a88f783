pub mod Leaving
pub mod Seen
