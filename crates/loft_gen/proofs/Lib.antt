pub mod Starts
pub mod Walk
