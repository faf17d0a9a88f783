pub mod Gives
pub mod Hands
