pub mod Refusals
pub mod Stops
pub mod Replay
pub mod Finding
pub mod Command
