pub mod Drafts
pub mod Held
pub mod InMemory
pub mod Lined
pub mod Stops
pub mod Taking
