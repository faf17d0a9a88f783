pub mod Called
pub mod Lines
pub mod Listing
pub mod Making
