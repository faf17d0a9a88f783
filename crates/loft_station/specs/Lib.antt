pub mod Outsiders
pub mod Stations
pub mod Workers
