pub mod Engines
pub mod Members
pub mod Runs
