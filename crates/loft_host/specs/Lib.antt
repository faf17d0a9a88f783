pub mod Callers
pub mod Gathered
pub mod Sources
