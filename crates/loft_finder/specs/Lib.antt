pub mod Keys
pub mod Finder
