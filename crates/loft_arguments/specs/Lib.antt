pub mod Words
pub mod Arguments
pub mod Command
pub mod CommandView
pub mod Ranges
pub mod Parts
pub mod FromParts
pub mod Changing
