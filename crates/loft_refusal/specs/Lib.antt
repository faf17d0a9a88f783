pub mod Input
pub mod Refusals
pub mod Stops
pub mod Found
