pub mod LinksLeft
pub mod Stops
pub mod Sizes
