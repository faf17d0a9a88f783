pub mod Text
pub mod Limits
pub mod Names
pub mod Links
pub mod Sizes
pub mod Read
