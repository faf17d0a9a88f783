pub mod Checks
pub mod Going
pub mod Expansion
pub mod Refusals
pub mod Kept
pub mod Example
