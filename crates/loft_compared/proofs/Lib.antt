pub mod PlaceLemmas
pub mod Differences
pub mod Comparing
pub mod Skipping
