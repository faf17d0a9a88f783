pub mod Completing
pub mod Prefixes
pub mod Longer
