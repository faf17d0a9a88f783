pub mod Refusing
pub mod Stages
pub mod Kept
