pub mod AloneLemmas
pub mod Crossing
