pub mod Prefixes
pub mod Digits
pub mod TakenLemmas
