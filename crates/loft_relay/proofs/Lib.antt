pub mod GiveLemmas
pub mod HandLemmas
