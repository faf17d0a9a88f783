pub mod Avoids
pub mod Unlimited
pub mod Pieces
pub mod AwayLemmas
pub mod SpelledLocks
pub mod RunLemmas
