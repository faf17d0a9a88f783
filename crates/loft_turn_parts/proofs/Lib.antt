pub mod ClientLemmas
pub mod HandLemmas
pub mod TurnLemmas
