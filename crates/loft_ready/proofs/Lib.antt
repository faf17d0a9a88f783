pub mod CircleLemmas
pub mod PositionLemmas
pub mod TellLemmas
pub mod EnterLemmas
pub mod RunLemmas
