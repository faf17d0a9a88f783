pub mod PositionLemmas
pub mod InstantLemmas
pub mod EngineLemmas
