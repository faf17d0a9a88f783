pub mod MarkLemmas
pub mod NameLemmas
pub mod FaultLemmas
pub mod TurnLemmas
