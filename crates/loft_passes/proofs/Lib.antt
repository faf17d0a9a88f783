pub mod RunnerLemmas
pub mod PassLemmas
pub mod LeaverLemmas
