pub mod SharedLemmas
pub mod StandingLemmas
