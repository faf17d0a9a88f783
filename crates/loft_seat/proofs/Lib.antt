pub mod FoundLemmas
pub mod SeatLemmas
pub mod StepLemmas
