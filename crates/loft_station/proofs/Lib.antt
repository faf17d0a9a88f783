pub mod StationLemmas
pub mod WorkerLemmas
pub mod OutsiderLemmas
