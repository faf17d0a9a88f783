pub mod HistoryLemmas
pub mod LawLemmas
pub mod Moves
pub mod Numbers
pub mod Sharing
