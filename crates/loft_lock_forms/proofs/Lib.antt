pub mod Pieces
pub mod NameLemmas
pub mod Steps
