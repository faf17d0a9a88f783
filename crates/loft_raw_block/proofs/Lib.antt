pub mod CompareLemmas
pub mod HeadLemmas
