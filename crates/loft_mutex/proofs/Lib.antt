pub mod MarksRise
pub mod WritingLemmas
pub mod CheckLemmas
pub mod ExpandLemmas
