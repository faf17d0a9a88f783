pub mod CallLemmas
pub mod GiveLemmas
pub mod KeptLemmas
