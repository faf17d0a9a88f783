pub mod ListLemmas
pub mod BeginLemmas
pub mod JoinLemmas
pub mod LookLemmas
pub mod EndLemmas
