pub mod EngineLemmas
pub mod CallerLemmas
pub mod EndLemmas
