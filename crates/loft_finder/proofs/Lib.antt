pub mod KeyLemmas
pub mod FirstLemmas
pub mod PlaceLemmas
