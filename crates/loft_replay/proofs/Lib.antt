pub mod FollowLemmas
pub mod EndedLemmas
