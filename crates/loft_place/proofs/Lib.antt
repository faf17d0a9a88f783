pub mod NeedLemmas
pub mod Rests
pub mod Answered
pub mod Decided
pub mod Declared
pub mod Reaching
