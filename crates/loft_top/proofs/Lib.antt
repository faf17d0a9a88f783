pub mod Deciding
pub mod AnswerLemmas
pub mod TextLemmas
pub mod ReplayLemmas
mod TellLemmas
