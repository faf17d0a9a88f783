pub mod MadeLemmas
pub mod BatchLemmas
pub mod AnswerLemmas
pub mod TextLemmas
pub mod RangeLemmas
