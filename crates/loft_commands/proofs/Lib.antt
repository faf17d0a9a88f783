pub mod Written
pub mod Doing
pub mod Reported
pub mod AnswerLines
