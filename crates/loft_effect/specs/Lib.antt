pub mod View
pub mod Effects
pub mod Outcomes
pub mod Progress
