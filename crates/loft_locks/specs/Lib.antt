pub mod Locks
pub mod LocksHold
pub mod Outline
pub mod Marked
pub mod Rules
pub mod Example
