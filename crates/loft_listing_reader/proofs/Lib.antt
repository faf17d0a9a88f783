pub mod Coding
pub mod Items
pub mod Judging
pub mod KeepsCode
pub mod KeepsOperations
pub mod KeepsValues
pub mod Leasts
pub mod Offsets
