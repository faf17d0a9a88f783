pub mod Batch
pub mod Reading
pub mod Block
pub mod Made
pub mod Outcomes
pub mod Answer
