pub mod Rewriting
pub mod Marks
pub mod Names
pub mod Seen
pub mod Whole
