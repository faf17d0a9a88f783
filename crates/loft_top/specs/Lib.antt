pub mod Status
pub mod Reads
pub mod Reports
pub mod Answer
pub mod Telling
