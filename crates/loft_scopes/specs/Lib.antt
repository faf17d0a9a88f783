pub mod Scopes
pub mod Faults
pub mod FirstFault
pub mod Tables
pub mod Counts
pub mod Modules
