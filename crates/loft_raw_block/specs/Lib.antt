pub mod Compared
pub mod Offsets
