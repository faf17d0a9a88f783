pub mod Told
pub mod Aged
pub mod Places
pub mod Flags
