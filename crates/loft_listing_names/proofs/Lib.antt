pub mod Offsets
pub mod LeastOf
pub mod Threads
