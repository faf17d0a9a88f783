pub mod Capped
pub mod First
