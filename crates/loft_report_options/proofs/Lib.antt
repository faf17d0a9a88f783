pub mod Later
pub mod Head
