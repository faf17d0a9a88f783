pub mod View
pub mod Leavers
