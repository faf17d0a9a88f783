pub mod Calls
pub mod Receipts
