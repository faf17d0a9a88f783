pub mod Cuts
pub mod Feeds
pub mod Finds
pub mod Instructions
pub mod Rows
pub mod RowsFit
pub mod RowView
pub mod Sorts
