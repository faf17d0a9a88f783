pub mod Word
pub mod Sets
pub mod Grammar
pub mod Last
pub mod Told
pub mod Report
pub mod Text
