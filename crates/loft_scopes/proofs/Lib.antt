pub mod Positions
pub mod Keys
pub mod First
pub mod Declaring
pub mod Numbered
