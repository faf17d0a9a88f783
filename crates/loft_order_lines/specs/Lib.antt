pub mod Texts
pub mod Says
pub mod Cut
pub mod Words
