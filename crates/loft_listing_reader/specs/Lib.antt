pub mod AllWrong
pub mod Lists
pub mod Numbered
