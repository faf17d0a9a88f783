pub mod Texts
pub mod Fitting
pub mod Items
pub mod reads
