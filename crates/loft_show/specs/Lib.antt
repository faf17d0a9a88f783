pub mod Canon
pub mod Places
pub mod PartReads
